-- A list in batches of sixteen, of which one is put in place.
use Rattle.std.proofs.Common.{◌≡◌, ℕ, zero, suc, ◌+◌, ◌-◌, ◌*◌, ◌<◌, ◌≤◌, min, List, [], ◌∷◌, ◌++◌, length, take, drop}
use Rattle.std.proofs.Common.{set, get_or, refl, sym, ap, ◌∙◌, arith}
use Rattle.std.proofs.lemmas.List.{drop-append-le, drop-drop, drop_at, drop_min, length-append, length-drop}
use Rattle.std.proofs.lemmas.List.{length-take-le, take-append-drop, take-append-le, take_min}
use Rattle.nr_idmap.specs.IdFindsEach.{batches}

module _ {One : Type 0} where
  pub many_batches : (n : ℕ) (ones : List One) → length (batches n ones) ≡ n
  many_batches zero ones = refl
  many_batches (suc n) ones = ap suc (many_batches n (drop 16 ones))

  pub batch_at : (n at : ℕ) (ones none : List One) → at < n
      → get_or (batches n ones) at none ≡ take 16 (drop (at * 16) ones)
  batch_at zero at ones none low = absurd (omega (arith, low))
  batch_at (suc n) zero ones none low = refl
  batch_at (suc n) (suc at) ones none low = batch_at n at (drop 16 ones) none (omega (arith, low))
      ∙ ap (take 16) (drop-drop (at * 16) 16 ones ∙ ap (λ (k : ℕ). drop k ones) (omega arith))

  -- as many ones put where the first ones of a list were
  put_first : (many : ℕ) (ones done : List One) → length done ≡ length (take many ones) →
      (take many (done ++ drop many ones) ≡ done) × (drop many (done ++ drop many ones) ≡ drop many ones)
  put_first zero ones [] long = (refl, refl)
  put_first (suc many) [] [] long = (refl, refl)
  put_first (suc many) (one ∷ ones) (x ∷ done) long =
      let e : suc (length done) ≡ suc (length (take many ones)) = long in
      let on = put_first many ones done (omega (arith, e)) in (ap (λ (l : List One). x ∷ l) on.0, on.1)
  put_first many ones done long = absurd (omega (arith, long))

  put_batch : (n at : ℕ) (front back done : List One) → at < n → length front ≡ at * 16
      → length done ≡ length (take 16 back) →
      batches n (front ++ (done ++ drop 16 back)) ≡ set (batches n (front ++ back)) at done
  put_batch zero at front back done low size long = absurd (omega (arith, low))
  put_batch (suc n) zero [] back done low size long =
      let put = put_first 16 back done long in λ j. put.0 j ∷ batches n (put.1 j)
  put_batch (suc n) zero (x ∷ front) back done low size long = absurd (omega (arith, size))
  put_batch (suc n) (suc at) front back done low size long =
      let enough : 16 ≤ length front = omega (arith, size) in
      let rest : length (drop 16 front) ≡ at * 16 = omega (arith, length-drop 16 front, size) in
      (λ j. take-append-le 16 front (done ++ drop 16 back) enough j
      ∷ batches n (drop-append-le 16 front (done ++ drop 16 back) enough j))
      ∙ ap (λ (l : List (List One)). take 16 front ∷ l)
      (put_batch n at (drop 16 front) back done (omega (arith, low)) rest long)
      ∙ sym
      (λ j. take-append-le 16 front back enough j ∷ set (batches n (drop-append-le 16 front back enough j)) at done)

  -- a slice from the beginning of a batch to its end, and what is put there
  module _ (at end : ℕ) (ones : List One) (low : at * 16 < length ones)
      (is : end ≡ at * 16 + min (length ones - at * 16) 16) where
    abbrev begin : ℕ
    begin = at * 16

    left : length (drop begin ones) ≡ length ones - begin
    left = length-drop begin ones

    abbrev many : ℕ
    many = min 16 (length (drop begin ones))

    ends : end ≡ begin + many
    ends = omega (arith, is, left)

    pub slice_is : take (end - begin) (drop begin ones) ≡ take 16 (drop begin ones)
    slice_is = ap (λ (k : ℕ). take k (drop begin ones)) (omega (arith, ends)) ∙ take_min 16 (drop begin ones)

    pub rest_is : drop (end - begin) (drop begin ones) ≡ drop 16 (drop begin ones)
    rest_is = ap (λ (k : ℕ). drop k (drop begin ones)) (omega (arith, ends)) ∙ drop_min 16 (drop begin ones)

    pub batch_put : (n : ℕ) (done : List One) → at < n → length done ≡ length (take 16 (drop begin ones)) →
        batches n (take begin ones ++ (done ++ drop (end - begin) (drop begin ones))) ≡ set (batches n ones) at done
    batch_put n done below long = ap (λ (l : List One). batches n (take begin ones ++ (done ++ l))) rest_is
        ∙ put_batch n at (take begin ones) (drop begin ones) done below (length-take-le begin ones (omega (arith, low)))
        long
        ∙ ap (λ (l : List One). set (batches n l) at done) (take-append-drop begin ones)

    pub rest_put : (done : List One) → length done ≡ length (take 16 (drop begin ones)) →
        drop (begin + 16) (take begin ones ++ (done ++ drop (end - begin) (drop begin ones))) ≡ drop (begin + 16) ones
    rest_put done long = sym (drop-drop 16 begin (take begin ones ++ (done ++ drop (end - begin) (drop begin ones))))
        ∙ ap (drop 16)
        (drop_at (take begin ones) (done ++ drop (end - begin) (drop begin ones)) begin
        (length-take-le begin ones (omega (arith, low))))
        ∙ ap (λ (l : List One). drop 16 (done ++ l)) rest_is ∙ (put_first 16 (drop begin ones) done long).1
        ∙ drop-drop 16 begin ones

    pub put_long : (done : List One) → length done ≡ length (take 16 (drop begin ones)) →
        length (take begin ones ++ (done ++ drop (end - begin) (drop begin ones))) ≡ length ones
    put_long done long = omega (
      arith,
      length-append (take begin ones) (done ++ drop (end - begin) (drop begin ones)),
      length-append done (drop (end - begin) (drop begin ones)),
      length-append (take 16 (drop begin ones)) (drop 16 (drop begin ones)),
      ap length (take-append-drop 16 (drop begin ones)),
      ap length rest_is,
      length-take-le begin ones (omega (arith, low)),
      left,
      long,
      low,
    )
