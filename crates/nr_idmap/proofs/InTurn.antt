-- Calls for each of a list, as a loop makes them one by one, each in its place.
use Rattle.std.proofs.Common.{◌≡◌, ℕ, suc, ◌+◌, ◌<◌, ◌≤◌, List, [], ◌∷◌, ◌++◌, length, take, drop, set, get_or, refl}
use Rattle.std.proofs.Common.{sym, ap, ◌∙◌, subst, arith}
use Rattle.std.proofs.lemmas.List.{drop_more, drop-set-lt, length-set, take_all, take_more, take_more_set}
use Rattle.nr_idmap.specs.InTurn.{InTurn}

module _ {State One : Type 0} (call : State → One → State → One → Type 0) where
  in_turn_more : (first : State) (ones : List One) (mid : State) (others : List One) (one : One) (last : State)
      (done : One)
      →
      InTurn call first ones mid others → call mid one last done
      → InTurn call first (ones ++ one ∷ []) last (others ++ done ∷ [])
  in_turn_more first [] mid [] one last done turn calls =
      (last, subst (λ (s : State). call s one last done) turn calls, refl)
  in_turn_more first (x ∷ ones) mid (y ∷ others) one last done turn calls =
      (turn.0, turn.1, in_turn_more turn.0 ones mid others one last done turn.2 calls)
  in_turn_more first ones mid others one last done turn calls = absurd turn

  pub in_turn_long : (old : State) (ones : List One) (new : State) (others : List One) → InTurn call old ones new others
      → length others ≡ length ones
  in_turn_long old [] new [] turn = refl
  in_turn_long old (x ∷ ones) new (y ∷ others) turn = ap suc (in_turn_long turn.0 ones new others turn.2)
  in_turn_long old ones new others turn = absurd turn

  -- that many calls were made; the other ones stand there as before
  pub record Made (first : State) (were : List One) (made : ℕ) (now : State) (are : List One) : Type 0 where
    pub long : length are ≡ length were
    pub rest : drop made are ≡ drop made were
    pub turn : InTurn call first (take made were) now (take made are)

  module _ (first : State) (were : List One) (made : ℕ) (now : State) (are : List One)
      (begun : Made first were made now are) where
    module _ (one : One) (low : made < length are) (is : one ≡ get_or are made one) where
      tails : (one ∷ drop (made + 1) are ≡ drop made were)
          × (get_or were made one ∷ drop (made + 1) were ≡ drop made were)
      tails = (
        ap (λ (o : One). o ∷ drop (made + 1) are) is ∙ sym (drop_more are made one low) ∙ begun.rest,
        sym (drop_more were made one (omega (arith, begun.long))),
      )

      -- the one whose turn it is stands there as before
      pub as_was : one ≡ get_or were made one
      as_was = let here = tails.0 in let there = tails.1 in cc

      pub one_more : (next : State) (done : One) → call now one next done
          → Made first were (made + 1) next (set are made done)
      one_more next done calls = record {
        long = length-set are made done ∙ begun.long;
        rest = drop-set-lt (made + 1) are made done (omega arith) ∙ (let here = tails.0 in let there = tails.1 in cc);
        turn = rw (take_more were made one (omega (arith, begun.long)), take_more_set are made done low)
            (in_turn_more first (take made were) now (take made are) (get_or were made one) next done begun.turn
            (subst (λ (o : One). call now o next done) as_was calls));
      }

    pub all_made : length are ≤ made → InTurn call first were now are
    all_made end = rw (take_all made were (omega (arith, begun.long)), take_all made are end) at begun.turn
