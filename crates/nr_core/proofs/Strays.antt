-- The exact place of a no-slot, from what the tokens say once every reader was gathered. The strays are the retired put
-- numbers that are pinned (strays_are): all of them where a sweep found each retired slot held and no reader moved
-- since (all_strays), fewer where a retired slot was taken (one_not_stray).
use Rattle.std.proofs.Common.{List, [], ap, arith, get_or, inr, length, ◌-◌, refl, subst, suc, sym, zero, ℕ, ⊎_elim}
use Rattle.std.proofs.Common.{◌+◌, ◌<◌, ◌∙◌, ◌∷◌, ◌≡◌, ◌≤◌}
use Rattle.std.specs.List.{cons_option}
use Rattle.std.specs.Prelude.{None, Option, Some, option_map}
use lib.ListN.{get_elem?}
use mathlib.Core.Logic.{dite}
use mathlib.Core.Option.{some, some-injective, some-ne-none}
use native.Mathlib.Decide.{ℕ_discrete}
use Rattle.nr_core.proofs.Sums.{got_at, only-is, only-other, only-same, some_term, term_le, total-zero}
use Rattle.nr_core.specs.Sums.{only, total}
use Rattle.nr_core.specs.declared.places.Retired.{Retired}
use Rattle.nr_model.specs.Strays.{strays}
use Rattle.nr_core.specs.Marks.{Marks, Past}
use Rattle.nr_core.specs.PollNotes.{AllHeld}
use Rattle.nr_core.specs.Pasts.{AllCurrent, Living}
use Rattle.nr_core.specs.Exact.{Tidy, named_puts, pinned_put, pins, retired_puts}
use Rattle.nr_core.proofs.Tidy.{count_is, how_often, named_often, stray_count, strays_count}
use Rattle.nr_core.proofs.ListPlaces.{at_maps, at_unmap}
use Rattle.std.proofs.lemmas.List.{length-map}

-- 1 where the number stands in the list
abbrev stands : List ℕ → ℕ → ℕ
stands l r = 1 - (1 - how_often r l)

-- one number more adds the places where it stands if it is new, and nothing if it isn't
stands-more : (qs rs : List ℕ) (q : ℕ)
    → (how_often q qs ≡ 0 → total (stands (q ∷ qs)) rs ≡ total (stands qs) rs + how_often q rs)
    × (0 < how_often q qs → total (stands (q ∷ qs)) rs ≡ total (stands qs) rs)
stands-more qs [] q = (λ _. refl, λ _. refl)
stands-more qs (r ∷ rs) q = search (arith, stands-more qs rs q, only-same, only-other)

-- the strays are the retired put numbers that are pinned
strays_are : (keys rs qs : List ℕ) → ((q : ℕ) → how_often q keys + how_often q rs ≤ 1)
    → ((i q : ℕ) → get_elem? qs i ≡ some q → 1 ≤ how_often q keys + how_often q rs)
    → stray_count keys qs ≡ total (stands qs) rs
strays_are keys rs [] once cover = sym (total-zero rs)
strays_are keys rs (q ∷ qs) once cover =
    let more = stands-more qs rs q in
    let rest = strays_are keys rs qs once (λ i r e. cover (suc i) r e) in
    let a = once q in
    let b = cover 0 q refl in
    dite (ℕ_discrete (how_often q qs) 0) (λ new. omega (arith, more.0 new)) (λ old. omega (arith, more.1 (omega arith)))

all_stand : (qs rs : List ℕ) → ((i r : ℕ) → get_elem? rs i ≡ some r → 0 < how_often r qs)
    → total (stands qs) rs ≡ length rs
all_stand qs [] h = refl
all_stand qs (r ∷ rs) h = omega (arith, all_stand qs rs (λ i x e. h (suc i) x e), h 0 r refl)

some_stand : (qs rs : List ℕ) → total (stands qs) rs ≤ length rs
some_stand qs [] = omega arith
some_stand qs (r ∷ rs) = omega (arith, some_stand qs rs)

one_less : (qs rs : List ℕ) (p r : ℕ) → get_elem? rs p ≡ some r → how_often r qs ≡ 0 → total (stands qs) rs < length rs
one_less qs [] p r e z = absurd (some-ne-none r (sym e))
one_less qs (x ∷ rs) zero r e z =
    omega (arith, some_stand qs rs, ap (λ (y : ℕ). how_often y qs) (some-injective x r e))
one_less qs (x ∷ rs) (suc p) r e z = omega (arith, one_less qs rs p r e z)

length-retired_puts : (puts : List ℕ) (l : List Retired) → length (retired_puts puts l) ≡ length l
length-retired_puts puts l = length-map l (λ (x : Retired). get_or puts x.slot 0)

-- a put number that is pinned is a reader's
abbrev PinnedBy : List Past → ℕ → Type 0
PinnedBy readers q =
    (n : ℕ) × (p : Past) × (slot : ℕ) × (get_elem? readers n ≡ some p) × (p.slot ≡ Some slot) × (p.put ≡ q)

pinned_by : (readers : List Past) (i q : ℕ) → get_elem? (pins readers) i ≡ some q → PinnedBy readers q
pinned_by [] i q e = absurd (some-ne-none q (sym e))
pinned_by (p ∷ ps) i q e =
    first (λ j e'. let t = pinned_by ps j q e' in (suc t.0, t.1, t.2, t.3, t.4, t.5)) p.slot refl i e
  where
    first : ((j : ℕ) → get_elem? (pins ps) j ≡ some q → PinnedBy (p ∷ ps) q) → (x : Option ℕ) → p.slot ≡ x → (j : ℕ)
        → get_elem? (cons_option (option_map (λ slot. p.put) x) (pins ps)) j ≡ some q → PinnedBy (p ∷ ps) q
    first later None is j e = later j e
    first later (Some slot) is zero e = (0, p, slot, refl, is, some-injective p.put q e)
    first later (Some slot) is (suc j) e = later j e

-- a reader that holds has pinned its put number
pins_it : (readers : List Past) (n : ℕ) (p : Past) (slot : ℕ) → get_elem? readers n ≡ some p → p.slot ≡ Some slot
    → 0 < how_often p.put (pins readers)
pins_it [] n p slot e is = absurd (some-ne-none p (sym e))
pins_it (x ∷ xs) zero p slot e is = let same = some-injective x p e in let one = only-same p.put in
    rw (ap (λ b. cons_option (option_map (λ slot. x.put) b) (pins xs))
    (ap (λ (y : Past). y.slot) same ∙ is))
    (let o : only p.put x.put ≡ 1 = ap (λ (y : Past). only p.put y.put) same ∙ one in omega arith)
pins_it (x ∷ xs) (suc n) p slot e is = let t = pins_it xs n p slot e is in more (pinned_put x) t
  where
    more : (pin : Option ℕ) → 0 < how_often p.put (pins xs) → 0 < how_often p.put (cons_option pin (pins xs))
    more None l = l
    more (Some q) l = omega arith

named_at : (puts names : List ℕ) (i slot : ℕ) → i < length names → get_or names i 0 ≡ suc slot
    → 0 < how_often (get_or puts slot 0) (named_puts puts names)
named_at puts names i slot l e = search (arith, named_often, term_le, got_at, only-same)

retired_put_at : (puts : List ℕ) (retired : List Retired) (i : ℕ) (entry : Retired) → get_elem? retired i ≡ some entry
    → get_elem? (retired_puts puts retired) i ≡ some (get_or puts entry.slot 0)
retired_put_at puts retired i entry e = at_maps (λ (x : Retired). get_or puts x.slot 0) retired i entry e

-- a reader that a poll noted has made no act since
abbrev pub Still : List Past → List Past → Type 0
Still polls readers =
    (i : ℕ) (poll : Past) → get_elem? polls i ≡ some poll
    → (n : ℕ) × (p : Past) × (get_elem? readers n ≡ some p) × (p.reader ≡ poll.reader) × (p.count ≤ poll.count)

module _ (retired : List Retired) (marks : Marks) (next : ℕ) (readers : List Past) (tidy : Tidy retired marks next)
    (gathered : AllCurrent retired marks readers) where
  covered : (i q : ℕ) → get_elem? (pins readers) i ≡ some q
      → 1 ≤ how_often q (named_puts marks.puts marks.names) + how_often q (retired_puts marks.puts retired)
  covered i q e = let t = pinned_by readers i q e in let has = (gathered t.0 t.1 t.3).placed t.2 t.4 in
      let num : get_or marks.puts t.2 0 ≡ q = has.0 ∙ t.5 in
      ⊎_elim (λ (y : (j : ℕ) × (j < length marks.names) × (get_or marks.names j 0 ≡ suc t.2)). let z = subst
      (λ (b : ℕ). 0 < how_often b (named_puts marks.puts marks.names)) num
      (named_at marks.puts marks.names y.0 t.2 y.1 y.2) in
      omega arith)
      (λ (y : (j : ℕ) × (entry : Retired) × (get_elem? retired j ≡ some entry) × (entry.slot ≡ t.2)).
      let z = term_le (only q)
      (retired_puts marks.puts retired) y.0 (get_or marks.puts y.1.slot 0)
      (retired_put_at marks.puts retired y.0 y.1 y.2) in
      omega (arith, ap (only q) (ap (λ (b : ℕ). get_or marks.puts b 0) y.3 ∙ num) ∙ only-same q))
      has.1

  counted : strays (named_puts marks.puts marks.names) (pins readers)
      ≡ total (stands (pins readers)) (retired_puts marks.puts retired)
  counted =
      strays_count (named_puts marks.puts marks.names) (pins readers)
      ∙ strays_are (named_puts marks.puts marks.names) (retired_puts marks.puts retired) (pins readers)
      (λ number.
      let b = count_is (retired_puts marks.puts retired) number in
      omega (arith, tidy.once number, count_is (named_puts marks.puts marks.names) number))
      covered

  -- there are never more strays than retired slots
  pub strays_most : strays (named_puts marks.puts marks.names) (pins readers) ≤ length retired
  strays_most = search (arith, length-retired_puts, counted, some_stand)

  -- a sweep found every retired slot held by a reader that has not moved since: each retired set is pinned
  pub all_strays : AllHeld retired marks.polls → Still marks.polls readers
      → strays (named_puts marks.puts marks.names) (pins readers) ≡ length retired
  all_strays all still =
      counted ∙ all_stand (pins readers) (retired_puts marks.puts retired) every
      ∙ length-retired_puts marks.puts retired
    where
      every : (i r : ℕ) → get_elem? (retired_puts marks.puts retired) i ≡ some r → 0 < how_often r (pins readers)
      every i r e =
          let t = at_unmap (λ (x : Retired). get_or marks.puts x.slot 0) retired i r e in
          let slot : ℕ = t.0.slot in
          let y = all.slots i t.0 t.1 in
          let w = still i y.0 y.1 in
          let p : Past = w.1 in
          let cur = gathered w.0 p w.2 in
          let c = cur.polled i y.0 y.1 (sym w.3) in
          let same : p.slot ≡ y.0.slot = c.1 (omega arith) in let on : p.slot ≡ Some slot = same ∙ y.2 in
          rw (sym (sym (cur.placed slot on).0 ∙ t.2)) (pins_it readers w.0 p slot w.2 on)

  -- a slot that was retired has a new put number now: nobody had pinned it
  pub one_not_stray : (retired' : List Retired) (marks' : Marks) (at : ℕ) (entry : Retired)
      → AllCurrent retired' marks' readers
      → get_elem? retired at ≡ some entry → next ≤ get_or marks'.puts entry.slot 0
      → strays (named_puts marks.puts marks.names)
      (pins readers) < length retired
  one_not_stray desk' marks' at entry after was least =
      let l = one_less (pins readers) (retired_puts marks.puts retired) at
      (get_or marks.puts entry.slot 0) (retired_put_at marks.puts retired at entry was) none in let c = counted in
      let b = length-retired_puts marks.puts retired in omega arith
    where
      here : Living retired marks entry.slot
      here = inr (at, entry, was, refl)

      none : how_often (get_or marks.puts entry.slot 0) (pins readers) ≡ 0
      none = dite (ℕ_discrete (how_often (get_or marks.puts entry.slot 0) (pins readers)) 0) (λ z. z) (λ nz.
          let f = some_term (only (get_or marks.puts entry.slot 0)) (pins readers) (omega arith) in
          let e = only-is (get_or marks.puts entry.slot 0) f.1 f.3 in
          let y = pinned_by readers f.0 f.1 f.2 in
          let has = (gathered y.0 y.1 y.3).placed y.2 y.4 in
          let has' = (after y.0 y.1 y.3).placed y.2 y.4 in
          let same : y.2 ≡ entry.slot = tidy.apart y.2 entry.slot has.1 here (has.0 ∙ y.5 ∙ e) in
          let old = ap (λ (b : ℕ). get_or marks'.puts b 0) (sym same) ∙ has'.0 ∙ y.5 ∙ e in
          absurd (let g = tidy.fresh entry.slot here in omega arith))
