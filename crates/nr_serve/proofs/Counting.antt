-- Each step on the counts of a lobby keeps their rule.
use Rattle.std.proofs.Common.{◌≡◌, ◌≢◌, ℕ, ◌+◌, ◌<◌, ◌≤◌, max, eqb, zero, suc, List, [], ◌∷◌, ◌++◌, set, slice_index}
use Rattle.std.proofs.Common.{refl, sym, subst, arith, ⊎_elim, append-nil, length-set, replicate, eq-eqb, ne_eqb}
use Rattle.std.proofs.Common.{le_refl, le_trans, zero-le}
use Rattle.std.proofs.lemmas.List.{length-replicate, get_or-set_same, get_or-set_other}
use mathlib.Core.Logic.{dite}
use mathlib.Core.Option.{none, some, some-injective, some-ne-none}
use lib.ListN.{get_elem?}
use native.Mathlib.Decide.{ℕ_discrete}
use prog.Atomic.{either}
use Rattle.atomic_table.specs.Table.{Allows, Enters, Me, State, keeps, step, stepped, opening}
use Rattle.atomic_table.proofs.Lists.{at_set, at_snoc}
use Rattle.nr_core.proofs.Sums.{only-other, only-same, total-append, total-set}
use Rattle.nr_core.specs.Sums.{total}
use Rattle.nr_serve.specs.Hands.{capped, last_count}
use Rattle.nr_serve.specs.Counts.{AreCounts, IsLater, Visit, closed_at, has_closed, has_read_count, has_raised}
use Rattle.nr_serve.specs.Counts.{how_often, new_guest}

abbrev pub S : Type 0
S = State (Unit {0}) Visit

abbrev pub raised_at : ℕ → Visit → ℕ
raised_at place visit = how_often place visit.raised

abbrev pub closes_of : Visit → ℕ
closes_of visit = visit.closes

-- a guest that saw all numbers now, raised these counts, and closed the lobby that often
abbrev pub after : List ℕ → Visit → List ℕ → ℕ → Visit
after words visit more closings =
    record { seen = words; raised = visit.raised ++ more; closes = visit.closes + closings }

module _ (state : S) (are : AreCounts state) (id : ℕ) (me : Me (Unit {0}) Visit)
    (there : get_elem? state.views id ≡ some me.0) where
  -- the number at a place goes up, and the guest raises these counts and closes the lobby that often
  module _ (i n : ℕ) (more : List ℕ) (closings : ℕ) (inside : i < 536) (up : slice_index state.words i ≤ n) where
    abbrev words : List ℕ
    words = set state.words i n

    abbrev visit : Visit
    visit = after words me.0 more closings

    here : slice_index words i ≡ n
    here = get_or-set_same state.words i n 0 (omega (arith, are.size))

    elsewhere : (place : ℕ) → place ≢ i → slice_index words place ≡ slice_index state.words place
    elsewhere place other = get_or-set_other state.words i place n 0 other

    later : IsLater state.words words
    later place = grind (arith, here, elsewhere)

    more_raised : (place : ℕ)
        → total (raised_at place) (set state.views id visit)
        ≡ total (raised_at place) state.views + how_often place more
    more_raised place = grind (arith, total-set, total-append)

    more_closed : total closes_of (set state.views id visit) ≡ total closes_of state.views + closings
    more_closed = omega (arith, total-set closes_of state.views id me.0 visit there)

    still_counts : (i ≢ closed_at → n ≡ capped (total (raised_at i) state.views + how_often i more))
        → ((place : ℕ) → place ≢ i → place ≢ closed_at → how_often place more ≡ 0)
        → (i ≢ closed_at → n ≡ last_count → 0 < slice_index state.words closed_at)
        → (i ≡ closed_at → 0 < n → 0 < total closes_of state.views + closings)
        → AreCounts (stepped state i n id me.1 visit keeps)
    still_counts counts none_else closes closed_by =
        grind (arith, length-set, here, more_raised, elsewhere, later, more_closed, le_refl, le_trans, at_set)

    sees_more : IsLater me.0.seen words
    sees_more place = le_trans (are.seen id me.0 there place) (later place)

  -- a step that leaves the number as it is
  still_counts_same : (place : ℕ) → place < 536
      → AreCounts (stepped state place (slice_index state.words place) id me.1
      (after (set state.words place (slice_index state.words place)) me.0 [] 0) keeps)
  still_counts_same place inside =
      still_counts place (slice_index state.words place)
      [] 0 inside (le_refl (slice_index state.words place)) (λ count. omega (arith, are.counted place count))
      (λ other _ _. refl) (λ count. are.last place count)
      (λ same above. omega (arith, are.closed (rw same at above)))

module _ (id : ℕ) (me : Me (Unit {0}) Visit) where
  -- a load
  pub looks : (slots place : ℕ) → place < 536
      → Allows AreCounts slots id me place (λ n. n) (has_read_count (step slots place 0 0 none) me)
  looks slots place inside state are _ there _ = let n : ℕ = slice_index state.words place in (
    after (set state.words place n) me.0 [] 0,
    keeps,
    tt,
    still_counts_same state are id me there place inside,
    (
      sees_more state are id me there place n [] 0 inside (le_refl n),
      append-nil me.0.raised,
      omega arith,
      here state are id me there place n [] 0 inside (le_refl n),
    ),
  )

  -- the lobby is closed
  pub closes : (slots : ℕ)
      → Allows AreCounts slots id me closed_at (λ n. max n 1) (has_closed (step slots closed_at 1 0 none) me)
  closes slots state are _ there _ =
      let n : ℕ = max (slice_index state.words closed_at) 1 in
      let up : slice_index state.words closed_at ≤ n = omega arith in
      let inside : closed_at < 536 = omega arith in (
        after (set state.words closed_at n) me.0 [] 1,
        keeps,
        tt,
        still_counts state are id me there closed_at n
            [] 1 inside up (λ count. absurd (count refl)) (λ other _ _. refl) (λ count. absurd (count refl))
            (λ _ _. omega arith),
        (
          sees_more state are id me there closed_at n [] 1 inside up,
          append-nil me.0.raised,
          refl,
          omega (arith, here state are id me there closed_at n [] 1 inside up),
        ),
      )

  -- a compare-exchange, which raises a count if it finds the number that was expected
  pub raises : (slots place count next : ℕ) → place < 536 → place ≢ closed_at → next ≡ capped (count + 1)
      → (next ≡ last_count → 0 < slice_index me.0.seen closed_at)
      → Allows AreCounts slots id me place (λ n. either (eqb n count) next n)
      (has_raised (step slots place count next none) me)
  raises slots place count next inside is_count next_is closed state are _ there small =
      let n : ℕ = slice_index state.words place in
      dite (ℕ_discrete n count)
      (λ hit. let up : n ≤ next = omega (arith, hit, next_is, small) in
      rw (eq-eqb n count hit) (
        after (set state.words place next) me.0 (place ∷ []) 0,
        keeps,
        tt,
        still_counts state are id me there place next (place ∷ []) 0 inside up
            (λ _. omega (arith, hit, next_is, only-same place, are.counted place is_count))
            (λ other not _. omega (arith, only-other other place (λ same. not (sym same))))
            (λ _ at_last. omega (arith, closed at_last, are.seen id me.0 there closed_at))
            (λ same. absurd (is_count same)),
        (sees_more state are id me there place next (place ∷ []) 0 inside up, omega arith, refl),
      ))
      (λ miss. rw (ne_eqb n count miss) (
        after (set state.words place n) me.0 [] 0,
        keeps,
        tt,
        still_counts_same state are id me there place inside,
        (sees_more state are id me there place n [] 0 inside (le_refl n), omega arith, append-nil me.0.raised),
      ))

-- a new guest
pub enters : (slots place : ℕ)
    → Enters AreCounts slots place (λ n visit. has_read_count (step slots place 0 0 none) (new_guest, []) n (visit, []))
enters slots place state are _ _ =
    let visit : Visit = record { seen = state.words; raised = []; closes = 0 } in (
      visit,
      record {
        size = are.size;
        counted = λ at count. omega (arith, are.counted at count, total-append (raised_at at) state.views (visit ∷ []));
        last = are.last;
        closed = λ now. omega (arith, are.closed now, total-append closes_of state.views (visit ∷ []));
        seen = λ id known at. ⊎_elim (λ was. are.seen id known was)
            (λ mine. subst (λ (v : Visit). IsLater v.seen state.words) mine
            (λ other. le_refl (slice_index state.words other)))
            (at_snoc state.views visit known id at);
      },
      ((λ other. zero-le), refl, refl, refl),
    )

zeros : (n place : ℕ) → slice_index (replicate n 0) place ≡ 0
zeros zero place = refl
zeros (suc n) zero = refl
zeros (suc n) (suc place) = zeros n place

-- all counts are 0 in a new lobby
pub opens : AreCounts (opening (replicate 536 0) [] new_guest)
opens = record {
  size = length-replicate {A = ℕ} 536 0;
  counted = λ place _. zeros 536 place;
  last = λ place _ at_last. absurd (omega (arith, zeros 536 place, at_last));
  closed = λ now. absurd (omega (arith, zeros 536 closed_at, now));
  seen = λ id known at. subst (λ (v : Visit). IsLater v.seen (replicate 536 0)) (only_first id known at)
      (λ place. zero-le);
}
  where
    only_first : (id : ℕ) (known : Visit) → get_elem? (new_guest ∷ []) id ≡ some known → new_guest ≡ known
    only_first zero known at = some-injective new_guest known at
    only_first (suc id) known at = absurd (some-ne-none known (sym at))
