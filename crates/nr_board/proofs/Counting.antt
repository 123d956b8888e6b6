-- How the words that the core sees go along with the table's, and what the readers' words say.
use Rattle.std.proofs.Common.{◌≡◌, ◌≢◌, ℕ, suc, ◌+◌, ◌-◌, ◌%◌, ◌^◌, ◌<◌, ◌≤◌, List, ◌++◌, ◌∷◌, [], true}
use Rattle.std.proofs.Common.{cond, length, get_or, set, length-set, get_or-set_other, get_or-set_same, sym, ap, ◌∙◌}
use Rattle.std.proofs.Common.{subst, arith}
use Rattle.std.specs.Prelude.{nat_lt}
use mathlib.Core.Logic.{dite}
use native.Mathlib.Decide.{ℕ_discrete}
use mathlib.Core.Option.{some, some-injective}
use lib.ListN.{get_elem?}
use lib.Seq.{set-get_or}
use Rattle.nr_words.specs.Places.{total_of}
use Rattle.atomic_table.proofs.Lists.{set_else}
use Rattle.nr_core.proofs.Sums.{here_after, total-append, total-set}
use Rattle.nr_core.proofs.WordPlaces.{departures_inside, same_departures}
use Rattle.nr_core.specs.Roles.{holds, is_by}
use Rattle.nr_core.specs.Slots.{departures, layout}
use Rattle.nr_core.specs.declared.shape.Shape.{Shape}
use Rattle.nr_board.specs.Announcing.{Announces, Counted, HasNoReader, IsNoCount, lends, lent, says_at}
use Rattle.nr_core.proofs.ListPlaces.{at_left}
use Rattle.nr_board.proofs.OneView.{at_any, at_more}
use Rattle.nr_board.specs.Views.{View}

-- the holds by words, where one token has another view and holds by its word as before
pub lent_same : (views : List View) (id : ℕ) (view next : View) → get_elem? views id ≡ some view
    → ((slot : ℕ) → lends slot next ≡ lends slot view) → (slot : ℕ) → lent (set views id next) slot ≡ lent views slot
lent_same views id view next at same slot = omega (arith, total-set (lends slot) views id view next at, same slot)

-- the same words are counted, where as many hold by their words
pub counted_same : (shape : Shape) (before after : ℕ → ℕ) (words counted : List ℕ)
    → ((slot : ℕ) → after slot ≡ before slot) → Counted shape before words counted → Counted shape after words counted
counted_same shape before after words counted same t = record {
  room = t.room;
  same = t.same;
  less = λ slot near. t.less slot near
      ∙ ap (λ (b : ℕ). (get_or words (departures shape slot) 0 + (2 ^ 64 - b)) % 2 ^ 64) (sym (same slot));
  small = t.small;
}

-- a word that is no count becomes the same in both
pub counted_plain : (shape : Shape) (by_word : ℕ → ℕ) (words counted : List ℕ) (place x : ℕ)
    → place < total_of (layout shape) → IsNoCount shape place
    → total_of (layout shape) ≤ length counted → Counted shape by_word words counted
    → Counted shape by_word (set words place x) (set counted place x)
counted_plain shape by_word words counted place x low plain wide t = let room = t.room in record {
  room = omega (arith, length-set words place x, room);
  same = λ at near no_count. dite (ℕ_discrete at place)
      (λ e. rw e (get_or-set_same counted place x 0 (omega arith)
      ∙ sym (get_or-set_same words place x 0 (omega arith))))
      (λ ne. rw (other_word counted at ne, other_word words at ne) (t.same at near no_count));
  less = λ slot near. let apart : departures shape slot ≢ place = λ e. plain slot near (sym e) in
      rw (other_word counted _ apart, other_word words _ apart) (t.less slot near);
  small = λ slot near. rw (other_word words _ (λ e. plain slot near (sym e))) (t.small slot near);
}
  where
    other_word : (l : List ℕ) (at : ℕ) → at ≢ place → get_or (set l place x) at 0 ≡ get_or l at 0
    other_word l at = get_or-set_other l place at x 0

-- a load changes neither
pub counted_load : (shape : Shape) (by_word : ℕ → ℕ) (words counted : List ℕ) (place : ℕ)
    → Counted shape by_word words counted
    → Counted shape by_word (set words place (get_or words place 0)) (set counted place (get_or counted place 0))
counted_load shape by_word words counted place t = rw ((set-get_or words place 0), (set-get_or counted place 0)) t

-- a departure is one in both, where fewer than 2 ^ 64 hold by their words
pub counted_departure : (shape : Shape) (by_word : ℕ → ℕ) (words counted : List ℕ) (mine : ℕ) → mine < shape.slots
    → by_word mine < 2 ^ 64
    → total_of (layout shape) ≤ length counted → Counted shape by_word words counted
    → let place = departures shape mine in
    Counted shape by_word (set words place ((get_or words place 0 + 1) % 2 ^ 64))
    (set counted place ((get_or counted place 0 + 1) % 2 ^ 64))
counted_departure shape by_word words counted mine near few wide t =
    let place : ℕ = departures shape mine in
    let x : ℕ = (get_or words place 0 + 1) % 2 ^ 64 in
    let y : ℕ = (get_or counted place 0 + 1) % 2 ^ 64 in
    let room = t.room in
    let inside = departures_inside shape mine near in
    let here : get_or (set words place x) place 0 ≡ x = get_or-set_same words place x 0 (omega arith) in
    let counted_here : get_or (set counted place y) place 0 ≡ y = get_or-set_same counted place y 0 (omega arith) in
    record {
      room = omega (arith, length-set words place x, room);
      same = λ at low no_count. get_or-set_other counted place at y 0 (no_count mine near) ∙ t.same at low no_count
          ∙ sym (get_or-set_other words place at x 0 (no_count mine near));
      less = λ slot low. dite (ℕ_discrete slot mine)
          (λ e. rw e (let l = t.less mine near in omega arith))
          (λ ne. let apart : departures shape slot ≢ place = λ e. ne (same_departures shape slot mine e) in
          rw (
            get_or-set_other counted place (departures shape slot) y 0 apart,
            get_or-set_other words place (departures
                shape slot) x 0 apart,
          ) (t.less slot low));
      small = λ slot low. dite (ℕ_discrete slot mine)
          (λ e. subst (λ (s : ℕ). get_or (set words place x) (departures shape s) 0 < 2 ^ 64) (sym e) (omega arith))
          (λ ne. rw (get_or-set_other words place (departures shape slot) x 0
          (λ e. ne (same_departures shape slot mine e)))
          (t.small slot low));
    }

-- where nobody holds a slot by a word, its departures are those that the core sees
pub counted_alone : (shape : Shape) (by_word : ℕ → ℕ) (words counted : List ℕ) (slot : ℕ) → slot < shape.slots
    → by_word slot ≡ 0
    → Counted shape by_word words counted
    → get_or counted (departures shape slot) 0 ≡ get_or words (departures shape slot) 0
counted_alone shape by_word words counted slot near none t = grind arith

-- who is a reader stays so where one token has another view
pub no_reader_before : (views : List View) (id : ℕ) (view next : View) → get_elem? views id ≡ some view
    → ((caller : ℕ) → is_by caller next.role ≡ is_by caller view.role)
    → (own : ℕ) → HasNoReader own (set views id next) → HasNoReader own views
no_reader_before views id view next at same own none j u there = dite (ℕ_discrete j id)
    (λ e. let mine : view ≡ u = some-injective view u (sym at ∙ ap (get_elem? views) (sym e) ∙ there) in
    ap (λ (v : View). is_by (suc own) v.role) (sym mine) ∙ sym (same (suc own))
    ∙ none id next (here_after views id view next at))
    (λ ne. none j u (set_else views id j next ne ∙ there))

-- a caller that says as before, and holds by its word as before, announces as before
pub announces_on : (shape : Shape) (announcers : ℕ) (words after : List ℕ) (views : List View) (id : ℕ)
    (view next : View)
    → get_elem? views id ≡ some view
    → ((caller : ℕ) → is_by caller next.role ≡ is_by caller view.role) → next.says ≡ view.says
    → ((slot : ℕ) → lends slot next ≡ lends slot view)
    → ((own : ℕ) → own < announcers → get_or after (says_at shape own) 0 ≡ get_or words (says_at shape own) 0)
    → length after ≡ length words → Announces shape announcers words views
    → Announces shape announcers after (set views id next)
announces_on shape announcers words after views id view next at same says lend behind wide t = record {
  space = let space = t.space in omega arith;
  says = λ j own u there his low. behind own low
      ∙ at_any {P = λ _ v. is_by (suc own) v.role ≡ true → get_or words (says_at shape own) 0 ≡ v.says} views id next
      (λ mine. t.says id own view at (sym (same (suc own)) ∙ mine) low ∙ sym says)
      (λ i v _ here its. t.says i own v here its low) j u there his;
  wordless =
      at_any views id next (λ none. says ∙ t.wordless id view at (λ own low. sym (same (suc own)) ∙ none own low))
      (λ j u _. t.wordless j u);
  holds_it = λ j slot u. at_any {P = λ _ v. 0 < v.says → 0 < holds slot v.role → v.says ≡ suc slot} views id next
      (λ loud grips. says
      ∙ t.holds_it id slot view at (omega arith)
      (loud_holds slot view next says (omega arith) (lend slot) grips))
      (λ i v _. t.holds_it i slot v) j u;
  unsaid = λ own none low. behind own low ∙ t.unsaid own (no_reader_before views id view next at same own none) low;
}
  where
    loud_holds : (slot : ℕ) (view next : View) → next.says ≡ view.says → 0 < view.says
        → lends slot next ≡ lends slot view → 0 < holds slot next.role → 0 < holds slot view.role
    loud_holds slot view next says loud lend grips = grind arith

-- one token more, which says nothing
pub lent_more : (views : List View) (next : View) → next.says ≡ 0 → (slot : ℕ)
    → lent (views ++ next ∷ []) slot ≡ lent views slot
lent_more views next silent slot =
    let none : lends slot next ≡ 0 = ap (λ (n : ℕ). cond (nat_lt 0 n) (holds slot next.role) 0) silent in
    omega (arith, total-append (lends slot) views (next ∷ []), none)

pub announces_more : (shape : Shape) (announcers : ℕ) (words : List ℕ) (views : List View) (next : View) → next.says ≡ 0
    → ((own : ℕ) → is_by (suc own) next.role ≡ true → HasNoReader own views)
    → Announces shape announcers words views → Announces shape announcers words (views ++ next ∷ [])
announces_more shape announcers words views next silent new t = record {
  space = t.space;
  says = λ j own u. at_more {P = λ _ v. is_by (suc own) v.role ≡ true → own < announcers
      → get_or words (says_at shape own) 0 ≡ v.says} views next
      (λ _ his low. t.unsaid own (new own his) low ∙ sym silent) (λ i v. t.says i own v) j u;
  wordless = at_more views next (λ _ _. silent) t.wordless;
  holds_it = λ j slot u. at_more {P = λ _ v. 0 < v.says → 0 < holds slot v.role → v.says ≡ suc slot} views next
      (λ _ loud _. absurd (omega arith)) (λ i v. t.holds_it i slot v) j u;
  unsaid = λ own none low. t.unsaid own (λ j u there. none j u (at_left views (next ∷ []) j u there)) low;
}
