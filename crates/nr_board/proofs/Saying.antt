-- One reader's word changes, or what that reader holds by it.
use Rattle.std.proofs.Common.{◌≡◌, ◌≢◌, ℕ, suc, ◌+◌, ◌-◌, ◌%◌, ◌^◌, ◌<◌, ◌≤◌, List, [], ◌∷◌, true, length, map, get_or}
use Rattle.std.proofs.Common.{set, length-set, get_or-set_other, get_or-set_same, refl, sym, ap, ◌∙◌, subst, arith}
use Rattle.std.proofs.lemmas.Bool.{false≢true, eqb-true}
use Rattle.std.specs.Prelude.{nat_lt}
use mathlib.Core.Logic.{dite}
use native.Mathlib.Decide.{ℕ_discrete}
use mathlib.Core.Option.{some}
use lib.ListN.{get_elem?}
use Rattle.nr_words.specs.Places.{total_of}
use Rattle.nr_board.proofs.Counting.{no_reader_before}
use Rattle.nr_board.proofs.OneView.{at_any}
use Rattle.nr_core.proofs.Choices.{on_test}
use Rattle.nr_core.proofs.Sums.{here_after, only-le, total-le}
use Rattle.nr_core.proofs.WordPlaces.{departures_inside, same_departures}
use Rattle.nr_core.specs.Roles.{holds, is_by, is_reader}
use Rattle.nr_core.specs.Slots.{departures, layout}
use Rattle.nr_core.specs.Sums.{total}
use Rattle.nr_core.specs.declared.roles.Grip.TheVariants.{On}
use Rattle.nr_core.specs.declared.roles.Role.{Role}
use Rattle.nr_core.specs.declared.roles.Role.TheVariants.{Note, Reader, Writer}
use Rattle.nr_core.specs.declared.shape.Shape.{Shape}
use Rattle.nr_board.specs.Announcing.{Announces, Counted, lends, lent, says_at}
use Rattle.nr_board.specs.Rule.{role_of}
use Rattle.nr_board.specs.Views.{View}

-- a word behind the layout is no count, and the core doesn't see it
pub counted_behind : (shape : Shape) (by_word : ℕ → ℕ) (words counted : List ℕ) (place x : ℕ)
    → total_of (layout shape) ≤ place → Counted shape by_word words counted
    → Counted shape by_word (set words place x) counted
counted_behind shape by_word words counted place x behind seen = let room = seen.room in
    let same_count : (slot : ℕ) → slot < shape.slots
    → get_or (set words place x) (departures shape slot) 0 ≡ get_or words (departures shape slot) 0
    = λ slot near. get_or-set_other words place (departures shape slot) x 0
    (λ e. let inside = departures_inside shape slot near in omega arith) in
    record {
      room = omega (arith, length-set words place x, room);
      same = λ at near no_count. seen.same at near no_count
          ∙ sym (get_or-set_other words place at x 0 (λ e. omega arith));
      less = λ slot near. seen.less slot near
          ∙ ap (λ (w : ℕ). (w + (2 ^ 64 - by_word slot)) % 2 ^ 64) (sym (same_count slot near));
      small = λ slot near. subst (λ (w : ℕ). w < 2 ^ 64) (sym (same_count slot near)) (seen.small slot near);
    }

-- another number of readers holds one slot by their words, and the core sees its departures so
pub counted_lent : (shape : Shape) (before after : ℕ → ℕ) (words counted : List ℕ) (mine value : ℕ) → mine < shape.slots
    → total_of (layout shape) ≤ length counted
    → ((slot : ℕ) → slot ≢ mine → after slot ≡ before slot)
    → value ≡ (get_or words (departures shape mine) 0 + (2 ^ 64 - after mine)) % 2 ^ 64
    → Counted shape before words counted → Counted shape after words (set counted (departures shape mine) value)
counted_lent shape before after words counted mine value near wide others is seen =
    let place : ℕ = departures shape mine in
    record {
      room = seen.room;
      same = λ at low no_count. get_or-set_other counted place at value 0 (λ e. no_count mine near e)
          ∙ seen.same at low no_count;
      less = λ slot low. dite (ℕ_discrete slot mine)
          (λ e. rw e
          (get_or-set_same counted place value 0 (let inside = departures_inside shape mine near in omega arith) ∙ is))
          (λ ne. get_or-set_other counted place (departures shape slot) value 0
          (λ e. ne (same_departures shape slot mine e))
          ∙ seen.less slot low
          ∙ ap (λ (b : ℕ). (get_or words (departures shape slot) 0 + (2 ^ 64 - b)) % 2 ^ 64) (sym (others slot ne)));
      small = seen.small;
    }

-- a token holds a slot by its word at most once, and only as a reader
lends_one : (slot : ℕ) (view : View) → lends slot view ≤ is_reader view.role
lends_one slot view =
    on_test (λ (n : ℕ). n ≤ is_reader view.role) (nat_lt 0 view.says) (λ _. holds_one view.role) (λ _. omega arith)
  where
    holds_one : (role : Role) → holds slot role ≤ is_reader role
    holds_one (Reader reader (On held rows sized)) = only-le slot held
    holds_one other = omega arith

readers_mapped : (views : List View)
    → total (λ (view : View). is_reader view.role) views ≡ total is_reader (map role_of views)
readers_mapped [] = refl
readers_mapped (view ∷ views) = omega (arith, readers_mapped views)

-- no more readers than there are hold a slot by their words
pub lent_few : (views : List View) (slot : ℕ) → lent views slot ≤ total is_reader (map role_of views)
lent_few views slot =
    omega (
      arith,
      total-le (lends slot) (λ (view : View). is_reader view.role) (lends_one slot) views,
      readers_mapped views,
    )

-- a role is one caller's
pub is_one : (role : Role) (one other : ℕ) → is_by one role ≡ true → is_by other role ≡ true → one ≡ other
is_one (Writer desk) one other his also = sym (eqb-true 0 one his) ∙ eqb-true 0 other also
is_one (Reader reader grip) one other his also = sym (eqb-true reader one his) ∙ eqb-true reader other also
is_one Note one other his also = absurd (cc)

-- one reader says what its word says then, and holds by it what it says or nothing
pub announces_own : (shape : Shape) (announcers : ℕ) (words after : List ℕ) (views : List View) (id own : ℕ)
    (view next : View)
    → get_elem? views id ≡ some view
    → is_by (suc own) next.role ≡ true → own < announcers
    → ((caller : ℕ) → is_by caller next.role ≡ is_by caller view.role)
    → ((other : ℕ) (viewed : View) → other ≢ id → get_elem? views other ≡ some viewed
    → is_by (suc own) viewed.role ≡ true → ⊥)
    → get_or after (says_at shape own) 0 ≡ next.says
    → ((other : ℕ) → other ≢ own → get_or after (says_at shape other) 0 ≡ get_or words (says_at shape other) 0)
    → ((slot : ℕ) → 0 < next.says → 0 < holds slot next.role → next.says ≡ suc slot)
    → length after ≡ length words → Announces shape announcers words views
    → Announces shape announcers after (set views id next)
announces_own shape announcers words after views id own view next at mine has same alone now frame holds_it wide
    before =
    record {
      space = let space = before.space in omega arith;
      says = λ j other u. at_any {P = λ _ v. is_by (suc other) v.role ≡ true → other < announcers
          → get_or after (says_at shape other) 0 ≡ v.says} views id next
          (λ his _.
          let same : other ≡ own = omega (arith, is_one next.role (suc other) (suc own) his mine) in
          ap (λ (n : ℕ). get_or after (says_at shape n) 0) same ∙ now)
          (λ i v apart here his low. dite (ℕ_discrete other own)
          (λ e. absurd (alone i v apart here (ap (λ (n : ℕ). is_by (suc n) v.role) (sym e) ∙ his)))
          (λ ne. frame other ne ∙ before.says i other v here his low)) j u;
      wordless =
          at_any views id next (λ none. absurd (false≢true (sym (none own has) ∙ mine)))
          (λ j u _. before.wordless j u);
      holds_it = λ j slot u. at_any {P = λ _ v. 0 < v.says → 0 < holds slot v.role → v.says ≡ suc slot} views id next
          (holds_it slot) (λ i v _. before.holds_it i slot v) j u;
      unsaid = λ other none low. frame other
          (λ e. false≢true
          (sym (none id next (here_after views id view next at)) ∙ ap (λ (n : ℕ). is_by (suc n) next.role) e ∙ mine))
          ∙ before.unsaid other (no_reader_before views id view next at same other none) low;
    }

-- the readers' words lie apart
pub says_apart : (shape : Shape) (words : List ℕ) (own x other : ℕ) → other ≢ own
    → get_or (set words (says_at shape own) x) (says_at shape other) 0 ≡ get_or words (says_at shape other) 0
says_apart shape words own x other ne =
    get_or-set_other words (says_at shape own) (says_at shape other) x 0 (λ e. ne (omega arith))
