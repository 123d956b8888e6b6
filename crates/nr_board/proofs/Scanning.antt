-- The writer loads a reader's word: what it hears then is so.
use Rattle.std.proofs.Common.{◌≡◌, ◌≢◌, ℕ, suc, ◌+◌, ◌<◌, ◌≤◌, ◌⊎◌, ⊎_elim, inl, List, zero, length, [], ◌∷◌, ◌++◌}
use Rattle.std.proofs.Common.{get_or, map, set, refl, sym, ap, ◌∙◌, subst, arith}
use mathlib.Core.Logic.{dite}
use mathlib.Core.Option.{none, some}
use native.Mathlib.Decide.{ℕ_discrete}
use lib.ListN.{get_elem?}
use lib.Seq.{set-get_or}
use Rattle.atomic_table.proofs.Lists.{at_map}
use Rattle.atomic_table.specs.Table.{Allows, Me, State, keeps, step}
use Rattle.nr_core.proofs.Sums.{term_le}
use Rattle.nr_core.specs.Roles.{is_writer, keeps as kept_slots, retirements}
use Rattle.nr_core.specs.Slots.{layout, name_number}
use Rattle.nr_words.specs.Places.{total_of}
use Rattle.nr_core.specs.declared.roles.Desk.{Desk}
use Rattle.nr_core.specs.declared.roles.Role.{Role}
use Rattle.nr_core.specs.declared.roles.Role.TheVariants.{Writer}
use Rattle.nr_core.specs.declared.shape.Shape.{Shape}
use Rattle.nr_core.specs.Marked.{KnowsMarks}
use Rattle.nr_core.specs.Marks.{with_loads}
use Rattle.nr_board.proofs.Heard.{AllHear, IsQuiet, hears_after, no_reader}
use Rattle.nr_board.proofs.OneView.{at_any}
use Rattle.nr_board.proofs.WriterSteps.{same_desk, writer_shape}
use Rattle.nr_core.proofs.Counting.{named_inside, names_it}
use Rattle.nr_board.proofs.Notes.{counts_on}
use Rattle.nr_board.specs.Announcing.{Hears, lends, says_at}
use Rattle.nr_board.specs.Rule.{Kept, marks_of, role_of}
use Rattle.nr_board.specs.Scans.{has_scanned, heard_from, heard_now}
use Rattle.nr_board.specs.Views.{View}
use Rattle.nr_board.specs.WordLoads.{word_load}

-- what is heard more is heard of a retired slot, of that reader, whose word says something else
abbrev HeardMore : Desk → ℕ → ℕ → ℕ → ℕ → ℕ → Type 0
HeardMore desk own found slot before after =
    (after ≤ before) ⊎ ((after ≡ suc own) × (own ≤ before) × (found ≢ suc slot) × (0 < retirements slot desk.retired))

module _ (desk : Desk) (own found : ℕ) where
  heard_one : (slot count : ℕ) → HeardMore desk own found slot count (heard_now desk own found slot count)
  heard_one slot count = grind arith

  heard_each : (heard : List ℕ) (first more at : ℕ)
      → HeardMore desk own found (first + at) (get_or heard (first + at) 0)
      (get_or (heard_from desk own found heard first more) at 0)
  heard_each heard first zero at = inl (omega arith)
  heard_each heard first (suc more) zero = let same : first ≡ first + 0 = omega arith in
      rw (sym same) (heard_one first (get_or heard first 0))
  heard_each heard first (suc more) (suc at) = let same : suc first + at ≡ first + suc at = omega arith in
      rw (sym same) (heard_each heard (suc first) more at)

  heard_more : (heard : List ℕ) (slots slot : ℕ)
      → HeardMore desk own found slot (get_or heard slot 0) (get_or (heard_from desk own found heard 0 slots) slot 0)
  heard_more heard slots slot = let same : 0 + slot ≡ slot = omega arith in
      subst
      (λ (s : ℕ). HeardMore desk own found s (get_or heard s 0)
      (get_or (heard_from desk own found heard 0 slots) slot 0))
      same (heard_each heard 0 slots slot)

-- who says another slot, or none, holds this one by no word
says_other : (shape : Shape) (state : State (Unit {0}) View) (kept : Kept shape state) (id slot : ℕ) (view : View)
    → get_elem? state.views id ≡ some view → view.says ≢ suc slot → lends slot view ≡ 0
says_other shape state kept id slot view at other = grind arith

-- a slot that a key names, by the writer's marks, is not retired
named_stays : (shape : Shape) (state : State (Unit {0}) View) (kept : Kept shape state) (id : ℕ) (view : View)
    (desk : Desk)
    → get_elem? state.views id ≡ some view → view.role ≡ Writer desk
    → (key slot : ℕ) → get_or view.marks.names key 0 ≡ suc slot → 0 < retirements slot desk.retired → ⊥
named_stays shape state kept id view desk at is key slot names retired =
    let roles = map role_of state.views in
    let there : get_elem? roles id ≡ some (Writer desk) = at_map role_of state.views id view at ∙ ap some is in
    let mine
    = subst (λ (r : Role). KnowsMarks role_of marks_of shape kept.counted state.views kept.log r view.marks) is
    (kept.marked.each id view at) in
    let low : key < length view.marks.names = some_at view.marks.names key slot names in
    let near : key < shape.keys = omega (arith, mine.wide.0) in
    let name : name_number (get_or kept.counted key 0) ≡ suc slot = sym (mine.names key near) ∙ names in
    let inside = named_inside shape kept.counted roles kept.log kept.core key slot near name in
    absurd
    (omega (
      arith,
      names_it shape kept.counted roles kept.log kept.core key slot near name,
      kept.core.places slot inside,
      term_le (kept_slots slot) roles id (Writer desk) there,
    ))
  where
    some_at : (l : List ℕ) (at n : ℕ) → get_or l at 0 ≡ suc n → at < length l
    some_at [] at n is = absurd (omega arith)
    some_at (x ∷ l) zero n is = omega arith
    some_at (x ∷ l) (suc at) n is = omega (arith, some_at l at n is)

-- after a load of a reader's word by the writer, what it hears then is so
pub scan_heard : (shape : Shape) (state : State (Unit {0}) View) (kept : Kept shape state) (id own : ℕ)
    (view next : View) (desk : Desk)
    → get_elem? state.views id ≡ some view → view.role ≡ Writer desk → own < view.announcers
    → next.role ≡ view.role → next.marks.names ≡ view.marks.names
    → next.heard ≡ heard_from desk own (get_or state.words (says_at shape own) 0) view.heard 0 view.shape.slots
    → AllHear (set state.views id next)
scan_heard shape state kept id own view next desk at is within same names heard_is =
    let words = state.words in let found : ℕ = get_or words (says_at shape own) 0 in
    let writes : is_writer next.role ≡ 1 = ap is_writer same ∙ ap is_writer is in
    let before = kept.hears id view at (ap is_writer is) in
    let more : (slot : ℕ) → HeardMore desk own found slot (get_or view.heard slot 0) (get_or next.heard slot 0)
    = λ slot. rw heard_is (heard_more desk own found view.heard view.shape.slots slot) in
    let hears : Hears (set state.views id next) next = record {
      quiet = λ k slot other. at_any {P = λ _ v. IsQuiet next slot other v} state.views id next
          (λ his _. absurd (no_reader next.role other writes his))
          (λ i v _ here his low. ⊎_elim (λ (still : _). before.quiet i slot other v here his (omega arith))
          (λ (one : _). dite (ℕ_discrete other own)
          (λ e. says_other shape state kept i slot v here
          (λ says. one.2
          (ap (λ (n : ℕ). get_or words (says_at shape n) 0) (sym e)
          ∙ kept.announced.says i other v here his
          (let told = kept.told_of id view at (let one = ap is_writer is in omega arith) in omega arith)
          ∙ says)))
          (λ ne. before.quiet i slot other v here his (omega (arith, one.0, one.1))))
          (more slot)) k;
      unheard = λ key slot named.
          let was : get_or view.marks.names key 0 ≡ suc slot
          = ap (λ (l : List ℕ). get_or l key 0) (sym names) ∙ named in
          ⊎_elim (λ (still : _). let none = before.unheard key slot was in omega arith)
          (λ (one : _). absurd (named_stays shape state kept id view desk at is key slot was one.3)) (more slot);
    } in
    hears_after state.views id view next at
    (λ _ slot other _ _ _ _ his _. absurd (no_reader next.role other writes his)) (λ _. hears) kept.hears

-- readers' words lie apart
pub says_apart : (shape other : Shape) (own mine : ℕ) → other ≡ shape → says_at shape own ≡ says_at other mine
    → own ≡ mine
says_apart shape other own mine same is = let total = ap (λ (s : Shape). total_of (layout s)) same in omega arith

pub scans_so : (shape : Shape) (slots id own : ℕ) (me : Me (Unit {0}) View) (desk : Desk) → me.0.role ≡ Writer desk
    → own < me.0.announcers
    → Allows (Kept shape) slots id me (says_at shape own) (λ word. word)
    (has_scanned (step slots (says_at shape own) 0 0 none) me)
scans_so shape slots id own me desk is within state kept homes at bounded =
    let view = me.0 in
    let words = state.words in
    let place : ℕ = says_at shape own in
    let found : ℕ = get_or words place 0 in
    let fits = kept.fits id view at in
    let marks = with_loads view.marks (view.marks.loads ++ word_load own found ∷ []) in
    let next
    = record view {
      steps = view.steps + 1;
      marks = marks;
      heard = heard_from desk own found view.heard 0 view.shape.slots;
    } in
    let heard = scan_heard shape state kept id own view next desk at is within refl refl refl in
    let rests
    = counts_on shape state id view kept at next.steps next.marks.loads next.heard next.loaded_ahead heard in (
      next,
      keeps,
      tt,
      rw (set-get_or words place 0) rests,
      λ other mine also low place_is.
          let same : own ≡ mine
          = says_apart shape view.shape own mine (writer_shape shape kept.log view desk is fits) place_is in
          λ j.
          record view {
            steps = view.steps + 1;
            marks = with_loads view.marks (view.marks.loads ++ word_load (same j) found ∷ []);
            heard = heard_from (same_desk view.role desk other is also j) (same j) found view.heard 0
                view.shape.slots;
          },
    )
