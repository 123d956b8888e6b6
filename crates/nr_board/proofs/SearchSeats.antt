-- The steps of a scan and of a search in any order as the writer's seat makes them, whatever its desk, its call and its
-- rows.
use Rattle.std.proofs.Common.{◌≡◌, ℕ, ◌<◌, ◌≤◌, List, get_or, sym, ap, ◌∙◌, subst}
use mathlib.Core.Option.{none, some}
use lib.ListN.{get_elem?}
use Rattle.atomic_table.specs.Table.{Allows, Me, step}
use Rattle.nr_model.specs.declared.rows.Row.{Row}
use Rattle.nr_core.specs.Slots.{departures}
use Rattle.nr_core.specs.States.{retired_at}
use Rattle.nr_core.specs.declared.calls.WriterCall.{WriterCall}
use Rattle.nr_core.specs.declared.places.Place.TheVariants.{Searching}
use Rattle.nr_core.specs.declared.places.Retired.{Retired}
use Rattle.nr_core.specs.declared.roles.Desk.{Desk}
use Rattle.nr_core.specs.declared.roles.Role.TheVariants.{Writer}
use Rattle.nr_core.specs.declared.shape.Shape.{Shape}
use Rattle.nr_core.proofs.ListPlaces.{inside}
use Rattle.nr_board.proofs.PollNotes.{at_get, there_is}
use Rattle.nr_board.proofs.Scanning.{says_apart}
use Rattle.nr_board.proofs.SearchSteps.{gives_up_so, searches_so, tries_so}
use Rattle.nr_core.proofs.WordPlaces.{same_departures}
use Rattle.nr_board.proofs.WriterSteps.{tells_also}
use Rattle.nr_board.specs.Announcing.{says_at}
use Rattle.nr_board.specs.Rule.{Kept}
use Rattle.nr_board.specs.SearchPlays.{GaveUp, Scanned, Tried, has_given_up, has_searched, has_tried}
use Rattle.nr_board.specs.Views.{View}

module _ (shape : Shape) (slots id : ℕ) (me : Me (Unit {0}) View) (desk : Desk) (call : WriterCall) (rows : List Row)
    (is : me.0.role ≡ Writer desk) (is_at : desk.place ≡ Searching call rows 0) (sized : me.0.shape ≡ shape) where
  -- one writer is in one search
  one_search : (other : Desk) (other_call : WriterCall) (other_rows : List Row) → me.0.role ≡ Writer other
      → other.place ≡ Searching other_call other_rows 0
      → (desk ≡ other) × (call ≡ other_call) × (rows ≡ other_rows)
  one_search other other_call other_rows also also_at = (cc, cc, cc)

  pub has_searched_so : (own : ℕ) → own < me.0.announcers
      → Allows (Kept shape) slots id me (says_at shape own) (λ word. word)
      (has_searched (step slots (says_at shape own) 0 0 none) me)
  has_searched_so own within =
      tells_also (Kept shape) slots id me (says_at shape own) (λ word. word)
      (λ found after. Scanned desk own found me.0 after.0)
      (has_searched (step slots (says_at shape own) 0 0 none) me)
      (λ found after told other other_call other_rows mine also also_at low place_is.
      let (desks, _, _) = one_search other other_call other_rows also also_at in
      subst (λ (p : Desk × ℕ). Scanned p.0 p.1 found me.0 after.0)
      (λ j. (desks j, says_apart shape me.0.shape own mine sized place_is j)) told)
      (searches_so shape slots id own me desk call rows is is_at within)

  pub has_tried_so : (poll : ℕ) (entry : Retired) → get_elem? desk.retired poll ≡ some entry
      → me.0.announcers ≤ get_or me.0.heard entry.slot 0
      → Allows (Kept shape) slots id me (departures shape entry.slot) (λ word. word)
      (has_tried (step slots (departures shape entry.slot) 0 0 none) me)
  has_tried_so poll entry here heard =
      let entry_is = there_is desk.retired poll entry here in
      tells_also (Kept shape) slots id me (departures shape entry.slot) (λ word. word)
      (λ found after. Tried desk call rows poll found me.0 after.0)
      (has_tried (step slots (departures shape entry.slot) 0 0 none) me)
      (λ found after told other other_call other_rows place also also_at room near place_is.
      let (desks, calls, all_rows) = one_search other other_call other_rows also also_at in
      let there : get_elem? other.retired poll ≡ some entry
      = ap (λ (d : Desk). get_elem? d.retired poll) (sym desks) ∙ here in
      let named : get_elem? other.retired place ≡ some (retired_at other place) = at_get other.retired place near in
      let slot_is : entry.slot ≡ (retired_at other place).slot
      = same_departures shape entry.slot (retired_at other place).slot
      (place_is ∙ ap (λ (s : Shape). departures s (retired_at other place).slot) sized) in
      let one_place : poll ≡ place = room.apart poll place entry (retired_at other place) there named slot_is in
      subst (λ (p : Desk × WriterCall × List Row × ℕ). Tried p.0 p.1 p.2 p.3 found me.0 after.0)
      (λ j. (desks j, calls j, all_rows j, one_place j)) told)
      (rw entry_is (tries_so shape slots id me desk call rows poll is is_at
      (inside desk.retired poll entry here)
      (subst (λ (e : Retired). me.0.announcers ≤ get_or me.0.heard e.slot 0) entry_is heard)))

  pub has_given_up_so : (key : ℕ) → key < shape.keys
      → Allows (Kept shape) slots id me key (λ word. word) (has_given_up (step slots key 0 0 none) me)
  has_given_up_so key near =
      tells_also (Kept shape) slots id me key (λ word. word) (λ found after. GaveUp desk call me.0 after.0)
      (has_given_up (step slots key 0 0 none) me)
      (λ found after told other other_call other_rows also also_at.
      let (desks, calls, _) = one_search other other_call other_rows also also_at in
      subst (λ (p : Desk × WriterCall). GaveUp p.0 p.1 me.0 after.0) (λ j. (desks j, calls j)) told)
      (gives_up_so shape slots id me desk call rows key near is is_at)
