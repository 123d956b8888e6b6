-- The writer's steps: the look, the first step of each call, by which the call ends or goes on by the key's state; its
-- reads of the slot that its key names, of which the last decides its find or update; and the next step from its place,
-- whichever kind it is.
use Rattle.std.proofs.Common.{Bool, false, true, List, [], ap, arith, eq-eqb, get_or, nat_eq, ne_eqb, refl, suc, sym, ℕ}
use Rattle.std.proofs.Common.{◌%◌, ◌<◌, ◌∙◌, ◌≡◌, length, take, ◌*◌, ◌++◌, ◌+◌, ◌∷◌, ◌≢◌, ◌≤◌, cond, set}
use Rattle.std.proofs.lemmas.Bool.{ltb-true, eqb-false, eqb-true, leb-false, leb-true}
use Rattle.std.specs.Prelude.{nat_lt, Err, Ok, Result, None, Some, nat_le}
use lib.ListN.{get_elem?}
use mathlib.Core.Option.{some}
use Rattle.nr_model.specs.Histories.{Entry, entries_of}
use Rattle.nr_model.specs.Maps.{last_number, reply_at, state_after, state_of, applied_reply, rows_or}
use Rattle.nr_model.specs.declared.calls.Reply.{Reply}
use Rattle.nr_model.specs.declared.rows.Row.{Row}
use Rattle.nr_model.specs.declared.states.KeyState.{KeyState}
use Rattle.nr_words.specs.KeyWords.{slot_of, naming}
use Rattle.nr_core.proofs.Choices.{on_test, by_cases}
use Rattle.nr_core.proofs.Frames.{asked_no_hole, not_hole, stands_at}
use Rattle.nr_core.proofs.KeyWords.{names_none, names_one}
use Rattle.nr_core.proofs.Settle.{ends, key_same, own_ending, settles, keeps_moved, moved_desk, moves, Comes, goes_on}
use Rattle.nr_core.proofs.Settle.{Makes, polls}
use Rattle.nr_core.specs.Core.{AtDesk, Core, ShowsState, Reads}
use Rattle.nr_core.specs.Given.{IsGivenCall}
use Rattle.nr_core.specs.Roles.{held, keeps}
use Rattle.nr_core.specs.Slots.{bound_of, name_number, content}
use Rattle.nr_core.specs.States.{key_of}
use Rattle.nr_core.specs.Story.{call_of, ending, map_after, ending_at}
use Rattle.nr_core.specs.Writer.{ended, looked, moved_to, decided, renewed, swapped, went}
use Rattle.nr_core.specs.declared.calls.Step.{Step}
use Rattle.nr_core.specs.declared.calls.Step.TheVariants.{Going}
use Rattle.nr_core.specs.declared.calls.WriterCall.{WriterCall}
use Rattle.nr_core.specs.declared.calls.WriterCall.TheVariants.{Cancel, Evict, Fill, Replace, Find, Update}
use Rattle.nr_core.specs.declared.places.Place.TheVariants.{Idle, Leaving, Reading, Withdrawing, Putting, Searching}
use Rattle.nr_core.specs.declared.roles.Desk.{Desk}
use Rattle.nr_core.specs.declared.roles.Role.{Role}
use Rattle.nr_core.specs.declared.roles.Role.TheVariants.{Writer}
use Rattle.nr_core.specs.declared.shape.Shape.{Shape}
use Rattle.nr_core.proofs.Stepping.{writer_makes}
use Rattle.nr_core.specs.StepLaws.{LookLaw, GoLaw}
use Rattle.nr_model.proofs.LawLemmas.{batch_moves_rows_lem}
use Rattle.nr_model.specs.Batches.{applied}
use Rattle.nr_model.specs.Rows.{IsRowSet}
use Rattle.nr_model.specs.declared.batches.ApplyFault.{ApplyFault}
use Rattle.nr_words.proofs.SetWordLemmas.{length-row_words}
use Rattle.nr_words.specs.SetWords.{encode}
use Rattle.nr_core.proofs.ReadThrough.{length-got_next, read_first, read_next, read_set, read_whole}
use Rattle.nr_model.specs.declared.calls.Call.{Call}
use Rattle.nr_core.proofs.Guards.{no_some}
use Rattle.nr_core.proofs.OnKey.{none_of}
use Rattle.nr_core.proofs.Swap.{puts, publishes, unpublishes, withdraws}
use Rattle.nr_core.specs.Operations.{going, target_of, operated}
use Rattle.nr_core.specs.declared.operation.Operation.{Operation}
use Rattle.nr_core.specs.declared.operation.Operation.TheVariants.{Store, Swap}
use Rattle.nr_core.specs.Refusals.{if_not_busy}
use Rattle.nr_core.specs.declared.places.Place.{Place}
use Rattle.nr_model.specs.declared.states.KeyState.TheVariants as key
use Rattle.nr_model.specs.declared.calls.Call.TheVariants as model
use Rattle.nr_model.specs.declared.calls.Reply.TheVariants as reply
use Rattle.nr_core.specs.declared.calls.Refusal.TheVariants as refuse

-- THE LOOK

module _ (shape : Shape) (words : List ℕ) (roles : List Role) (log : List Entry) (core : Core shape words roles log)
    (id : ℕ) (desk : Desk) (there : get_elem? roles id ≡ some (Writer desk)) (idle : desk.place ≡ Idle) where
  -- what stands after a look that comes to this
  abbrev After : WriterCall → Desk × Step → Type 0
  After call = Comes core id there (key_of call) (call_of call)

  abbrev state : WriterCall → KeyState
  state call = state_of (map_after shape log) (key_of call)

  idle_keeps : (s : ℕ) → keeps s (Writer (moved_to desk Idle)) ≡ keeps s (Writer desk)
  idle_keeps = keeps_moved desk Idle Idle idle (λ _. refl)

  mine : AtDesk shape words (map_after shape log) (held roles) desk
  mine = core.knows id (Writer desk) there

  -- a look that ends the call, at a key in that state
  stops : (call : WriterCall) (y : Reply) (z : KeyState) → state call ≡ z
      → reply_at (bound_of shape) (call_of call) z ≡ y → state_after (bound_of shape) (call_of call) z ≡ z
      → After call (moved_to desk Idle, ended y)
  stops call y z is replies stays = ends core id there (key_of call) (moved_to desk Idle) (call_of call) y
      (rw (key_same call) (rw is replies)) (rw (key_same call) (rw is stays)) idle_keeps (moved_desk mine Idle tt)

  -- a look after which the set is read
  named_slot : (k s number : ℕ) (rows : List Row) → k < shape.keys → name_number (get_or words k 0) ≡ suc s
      → state_of (map_after shape log) k ≡ key.Rows number rows
      → Reads shape words (map_after shape log) (held roles) k s []
  named_slot k s number rows near names full = search arith

  begins : (call : WriterCall) (s number : ℕ) (rows : List Row) → key_of call < shape.keys
      → name_number (get_or words (key_of call) 0) ≡ suc s → state call ≡ key.Rows number rows
      → After call (moved_to desk (Reading call s []), Going)
  begins call s number rows near names full = moves core id there (key_of call) idle (Reading call s []) (λ _. refl)
      (named_slot (key_of call) s number rows near names full)

  -- by the key's state
  abbrev AtState : WriterCall → KeyState → Type 0
  AtState call z =
      state call ≡ z → ShowsState shape words (get_or words (key_of call) 0) z
      → After call (looked shape desk call (get_or words (key_of call) 0))

  look_all : (call : WriterCall) → IsGivenCall (bound_of shape) call → key_of call < shape.keys
      → (z : KeyState) → AtState call z
  look_all (Replace k rows) given near (key.Rows n old) is t =
      rw (names_one (get_or words k 0) t.0 t.1).0 (settles core id there k (Replace k rows) rows idle_keeps
      (search (near, given, not_hole (state (Replace k rows)) n old is, is)))
  look_all (Evict k) given near (key.Rows n rows) is t =
      let named = names_one (get_or words k 0) t.0 t.1 in
      let slot = slot_of (get_or words k 0) in
      rw named.0 (moves core id there k idle (Leaving k) (λ _. refl)
      (slot, named_slot k slot n rows near (t.1 ∙ ap suc (sym named.1)) is))
  look_all (Fill k number rows) given near (key.Hole n) is t =
      let w = get_or words k 0 in let even = t.1 in
      rw (names_none w t.0, ne_eqb (w % 2) 1 (λ z. omega arith))
      (stops (Fill k number rows) reply.NotAsked (key.Hole n) is refl refl)
  look_all (Fill k number rows) given near (key.Asked n) is t =
      let w = get_or words k 0 in let call = Fill k number rows in let c = model.Fill k number rows in
      let so : (b : Bool) → nat_eq (slot_of w) number ≡ b → nat_eq n number ≡ b
      = λ b test. ap (λ (m : ℕ). nat_eq m number) (sym t.2) ∙ test in
      rw (names_none w t.0, eq-eqb (w % 2) 1 t.1)
      (on_test (After call) (nat_eq (slot_of w) number) (λ own. settles core id there k call rows idle_keeps
      (search (near, given, asked_no_hole (state call) n is, is, so true own)))
      (λ other. stops call reply.Stale (key.Asked n) is (rw (so false other) refl) (rw (so false other) refl)))
  look_all (Fill k number rows) given near (key.Rows n old) is t =
      rw (names_one (get_or words k 0) t.0 t.1).0
      (stops (Fill k number rows) reply.Already (key.Rows n old) is refl refl)
  look_all (Cancel k) given near (key.Hole n) is t =
      let w = get_or words k 0 in rw (names_none w t.0, ne_eqb (w % 2) 1 (λ z. omega arith))
      (stops (Cancel k) reply.Nothing (key.Hole n) is refl refl)
  look_all (Cancel k) given near (key.Asked n) is t =
      let w = get_or words k 0 in
      let so : (b : Bool) → nat_lt (slot_of w) last_number ≡ b → nat_lt n last_number ≡ b
      = λ b test. ap (λ (m : ℕ). nat_lt m last_number) (sym t.2) ∙ test in
      rw (names_none w t.0, eq-eqb (w % 2) 1 t.1)
      (on_test (After (Cancel k)) (nat_lt (slot_of w) last_number)
      (λ early. moves core id there k idle (Withdrawing k) (λ _. refl)
      (record { near = near; number = n; asked = is; early = ltb-true n last_number (so true early) }))
      (λ late. stops (Cancel k) reply.Worn (key.Asked n) is (rw (so false late) refl) (rw (so false late) refl)))
  look_all (Cancel k) given near (key.Rows n rows) is t =
      rw (names_one (get_or words k 0) t.0 t.1).0 (stops (Cancel k) reply.Nothing (key.Rows n rows) is refl refl)
  -- a find or an update of a filled key reads its set; a call at any other key ends
  look_all call given near (key.Rows n rows) is t =
      let w = get_or words (key_of call) 0 in
      let named = names_one w t.0 t.1 in
      rw named.0 (begins call (slot_of w) n rows near (t.1 ∙ ap suc (sym named.1)) is)
  look_all call given near z is t = rw (names_none (get_or words _ 0) t.0) (stops call _ z is refl refl)

pub looks : LookLaw
looks shape id desk call idle given near words roles log core there =
    let o = looked shape desk call (get_or words (key_of call) 0) in
    writer_makes o.0 (ending (call_of call) o.1) (look_all shape words roles log core id desk there idle call given near
    (state_of (map_after shape log) (key_of call)) refl (core.shows (key_of call) near))
    (own_ending (call_of call) o.1) (refl, refl)

-- A WORD OF THE SLOT THAT A KEY NAMES

module _ {shape : Shape} {words : List ℕ} {roles : List Role} {log : List Entry} (core : Core shape words roles log)
    (id : ℕ) {desk : Desk} (there : get_elem? roles id ≡ some (Writer desk)) where
  decide_all : (place : ℕ) (call : WriterCall) (rows : List Row) → key_of call < shape.keys → (number : ℕ)
      → state_of (map_after shape log) (key_of call) ≡ key.Rows number rows → IsRowSet (bound_of shape) rows
      → ((u : ℕ) → keeps u (Writer (moved_to desk Idle)) ≡ keeps u (Writer desk))
      → AtDesk shape words (map_after shape log) (held roles) (moved_to desk Idle)
      → Comes core id there place (call_of call) (decided shape desk call rows)
  decide_all place (Find k) rows near number full row_set same idle =
      ends core id there place (moved_to desk Idle) (model.Find k) (reply.Rows rows)
      (ap (reply_at (bound_of shape) (model.Find k)) full) refl same idle
  decide_all place (Update k batch) rows near number full row_set same idle =
      renews (applied (bound_of shape) rows batch) refl
    where
      c : Call
      c = model.Update k batch

      leaves : (a : Result (List Row) ApplyFault) → applied (bound_of shape) rows batch ≡ a
          → state_after (bound_of shape) c (state_of (map_after shape log) k) ≡ key.Rows number (rows_or a rows)
      leaves a is = ap (state_after (bound_of shape) c) full
          ∙ ap (λ (r : Result (List Row) ApplyFault). key.Rows number (rows_or r rows)) is

      renews : (a : Result (List Row) ApplyFault) → applied (bound_of shape) rows batch ≡ a
          → Comes core id there place c (renewed shape desk (Update k batch) a)
      renews (Ok new) is = settles core id there place (Update k batch) new same
          (let moved = batch_moves_rows_lem (bound_of shape) rows new batch row_set.0 is in
          search (near, moved, not_hole (state_of (map_after shape log) k) number rows full, full, is))
      renews (Err f) is =
          ends core id there place (moved_to desk Idle) c (applied_reply (Err f))
          (ap (reply_at (bound_of shape) c) full ∙ ap applied_reply is) (leaves (Err f) is ∙ sym full) same idle
  decide_all place other rows near number full row_set same idle =
      goes_on core id there place (moved_to desk Idle) same idle

  pub reads_on : (call : WriterCall) (slot : ℕ) (got : List ℕ) → Makes core id there (Reading call slot got)
  reads_on call slot got is_at =
      let place : ℕ = content shape slot (length got) in
      let reading = stands_at core id there is_at in
      let got' : List ℕ = got ++ get_or words place 0 ∷ [] in
      let longer = length-got_next shape words roles log core (key_of call) slot got reading in
      let first = read_first shape words roles log core (key_of call) slot got reading in
      let size = length-row_words reading.rows in
      on_test (Comes core id there place (call_of call)) (nat_eq (length got') (2 * get_or got' 0 0 + 1))
      (λ yes. rw (read_whole shape words roles log core (key_of call) slot got reading
      (eqb-true (length got') (2 * get_or got' 0 0 + 1) yes))
      (decide_all place call reading.rows reading.near reading.number reading.full
      (read_set shape words roles log core (key_of call) slot got reading)
      (keeps_moved desk (Reading call slot got) Idle is_at (λ _. refl))
      (moved_desk (core.knows id (Writer desk) there) Idle tt)))
      (λ no.
      let unfinished : length got' ≢ 2 * get_or got' 0 0 + 1 = eqb-false (length got') (2 * get_or got' 0 0 + 1) no in
      let same_len : suc (length got) ≡ length got' = omega (arith, reading.more) in
      let part
      = read_next shape words roles log core (key_of call) slot got reading
      ∙ ap (λ (n : ℕ). take n (encode reading.rows)) same_len in
      let more : length got' ≤ 2 * length reading.rows = omega (arith, reading.more) in
      moves core id there place is_at (Reading call slot got') (λ _. refl) (search (part, more, reading)))

-- The writer's next step from its place, whichever kind it is.

goes_at : {shape : Shape} {words : List ℕ} {roles : List Role} {log : List Entry} (core : Core shape words roles log)
    (id : ℕ) {desk : Desk} (there : get_elem? roles id ≡ some (Writer desk)) (place : Place)
    → if_not_busy place ≡ None → Makes core id there place
goes_at core id there Idle ok is_at = absurd (no_some (Some refuse.NotBusy) refuse.NotBusy refl ok)
goes_at core id there (Reading call slot got) ok is_at = reads_on core id there call slot got is_at
goes_at core id there (Leaving k) ok is_at = unpublishes core id there k is_at
goes_at core id there (Withdrawing k) ok is_at = withdraws core id there k is_at
goes_at core id there (Searching call rows poll) ok is_at = polls core id there call rows poll is_at
goes_at {shape} {words} {roles} {log} core id {desk} there (Putting call rows slot departed index) ok is_at = by_cases
    (λ v.
    let operation
    = cond {A = Operation} v (Store (content shape slot index) (get_or (encode rows) index 0))
    (Swap (key_of call) (naming slot departed)) in
    let after
    = cond {A = Desk × Step} v (moved_to desk (Putting call rows slot departed (index + 1)), Going)
    (swapped desk (get_or words (target_of operation) 0), ended reply.Done) in
    Core shape (operated words operation) (set roles id (Writer after.0)) (log ++ ending (call_of call) after.1))
    (nat_le index (2 * length rows)) (λ yes. puts core id there call rows slot departed index is_at
    (leb-true index (2 * length rows) yes)) (λ no. publishes core id there call rows slot departed index is_at
    (leb-false index (2 * length rows) no))

pub own_ending_at : (place : Place) (step : Step) (caller : ℕ)
    → entries_of (ending_at place step) caller ≡ cond (nat_eq 0 caller) (ending_at place step) []
own_ending_at Idle step caller = none_of (nat_eq 0 caller)
own_ending_at other step caller = own_ending _ step caller

pub goes : GoLaw
goes shape id desk busy words roles log core there =
    let after = went shape desk desk.place (get_or words (target_of (going shape desk desk.place)) 0) in
    writer_makes after.0 (ending_at desk.place after.1) (goes_at core id there desk.place busy refl)
    (own_ending_at desk.place after.1) (refl, refl)
