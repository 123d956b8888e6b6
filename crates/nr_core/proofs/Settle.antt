-- The writer's steps that leave all words: the call goes on, takes a slot or has none (settles), ends with a reply
-- (ends), or polls a retired slot, which is taken where nobody holds it (polls). A search may poll any of them, and be
-- given up.
use Rattle.std.proofs.Common.{[], List, ap, append-nil, arith, cond, get_or, length, nat_eq, refl, set, sym, ℕ, ◌++◌}
use Rattle.std.proofs.Common.{◌+◌, ◌<◌, ◌∙◌, ◌≡◌, ◌≤◌, true, ◌%◌, ◌^◌}
use Rattle.std.proofs.lemmas.Bool.{eqb-false, lt-leb, ltb-false, ltb-true, eqb-true}
use Rattle.std.specs.Prelude.{nat_lt}
use lib.ListN.{get_elem?}
use mathlib.Core.Option.{some}
use Rattle.nr_model.specs.Histories.{Entry, entries_of}
use Rattle.nr_model.specs.Maps.{PartialMap, call_key, reply_at, state_after, state_of}
use Rattle.nr_model.specs.declared.calls.Call.{Call}
use Rattle.nr_model.specs.declared.calls.Reply.{Reply}
use Rattle.nr_model.specs.declared.rows.Row.{Row}
use Rattle.nr_core.proofs.Choices.{on_test}
use Rattle.nr_core.proofs.Frames.{unused-free, entry_more, stands_at}
use Rattle.nr_core.proofs.OnKey.{none_of, load_step}
use Rattle.nr_core.proofs.Sums.{only-other, only-same, at_remove, got_at, only-le, total-le, total-remove}
use Rattle.nr_core.specs.Core.{AtDesk, Core, Wants, AtPlace}
use Rattle.nr_core.specs.Roles.{held, keeps, taken, holds, is_reader}
use Rattle.nr_core.specs.Slots.{bound_of, unused, departures}
use Rattle.nr_core.specs.States.{key_of, no_retired, retired_at}
use Rattle.nr_core.specs.Story.{call_of, ending, entry, map_after, ending_at}
use Rattle.nr_core.specs.Sums.{only}
use Rattle.nr_core.specs.Writer.{moved_to, settled, ended, went, taking_retired}
use Rattle.nr_core.specs.declared.calls.Step.{Step}
use Rattle.nr_core.specs.declared.calls.Step.TheVariants.{Ended}
use Rattle.nr_core.specs.declared.calls.WriterCall.{WriterCall}
use Rattle.nr_core.specs.declared.calls.WriterCall.TheVariants.{Find}
use Rattle.nr_core.specs.declared.places.Place.TheVariants.{Idle, Searching}
use Rattle.nr_core.specs.declared.roles.Desk.{Desk}
use Rattle.nr_core.specs.declared.roles.Role.{Role}
use Rattle.nr_core.specs.declared.roles.Role.TheVariants.{Writer, Reader}
use Rattle.nr_core.specs.declared.shape.Shape.{Shape}
use Rattle.nr_core.specs.declared.places.Place.{Place}
use Rattle.nr_core.specs.Operations.{going, target_of, operated}
use Rattle.nr_words.specs.KeyWords.{same_count}
use Rattle.nr_core.proofs.Learn.{nothing}
use Rattle.nr_core.specs.StepLaws.{GiveUpLaw, TryLaw}
use Rattle.nr_core.specs.declared.places.Retired.{Retired}
use Rattle.nr_core.specs.declared.roles.Grip.TheVariants.{On}
use Rattle.nr_core.proofs.Stepping.{writer_makes}
use Rattle.nr_core.specs.declared.calls.WReply.TheVariants as writer

-- 1 of a slot that was never taken, and what a taking leaves
unused-next : (s f : ℕ) → unused s (f + 1) + only s f ≡ unused s f
unused-next s f = search (arith, unused-free, only-other, lt-leb, only-same)

pub key_same : (call : WriterCall) → call_key (call_of call) ≡ key_of call
key_same (Find k) = refl
key_same other = refl

pub own_ending : (call : Call) (s : Step) (b : ℕ) → entries_of (ending call s) b ≡ cond (nat_eq 0 b) (ending call s) []
own_ending call (Ended (writer.Reply y)) b = refl
own_ending call other b = none_of (nat_eq 0 b)

-- the desk at another stage, where the writer knows what it should there, and keeps the same slots
pub moved_desk : {shape : Shape} {words : List ℕ} {map : PartialMap} {hold : ℕ → ℕ} {desk : Desk}
    → AtDesk shape words map hold desk → (place : Place) → AtPlace shape words map hold desk.fresh desk.retired place
    → AtDesk shape words map hold (moved_to desk place)
moved_desk t place at = record { place = at; room = t.room; free = t.free; retired = t.retired; numbers = t.numbers }

pub keeps_moved : (desk : Desk) (from to : Place) → desk.place ≡ from → ((s : ℕ) → taken s to ≡ taken s from) → (s : ℕ)
    → keeps s (Writer (moved_to desk to)) ≡ keeps s (Writer desk)
keeps_moved desk from to is same s = let here = ap (taken s) is in let there = same s in omega arith

module _ (shape : Shape) (words : List ℕ) (map : PartialMap) (hold : ℕ → ℕ) (desk : Desk) (call : WriterCall)
    (rows : List Row) where
  settle_desk : AtDesk shape words map hold (moved_to desk Idle) → Wants shape words map hold call rows
      → AtDesk shape words map hold (settled shape desk call rows).0
  settle_desk t wants =
      on_test (λ (o : Desk × Step). AtDesk shape words map hold o.0) (nat_lt desk.fresh shape.slots)
      (λ yes.
      let l : desk.fresh < shape.slots = ltb-true desk.fresh shape.slots yes in
      let f = t.free desk.fresh (omega arith) l in
      search (arith, wants, l, f, t.free, t))
      (λ no. let full : shape.slots ≤ desk.fresh = ltb-false desk.fresh shape.slots no in
      on_test (λ (o : Desk × Step). AtDesk shape words map hold o.0) (nat_eq (length desk.retired) 0) (λ _. t)
      (λ some_there.
      moved_desk t (Searching call rows 0) (wants, omega (arith, eqb-false (length desk.retired) 0 some_there), full)))

  settle_keeps : (s : ℕ) → keeps s (Writer (settled shape desk call rows).0) ≡ keeps s (Writer (moved_to desk Idle))
  settle_keeps s = search (arith, on_test, unused-next)

  settle_quiet : (c : Call) → ending c (settled shape desk call rows).1 ≡ []
  settle_quiet c = search (arith, on_test)

module _ {shape : Shape} {words : List ℕ} {roles : List Role} {log : List Entry} (core : Core shape words roles log)
    (id : ℕ) {desk : Desk} (there : get_elem? roles id ≡ some (Writer desk)) where
  -- the core stands after a load of the word at a place, after which the call comes to that outcome
  abbrev pub Comes : ℕ → Call → Desk × Step → Type 0
  Comes place c outcome =
      Core shape (set words place (get_or words place 0)) (set roles id (Writer outcome.0)) (log ++ ending c outcome.1)

  -- the writer's step from a place is made
  abbrev pub Makes : Place → Type 0
  Makes place =
      desk.place ≡ place →
      let after = went shape desk place (get_or words (target_of (going shape desk place)) 0) in
      Core shape (operated words (going shape desk place)) (set roles id (Writer after.0))
      (log ++ ending_at place after.1)

  module _ (place : ℕ) where
    -- a step on a word that stays, which ends the call with a reply and changes no state
    pub ends : (desk' : Desk) (c : Call) (y : Reply)
        → reply_at (bound_of shape) c (state_of (map_after shape log) (call_key c)) ≡ y
        → state_after (bound_of shape) c (state_of (map_after shape log) (call_key c))
        ≡ state_of (map_after shape log) (call_key c)
        → ((s : ℕ) → keeps s (Writer desk') ≡ keeps s (Writer desk))
        → AtDesk shape words (map_after shape log) (held roles) desk' → Comes place c (desk', ended y)
    ends desk' c y replies stays same own =
        entry_more (load_step core id (Writer desk') place there refl refl (λ _. refl) same own) (entry 0 c y)
        (sym replies) stays

    -- a step on a word that stays, after which the call goes on or has no slot
    pub goes_on : (desk' : Desk) → ((s : ℕ) → keeps s (Writer desk') ≡ keeps s (Writer desk))
        → AtDesk shape words (map_after shape log) (held roles) desk'
        → Core shape (set words place (get_or words place 0)) (set roles id (Writer desk')) (log ++ [])
    goes_on desk' same own =
        rw (append-nil log) (load_step core id (Writer desk') place there refl refl (λ _. refl) same own)

    -- the call is at another stage, which keeps the same slots
    pub moves : {from : Place} → desk.place ≡ from → (to : Place) → ((s : ℕ) → taken s to ≡ taken s from)
        → AtPlace shape words (map_after shape log) (held roles) desk.fresh desk.retired to
        → Core shape (set words place (get_or words place 0)) (set roles id (Writer (moved_to desk to))) (log ++ [])
    moves {from} is to same at = goes_on (moved_to desk to) (keeps_moved desk from to is same)
        (moved_desk (core.knows id (Writer desk) there) to at)

    -- a call that finds a slot for its set, or polls, or has none
    pub settles : (call : WriterCall) (rows : List Row)
        → ((s : ℕ) → keeps s (Writer (moved_to desk Idle)) ≡ keeps s (Writer desk))
        → Wants shape words (map_after shape log) (held roles) call rows
        → Comes place (call_of call) (settled shape desk call rows)
    settles call rows same wants =
        rw (settle_quiet shape words (map_after shape log) (held roles) desk call rows (call_of call))
        (goes_on (settled shape desk call rows).0
        (λ s. settle_keeps shape words (map_after shape log) (held roles) desk call rows s ∙ same s)
        (settle_desk shape words (map_after shape log) (held roles) desk call rows
        (moved_desk (core.knows id (Writer desk) there) Idle tt) wants))

-- A poll of a retired slot: the slot is taken where nobody holds it, else the call polls the next, or ends with no
-- slot. A search may poll any of them, and be given up.

holds-le : (s : ℕ) (r : Role) → holds s r ≤ is_reader r
holds-le s (Reader r (On t m b)) = only-le s t
holds-le s other = omega arith

-- nobody holds a slot whose departures are its arrivals
pub nobody_holds : {shape : Shape} {words : List ℕ} {roles : List Role} {log : List Entry}
    → Core shape words roles log → (slot found arrivals : ℕ)
    → arrivals % 2 ^ 40 ≡ (found + held roles slot) % 2 ^ 40 → same_count found arrivals ≡ true → held roles slot ≡ 0
nobody_holds {roles = roles} core slot found arrivals count agrees = search (arith, eqb-true, total-le, holds-le)

-- where its departures are its arrivals nobody holds a retired slot, and the search may take it
takes : {shape : Shape} {words : List ℕ} {roles : List Role} {log : List Entry} (core : Core shape words roles log)
    (id : ℕ) {desk : Desk}
    → get_elem? roles id ≡ some (Writer desk) → (call : WriterCall) (rows : List Row) (at poll : ℕ)
    → desk.place ≡ Searching call rows at → poll < length desk.retired
    → let entry = retired_at desk poll in
    let place = departures shape entry.slot in
    let found = get_or words place 0 in
    same_count found entry.arrivals ≡ true
    → Core shape (set words place found) (set roles id (Writer (taking_retired desk call rows poll found))) (log ++ [])
takes {shape} {words} {roles} {log} core id {desk} there call rows at poll is_at low agrees =
    let known = core.knows id (Writer desk) there in
    let z : Retired = retired_at desk poll in
    let slot : ℕ = z.slot in
    let place : ℕ = departures shape slot in
    let found : ℕ = get_or words place 0 in
    let at_p = stands_at core id there is_at in
    let here : get_elem? desk.retired poll ≡ some z = got_at desk.retired poll no_retired low in
    let counted = known.retired poll z here in
    goes_on core id there place (taking_retired desk call rows poll found) (λ u.
    omega (arith, total-remove (λ (y : Retired). only u y.slot) desk.retired poll z here, ap (taken u) is_at))
    (record {
      place = search (arith, at_p, counted, nobody_holds core slot found z.arrivals counted.1 agrees);
      room = known.room;
      free = known.free;
      retired = λ j x e. let y = at_remove desk.retired poll j x e in known.retired y.0 x y.1;
      numbers = known.numbers;
    })

pub polls : {shape : Shape} {words : List ℕ} {roles : List Role} {log : List Entry} (core : Core shape words roles log)
    (id : ℕ) {desk : Desk} (there : get_elem? roles id ≡ some (Writer desk)) (call : WriterCall) (rows : List Row)
    (poll : ℕ) → Makes core id there (Searching call rows poll)
polls {shape} {words} core id {desk} there call rows poll is_at =
    let z : Retired = retired_at desk poll in
    let place : ℕ = departures shape z.slot in
    let found : ℕ = get_or words place 0 in
    let at_p = stands_at core id there is_at in
    on_test (Comes core id there place (call_of call)) (nat_eq (found % 2 ^ 40) (z.arrivals % 2 ^ 40))
    (λ yes. takes core id there call rows poll poll is_at at_p.1 yes)
    (λ _. on_test (Comes core id there place (call_of call)) (nat_lt (poll + 1) (length desk.retired))
    (λ more. moves core id there place is_at (Searching call rows (poll + 1)) (λ _. refl)
    (at_p.0, ltb-true (poll + 1) (length desk.retired) more, at_p.2))
    (λ none. moves core id there place is_at Idle (λ _. refl) tt))

-- a search polls any retired slot
pub tries : TryLaw
tries shape id desk call rows at poll is_at low words roles log core there =
    let entry = retired_at desk poll in
    let place : ℕ = departures shape entry.slot in
    let found : ℕ = get_or words place 0 in
    let taken_it = taking_retired desk call rows poll found in
    writer_makes (cond {A = Desk} (same_count found entry.arrivals) taken_it desk) []
    (on_test (λ (d : Desk). Core shape (set words place found) (set roles id (Writer d)) (log ++ []))
    (same_count found entry.arrivals) (λ agrees. takes core id there call rows at poll is_at low agrees)
    (λ _. rw (append-nil log) (nothing id place core there))) (λ caller. none_of (nat_eq 0 caller)) (refl, refl)

-- or is given up
pub gives_up : GiveUpLaw
gives_up shape id desk call rows at place is_at words roles log core there =
    writer_makes (moved_to desk Idle) [] (moves core id there place is_at Idle (λ _. refl) tt)
    (λ caller. none_of (nat_eq 0 caller)) (refl, refl)
