-- The room at the writer's desk: in every core state its slots are the map's, and one can be retired where its call
-- will. And a call that ends with no slot: it would be done, each slot is a filled key's or retired, and different
-- readers held the retired ones.
use Rattle.std.proofs.Common.{◌≡◌, ℕ, ◌*◌, ◌≤◌, List, length, get_or, refl, sym, ap, ◌∙◌, subst, arith}
use Rattle.std.specs.Prelude.{nat_le}
use mathlib.Core.Option.{some}
use lib.ListN.{get_elem?}
use Rattle.atomic_table.specs.Seated.{TableId}
use Rattle.nr_model.specs.Histories.{Entry}
use Rattle.nr_model.specs.Maps.{number_of, reply_at, reply_to, state_of}
use Rattle.nr_model.specs.declared.calls.Call.{Call}
use Rattle.nr_model.specs.declared.calls.Reply.TheVariants as reply
use Rattle.nr_core.proofs.Choices.{on_test}
use Rattle.nr_core.proofs.Counting.{few_retired, fewer_retired, named_inside, names_it, retired_apart}
use Rattle.nr_core.proofs.Histories.{replies_so}
use Rattle.nr_core.proofs.Numbers.{number_within}
use Rattle.nr_core.proofs.ReadThrough.{read_set}
use Rattle.nr_core.proofs.Settle.{key_same}
use Rattle.nr_core.proofs.Sums.{only-same}
use Rattle.nr_core.proofs.Without.{IsWithout, NoneLeft, look_none, not_going, not_reply, polled_none, read_none}
use Rattle.nr_core.specs.Core.{AtDesk, AtPlace, Core}
use Rattle.nr_core.specs.MarkSteps.{LooksMarks, went_marks}
use Rattle.nr_core.specs.Marked.{Sweeping}
use Rattle.nr_core.specs.Marks.{Marks, Past}
use Rattle.nr_core.specs.Operations.{going, target_of}
use Rattle.nr_core.specs.PollNotes.{AllHeld, NoRoom}
use Rattle.nr_core.specs.Roles.{held, taken}
use Rattle.nr_core.specs.Slots.{bound_of}
use Rattle.nr_core.specs.States.{key_of}
use Rattle.nr_core.specs.Story.{call_of, map_after}
use Rattle.nr_core.specs.Sums.{only}
use Rattle.nr_core.specs.Writer.{looked, moved_to, went}
use Rattle.nr_core.specs.declared.calls.NoSlot.{NoSlot}
use Rattle.nr_core.specs.declared.calls.Step.{Step}
use Rattle.nr_core.specs.declared.calls.WriterCall.{WriterCall}
use Rattle.nr_core.specs.declared.places.Place.{Place}
use Rattle.nr_core.specs.declared.places.Place.TheVariants.{Idle, Leaving, Putting, Reading, Searching, Withdrawing}
use Rattle.nr_core.specs.declared.places.Retired.{Retired}
use Rattle.nr_core.specs.declared.roles.Desk.{Desk}
use Rattle.nr_core.specs.declared.roles.Role.{Role}
use Rattle.nr_core.specs.declared.roles.Role.TheVariants.{Writer}
use Rattle.nr_core.specs.declared.shape.Shape.{Shape}
use Rattle.nr_board.specs.Callers.{caller_of}
use Rattle.nr_board.specs.Plays.{Lacks, Room, RoomAt, call_at}
use Rattle.nr_board.specs.Rule.{marks_of, role_of}
use Rattle.nr_board.specs.Views.{View, desk_of}

-- what an outcome without a slot says of the desk before its step, and of the map, the history and the polls after it
pub record Shortage (shape : Shape) (desk : Desk) (call : Call) (outcome : Desk × Step) (counts : NoSlot)
    (polls : List Past) (log : List Entry) : Type 0 where
  pub none : NoneLeft shape desk outcome counts
  pub full : shape.slots ≤ desk.fresh
  pub writer_call : WriterCall
  pub is : call ≡ call_of writer_call
  pub room : NoRoom shape writer_call desk.retired polls log

-- the reply by the state of the call's key
pub replies : (shape : Shape) (log : List Entry) (call : WriterCall)
    → reply_at (bound_of shape) (call_of call) (state_of (map_after shape log) (key_of call)) ≡ reply.Done
    → reply_to (map_after shape log) (call_of call) ≡ reply.Done
replies shape log call is =
    replies_so shape log (call_of call)
    ∙ ap (λ (k : ℕ). reply_at (bound_of shape) (call_of call) (state_of (map_after shape log) k)) (key_same call)
    ∙ is

pub look_short : (shape : Shape) (marks : Marks) (desk : Desk) (call : WriterCall) (word : ℕ) (after : Role)
    (log : List Entry) (now : Marks) (news : List Past) (counts : NoSlot)
    → LooksMarks shape marks desk call word after log now news
    → let outcome = looked shape desk call word in
    IsWithout counts outcome → Shortage shape desk (call_of call) outcome counts now.polls log
look_short shape marks desk call word after log now news counts told without =
    let left = look_none shape desk counts call word without in record {
      none = left.0;
      full = left.1;
      writer_call = call;
      is = refl;
      room = rw told.0 (told.2 (counts, without));
    }

module _ (shape : Shape) (words : List ℕ) (roles : List Role) (log : List Entry) (core : Core shape words roles log)
    (id : ℕ) (desk : Desk) (there : get_elem? roles id ≡ some (Writer desk)) where
  mine : AtDesk shape words (map_after shape log) (held roles) desk
  mine = core.knows id (Writer desk) there

  abbrev StandsAt : Place → Type 0
  StandsAt = AtPlace shape words (map_after shape log) (held roles) desk.fresh desk.retired

  place_room : (place : Place) → desk.place ≡ place → StandsAt place → RoomAt shape desk place
  place_room Idle is stands = tt
  place_room (Reading call slot got) is stands = (
    named_inside shape words roles log core (key_of call) slot stands.near stands.names,
    (let few = (read_set shape words roles log core (key_of call) slot got stands).1 in
        let more = stands.more in
        omega arith),
  )
  place_room (Leaving key) is stands = (
    stands.1.near,
    fewer_retired shape words roles log core id desk there stands.0
        (named_inside shape words roles log core key stands.0 stands.1.near stands.1.names)
        (let named = names_it shape words roles log core key stands.0 stands.1.near stands.1.names in omega arith),
    number_within shape log desk.numbers core.fits core.legal mine.numbers key stands.1.near,
  )
  place_room (Withdrawing key) is stands = (
    stands.near,
    (let early = stands.early in
        let listed = mine.numbers.agree key stands.near ∙ ap number_of stands.asked in
        omega arith),
  )
  place_room (Searching call rows poll) is stands = stands.1
  place_room (Putting call rows slot departed index) is stands = (
    stands.inside,
    stands.wants.row_set,
    fewer_retired shape words roles log core id desk there slot stands.inside
        (let one = only-same slot in
        let mine_taken : taken slot desk.place ≡ only slot slot = ap (taken slot) is in
        omega arith),
  )

  pub room_at : Room shape desk
  room_at = record {
    place = place_room desk.place refl mine.place;
    few = few_retired shape words roles log core id desk there;
    inside = λ at entry is. (mine.retired at entry is).0;
    apart = retired_apart shape words roles log core id desk there;
  }

  module _ (marks : Marks) (known : List Past) (after : Role) (then : List Entry) (now : Marks) (news : List Past)
      (views : List View) (counts : NoSlot) where
    pub go_short : (place : Place) → StandsAt place → Sweeping role_of marks_of views desk marks.polls place
        → let word = get_or words (target_of (going shape desk place)) 0 in let outcome = went shape desk place word in
        went_marks shape marks known desk place word after then now news → IsWithout counts outcome
        → Shortage shape desk (call_at place) outcome counts now.polls then
    go_short (Reading call slot got) reads none told without =
        let left = read_none core desk counts call slot got reads without in record {
          none = left.0;
          full = left.1;
          writer_call = call;
          is = refl;
          room = rw (told.0, none) (told.2 (counts, without));
        }
    go_short (Searching call rows poll) stands sweep told without =
        let word : ℕ = get_or words (target_of (going shape desk (Searching call rows poll))) 0 in
        let left = polled_none shape desk counts call rows poll word without in record {
          none = left.0;
          full = stands.2;
          writer_call = call;
          is = refl;
          room = (rw left.2 at told.1).2 left.1;
        }
    go_short (Putting call rows slot departed index) stands sweep told without =
        let found : ℕ = get_or words (target_of (going shape desk (Putting call rows slot departed index))) 0 in
        on_test (λ (o : Desk × Step). IsWithout counts o → Shortage shape desk (call_of call) o counts now.polls then)
        (nat_le index (2 * length rows)) (λ _ e. absurd (not_going counts e))
        (λ _ e. absurd (not_reply counts reply.Done e)) without
    go_short Idle stands sweep told without = absurd (not_going counts without)
    go_short (Leaving key) stands sweep told without = absurd (not_reply counts reply.Evicted without)
    go_short (Withdrawing key) stands sweep told without = absurd (not_reply counts reply.Cancelled without)

-- what the writer's view shows after such a step
pub lacks_so : {shape : Shape} {desk : Desk} {call : Call} {outcome : Desk × Step} {counts : NoSlot} (view : View)
    → Shortage shape desk call outcome counts view.marks.polls view.seen → view.shape ≡ shape
    → view.role ≡ Writer outcome.0 → (table : TableId) → Lacks call counts (caller_of table view)
lacks_so {shape} {desk} {call} {outcome} {counts} view shortage sized role table =
    let short = subst (λ (s : Shape). NoRoom s shortage.writer_call desk.retired view.marks.polls view.seen) (sym sized)
    shortage.room in
    let same : desk_of view.role ≡ moved_to desk Idle = ap desk_of role ∙ shortage.none.same in
    let retired : (desk_of view.role).retired ≡ desk.retired = ap (λ (d : Desk). d.retired) same in
    let fresh = ap (λ (d : Desk). d.fresh) same in
    let slots = ap (λ (s : Shape). s.slots) sized in
    let count = ap (λ (l : List Retired). length l) retired in
    let live = ap (λ (n : NoSlot). n.live) shortage.none.counted in
    let held_is = ap (λ (n : NoSlot). n.held) shortage.none.counted in
    let full = shortage.full in
    let sum = short.slots in
    let polled : AllHeld (desk_of view.role).retired view.marks.polls = rw retired short.held in
    record {
      would_be_done = rw shortage.is short.done;
      live = omega arith;
      held = omega arith;
      all = omega arith;
      full = omega arith;
      apart = rw retired short.apart;
      many = polled.many;
      others = polled.different;
      few = short.few;
      polled = λ _. polled;
    }
