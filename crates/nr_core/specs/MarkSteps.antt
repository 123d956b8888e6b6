-- What each kind of step tells of the marks.
use Rattle.std.specs.Prelude.{◌≡◌, ◌≢◌, ℕ, suc, ◌+◌, ◌<◌, ◌≤◌, List, [], ◌∷◌, ◌++◌, length, slice_index, ◌*◌, nat_le}
use Rattle.std.specs.Prelude.{Bool, true, false, if◌then◌else◌, Some}
use mathlib.Core.Option.{some}
use lib.ListN.{get_elem?}
use Rattle.nr_model.specs.Histories.{Entry}
use Rattle.nr_model.specs.declared.rows.Row.{Row}
use Rattle.nr_core.specs.declared.shape.Shape.{Shape}
use Rattle.nr_core.specs.declared.calls.WriterCall.{WriterCall}
use Rattle.nr_core.specs.declared.roles.Grip.{Grip}
use Rattle.nr_core.specs.declared.roles.Desk.{Desk}
use Rattle.nr_core.specs.declared.places.Place.{Place}
use Rattle.nr_core.specs.declared.places.Retired.{Retired}
use Rattle.nr_core.specs.declared.places.Place.TheVariants.{Reading, Leaving, Searching, Putting}
use Rattle.nr_core.specs.declared.calls.NoSlot.{NoSlot}
use Rattle.nr_core.specs.declared.calls.Step.{Step}
use Rattle.nr_core.specs.declared.calls.Step.TheVariants.{Ended}
use Rattle.nr_words.specs.KeyWords.{is_filled, same_count}
use Rattle.nr_core.specs.Slots.{name_number, names_slot}
use Rattle.nr_core.specs.States.{retired_at, key_of}
use Rattle.nr_core.specs.Writer.{looked, read_on, step_in}
use Rattle.nr_core.specs.Puts.{put_count, put_number}
use Rattle.nr_core.specs.Marks.{Past, Marks, acted, with_look, with_poll, with_polls, with_name, with_reaped}
use Rattle.nr_core.specs.Marks.{without_name}
use Rattle.nr_core.specs.PollNotes.{NoRoom, Missed}
use Rattle.nr_core.specs.Pasts.{Refreshed, Compared}
use Rattle.nr_core.specs.Marked.{MarkTelling}
use Rattle.nr_core.specs.Exact.{Lists}
use Rattle.nr_core.specs.declared.calls.WReply.TheVariants as writer

-- the step ends the call with no slot
abbrev pub IsNoSlot : Step → Type 0
IsNoSlot step = (counts : NoSlot) × (step ≡ Ended (writer.NoSlot counts))

-- a request, a read of a hold, a put and a withdrawal leave the marks
abbrev pub KeepsMarks : Marks → MarkTelling
KeepsMarks marks word after log now news = (now ≡ marks) × (news ≡ [])

-- an arrive's hold has the key's put number
abbrev pub ArrivesMarks : Marks → ℕ → MarkTelling
ArrivesMarks marks at word after log now news = (now ≡ acted marks (put_number log at)) × (news ≡ [])

-- a look-up that finds a hole is one act; one that finds a slot named is none yet
abbrev pub LooksUpMarks : Marks → ℕ → MarkTelling
LooksUpMarks marks at word after log now news =
    (now
    ≡ (if is_filled word then with_look marks at (name_number word) else acted
    (with_look marks at (name_number word)) (put_number log at)))
    × (news ≡ [])

-- a hold of the slot that a look at the key named
abbrev pub HoldsNamedMarks : Marks → ℕ → ℕ → MarkTelling
HoldsNamedMarks marks at slot word after log now news =
    (now ≡ acted (with_look marks at (suc slot)) (put_number log at)) × (news ≡ [])

-- a find by a reader that holds the set counts as a departure and an arrive at the same slot
abbrev pub found_again : Bool → Marks → Marks
found_again true marks = acted (acted marks marks.put) marks.put
found_again false marks = marks

-- where the word names the slot that is held, the key's put number is still the hold's; where it names another, it is
-- another
abbrev pub ComparesPuts : Bool → ℕ → ℕ → ℕ → Type 0
ComparesPuts true word put number = number ≡ put
ComparesPuts false word put number = 0 < name_number word → number ≢ put

abbrev pub FindsAgainMarks : Marks → ℕ → ℕ → MarkTelling
FindsAgainMarks marks slot at word after log now news =
    (now ≡ found_again (names_slot slot word) (with_look marks at (name_number word))) × (news ≡ [])
    × ComparesPuts (names_slot slot word) word marks.put (put_number log at)

abbrev pub DepartsMarks : Marks → MarkTelling
DepartsMarks marks word after log now news = (now ≡ acted marks marks.put) × (news ≡ [])

-- a look begins the list of polls anew
abbrev pub LooksMarks : Shape → Marks → Desk → WriterCall → MarkTelling
LooksMarks shape marks desk call word after log now news =
    (now ≡ with_polls marks []) × (news ≡ [])
    × (IsNoSlot (step_in (looked shape desk call word)) → NoRoom shape call desk.retired [] log)

abbrev pub ReadsOnMarks : Shape → Marks → Desk → WriterCall → ℕ → List ℕ → MarkTelling
ReadsOnMarks shape marks desk call slot got word after log now news =
    (now ≡ marks) × (news ≡ [])
    × (IsNoSlot (step_in (read_on shape desk call slot (got ++ word ∷ []))) → NoRoom shape call desk.retired [] log)

-- a poll that finds its slot held notes a reader that holds it, and the last such one leaves no room
abbrev pub PollTells : Bool → Shape → List Past → Desk → WriterCall → ℕ → List Entry → Marks → Marks → Type 0
PollTells true shape known desk call poll log marks now = now ≡ with_poll marks (retired_at desk poll).slot true
PollTells false shape known desk call poll log marks now =
    (now ≡ with_polls (with_poll marks (retired_at desk poll).slot false) now.polls)
    × Missed shape known marks.polls (retired_at desk poll).slot now.polls
    × (length desk.retired ≤ poll + 1 → NoRoom shape call desk.retired now.polls log)

abbrev pub PollsMarks : Shape → Marks → List Past → Desk → WriterCall → ℕ → MarkTelling
PollsMarks shape marks known desk call poll word after log now news =
    (news ≡ []) × PollTells (same_count word (retired_at desk poll).arrivals) shape known desk call poll log marks now

-- a publish gives the slot the next put number, and the set
abbrev pub PublishesMarks : Marks → ℕ → ℕ → List Row → MarkTelling
PublishesMarks marks at slot rows word after log now news =
    (number : ℕ) × (put_count log ≡ suc number) × (slice_index now.puts slot ≡ number)
    × (now ≡ with_name marks at slot number rows) × (news ≡ [])

-- a put, or after the last put the publish
abbrev pub PutsMarks : Bool → Marks → ℕ → ℕ → List Row → MarkTelling
PutsMarks true marks at slot rows = KeepsMarks marks
PutsMarks false marks at slot rows = PublishesMarks marks at slot rows

abbrev pub UnpublishesMarks : Marks → ℕ → MarkTelling
UnpublishesMarks marks at word after log now news = (now ≡ without_name marks at) × (news ≡ [])

-- the writer's later steps, by its stage
abbrev pub went_marks : Shape → Marks → List Past → Desk → Place → MarkTelling
went_marks shape marks known desk (Reading call slot got) = ReadsOnMarks shape marks desk call slot got
went_marks shape marks known desk (Leaving at) = UnpublishesMarks marks at
went_marks shape marks known desk (Searching call rows poll) = PollsMarks shape marks known desk call poll
went_marks shape marks known desk (Putting call rows slot departed index) =
    PutsMarks (nat_le index (2 * length rows)) marks (key_of call) slot rows
went_marks shape marks known desk other = KeepsMarks marks

abbrev pub GoesMarks : Shape → Marks → List Past → Desk → MarkTelling
GoesMarks shape marks known desk = went_marks shape marks known desk desk.place

-- a poll is of the slot behind those that were noted
abbrev pub PollsNext : Place → Marks → Type 0
PollsNext (Searching call rows poll) marks = length marks.polls ≡ poll
PollsNext other marks = Unit {0}

-- the reader was noted at no other slot
abbrev pub NotedNowhereElse : List Past → Past → Type 0
NotedNowhereElse polls note =
    (at : ℕ) (poll : Past) → get_elem? polls at ≡ some poll → poll.reader ≡ note.reader → poll.slot ≡ note.slot

-- a poll by a reap: where no reader holds the slot its set is reaped; else a reader that holds it is noted
abbrev pub ProbeTells : Bool → Shape → ℕ → Marks → Marks → Type 0
ProbeTells true shape slot marks now = now ≡ with_reaped (with_poll marks slot true) slot
ProbeTells false shape slot marks now =
    (note : Past) × (now ≡ with_polls (with_poll marks slot false) (marks.polls ++ note ∷ [])) × (note.slot ≡ Some slot)
    × (0 < note.reader) × (note.reader ≤ shape.readers) × NotedNowhereElse marks.polls note

abbrev pub ProbesMarks : Shape → Marks → Retired → MarkTelling
ProbesMarks shape marks entry word after log now news =
    (news ≡ []) × ProbeTells (same_count word entry.arrivals) shape entry.slot marks now

-- a poll of any retired slot by a search: a slot that no reader holds is taken; else a reader that holds it is noted
abbrev pub TryTells : Bool → Shape → ℕ → Marks → Marks → Type 0
TryTells true shape slot marks now = now ≡ with_poll marks slot true
TryTells false shape slot marks now = ProbeTells false shape slot marks now

abbrev pub TriesMarks : Shape → Marks → Desk → ℕ → MarkTelling
TriesMarks shape marks desk poll word after log now news =
    (news ≡ []) × TryTells (same_count word (retired_at desk poll).arrivals) shape (retired_at desk poll).slot marks now

-- the writer learns how the readers are that it was told of, and what its lists say of the history so far
abbrev pub WriterLearns : Shape → Marks → Desk → List Past → MarkTelling
WriterLearns shape marks desk told word after log now news =
    (now ≡ marks) × Refreshed desk.retired marks told news × Lists desk marks shape log

-- a reader compares itself with what it was told of itself
abbrev pub ReaderLearns : ℕ → Grip → Marks → List Past → MarkTelling
ReaderLearns reader grip marks told word after log now news =
    (now ≡ marks) × (news ≡ []) × Compared reader grip marks told
