-- A load that only learns the history so far, and what it tells of the key and of readers.
use Rattle.std.specs.Prelude.{◌≡◌, ℕ, List, [], ◌++◌}
use Rattle.atomic_table.specs.Seated.{TableId}
use Rattle.nr_model.specs.Maps.{state_of}
use Rattle.nr_core.specs.Core.{AreNumbers}
use Rattle.nr_core.specs.Story.{map_after}
use Rattle.nr_core.specs.declared.roles.Role.{Role}
use Rattle.nr_core.specs.declared.roles.Role.TheVariants.{Note, Reader, Writer}
use Rattle.nr_core.specs.Exact.{Lists}
use Rattle.nr_core.specs.Marks.{Past}
use Rattle.nr_core.specs.Pasts.{Compared, Refreshed}
use Rattle.nr_board.specs.Callers.{caller_of}
use Rattle.nr_board.specs.Kinds.{kind_of, kind_shown}
use Rattle.nr_board.specs.Meetings.{Learns}
use Rattle.nr_board.specs.Notes.{told_by_note}
use Rattle.nr_board.specs.Plays.{Then}
use Rattle.nr_board.specs.Rule.{StartsWith}
use Rattle.nr_board.specs.Views.{View}

-- what the token learns: the writer how the readers are that it was told of, and that its lists are those of the
-- history so far; a reader whether it is still as it was told
abbrev pub LearnsOf : Role → View → View → List Past → Type 0
LearnsOf (Writer desk) old new news =
    Refreshed desk.retired old.marks old.told_pasts news × Lists desk old.marks old.shape new.seen
    × AreNumbers old.shape (map_after old.shape new.seen) desk.numbers
LearnsOf (Reader reader grip) old new news = (news ≡ []) × Compared reader grip old.marks old.told_pasts
LearnsOf Note old new news = Unit {0}

-- the history so far begins with all that the token had seen, and with all that a note told it
pub record Learned (at found : ℕ) (old new : View) : Type 0 where
  pub role : new.role ≡ old.role
  pub learns : (id : TableId) → Learns 1 (caller_of id old) (caller_of id new)
  pub told : StartsWith new.seen old.told
  pub state : kind_shown found ≡ kind_of (state_of (map_after new.shape new.seen) at)
  pub news : List Past
  pub pasts : new.pasts ≡ news ++ old.pasts
  pub told_pasts : new.told_pasts ≡ old.told_pasts
  pub says : new.says ≡ old.says
  pub of_readers : LearnsOf old.role old new news

abbrev pub has_learned : Then
has_learned step (before, _) found (after, _) = Learned step.word found before after

-- what a token learnt of readers by a note
abbrev pub HearsOf : View → View → View → Type 0
HearsOf note old new =
    (news : List Past) × (new.pasts ≡ news ++ old.pasts) × LearnsOf old.role (told_by_note old note) new news

-- the step that hears a note learns as a load does that is told what the note tells
abbrev pub has_heard : View → View → View → Type 0
has_heard old note new = (found : ℕ) × Learned 0 found (told_by_note old note) new
