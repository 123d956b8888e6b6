-- What the steps of a search in any order tell: it polls retired slots that were heard, scans the readers' words, and
-- is given up where no slot is left.
use Rattle.std.specs.Prelude.{◌≡◌, ℕ, suc, ◌+◌, ◌-◌, ◌<◌, ◌==◌, ◌&&◌, if◌then◌else◌, nat_lt, Bool, true, false, List}
use Rattle.std.specs.Prelude.{[], ◌∷◌, ◌++◌, length, slice_index, Some, None, ◌⊎◌}
use Rattle.nr_model.specs.declared.calls.Reply.TheVariants as reply
use Rattle.nr_model.specs.declared.rows.Row.{Row}
use Rattle.nr_model.specs.Maps.{filled_count, reply_to}
use Rattle.nr_words.specs.KeyWords.{same_count}
use Rattle.nr_core.specs.Roles.{retirements}
use Rattle.nr_core.specs.States.{retired_at}
use Rattle.nr_core.specs.Story.{call_of, map_after}
use Rattle.nr_core.specs.Writer.{moved_to, taking_retired}
use Rattle.nr_core.specs.declared.calls.Step.TheVariants.{Going}
use Rattle.nr_core.specs.declared.calls.WriterCall.{WriterCall}
use Rattle.nr_core.specs.declared.places.Place.TheVariants.{Idle, Searching}
use Rattle.nr_core.specs.declared.roles.Role.TheVariants.{Writer}
use Rattle.nr_core.specs.Slots.{departures}
use Rattle.nr_core.specs.declared.roles.Desk.{Desk}
use Rattle.nr_core.specs.MarkSteps.{TryTells}
use Rattle.nr_core.specs.Marks.{Past, with_scan}
use Rattle.nr_board.specs.Plays.{Leads, NotesTell, Room, Then}
use Rattle.nr_board.specs.Announcing.{says_at}
use Rattle.nr_board.specs.Scans.{heard_before, heard_from}
use Rattle.nr_board.specs.Views.{View}
use Rattle.nr_board.specs.WordLoads.{word_load}

-- the desk after a poll of the retired slot at a place of the list
abbrev pub tried : Desk → WriterCall → List Row → ℕ → ℕ → Desk
tried desk call rows poll found =
    (if same_count found (retired_at desk poll).arrivals then taking_retired desk call rows poll found else desk)

-- the slot is taken, which nobody holds, or a reader that holds it is noted, at no other slot
pub record Tried (desk : Desk) (call : WriterCall) (rows : List Row) (poll found : ℕ) (old new : View) : Type 0 where
  pub leads : Leads (call_of call) (tried desk call rows poll found, Going) old new
  pub notes : NotesTell new.seen old.marks.polls new.marks.polls
  pub marks : TryTells (same_count found (retired_at desk poll).arrivals) old.shape (retired_at desk poll).slot
      old.marks new.marks
  pub heard : new.heard ≡ old.heard

abbrev pub has_tried : Then
has_tried step (before, _) found (after, _) =
    (desk : Desk) (call : WriterCall) (rows : List Row) (poll : ℕ) → before.role ≡ Writer desk
    → desk.place ≡ Searching call rows 0 → Room before.shape desk → poll < length desk.retired
    → step.word ≡ departures before.shape (retired_at desk poll).slot → Tried desk call rows poll found before after

-- the word says a retired slot, of which the readers before this one were heard: this one keeps it from being heard
abbrev pub keeps_unheard : Desk → ℕ → ℕ → List ℕ → Bool
keeps_unheard desk own found heard =
    nat_lt 0 found
    && (nat_lt 0 (retirements (found - 1) desk.retired)
    && (heard_before own (slice_index heard (found - 1)) == own))

-- the reader is noted that keeps a slot so; it holds that slot or none
abbrev pub NotesKeeper : Bool → ℕ → ℕ → List Past → List Past → Type 0
NotesKeeper true own found base now =
    (note : Past) × (now ≡ base ++ note ∷ []) × (note.reader ≡ suc own)
    × ((note.slot ≡ None) ⊎ (note.slot ≡ Some (found - 1)))
NotesKeeper false own found base now = now ≡ base

-- a scan begins anew with no notes, at its first load
abbrev pub scan_base : ℕ → List Past → List Past
scan_base own polls = (if own == 0 then [] else polls)

-- a load of a reader's word by a search
pub record Scanned (desk : Desk) (own found : ℕ) (old new : View) : Type 0 where
  pub same : new
      ≡ record old {
        steps = old.steps + 1;
        marks = with_scan old.marks new.marks.polls (old.marks.loads ++ word_load own found ∷ []);
        heard = heard_from desk own found old.heard 0 old.shape.slots;
      }
  pub keeper : NotesKeeper (keeps_unheard desk own found old.heard) own found (scan_base own old.marks.polls)
      new.marks.polls

-- a search is given up: its call would be done, and each slot is a filled key's or retired
pub record GaveUp (desk : Desk) (call : WriterCall) (old new : View) : Type 0 where
  pub leads : Leads (call_of call) (moved_to desk Idle, Going) old new
  pub would_be_done : reply_to (map_after old.shape new.seen) (call_of call) ≡ reply.Done
  pub slots : filled_count (map_after old.shape new.seen) + length desk.retired ≡ old.shape.slots
  pub marks : new.marks ≡ old.marks
  pub heard : new.heard ≡ old.heard

abbrev pub has_searched : Then
has_searched step (before, _) found (after, _) =
    (desk : Desk) (call : WriterCall) (rows : List Row) (own : ℕ) → before.role ≡ Writer desk
    → desk.place ≡ Searching call rows 0 → own < before.announcers → step.word ≡ says_at before.shape own
    → Scanned desk own found before after

abbrev pub has_given_up : Then
has_given_up step (before, _) found (after, _) =
    (desk : Desk) (call : WriterCall) (rows : List Row) → before.role ≡ Writer desk → desk.place ≡ Searching call rows 0
    → GaveUp desk call before after
