-- Which of the sets that were put stand in slots, and which were let go: given out, by a reap too, or put over by a
-- call that gives none out.
use Rattle.std.specs.Prelude.{◌≡◌, ◌≢◌, ℕ, ◌+◌, ◌<◌, ◌≤◌, nat_lt, if◌then◌else◌, Bool, false, List, [], ◌∷◌, ◌++◌}
use Rattle.std.specs.Prelude.{length, slice_index, take, Some}
use Rattle.nr_core.specs.declared.calls.NoSlot.{NoSlot}
use Rattle.nr_core.specs.declared.places.Retired.{Retired}
use Rattle.nr_core.specs.declared.shape.Shape.{Shape}
use Rattle.nr_model.specs.declared.calls.Call.{Call}
use Rattle.nr_model.specs.declared.calls.Reply.{Reply}
use Rattle.nr_model.specs.Histories.{is_done}
use Rattle.nr_model.specs.declared.rows.Row.{Row}
use Rattle.nr_model.specs.Strays.{count_of_put}
use Rattle.nr_core.specs.Marks.{Past, LoggedLoad, is_reaped}
use Rattle.nr_core.specs.Pasts.{Current, Living}
use Rattle.nr_core.specs.Puts.{put_count}
use Rattle.nr_board.specs.declared.answers.Cancel.{Cancel}
use Rattle.nr_board.specs.declared.answers.Evict.{Evict}
use Rattle.nr_board.specs.Callers.{Caller, Gains, Table}
use Rattle.nr_board.specs.declared.answers.Reaped.TheVariants as reaped
use Rattle.nr_board.specs.Reaping.{ReapsIn, after_polls, ready_to, with_reap}
use Rattle.nr_board.specs.WriterAnswers.{CancelsKey, EvictsKey, HasNoSlot, Publishes, SlotsStay}
use Rattle.nr_map.specs.Opened.{IsOpened}

-- the put numbers of the slots that were not reaped
abbrev pub unreaped : List ℕ → List Bool → List ℕ
unreaped [] flags = []
unreaped (number ∷ puts) [] = number ∷ unreaped puts []
unreaped (number ∷ puts) (flag ∷ flags) = (if flag then unreaped puts flags else number ∷ unreaped puts flags)

-- the put numbers of the sets that stand in slots: one for each slot that was ever taken and not reaped
abbrev pub standing : Caller → List ℕ
standing writer = unreaped (take writer.fresh writer.marks.puts) writer.marks.reaped

-- the put number of the set that stood in a slot, if it was ever taken and not reaped
abbrev pub had_number : Caller → ℕ → List ℕ
had_number writer slot =
    if nat_lt slot writer.fresh then
    (if is_reaped writer.marks slot then [] else slice_index writer.marks.puts slot ∷ []) else
    []

-- each set that the writer put stands in a slot or was let go, and not both, and not twice
pub record Ledger (writer : Caller) (gone : List ℕ) : Type 0 where
  pub slots : (length writer.marks.puts ≡ writer.table.shape.slots) × (writer.fresh ≤ writer.table.shape.slots)
      × (length writer.marks.reaped ≡ writer.table.shape.slots)
  -- only a slot that was taken is named or retired
  pub taken : (slot : ℕ) → Living writer.retired writer.marks slot → slot < writer.fresh
  pub put : (number : ℕ) → number < put_count writer.mine
      → count_of_put (standing writer) number + count_of_put gone number ≡ 1
  pub later : (number : ℕ) → put_count writer.mine ≤ number
      → count_of_put (standing writer) number + count_of_put gone number ≡ 0

-- a call that puts a set lets go of the one that its slot had; that is the set which a reclaiming call gives out
abbrev pub HandedOutOnce : Type 0
HandedOutOnce =
    (steps : ℕ) (call : Call) (rows : List Row) (old new : Caller) (gone : List ℕ) →
    old.number ≡ 0 →
    (published : Publishes steps call rows old new) →
    Ledger old gone →
    Ledger new (gone ++ had_number old published.slot)

-- a reap lets go of the set that it gives out
abbrev pub ReapedOnce : Type 0
ReapedOnce =
    (held later : List Retired) (entry : Retired) (notes : List Past) (steps : ℕ) (scanned : List ℕ)
    (loads : List LoggedLoad) (old new : Caller) (gone : List ℕ)
    →
    ready_to old scanned ≡ held ++ entry ∷ later →
    new ≡ with_reap entry.slot (after_polls notes loads scanned steps old) →
    Ledger old gone →
    Ledger new (gone ++ slice_index old.marks.puts entry.slot ∷ [])

-- a new map has put no set and let go of none
abbrev pub OpeningBegins : Type 0
OpeningBegins =
    (shape : Shape) (words : ℕ) (map : Table) (writer : Caller) (readers : List Caller) →
    IsOpened shape words map writer readers →
    Ledger writer []

-- an eviction leaves it, whatever it answers
abbrev pub EvictionLeaves : Type 0
EvictionLeaves =
    (key : ℕ) (old new : Caller) (answer : Evict) (gone : List ℕ) →
    EvictsKey key old new answer →
    Ledger old gone →
    Ledger new gone

-- so does a cancel
abbrev pub CancelLeaves : Type 0
CancelLeaves =
    (key : ℕ) (old new : Caller) (answer : Cancel) (gone : List ℕ) →
    CancelsKey key old new answer →
    Ledger old gone →
    Ledger new gone

-- and a find of the writer's own, and a call that is refused by its key
abbrev pub QuietLeaves : Type 0
QuietLeaves =
    (steps : ℕ) (call : Call) (answer : Reply) (old new : Caller) (gone : List ℕ) →
    is_done answer ≡ false →
    Gains steps call old new answer →
    SlotsStay old new →
    Ledger old gone →
    Ledger new gone

-- and a call that finds no slot
abbrev pub NoSlotLeaves : Type 0
NoSlotLeaves =
    (steps : ℕ) (call : Call) (counts : NoSlot) (old new : Caller) (gone : List ℕ) →
    HasNoSlot steps call old new counts →
    Ledger old gone →
    Ledger new gone

-- whatever else leaves slots, put numbers and what was reaped leaves it, as a meeting does
abbrev pub LedgerStays : Type 0
LedgerStays =
    (old new : Caller) (gone : List ℕ) →
    new.table ≡ old.table →
    new.fresh ≡ old.fresh →
    new.marks.puts ≡ old.marks.puts →
    new.marks.reaped ≡ old.marks.reaped →
    ((slot : ℕ) → Living new.retired new.marks slot → Living old.retired old.marks slot) →
    put_count new.mine ≡ put_count old.mine →
    Ledger old gone →
    Ledger new gone

-- the set that a reader held, as the writer knows it, stands in a slot that a key names or that is retired, and was not
-- reaped
abbrev pub StandsYet : Caller → Past → Type 0
StandsYet writer reader =
    (slot : ℕ) → reader.slot ≡ Some slot
    → (slice_index writer.marks.puts slot ≡ reader.put) × Living writer.retired writer.marks slot
    × (is_reaped writer.marks slot ≡ false)

-- so it is of a reader that the writer has just gathered
abbrev pub GatheredStands : Type 0
GatheredStands =
    (writer : Caller) (reader : Past) →
    Current writer.retired writer.marks reader →
    StandsYet writer reader

-- and stays over a reap that gives out another set; a reader whose own set comes out has let it go since
abbrev pub StandsAfterReap : {Room : Type 0} → (Room → List Row → Type 0) → Type 0
StandsAfterReap {Room = Room} shows =
    (old new : Caller) (before after : Room) (reader : Past) →
    ((reaps : ReapsIn shows old before new after reaped.Set) → StandsYet old reader
    → reader.slot ≢ Some reaps.entry.slot → StandsYet new reader)
    × (ReapsIn shows old before new after reaped.Held → StandsYet old reader → StandsYet new reader)
    × (ReapsIn shows old before new after reaped.Nothing → StandsYet old reader → StandsYet new reader)

-- such a reader holds no set that was let go
abbrev pub NobodyHoldsIt : Type 0
NobodyHoldsIt =
    (writer : Caller) (gone : List ℕ) (reader : Past) (slot number : ℕ) →
    Ledger writer gone →
    StandsYet writer reader →
    reader.slot ≡ Some slot →
    0 < count_of_put gone number →
    reader.put ≢ number
