-- The exact place of a no-slot, for a caller that has all tokens in one hand and gathers every reader after each call
-- of the writer.
use Rattle.std.specs.Prelude.{◌≡◌, ℕ, ◌<◌, List}
use Rattle.nr_model.specs.declared.calls.Call.{Call}
use Rattle.nr_model.specs.declared.rows.Row.{Row}
use Rattle.nr_core.specs.declared.calls.NoSlot.{NoSlot}
use Rattle.nr_core.specs.Exact.{Lists}
use Rattle.nr_core.specs.MarkLaws.{slots_in_use}
use Rattle.nr_core.specs.Marks.{Past}
use Rattle.nr_core.specs.Pasts.{AllCurrent, AllKnown, AllReaders}
use Rattle.nr_board.specs.WriterAnswers.{HasNoSlot, Publishes}
use Rattle.nr_board.specs.Callers.{Caller}
use Rattle.nr_board.specs.Meetings.{desk_seen}

-- the writer has made no call since then
pub record OnlyLearnt (old new : Caller) : Type 0 where
  pub table : new.table ≡ old.table
  pub fresh : new.fresh ≡ old.fresh
  pub retired : new.retired ≡ old.retired
  pub numbers : new.numbers ≡ old.numbers
  pub marks : new.marks ≡ old.marks

-- the writer's lists are those of the history that it knows, and it has compared each reader with them
pub record HasGathered (writer : Caller) (readers : List Past) : Type 0 where
  pub lists : Lists (desk_seen writer) writer.marks writer.table.shape writer.seen
  pub current : AllCurrent writer.retired writer.marks readers

-- the filled keys, and the different put numbers that are pinned and that no key has
abbrev pub in_use : Caller → List Past → ℕ
in_use writer readers = slots_in_use writer.table.shape writer.seen readers

-- No reader has a word. The writer knew how all readers are, its call found no slot, and it gathered them again,
-- unchanged: all slots are in use.
abbrev pub NoSlotMeansAllInUse : Type 0
NoSlotMeansAllInUse =
    (steps : ℕ) (call : Call) (counts : NoSlot) (old new after : Caller) (readers : List Past) →
    AllReaders old.table.shape.readers readers →
    AllKnown old.pasts readers →
    old.table.announcers ≡ 0 →
    HasNoSlot steps call old new counts →
    OnlyLearnt new after →
    HasGathered after readers →
    in_use after readers ≡ after.table.shape.slots

-- The writer had gathered all readers, put a set, and gathered them again, unchanged: before the call fewer slots were
-- in use.
abbrev pub DoneMeansFewerInUse : Type 0
DoneMeansFewerInUse =
    (steps : ℕ) (call : Call) (rows : List Row) (old new after : Caller) (readers : List Past) →
    HasGathered old readers →
    Publishes steps call rows old new →
    OnlyLearnt new after →
    AllCurrent after.retired after.marks readers →
    in_use old readers < old.table.shape.slots
