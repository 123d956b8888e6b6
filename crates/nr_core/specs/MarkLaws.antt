-- The laws of put numbers: the exact place of a no-slot, and how they go on.
use Rattle.std.specs.Prelude.{◌≡◌, ℕ, ◌+◌, ◌<◌, if◌then◌else◌, List, [], ◌∷◌, ◌++◌, length}
use Rattle.nr_model.specs.Maps.{filled_count}
use Rattle.nr_model.specs.Histories.{Entry}
use Rattle.nr_core.specs.declared.shape.Shape.{Shape}
use Rattle.nr_core.specs.declared.places.Retired.{Retired}
use Rattle.nr_core.specs.declared.roles.Desk.{Desk}
use Rattle.nr_core.specs.Roles.{taken}
use Rattle.nr_core.specs.Story.{map_after}
use Rattle.nr_model.specs.Strays.{strays}
use Rattle.nr_core.specs.Marks.{Marks, Past}
use Rattle.nr_core.specs.PollNotes.{AllHeld, Noted}
use Rattle.nr_core.specs.Pasts.{AllCurrent, AllKnown, AllReaders}
use Rattle.nr_core.specs.Puts.{put_count, put_number, puts_at, puts_set}
use Rattle.nr_core.specs.Exact.{Lists, TookFromLists, filled_puts, pins}

-- the filled keys and the different pinned put numbers that no key has
abbrev pub slots_in_use : Shape → List Entry → List Past → ℕ
slots_in_use shape log readers = filled_count (map_after shape log) + strays (filled_puts shape log) (pins readers)

-- Every reader was gathered before a call that ended with no slot, and again after it, and made no act in between: all
-- slots are in use.
abbrev pub NoSlotByMarks : Type 0
NoSlotByMarks =
    (shape : Shape) (desk : Desk) (marks : Marks) (log : List Entry) (known readers : List Past) →
    AllReaders shape.readers readers →
    AllKnown known readers →
    Noted shape known marks.polls →
    AllHeld desk.retired marks.polls →
    Lists desk marks shape log →
    AllCurrent desk.retired marks readers →
    filled_count (map_after shape log) + length desk.retired ≡ shape.slots →
    slots_in_use shape log readers ≡ shape.slots

-- The same of a call that was done with its set put: before it fewer were in use.
abbrev pub DoneByMarks : Type 0
DoneByMarks =
    (shape : Shape) (desk : Desk) (after : List Retired) (marks now : Marks) (log : List Entry) (readers : List Past) →
    Lists desk marks shape log →
    ((slot : ℕ) → taken slot desk.place ≡ 0) →
    AllCurrent desk.retired marks readers →
    AllCurrent after now readers →
    TookFromLists shape desk now log →
    slots_in_use shape log readers < shape.slots

-- with one entry more: how many sets were put, and the number of what was put last for a key
abbrev pub PutGoesOn : Type 0
PutGoesOn =
    (log : List Entry) (entry : Entry) (key : ℕ) →
    (put_count (log ++ entry ∷ []) ≡ put_count log + puts_set entry)
    × (put_number (log ++ entry ∷ []) key ≡ (if puts_at key entry then put_count log else put_number log key))
