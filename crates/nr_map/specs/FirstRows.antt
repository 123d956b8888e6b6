-- Rows that are put over the first ones of a list, and finds that put as many there as the list takes.
use Rattle.std.specs.Prelude.{◌≡◌, ℕ, ◌+◌, ◌*◌, min, false, List, ◌∷◌, ◌++◌, drop, length, take, Option, Some, None}
use Rattle.nr_model.specs.declared.rows.Row.{Row}
use Rattle.nr_map.specs.Hands.{FindsAndReads, Handed, KeepsAnew}
use Rattle.nr_map.specs.Tagged.{KeepsTagged}
use Rattle.nr_map.specs.declared.tagged.Tagged.{Tagged}
use Rattle.nr_map.specs.declared.tagged.Tagged.TheVariants as tagged

-- the cells are as they were before, but the first ones have so many of the rows
abbrev pub ArePutOver : List Row → List Row → ℕ → List Row → Type 0
ArePutOver rows before put cells = cells ≡ take put rows ++ drop put before

-- over cells as many of the rows as there are cells
abbrev pub put_first : List Row → List Row → List Row
put_first rows cells = take (length cells) rows ++ drop (length rows) cells

-- a find by a hand that keeps its hold: it tells how many rows the set has, and reads as many as there is room for; a
-- hole leaves the cells as they were
abbrev pub FindsFirst : ℕ → Handed → List Row → Handed → List Row → Option ℕ → Type 0
FindsFirst key old before new cells (Some count) =
    FindsAndReads (2 * min (length before) (length new.rows)) key old new × (cells ≡ put_first new.rows before)
    × (count ≡ length new.rows)
FindsFirst key old before new cells None = KeepsAnew key old new false × (cells ≡ before)

-- such a find of a set that begins with a tag: of it those behind the tag; else the cells stay, and none is told
abbrev pub FindsTaggedFirst : Row → ℕ → Handed → List Row → Handed → List Row → ℕ → Tagged → Type 0
FindsTaggedFirst tag key old before new cells count tagged.Rows =
    (rows : List Row) × (new.rows ≡ tag ∷ rows)
    × FindsAndReads (2 + 2 * min (length before) (length rows)) key old new × (cells ≡ put_first rows before)
    × (count ≡ length rows)
FindsTaggedFirst tag key old before new cells count tagged.Other =
    KeepsTagged tag key old new tagged.Other × (cells ≡ before) × (count ≡ 0)
FindsTaggedFirst tag key old before new cells count tagged.Hole =
    KeepsTagged tag key old new tagged.Hole × (cells ≡ before) × (count ≡ 0)
