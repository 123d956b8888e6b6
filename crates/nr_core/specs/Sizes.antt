-- The sizes of a map: those for which its words have room, and those that an opening refuses.
use Rattle.std.specs.Prelude.{◌≡◌, ◌^◌, ◌≤◌, ◌<◌, ◌⊎◌}
use Rattle.nr_model.specs.declared.rows.TheConstants.{MAX_ROWS}
use Rattle.nr_model.specs.declared.seq_map.TheConstants.{MAX_KEYS}
use Rattle.nr_model.specs.Maps.{last_number}
use Rattle.nr_model.specs.Sizes.{IsBadSize}
use Rattle.nr_core.specs.declared.shape.Shape.{Shape}
use Rattle.nr_core.specs.declared.shape.TheConstants.{MAX_SLOTS, MAX_READERS}
use Rattle.nr_core.specs.Slots.{bound_of}

-- a key may have some rows, but not more than a set has room for; a slot's number, the count of its holders and the
-- number of a request fit their bits
pub record IsShape (shape : Shape) : Type 0 where
  pub some : 0 < bound_of shape
  pub bound : bound_of shape ≤ MAX_ROWS
  pub slots : shape.slots ≤ 2 ^ 22
  pub readers : shape.readers < 2 ^ 40
  pub number : shape.first_number ≤ last_number

-- keys, slots, readers, the first number or the rows of a key are out of their limits
abbrev pub IsBadShape : Shape → Type 0
IsBadShape shape =
    IsBadSize MAX_KEYS shape.keys ⊎ IsBadSize MAX_SLOTS shape.slots ⊎ IsBadSize MAX_READERS shape.readers
    ⊎ (last_number < shape.first_number) ⊎ IsBadSize MAX_ROWS shape.rows

-- the same for a large map, which may have any number of keys, also more than slots
abbrev pub IsBadLargeShape : Shape → Type 0
IsBadLargeShape shape =
    IsBadSize 4194303 shape.slots ⊎ (shape.keys ≡ 0) ⊎ IsBadSize 65535 shape.readers ⊎ (4194303 < shape.first_number)
    ⊎ IsBadSize 255 shape.rows
