-- The sizes of a map as C has them.
use Rattle.std.specs.Prelude.{◌≡◌}
use Rattle.nr_core.specs.declared.shape.Shape.{Shape}
use Rattle.nr_c.specs.Live.{Call, Turns}
use Rattle.nr_c.specs.Numbers.{answer_done}
use Rattle.nr_c.specs.declared.reader_side.ReaderSide.{ReaderSide}
use Rattle.nr_c.specs.declared.sizes.NrShape.{NrShape}
use Rattle.nr_c.specs.declared.sizes.NrSizes.{NrSizes}

abbrev pub shape_of_sizes : NrShape → Shape
shape_of_sizes sizes =
    record {
      keys = sizes.keys;
      slots = sizes.slots;
      readers = sizes.readers;
      first_count = sizes.first_count;
      first_number = sizes.first_number;
      rows = sizes.rows;
    }

abbrev pub sizes_of : Shape → NrSizes
sizes_of shape = record { keys = shape.keys; slots = shape.slots; readers = shape.readers; rows = shape.rows }

-- the sizes of a reader's map by their code; the handle leads to what it led to
abbrev pub TellsSizes : NrSizes → Call ReaderSide
TellsSizes told before after code =
    (code ≡ answer_done)
    × Turns (λ old new. new ≡ old) (λ old new. told ≡ sizes_of old.map.value.shape) before after
