-- What opens a map over ids and its handles.
use Rattle.std.specs.Prelude.{ℕ, ◌≡◌, List, [], ◌∷◌}
use Rattle.nr_idmap.specs.declared.id_map.IdShape.{IdShape}
use Rattle.nr_idmap.specs.IdHands.{idle_by_id}
use Rattle.nr_idmap.specs.IdOpenings.{IsBadIdShape, OpensIds}
use Rattle.nr_idmap.specs.Keepers.{IdCaller}
use Rattle.nr_c.specs.declared.id_reader_side.IdReaderSide.{IdReaderSide}
use Rattle.nr_c.specs.declared.id_shape.NrIdShape.{NrIdShape}
use Rattle.nr_c.specs.declared.id_writer_side.IdWriterSide.{IdWriterSide}
use Rattle.nr_c.specs.Closings.{Closes, IsNewWatch}
use Rattle.nr_c.specs.Endings.{Ends, EndsShare}
use Rattle.nr_c.specs.Hands.{EndsIdHand}
use Rattle.nr_c.specs.Ledgers.{no_entries}
use Rattle.nr_c.specs.Live.{BothLead, CallOfTwo, OpensSide}
use Rattle.nr_c.specs.Numbers.{answer_no_reader}
use Rattle.nr_c.specs.Spares.{KeepsSpare, TakesLast}

abbrev pub id_shape_of : NrIdShape → IdShape
id_shape_of shape =
    record {
      groups = shape.groups;
      key = shape.key;
      slots = shape.slots;
      readers = shape.readers;
      rows = shape.rows;
      first_number = shape.first_number;
    }

-- the writer's side of a new map over ids: its writer, its readers, none of which has a handle, and no upquery of the
-- map that has this number
pub record IsNewIdWriter (shape : IdShape) (number : ℕ) (side : IdWriterSide) : Type 0 where
  pub opens : OpensIds shape side.map.value side.writer side.spare.items
  pub none_kept : side.ledger ≡ no_entries number side.map.value.map.shape.keys
  pub watch : IsNewWatch side.watch

-- an opening by its code
abbrev pub OpensIdMap : IdShape → ℕ → List IdWriterSide → ℕ → Type 0
OpensIdMap shape number = OpensSide (IsNewIdWriter shape number) (IsBadIdShape shape)

-- the writer's handle leads to one side, of the same map, with the same writer and upqueries, and these readers have no
-- handle
abbrev pub KeepsIdWriter : List IdWriterSide → List IdWriterSide → List IdCaller → List IdCaller → Type 0
KeepsIdWriter =
    KeepsSpare (λ (side : IdWriterSide). side.spare.items)
    (λ old new. (new.map ≡ old.map) × (new.writer ≡ old.writer) × (new.ledger ≡ old.ledger)
    × (new.watch ≡ old.watch))

-- the reader's handle leads to the side of that reader, of the writer's map
abbrev pub LeadsToIdReader : List IdWriterSide → IdCaller → List IdReaderSide → Type 0
LeadsToIdReader before reader =
    BothLead
    (λ (held : IdWriterSide) (side : IdReaderSide). (side.map.value ≡ held.map.value)
    × (side.hand ≡ idle_by_id reader) × (side.watch.word ≡ held.watch.word) × IsNewWatch side.watch) before

-- no reader is without a handle; or the last one without gets one, or for want of memory stays without
abbrev pub TakesIdReader : CallOfTwo IdWriterSide IdReaderSide
TakesIdReader before other after handle =
    TakesLast answer_no_reader (KeepsIdWriter before after) (λ reader. LeadsToIdReader before reader handle)
    (handle ≡ other)

-- the reader that a handle led to ended, having let go what it held, and its share of the map
abbrev pub EndsIdReader : List IdReaderSide → Type 0
EndsIdReader before =
    (side : IdReaderSide) → before ≡ side ∷ [] → Ends (EndsIdHand side.hand) × EndsShare side.map side.watch

-- the writer is closed, of which the readers of its map are told; all else that its handle led to is as it was
pub record ClosesIdSide (old new : IdWriterSide) : Type 0 where
  pub map : new.map ≡ old.map
  pub writer : new.writer ≡ old.writer
  pub spare : new.spare ≡ old.spare
  pub ledger : new.ledger ≡ old.ledger
  pub watch : Closes old.watch new.watch

-- all that the handle led to ended, once the writer was closed
abbrev pub EndsIdWriter : List IdWriterSide → Type 0
EndsIdWriter before = (side : IdWriterSide) → before ≡ side ∷ [] → Ends (ClosesIdSide side)
