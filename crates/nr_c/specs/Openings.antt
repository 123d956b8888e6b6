-- What opens a map and its handles.
use Rattle.std.specs.Prelude.{ℕ, ◌≡◌, ◌⊎◌, List, [], ◌∷◌, ◌++◌}
use Rattle.nr_core.specs.Sizes.{IsBadLargeShape, IsBadShape}
use Rattle.nr_core.specs.declared.shape.Shape.{Shape}
use Rattle.nr_board.specs.Callers.{Caller}
use Rattle.nr_map.specs.Hands.{idle}
use Rattle.nr_map.specs.Opened.{IsOpened, words_of_large}
use Rattle.nr_c.specs.Closings.{Closes, IsNewWatch}
use Rattle.nr_c.specs.Endings.{Ends, EndsShare}
use Rattle.nr_c.specs.Hands.{EndsHand}
use Rattle.nr_c.specs.Live.{BothLead, CallOfTwo, Leads, OpensSide}
use Rattle.nr_c.specs.Numbers.{answer_done, answer_no_memory, answer_no_reader}
use Rattle.nr_c.specs.Spares.{KeepsSpare, TakesLast}
use Rattle.nr_c.specs.declared.reader_side.ReaderSide.{ReaderSide}
use Rattle.nr_c.specs.declared.writer_side.WriterSide.{WriterSide}

-- the writer's side of a new map of that shape: its writer, and its readers, none of which has a handle
pub record IsNewWriter (shape : Shape) (side : WriterSide) : Type 0 where
  pub opened : IsOpened shape (words_of_large shape) side.map.value side.writer side.spare.items
  pub watch : IsNewWatch side.watch

-- the shape is out of a script's limits and of a large map's
abbrev pub IsRefused : Shape → Type 0
IsRefused shape = IsBadShape shape × IsBadLargeShape shape

-- an opening by its code
abbrev pub Opens : Shape → List WriterSide → ℕ → Type 0
Opens shape = OpensSide (IsNewWriter shape) (IsRefused shape)

-- the writer's handle leads to one side, of the same map and with the same writer, and these readers have no handle
abbrev pub KeepsWriter : List WriterSide → List WriterSide → List Caller → List Caller → Type 0
KeepsWriter =
    KeepsSpare (λ (side : WriterSide). side.spare.items)
    (λ old new. (new.map ≡ old.map) × (new.writer ≡ old.writer) × (new.watch ≡ old.watch))

-- the reader's handle leads to the side of that reader, of the writer's map, which holds nothing
abbrev pub LeadsToReader : List WriterSide → Caller → List ReaderSide → Type 0
LeadsToReader before reader =
    BothLead
    (λ (held : WriterSide) (side : ReaderSide). (side.map.value ≡ held.map.value) × (side.hand ≡ idle reader)
    × (side.watch.word ≡ held.watch.word) × IsNewWatch side.watch) before

-- no reader is without a handle; or the last one without gets one, or for want of memory stays without
abbrev pub TakesReader : CallOfTwo WriterSide ReaderSide
TakesReader before other after handle =
    TakesLast answer_no_reader (KeepsWriter before after) (λ reader. LeadsToReader before reader handle)
    (handle ≡ other)

-- the reader's handle leads nowhere any more, and its reader, which holds nothing now, is the last one without a
-- handle; or for want of memory all stay
abbrev pub ReturnsReader : CallOfTwo WriterSide ReaderSide
ReturnsReader before other after handle code =
    ((code ≡ answer_done) × (rest : List Caller) × (reader : Caller)
    × Leads (λ (held : ReaderSide). EndsHand held.hand reader × EndsShare held.map held.watch) other
    × KeepsWriter before after rest (rest ++ reader ∷ []) × (handle ≡ []))
    ⊎ ((code ≡ answer_no_memory) × (rest : List Caller) × KeepsWriter before after rest rest × (handle ≡ other))

-- the reader that a handle led to ended, having let go what it held, and its share of the map
abbrev pub EndsReader : List ReaderSide → Type 0
EndsReader before =
    (side : ReaderSide) → before ≡ side ∷ [] → Ends (EndsHand side.hand) × EndsShare side.map side.watch

-- the writer is closed, of which the readers of its map are told; all else that its handle led to is as it was
pub record ClosesSide (old new : WriterSide) : Type 0 where
  pub map : new.map ≡ old.map
  pub writer : new.writer ≡ old.writer
  pub spare : new.spare ≡ old.spare
  pub room : new.room ≡ old.room
  pub watch : Closes old.watch new.watch

-- all that the handle led to ended, once the writer was closed
abbrev pub EndsWriter : List WriterSide → Type 0
EndsWriter before = (side : WriterSide) → before ≡ side ∷ [] → Ends (ClosesSide side)
