-- A map that is taken apart by its writer's handle, and the sets that come out of what remains.
use Rattle.std.specs.Prelude.{◌≡◌, ◌≢◌, ◌⊎◌, Bool, false, if◌then◌else◌, [], length, Option, Some, None}
use Rattle.nr_map.specs.Remains.{NextOf, TakenApart}
use Rattle.nr_c.specs.Endings.{HasEnded}
use Rattle.nr_c.specs.Codes.{ByCode}
use Rattle.nr_c.specs.Live.{BothLead, Call, CallOfTwo, Leads}
use Rattle.nr_c.specs.Numbers.{answer_done, answer_given, answer_nothing, answer_readers_out}
use Rattle.nr_c.specs.RowCells.{ShowsSet}
use Rattle.nr_c.specs.declared.remains_side.LeftMap.{LeftMap}
use Rattle.nr_c.specs.declared.remains_side.RemainsSide.{RemainsSide}
use Rattle.nr_c.specs.declared.rows.NrRows.{NrRows}
use Rattle.nr_c.specs.declared.writer_side.WriterSide.{WriterSide}

-- what remains of a writer's map whose readers are all back, of which no set has come out
pub record LeavesRemains (held : WriterSide) (side : RemainsSide) : Type 0 where
  pub all : length held.spare.items ≡ held.map.value.shape.readers
  pub left : LeftMap
  pub is : side.left ≡ Some left
  pub map : left.map ≡ held.map
  pub apart : TakenApart held.writer left.rest
  pub watch : HasEnded held.watch

-- some readers are not back, and nothing changes; or all are: the writer's handle leads nowhere any more, and the other
-- to what remains of its map
abbrev pub TakesApart : CallOfTwo WriterSide RemainsSide
TakesApart writer remains writer' remains' code =
    ((code ≡ answer_readers_out) × (writer' ≡ writer) × (remains' ≡ remains)
    × Leads (λ held. length held.spare.items ≢ held.map.value.shape.readers) writer)
    ⊎ ((code ≡ answer_done) × (writer' ≡ []) × BothLead LeavesRemains writer remains')

-- the next set that is left of a map comes out into the caller's cells, if there is one; of no map none is left
abbrev pub NextOfLeft : Option LeftMap → NrRows → Option LeftMap → NrRows → Bool → Type 0
NextOfLeft (Some old) rows (Some new) rows' found =
    (new.map ≡ old.map) × NextOf ShowsSet old.rest rows new.rest rows' found
NextOfLeft None rows None rows' false = rows' ≡ rows
NextOfLeft old rows new rows' found = ⊥

abbrev pub NextByCode : NrRows → NrRows → Call RemainsSide
NextByCode rows rows' before after =
    ByCode (λ found. if found then answer_given else answer_nothing)
    (λ found. BothLead (λ old new. NextOfLeft old.left rows new.left rows' found) before after)
