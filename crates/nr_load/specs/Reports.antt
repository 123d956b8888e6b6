-- What a load comes to: one history in which each reader made all its gets, and the report of it.
use Rattle.std.specs.Prelude.{◌≡◌, ◌<◌, ◌≤◌, ◌+◌, ◌*◌, ℕ, Bool, List, length, replicate, None, slice_index_or}
use Rattle.std.specs.List.{count_by}
use Rattle.rand_pcg.specs.Lcg.{Lcg}
use Rattle.nr_model.specs.Histories.{Entry, IsLegal, after, entries_of}
use Rattle.nr_model.specs.Laws.{pending}
use Rattle.nr_core.specs.declared.shape.Shape.{Shape}
use Rattle.nr_core.specs.Sums.{total}
use Rattle.nr_core.specs.Marks.{no_marks}
use Rattle.nr_board.specs.Callers.{Caller, Table, map_at_opening}
use Rattle.nr_board.specs.Entries.{AreCallers}
use Rattle.nr_map.specs.Opened.{newcomer}
use Rattle.nr_map.specs.Rounds.{is_fill, is_sent}
use Rattle.nr_serve.specs.declared.hands.Hands.{Hands}
use Rattle.nr_load.specs.Balance.{of_all}
use Rattle.nr_load.specs.declared.load.LoadReport.{LoadReport}
use Rattle.nr_load.specs.declared.load.Plan.{Plan}
use Rattle.nr_load.specs.Base.{FindsRows, Rounds}
use Rattle.nr_load.specs.Drawn.{stream_of}
use Rattle.nr_load.specs.Gained.{Tells}
use Rattle.nr_load.specs.Works.{Works}

-- the sizes of a load's map
abbrev pub shape_of_plan : Plan → Shape
shape_of_plan plan =
    record {
      keys = plan.keys;
      slots = plan.keys + plan.readers + 1;
      readers = plan.readers;
      first_count = 0;
      first_number = 0;
      rows = 15;
    }

-- one legal history of the map has exactly the calls of this writer and of these readers, and leaves that many keys
-- asked
pub record IsAccount (map : Table) (writer : Caller) (readers : List Caller) (asked : ℕ) : Type 0 where
  pub history : List Entry
  pub legal : IsLegal (map_at_opening map) history
  pub callers : AreCallers map.shape history
  pub writes : entries_of history 0 ≡ writer.mine
  pub reads : (at : ℕ) (other : Caller) → at < length readers
      → entries_of history (at + 1) ≡ (slice_index_or readers at other).mine
  pub counts : (test : Entry → Bool) → count_by test history ≡ of_all test writer readers
  pub pends : asked ≡ total pending (after (map_at_opening map) history).states

-- a new reader made all its gets, of the keys that its own generator drew; that many were answered, and these are all
-- its calls
pub record MakesAll (plan : Plan) (map : Table) (number answered : ℕ) (calls : List Entry) : Type 0 where
  pub old : Hands
  pub new : Hands
  pub begins : old.reader ≡ newcomer map number no_marks
  pub empty : old.kept ≡ None
  pub generator : Lcg
  pub works : Works 1000000 plan.keys plan.gets (replicate plan.keys 0) (stream_of plan.seed number) old generator new
      answered None
  pub all : calls ≡ new.reader.mine

-- the report is of one legal history of a new map, in which each reader made all its gets, and the writer requested and
-- cancelled nothing and did all fills
pub record ComesTo (plan : Plan) (report : LoadReport) : Type 0 where
  pub map : Table
  pub sizes : map.shape ≡ shape_of_plan plan
  pub history : List Entry
  pub legal : IsLegal (map_at_opening map) history
  pub callers : AreCallers map.shape history
  -- how many gets of each reader were answered
  pub answers : List ℕ
  pub each : length answers ≡ plan.readers
  pub works : (at other : ℕ) → at < plan.readers
      → MakesAll plan map (at + 1) (slice_index_or answers at other) (entries_of history (at + 1))
  pub writes : Tells plan.keys (entries_of history 0) 0 (count_by is_fill history)
  -- the writer took that many triggers, and its calls are those of a base that began with `k:0` for each key k
  pub rounds : (turns : ℕ) × (base : List ℕ) × Rounds 0 plan.keys turns (entries_of history 0) report.fills base
  -- each find found the one row of its key that the base had then
  pub finds : FindsRows (replicate plan.keys 0) history
  pub gets : report.gets ≡ plan.readers * plan.gets
  pub answered : report.answered ≡ total (λ count. count) answers
  pub few : report.answered ≤ report.gets
  pub sends : report.sends ≡ count_by is_sent history
  pub fills : report.fills ≡ count_by is_fill history
  pub asked : report.asked ≡ total pending (after (map_at_opening map) history).states
  pub balance : report.sends ≡ report.fills + report.asked
