-- What a scan of an id's places after a look at its group's turn has shown.
use Rattle.std.specs.Prelude.{◌≡◌, ◌≢◌, ℕ, ◌<◌, List, ◌++◌}
use Rattle.nr_ids.specs.declared.plan.Plan.{Plan}
use Rattle.nr_ids.specs.Groups.{group_of, way_at}
use Rattle.nr_ids.specs.Events.{Event, name_of, turn_of}

-- at some moment from `start` on, and no later than `seen`, the way had not that name
pub record Passed (start seen : List Event) (way id : ℕ) : Type 0 where
  pub moment : List Event
  pub later : List Event
  pub until : seen ≡ later ++ moment
  pub since : List Event
  pub from : moment ≡ since ++ start
  pub other : name_of moment way ≢ id

-- the turn of the id's group was loaded, and since then so many of the id's places were passed
pub record Scanned (plan : Plan) (seen : List Event) (id turn count : ℕ) : Type 0 where
  pub start : List Event
  pub rest : List Event
  pub is : seen ≡ rest ++ start
  pub turn_is : turn_of plan start (group_of plan id) ≡ turn
  pub passed : (place : ℕ) → place < count → Passed start seen (way_at plan id place) id
