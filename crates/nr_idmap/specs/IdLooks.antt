-- What the writer's own look by id says, by its answer.
use Rattle.std.specs.Prelude.{◌≡◌, ℕ, ◌+◌, ◌*◌, List, ◌∷◌, length, Some, None}
use Rattle.nr_model.specs.declared.rows.Row.{Row}
use Rattle.nr_model.specs.declared.calls.Call.TheVariants as model
use Rattle.nr_model.specs.declared.calls.Reply.TheVariants as reply
use Rattle.nr_board.specs.Callers.{Gains}
use Rattle.nr_board.specs.WriterAnswers.{SlotsStay}
use Rattle.nr_ids.specs.Answers.{FindsWay}
use Rattle.nr_idmap.specs.declared.looks.Looked.{Looked}
use Rattle.nr_idmap.specs.declared.looks.Looked.TheVariants as looked
use Rattle.nr_idmap.specs.Keepers.{Keeper}
use Rattle.nr_idmap.specs.Tags.{tag_of}

-- the set was found in the id's way: the call's entry in the map's history; all slots stay as they are
abbrev pub LooksInWay : ℕ → ℕ → List Row → Keeper → Keeper → Type 0
LooksInWay id way set old new =
    FindsWay id old.clerk new.clerk (Some way)
    × Gains (2 * length set + 2) (model.Find way) old.writer new.writer (reply.Rows set)
    × SlotsStay old.writer new.writer

-- the id's rows, behind its tag; or its way is a hole; or it has none
abbrev pub LooksById : {Room : Type 0} → (Room → List Row → Type 0) → ℕ → Keeper → Room → Keeper → Room → Looked
    → Type 0
LooksById shows id old before new room looked.Rows =
    (way : ℕ) × (rows : List Row) × LooksInWay id way (tag_of id ∷ rows) old new × shows room rows
LooksById shows id old before new room looked.Pending =
    (way : ℕ) × FindsWay id old.clerk new.clerk (Some way) × Gains 1 (model.Find way) old.writer new.writer reply.Hole
    × SlotsStay old.writer new.writer × (room ≡ before)
LooksById shows id old before new room looked.Absent =
    FindsWay id old.clerk new.clerk None × (new.writer ≡ old.writer) × (room ≡ before)
