-- The opening of a map over ids.
use Rattle.std.specs.Prelude.{◌≡◌, ℕ, ◌+◌, ◌*◌, ◌<◌, ◌⊎◌, List, [], ◌∷◌, ◌++◌, All, length}
use Rattle.nr_model.specs.Maps.{last_number}
use Rattle.nr_model.specs.Sizes.{IsBadSize}
use Rattle.nr_core.specs.declared.shape.Shape.{Shape}
use Rattle.nr_board.specs.Callers.{Caller}
use Rattle.nr_ids.specs.declared.plan.Plan.{Plan}
use Rattle.nr_ids.specs.Tokens.{Opened, fresh_token}
use Rattle.nr_map.specs.Opened.{IsOpened, words_of_large}
use Rattle.nr_idmap.specs.declared.id_map.IdShape.{IdShape}
use Rattle.nr_idmap.specs.Keepers.{IdCaller, IdTable, Keeper, id_table_of}

-- a size is out of its limits
abbrev pub IsBadIdShape : IdShape → Type 0
IsBadIdShape shape =
    IsBadSize 536870911 shape.groups ⊎ IsBadSize 4194303 shape.slots ⊎ IsBadSize 65534 shape.readers
    ⊎ IsBadSize 254 shape.rows ⊎ (last_number < shape.first_number)

-- the map's shape: each way is a key, a set has a row for the tag, and the first reader asks
abbrev pub shape_of : IdShape → Shape
shape_of shape =
    record {
      keys = 8 * shape.groups;
      slots = shape.slots;
      readers = shape.readers + 1;
      first_count = 0;
      first_number = shape.first_number;
      rows = shape.rows + 1;
    }

abbrev pub plan_of : IdShape → Plan
plan_of shape = record { groups = shape.groups; key = shape.key }

-- each reader of the map with the next one of the directory
abbrev pub pairs_from : Opened → ℕ → List Caller → List IdCaller
pairs_from directory made [] = []
pairs_from directory made (reader ∷ readers) =
    record { caller = reader; ids = fresh_token directory (made + 1) } ∷ pairs_from directory (made + 1) readers

-- The map and the directory have their sizes. The tokens are new, of that map over ids, and have seen nothing, so no id
-- is resident and no upquery is open; the last of the map's readers is the writer's.
pub record OpensIds (shape : IdShape) (table : IdTable) (keeper : Keeper) (readers : List IdCaller) : Type 0 where
  pub plan : table.directory.plan ≡ plan_of shape
  pub mapped : List Caller
  pub opened : IsOpened (shape_of shape) (words_of_large (shape_of shape)) table.map keeper.writer mapped
  pub others : List Caller
  pub asks : mapped ≡ others ++ keeper.asker ∷ []
  pub reads : readers ≡ pairs_from table.directory 0 others
  pub count : length readers ≡ shape.readers
  pub own : All (λ reader. id_table_of reader ≡ table) readers
  pub writes : keeper.table ≡ table
  pub clerk : (keeper.clerk.number ≡ 0) × (keeper.clerk.seen ≡ [])
