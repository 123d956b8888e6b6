-- The opening of a store.
use Rattle.std.specs.Prelude.{◌≡◌, ◌+◌, ◌*◌, ◌⊎◌, List, [], ◌∷◌, ◌++◌}
use Rattle.nr_model.specs.Sizes.{IsBadSize}
use Rattle.nr_idmap.specs.declared.id_map.IdShape.{IdShape}
use Rattle.nr_idmap.specs.IdOpenings.{OpensIds}
use Rattle.nr_idmap.specs.Keepers.{IdCaller, IdTable}
use Rattle.nr_cache.specs.declared.shape.StoreShape.{StoreShape}
use Rattle.nr_cache.specs.declared.shape.TheConstants.{MAX_STORE_GROUPS, MAX_STORE_READERS}
use Rattle.nr_cache.specs.Flights.{none_under_way}
use Rattle.nr_cache.specs.StoreSeen.{StoreSeen}
use Rattle.nr_cache.specs.Weights.{no_load}

-- no more values than the groups hold, eight each
abbrev pub IsBadStoreShape : StoreShape → Type 0
IsBadStoreShape shape = IsBadSize MAX_STORE_GROUPS shape.groups ⊎ IsBadSize (8 * shape.groups) shape.capacity
    ⊎ IsBadSize MAX_STORE_READERS shape.readers

-- its map: a reader more, which claims, and a slot for each value, each reader, the writer's own and one more
abbrev pub ids_of : StoreShape → IdShape
ids_of shape =
    record {
      groups = shape.groups;
      key = shape.key;
      slots = shape.capacity + shape.readers + 3;
      readers = shape.readers + 1;
      rows = 1;
      first_number = 0;
    }

-- the map is new, the store has its writer and the last of its readers, nothing is under way or weighs anything, and
-- there may be so many values
pub record OpensStore (shape : StoreShape) (map : IdTable) (store : StoreSeen) (readers : List IdCaller) : Type 0 where
  pub opens : OpensIds (ids_of shape) map store.keeper (readers ++ store.asker ∷ [])
  pub nothing : store.underway ≡ none_under_way shape.flights shape.changes
  pub bound : store.capacity ≡ shape.capacity
  pub hand : store.hand ≡ 0
  pub weighs : store.load ≡ no_load shape.weight map.map.shape.keys
