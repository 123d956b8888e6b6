-- What opens a cache and its handles.
use Rattle.std.specs.Prelude.{ℕ, ◌≡◌, List, [], ◌∷◌}
use Rattle.nr_cache.specs.declared.shape.StoreShape.{StoreShape}
use Rattle.nr_cache.specs.Openings.{IsBadStoreShape, OpensStore}
use Rattle.nr_idmap.specs.IdHands.{idle_by_id}
use Rattle.nr_idmap.specs.Keepers.{IdCaller}
use Rattle.nr_c.specs.declared.cache_shape.NrCacheShape.{NrCacheShape}
use Rattle.nr_c.specs.declared.cache_side.CacheSide.{CacheSide}
use Rattle.nr_c.specs.declared.id_reader_side.IdReaderSide.{IdReaderSide}
use Rattle.nr_c.specs.Closings.{Closes, IsNewWatch}
use Rattle.nr_c.specs.Endings.{Ends}
use Rattle.nr_c.specs.Live.{BothLead, CallOfTwo, OpensSide}
use Rattle.nr_c.specs.Numbers.{answer_no_reader}
use Rattle.nr_c.specs.Spares.{KeepsSpare, TakesLast}

abbrev pub cache_shape_of : NrCacheShape → StoreShape
cache_shape_of shape =
    record {
      groups = shape.groups;
      capacity = shape.capacity;
      weight = shape.weight;
      key = shape.key;
      readers = shape.readers;
      flights = shape.flights;
      changes = shape.changes;
    }

-- the side of a new cache: its store, and its readers, none of which has a handle
pub record IsNewCache (shape : StoreShape) (side : CacheSide) : Type 0 where
  pub opens : OpensStore shape side.map.value side.store side.spare.items
  pub watch : IsNewWatch side.watch

-- an opening by its code
abbrev pub OpensCache : StoreShape → List CacheSide → ℕ → Type 0
OpensCache shape = OpensSide (IsNewCache shape) (IsBadStoreShape shape)

-- the handle leads to one side, of the same map, with the same store, and these readers have no handle
abbrev pub KeepsCache : List CacheSide → List CacheSide → List IdCaller → List IdCaller → Type 0
KeepsCache =
    KeepsSpare (λ (side : CacheSide). side.spare.items)
    (λ old new. (new.map ≡ old.map) × (new.store ≡ old.store) × (new.watch ≡ old.watch))

-- the reader's handle leads to the side of that reader, of the cache's map
abbrev pub LeadsToCacheReader : List CacheSide → IdCaller → List IdReaderSide → Type 0
LeadsToCacheReader before reader =
    BothLead
    (λ (held : CacheSide) (side : IdReaderSide). (side.map.value ≡ held.map.value)
    × (side.hand ≡ idle_by_id reader) × (side.watch.word ≡ held.watch.word) × IsNewWatch side.watch) before

-- no reader is without a handle; or the last one without gets one, or for want of memory stays without
abbrev pub TakesCacheReader : CallOfTwo CacheSide IdReaderSide
TakesCacheReader before other after handle =
    TakesLast answer_no_reader (KeepsCache before after) (λ reader. LeadsToCacheReader before reader handle)
    (handle ≡ other)

-- the cache is closed, of which its readers are told; all else that its handle led to is as it was
pub record ClosesCacheSide (old new : CacheSide) : Type 0 where
  pub map : new.map ≡ old.map
  pub store : new.store ≡ old.store
  pub spare : new.spare ≡ old.spare
  pub watch : Closes old.watch new.watch

-- all that the handle led to ended, once the cache was closed
abbrev pub EndsCache : List CacheSide → Type 0
EndsCache before = (side : CacheSide) → before ≡ side ∷ [] → Ends (ClosesCacheSide side)
