-- What values weigh: each, and all together, which is no more than may be.
use Rattle.std.specs.Prelude.{◌≡◌, ◌+◌, ◌-◌, ◌≤◌, ◌⊎◌, ◌==◌, ◌^◌, if◌then◌else◌, ℕ, List, [], Option, None}
use Rattle.std.specs.Prelude.{length, replicate, slice_index, slice_set, sum}
use Rattle.nr_board.specs.Callers.{map_seen}
use Rattle.nr_idmap.specs.Keepers.{Keeper}
use Rattle.nr_idmap.specs.Tags.{IdSet, set_at}

-- what each way's value weighs, and how much all may
pub record Load : Type 0 where
  pub each : List ℕ
  pub most : ℕ

-- how much all do
abbrev pub weight_in : Load → ℕ
weight_in load = sum load.each

abbrev pub IsLight : Load → Type 0
IsLight load = weight_in load ≤ load.most

-- nothing weighs at first; where no bound is set nothing is weighed
abbrev pub no_load : ℕ → ℕ → Load
no_load most ways =
    if most == 0 then (record { each = []; most = 2 ^ 64 - 1 }) else (record { each = replicate ways 0; most = most })

-- what the store holds: the map's writer with what its values weigh, and the way at which the next look for a value
-- begins that goes
pub record Stock : Type 0 where
  pub keeper : Keeper
  pub load : Load
  pub hand : ℕ

abbrev pub stock_of : Keeper → Load → ℕ → Stock
stock_of keeper load hand = record { keeper = keeper; load = load; hand = hand }

-- the id whose value a way has, with the value, in all that the writer has seen
abbrev pub value_at : Keeper → ℕ → Option IdSet
value_at keeper way = set_at (map_seen keeper.writer) way

-- a way without a value weighs nothing
abbrev pub OnlyValuesWeigh : Load → Keeper → Type 0
OnlyValuesWeigh load keeper = (way : ℕ) → value_at keeper way ≡ None → slice_index load.each way ≡ 0

-- so much fits in a way, in place of what the way has
abbrev pub Fits : ℕ → ℕ → Load → Type 0
Fits way weight load = weight_in load - slice_index load.each way + weight ≤ load.most

-- a way weighs so much, and each other what it did
abbrev pub weighs_at : ℕ → ℕ → Load → Load
weighs_at way weight load = record load { each = slice_set load.each way weight }

-- of the values that were there some may have gone, which weigh nothing any more; each other one weighs what it did
pub record Lightens (old : Keeper) (was : Load) (new : Keeper) (is : Load) : Type 0 where
  pub most : is.most ≡ was.most
  pub long : length is.each ≡ length was.each
  pub each : (way : ℕ)
      → ((value_at new way ≡ None) × (slice_index is.each way ≡ 0))
      ⊎ ((value_at new way ≡ value_at old way) × (slice_index is.each way ≡ slice_index was.each way))
