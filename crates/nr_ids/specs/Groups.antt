-- The two groups of an id: functions of the id and of the key that the directory was opened with.
use Rattle.std.specs.Prelude.{◌≡◌, ℕ, zero, suc, ◌+◌, ◌-◌, ◌*◌, ◌/◌, ◌%◌, ◌^◌, ◌<◌, ◌≤◌, ◌⊎◌, bit_or, bit_xor, max}
use Rattle.nr_ids.specs.declared.plan.Plan.{Plan}
use Rattle.nr_ids.specs.declared.plan.TheConstants.{MAX_GROUPS}

-- an opening takes some groups, all of whose ways can be keys of one map
abbrev pub IsPlan : Plan → Type 0
IsPlan plan = (0 < plan.groups) × (plan.groups ≤ MAX_GROUPS)

-- it refuses none, and too many
abbrev pub IsBadPlan : Plan → Type 0
IsBadPlan plan = (plan.groups ≡ 0) ⊎ (MAX_GROUPS < plan.groups)

-- an id's product with an odd number, whose high half goes into its low half
abbrev pub folded : ℕ → ℕ
folded id = let product = id * 13787848793156543929 % 2 ^ 64 in bit_xor product (product / 2 ^ 32)

-- its product with the key, made odd
unfoldable pub mixed : ℕ → ℕ → ℕ
mixed key id = folded id * bit_or key 1 % 2 ^ 64

-- the high half, scaled to the groups
unfoldable pub group_of : Plan → ℕ → ℕ
group_of plan id = mixed plan.key id / 2 ^ 32 * plan.groups / 2 ^ 32

-- another group where there is one: so many further on, by the low half scaled to the others, and on from the first
-- behind the last
unfoldable pub second_of : Plan → ℕ → ℕ
second_of plan id = (group_of plan id + 1 + mixed plan.key id % 2 ^ 32 * (plan.groups - 1) / 2 ^ 32) % plan.groups

-- the hint of an id is eight bits of it that are never 0
unfoldable pub hint_of : Plan → ℕ → ℕ
hint_of plan id = max 1 (mixed plan.key id / 2 ^ 32 % 2 ^ 8)

-- ways 8g to 8g + 7 are the ways of group g
abbrev pub ways : Plan → ℕ
ways plan = 8 * plan.groups

abbrev pub group_of_way : ℕ → ℕ
group_of_way way = way / 8

-- the ways of a group, in their order
abbrev pub way_in : ℕ → ℕ → ℕ
way_in group place = 8 * group + place

-- an id has sixteen places: the ways of its group, and then those of its second group
abbrev pub places : ℕ
places = 16

abbrev pub group_at : Plan → ℕ → ℕ → ℕ
group_at plan id zero = group_of plan id
group_at plan id (suc more) = second_of plan id

abbrev pub way_at : Plan → ℕ → ℕ → ℕ
way_at plan id place = 8 * group_at plan id (place / 8) + place % 8

-- the way is at one of the id's places
abbrev pub IsWayOf : Plan → ℕ → ℕ → Type 0
IsWayOf plan id way = (place : ℕ) × (place < places) × (way_at plan id place ≡ way)
