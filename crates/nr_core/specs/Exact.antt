-- The put numbers that are in use, by the history and by the writer's lists.
use Rattle.std.specs.Prelude.{◌≡◌, ℕ, suc, ◌+◌, ◌<◌, ◌≤◌, ◌⊎◌, List, [], ◌∷◌, length, map, slice_index, Option, true}
use Rattle.std.specs.Prelude.{false, zero, option_map}
use mathlib.Core.Option.{some}
use lib.ListN.{get_elem?}
use Rattle.nr_model.specs.Maps.{filled_count, state_of, is_filled_key}
use Rattle.nr_model.specs.Histories.{Entry}
use Rattle.nr_core.specs.declared.shape.Shape.{Shape}
use Rattle.nr_core.specs.declared.roles.Desk.{Desk}
use Rattle.nr_core.specs.declared.places.Retired.{Retired}
use Rattle.nr_core.specs.Roles.{taken}
use Rattle.nr_core.specs.Story.{map_after}
use Rattle.std.specs.List.{filter_map, range_with_len}
use Rattle.nr_core.specs.Puts.{put_count, put_number}
use Rattle.nr_model.specs.Strays.{keyed, count_of_put}
use Rattle.nr_core.specs.Marks.{Past, Marks}
use Rattle.nr_core.specs.Pasts.{Living}

-- the put numbers that readers pin
abbrev pub pinned_put : Past → Option ℕ
pinned_put reader = option_map (λ slot. reader.put) reader.slot

abbrev pub pins : List Past → List ℕ
pins readers = filter_map pinned_put readers

-- the put numbers of the filled keys, by the history
abbrev pub put_numbers : Shape → List Entry → List ℕ
put_numbers shape log = map (put_number log) (range_with_len 0 shape.keys)

abbrev pub filled_puts : Shape → List Entry → List ℕ
filled_puts shape log = keyed (map_after shape log).states (put_numbers shape log)

-- the put numbers of the filled keys and of the retired slots, by the writer's lists
abbrev pub named_puts : List ℕ → List ℕ → List ℕ
named_puts puts [] = []
named_puts puts (zero ∷ names) = named_puts puts names
named_puts puts (suc slot ∷ names) = slice_index puts slot ∷ named_puts puts names

abbrev pub retired_puts : List ℕ → List Retired → List ℕ
retired_puts puts retired = map (λ (entry : Retired). slice_index puts entry.slot) retired

-- the put numbers that the writer knows are different, and below the next one
pub record Tidy (retired : List Retired) (marks : Marks) (next : ℕ) : Type 0 where
  pub once : (number : ℕ)
      → count_of_put (named_puts marks.puts marks.names) number + count_of_put (retired_puts marks.puts retired) number
      ≤ 1
  pub apart : (slot other : ℕ) → Living retired marks slot → Living retired marks other
      → slice_index marks.puts slot ≡ slice_index marks.puts other → slot ≡ other
  pub fresh : (slot : ℕ) → Living retired marks slot → slice_index marks.puts slot < next

-- what the writer's lists say of a map with this history
pub record Lists (desk : Desk) (marks : Marks) (shape : Shape) (log : List Entry) : Type 0 where
  pub tidy : Tidy desk.retired marks (put_count log)
  pub wide : length marks.names ≡ shape.keys
  pub room : desk.fresh ≤ shape.slots
  -- while no call has taken a slot, each one that was ever taken is named or retired
  pub slots : ((slot : ℕ) → taken slot desk.place ≡ 0)
      → filled_count (map_after shape log) + length desk.retired ≡ desk.fresh
  pub empty : (at : ℕ) → at < shape.keys → slice_index marks.names at ≡ 0
      → is_filled_key (state_of (map_after shape log) at) ≡ false
  pub full : (at slot : ℕ) → at < shape.keys → slice_index marks.names at ≡ suc slot
      → (is_filled_key (state_of (map_after shape log) at) ≡ true) × (slice_index marks.puts slot ≡ put_number log at)

-- a call that put a set took a free slot, or one that was retired; its put number is new
abbrev pub TookFromLists : Shape → Desk → Marks → List Entry → Type 0
TookFromLists shape desk now log =
    (desk.fresh < shape.slots)
    ⊎ ((at : ℕ) × (entry : Retired) × (get_elem? desk.retired at ≡ some entry)
    × (put_count log ≤ slice_index now.puts entry.slot))
