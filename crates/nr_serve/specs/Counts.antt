-- The counts of a lobby: what holds of them, and what those who raise them know.
use Rattle.std.specs.Prelude.{◌≡◌, ◌≢◌, ◌<◌, ◌≤◌, ◌==◌, ◌+◌, ◌*◌, ◌%◌, ◌⊎◌, ℕ, zero, suc, List, [], ◌∷◌, ◌++◌}
use Rattle.std.specs.Prelude.{MatchBool, length, slice_index}
use mathlib.Core.Option.{some}
use lib.ListN.{get_elem?}
use Rattle.atomic_table.specs.Seated.{TableId}
use Rattle.atomic_table.specs.Table.{Me, State, Step}
use Rattle.nr_core.specs.Sums.{only, total}
use Rattle.nr_serve.specs.Hands.{capped, last_count}

-- what a guest knows and did: each number as it last saw them all, the indexes of the counts that it raised, oldest
-- first, and how often it closed the lobby
pub record Visit : Type 0 where
  pub seen : List ℕ
  pub raised : List ℕ
  pub closes : ℕ

pub record GuestSeen : Type 0 where
  -- its lobby
  pub lobby : TableId
  pub seen : List ℕ
  pub raised : List ℕ
  pub closes : ℕ

abbrev pub new_guest : Visit
new_guest = record { seen = []; raised = []; closes = 0 }

-- the index of the number that is above 0 once the lobby is closed; at each other index is a count
abbrev pub closed_at : ℕ
closed_at = 520

abbrev pub how_often : ℕ → List ℕ → ℕ
how_often place = total (only place)

-- no number went down
abbrev pub IsLater : List ℕ → List ℕ → Type 0
IsLater old new = (place : ℕ) → slice_index old place ≤ slice_index new place

-- the same guest, later
pub record IsLaterOf (old new : GuestSeen) : Type 0 where
  pub lobby : new.lobby ≡ old.lobby
  pub seen : IsLater old.seen new.seen

-- it looked, and neither raised a count nor closed the lobby
pub record OnlyLooks (old new : GuestSeen) : Type 0 where
  pub later : IsLaterOf old new
  pub raised : new.raised ≡ old.raised
  pub closes : new.closes ≡ old.closes

-- a count stands at the last number or one below it, so that a raise of it closes the lobby
abbrev pub IsNearLast : GuestSeen → Type 0
IsNearLast guest = (place : ℕ) × (place ≢ closed_at) × (last_count ≤ slice_index guest.seen place + 1)

-- it raised these counts, in that order, and closed the lobby only for a raise to the last number
pub record Raises (places : List ℕ) (old new : GuestSeen) : Type 0 where
  pub later : IsLaterOf old new
  pub raised : new.raised ≡ old.raised ++ places
  pub closes : (new.closes ≡ old.closes) ⊎ IsNearLast new

-- a guest that did nothing
abbrev pub IsNew : GuestSeen → Type 0
IsNew guest = (guest.raised ≡ []) × (guest.closes ≡ 0)

-- a guest that raised these counts, in that order, and did nothing else; and one that closed the lobby once
abbrev pub RaisesOnly : List ℕ → GuestSeen → Type 0
RaisesOnly places guest = (guest.raised ≡ places) × ((guest.closes ≡ 0) ⊎ IsNearLast guest)

abbrev pub ClosesOnce : GuestSeen → Type 0
ClosesOnce guest = (guest.raised ≡ []) × (guest.closes ≡ 1) × (0 < slice_index guest.seen closed_at)

-- A guest that had seen and done just this has left its lobby. It stands shut: only the function that a guest leaves by
-- tells it, of a guest that it takes.
pub HasLeft : GuestSeen → Type 0
HasLeft guest = Unit {0}

pub has_left : (guest : GuestSeen) → HasLeft guest
unfolding HasLeft
has_left guest = tt

-- a guest came to that lobby, and when it left this held of it
abbrev pub Visits : TableId → (GuestSeen → Type 0) → Type 0
Visits lobby holds = (guest : GuestSeen) × HasLeft guest × (guest.lobby ≡ lobby) × holds guest

-- the index of the count of a key's group, and of the count of the whole lobby
abbrev pub group_at : ℕ → ℕ
group_at key = 8 * (key % 64)

abbrev pub whole_at : ℕ
whole_at = 512

-- the index of the count of how often the dataflow told how much it has applied
abbrev pub told_at : ℕ
told_at = 513

-- the index of the bell, which is a count too
abbrev pub rung_at : ℕ
rung_at = 528

-- the counts that are raised for a key
abbrev pub raises_for : ℕ → List ℕ
raises_for key = group_at key ∷ whole_at ∷ []

-- the index of the count of failures for a key's group, and the counts that are raised where the rows of a key couldn't
-- be had
abbrev pub failed_at : ℕ → ℕ
failed_at key = group_at key + 1

abbrev pub fails_for : ℕ → List ℕ
fails_for key = failed_at key ∷ raises_for key

-- the indexes of the counts of that many groups
abbrev pub groups_below : ℕ → List ℕ
groups_below zero = []
groups_below (suc n) = groups_below n ++ (8 * n) ∷ []

pub record AreCounts (state : State (Unit {0}) Visit) : Type 0 where
  pub size : length state.words ≡ 536
  -- a count is how often the guests raised it, all together, up to the last number
  pub counted : (place : ℕ) → place ≢ closed_at
      → slice_index state.words place ≡ capped (total (λ visit. how_often place visit.raised) state.views)
  -- a count that has reached the last number closed the lobby
  pub last : (place : ℕ) → place ≢ closed_at → slice_index state.words place ≡ last_count
      → 0 < slice_index state.words closed_at
  -- it was closed by a guest
  pub closed : 0 < slice_index state.words closed_at → 0 < total (λ visit. visit.closes) state.views
  pub seen : (id : ℕ) (visit : Visit) → get_elem? state.views id ≡ some visit → IsLater visit.seen state.words

-- a step that raises nothing, and finds this number
abbrev pub has_read_count : Step (Unit {0}) → Me (Unit {0}) Visit → ℕ → Me (Unit {0}) Visit → Type 0
has_read_count step (old, _) found (new, _) =
    IsLater old.seen new.seen × (new.raised ≡ old.raised) × (new.closes ≡ old.closes)
    × (slice_index new.seen step.word ≡ found)

-- a step that closes the lobby
abbrev pub has_closed : Step (Unit {0}) → Me (Unit {0}) Visit → ℕ → Me (Unit {0}) Visit → Type 0
has_closed step (old, _) found (new, _) =
    IsLater old.seen new.seen × (new.raised ≡ old.raised) × (new.closes ≡ old.closes + 1)
    × (0 < slice_index new.seen step.word)

-- a step that raises the count if it finds the number that it expects
abbrev pub has_raised : Step (Unit {0}) → Me (Unit {0}) Visit → ℕ → Me (Unit {0}) Visit → Type 0
has_raised step (old, _) found (new, _) =
    IsLater old.seen new.seen × (new.closes ≡ old.closes)
    × MatchBool (found == step.first) (new.raised ≡ old.raised ++ step.word ∷ []) (new.raised ≡ old.raised)
