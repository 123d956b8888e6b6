-- The base table of a load, and the writer's calls that keep the map up with it.
use Rattle.std.specs.Prelude.{◌≡◌, ◌==◌, ◌<◌, ◌+◌, ◌%◌, ℕ, zero, suc, Bool, true, false, List, [], ◌∷◌, ◌++◌, MatchBool}
use Rattle.std.specs.Prelude.{length, replicate, slice_index, slice_set, Option, None, Some}
use Rattle.nr_model.specs.declared.rows.Row.{Row}
use Rattle.nr_model.specs.declared.batches.Delta.{Delta}
use Rattle.nr_model.specs.declared.calls.Call.TheVariants as call
use Rattle.nr_model.specs.declared.calls.Reply.{Reply}
use Rattle.nr_model.specs.declared.calls.Reply.TheVariants as reply
use Rattle.nr_model.specs.declared.calls.Call.{Call}
use Rattle.nr_model.specs.Histories.{Entry, is_done}
use Rattle.nr_core.specs.Story.{entry}
use Rattle.nr_serve.specs.Hands.{capped, last_count}

-- the one row of a key, and the batch that makes it the next one
abbrev pub row_of : ℕ → ℕ → Row
row_of key x = record { a = key; b = x }

abbrev pub base_deltas : ℕ → ℕ → List Delta
base_deltas key x = record { plus = false; row = row_of key x } ∷ record { plus = true; row = row_of key (x + 1) } ∷ []

-- a base with these numbers gives the one row of a key, whatever the bound, and stays as it is
abbrev pub GivesRow : List ℕ → (key bound : ℕ) → List Row → List ℕ → Type 0
GivesRow base key bound rows base' =
    (base' ≡ base) × (key < length base → rows ≡ row_of key (slice_index base key) ∷ [])

-- a step adds one to the number in the key's row, unless that is the last one
abbrev pub StepsBase : ℕ → List ℕ → List ℕ → Option (List Delta) → Type 0
StepsBase key base base' None = (slice_index base key ≡ last_count) × (base' ≡ base)
StepsBase key base base' (Some batch) =
    (slice_index base key < last_count) × (batch ≡ base_deltas key (slice_index base key))
    × (base' ≡ slice_set base key (slice_index base key + 1))

abbrev pub applies : ℕ → ℕ → Option (List Delta) → List Entry
applies by key None = []
applies by key (Some batch) = entry by (call.Update key batch) reply.Done ∷ []

-- what becomes of a key after the fill of that number: at each fourth it is evicted, else it takes a step, in the base
-- and then in the map
abbrev pub Changes : (by fills key : ℕ) → List Entry → List ℕ → List ℕ → Type 0
Changes by fills key later base base' = MatchBool (fills % 4 == 0)
    (((answer : Reply) × (later ≡ entry by (call.Evict key) answer ∷ [])) × (base' ≡ base))
    ((batch : Option (List Delta)) × StepsBase key base base' batch × (later ≡ applies by key batch))

-- what follows a fill that was done, and one that wasn't
abbrev pub FollowsBase : (by key : ℕ) → Bool → List Entry → (fills : ℕ) → List ℕ → ℕ → List ℕ → Type 0
FollowsBase by key true later fills base fills' base' =
    (fills' ≡ capped (fills + 1)) × Changes by fills' key later base base'
FollowsBase by key false later fills base fills' base' = (fills' ≡ fills) × (later ≡ []) × (base' ≡ base)

-- one trigger: the key is filled with the row that the base has, and where that is done, something becomes of the key
pub record IsRound (by : ℕ) (round : List Entry) (fills : ℕ) (base : List ℕ) (fills' : ℕ) (base' : List ℕ) : Type
    0 where
  pub key : ℕ
  pub near : key < length base
  pub number : ℕ
  pub answer : Reply
  pub later : List Entry
  pub is : round ≡ entry by (call.Fill key number (row_of key (slice_index base key) ∷ [])) answer ∷ later
  pub follows : FollowsBase by key (is_done answer) later fills base fills' base'

-- that many triggers, of a base that began with the number 0 for each key
abbrev pub Rounds : (by keys count : ℕ) → List Entry → ℕ → List ℕ → Type 0
Rounds by keys zero entries fills base = (entries ≡ []) × (fills ≡ 0) × (base ≡ replicate keys 0)
Rounds by keys (suc count) entries fills base =
    (before : List Entry) × (fills₀ : ℕ) × (base₀ : List ℕ) × (round : List Entry)
    × Rounds by keys count before fills₀ base₀
    × IsRound by round fills₀ base₀ fills base
    × (entries ≡ before ++ round)

-- the base after a call of the writer
abbrev pub changed : List ℕ → Call → List ℕ
changed base (call.Update key batch) = slice_set base key (slice_index base key + 1)
changed base _ = base

-- rows that a find found are the one row that the base had then
abbrev pub FindsRow : List ℕ → Call → Reply → Type 0
FindsRow base (call.Find key) (reply.Rows rows) = rows ≡ row_of key (slice_index base key) ∷ []
FindsRow base _ _ = Unit {0}

abbrev pub FindsRows : List ℕ → List Entry → Type 0
FindsRows base [] = Unit {0}
FindsRows base (entry ∷ history) = FindsRow base entry.call entry.reply × FindsRows (changed base entry.call) history
