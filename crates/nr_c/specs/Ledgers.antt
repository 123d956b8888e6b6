-- The open upqueries of a map over ids, of which C has the numbers: each is kept at its way's place, with a count that
-- tells it from all others.
use Rattle.std.specs.Prelude.{ℕ, ◌≡◌, ◌+◌, ◌⊎◌, List, All, Option, Some, None, get_or, min, replicate, set}
use Rattle.nr_ids.specs.Groups.{group_of_way}
use Rattle.nr_idmap.specs.Keepers.{IdTable, Owed, Sent}
use Rattle.nr_c.specs.declared.kept_upquery.NrUpquery.{NrUpquery}

abbrev pub owed_of : NrUpquery → Owed
owed_of upquery = record { way = upquery.way; number = upquery.number; id = upquery.id }

-- an upquery, and which of the map's admissions opened it: 1 for the first
pub record Counted : Type 0 where
  pub count : ℕ
  pub upquery : Sent

-- which map's they are, how many admissions have opened one, and what each way has
pub record Entries : Type 0 where
  pub map : ℕ
  pub count : ℕ
  pub places : List (Option Counted)

abbrev pub no_entries : ℕ → ℕ → Entries
no_entries map ways = record { map = map; count = 0; places = replicate ways None }

-- each is of that map
abbrev pub AreOf : IdTable → Entries → Type 0
AreOf table kept = All (λ one. (counted : Counted) → one ≡ Some counted → counted.upquery.table ≡ table) kept.places

abbrev pub kept_at : Entries → ℕ → Option Counted
kept_at kept way = get_or kept.places way None

abbrev pub with_place : Entries → ℕ → Option Counted → Entries
with_place kept way one = record { map = kept.map; count = kept.count; places = set kept.places way one }

-- it is kept at its way's place
abbrev pub keeps : ℕ → Sent → Entries → Entries
keeps count upquery kept = with_place kept upquery.owed.way (Some (record { count = count; upquery = upquery }))

-- which admission is the next one; the count stays at the last number of 64 bits
abbrev pub next_count : Entries → ℕ
next_count kept = min (kept.count + 1) 18446744073709551615

-- a new one is kept, and counted
abbrev pub keeps_new : Sent → Entries → Entries
keeps_new upquery kept =
    keeps (next_count kept) upquery (record { map = kept.map; count = next_count kept; places = kept.places })

-- it has all of these numbers
abbrev pub HasNumbers : NrUpquery → Counted → Type 0
HasNumbers wanted counted = (counted.count ≡ wanted.count) × (counted.upquery.owed ≡ owed_of wanted)

-- the upquery with these numbers is kept
abbrev pub IsKept : NrUpquery → Entries → Type 0
IsKept wanted kept = (counted : Counted) × (kept_at kept wanted.way ≡ Some counted) × HasNumbers wanted counted

-- it isn't, and what is kept stays
abbrev pub KeepsNone : NrUpquery → Entries → Entries → Type 0
KeepsNone wanted before after = (IsKept wanted before → ⊥) × (after ≡ before)

-- it was kept, and its place is empty now
pub record GivesUp (wanted : NrUpquery) (upquery : Sent) (before after : Entries) : Type 0 where
  pub kept : kept_at before wanted.way ≡ Some (record { count = wanted.count; upquery = upquery })
  pub is : upquery.owed ≡ owed_of wanted
  pub left : after ≡ with_place before wanted.way None

-- an upquery of this way is open, and one of each way of this group
abbrev pub IsAsked : ℕ → Entries → Type 0
IsAsked way kept = (counted : Counted) × (kept_at kept way ≡ Some counted)

abbrev pub AreAllAsked : ℕ → Entries → Type 0
AreAllAsked group kept = (way : ℕ) → group_of_way way ≡ group → IsAsked way kept

-- an upquery of this id at this way, and at a way of this group
abbrev pub IsAt : ℕ → ℕ → NrUpquery → Type 0
IsAt way id upquery = (upquery.way ≡ way) × (upquery.id ≡ id)

abbrev pub IsIn : ℕ → ℕ → NrUpquery → Type 0
IsIn group id upquery = (group_of_way upquery.way ≡ group) × (upquery.id ≡ id)

abbrev pub IsInEither : ℕ → ℕ → ℕ → NrUpquery → Type 0
IsInEither first second id upquery = IsIn first id upquery ⊎ IsIn second id upquery

-- what was looked for among those that are kept: the numbers of one, or there is none
abbrev pub Tells : (NrUpquery → Type 0) → Entries → Option NrUpquery → Type 0
Tells wanted kept None = (upquery : NrUpquery) → wanted upquery → IsKept upquery kept → ⊥
Tells wanted kept (Some upquery) = wanted upquery × IsKept upquery kept
