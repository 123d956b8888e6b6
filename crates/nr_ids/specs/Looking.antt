-- What a scan of an id's places tells, of a reader and of the clerk.
use Rattle.std.specs.Prelude.{◌≡◌, ◌≢◌, ℕ, zero, suc, ◌+◌, ◌%◌, ◌<◌, ◌⊎◌, ◌==◌, cond, IfNone, IfSome, List, [], ◌∷◌}
use Rattle.std.specs.Prelude.{Option, Some, None}
use Rattle.std.specs.Int.{bit_at}
use Rattle.nr_ids.specs.declared.admissions.Room.{Room}
use Rattle.nr_ids.specs.Groups.{IsWayOf, group_of, group_of_way, hint_of, places, second_of, way_at, way_in, ways}
use Rattle.nr_ids.specs.Events.{Event, hinted, looked, touched, hint_at, hint_in, hints_of, looks, name_of, IsAbsent}
use Rattle.nr_ids.specs.Scans.{Passed}
use Rattle.nr_ids.specs.Tokens.{Token, Grows, Within}

-- the id's two groups, and the way at a place of the id's
abbrev pub group_for : Token → ℕ → ℕ
group_for token id = group_of token.directory.plan id

abbrev pub second_for : Token → ℕ → ℕ
second_for token id = second_of token.directory.plan id

abbrev pub way_for : Token → ℕ → ℕ → ℕ
way_for token id place = way_at token.directory.plan id place

-- within the call there was a moment at which the id had no way
pub record WasAbsent (id : ℕ) (old new : Token) : Type 0 where
  pub moment : List Event
  pub within : Within old new moment
  pub absent : IsAbsent moment id

-- within the call there was a moment at which the way had that name, which the clerk knows to be there still
pub record HadName (way id : ℕ) (old new : Token) : Type 0 where
  pub inside : way < ways old.directory.plan
  pub moment : List Event
  pub within : Within old new moment
  pub had : name_of moment way ≡ id
  pub exact : old.number ≡ 0 → name_of new.seen way ≡ id

-- or had it not
pub record LackedName (way id : ℕ) (old new : Token) : Type 0 where
  pub moment : List Event
  pub within : Within old new moment
  pub other : name_of moment way ≢ id

-- of so many ways none has the name, where the clerk looked
abbrev pub PassedByClerk : (ℕ → ℕ) → ℕ → Token → ℕ → Token → Type 0
PassedByClerk way name old count new =
    old.number ≡ 0 → (place : ℕ) → place < count → name_of new.seen (way place) ≢ name

-- LOOKS THROUGH A GROUP
-- at how many of its first places a group's hints have this one
abbrev pub fitting : ℕ → ℕ → ℕ → ℕ
fitting hints hint zero = 0
fitting hints hint (suc place) =
    cond (hint_at hints place == hint) (fitting hints hint place + 1) (fitting hints hint place)

-- of these bits that one is the lowest
abbrev pub IsFirst : ℕ → ℕ → Type 0
IsFirst bits place = (bit_at bits place ≡ 1) × ((other : ℕ) → other < place → bit_at bits other ≡ 0)

-- a group's hints were looked at, and then the names of those of its first ways that had the id's hint
pub record LooksIn (id group among : ℕ) (old new : Token) : Type 0 where
  pub hinted : Token
  pub hints : Grows (looks 1 old.number) old hinted
  pub names :
      Grows (looks (fitting (hints_of hinted.seen group) (hint_of old.directory.plan id) among) hinted.number)
      hinted new

-- through both groups of the id
pub record LooksInBoth (id : ℕ) (old new : Token) : Type 0 where
  pub mid : Token
  pub first : LooksIn id (group_for old id) 8 old mid
  pub second : LooksIn id (second_for old id) 8 mid new

-- and through its group up to the way, or else through its second one
abbrev pub LooksUpTo : ℕ → ℕ → Token → Token → Type 0
LooksUpTo way id old new =
    ((group_of_way way ≡ group_for old id) × LooksIn id (group_for old id) (way % 8 + 1) old new)
    ⊎ ((group_of_way way ≡ second_for old id)
    × ((mid : Token) × LooksIn id (group_for old id) 8 old mid × LooksIn id (second_for old id) (way % 8 + 1) mid new))

pub record Missed (id : ℕ) (old new : Token) : Type 0 where
  pub looks : LooksInBoth id old new
  pub absent : WasAbsent id old new
  pub passed : (place : ℕ) → place < places → Passed old.seen new.seen (way_for old id place) id
  pub exact : old.number ≡ 0 → IsAbsent new.seen id

-- one of a group's ways had the name, or none had it when its hint or its name was looked at
pub record FindsIn (id group : ℕ) (old new : Token) (way : ℕ) : Type 0 where
  pub of : group_of_way way ≡ group
  pub looks : LooksIn id group (way % 8 + 1) old new
  pub named : HadName way id old new

pub record PassesGroup (id group : ℕ) (old new : Token) : Type 0 where
  pub looks : LooksIn id group 8 old new
  pub lacked : (place : ℕ) → place < 8 → LackedName (way_in group place) id old new
  pub exact : PassedByClerk (way_in group) id old 8 new

abbrev pub ScansGroup : ℕ → ℕ → Token → Token → Option ℕ → Type 0
ScansGroup id group old new (Some way) = FindsIn id group old new way
ScansGroup id group old new None = PassesGroup id group old new

-- a way of the id's had its name
pub record FindsAt (id : ℕ) (old new : Token) (way : ℕ) : Type 0 where
  pub looks : LooksUpTo way id old new
  pub named : HadName way id old new

abbrev pub Scans : ℕ → Token → Token → Option ℕ → Type 0
Scans id old new (Some way) = FindsAt id old new way
Scans id old new None = Missed id old new

-- ROOM
-- a hint is set for no way but those that have a name
abbrev pub HintsNames : Token → Type 0
HintsNames token = (way : ℕ) → way < ways token.directory.plan → hint_in token.seen way ≢ 0 → name_of token.seen way ≢ 0

-- a look at the hints of a way's group, and then that hint is the way's, and no other way has another
pub record SetsHint (way hint : ℕ) (old new : Token) : Type 0 where
  pub hints : ℕ
  pub grows :
      Grows (touched old.number (hinted (group_of_way way) hints) ∷ looked old.number ∷ []) old new
  pub set : hint_in new.seen way ≡ hint
  pub others : (other : ℕ) → other ≢ way → hint_in new.seen other ≡ hint_in old.seen other

-- at each of the id's places is a name
abbrev pub IsFull : ℕ → Token → Type 0
IsFull id token = (place : ℕ) → place < places → name_of token.seen (way_for token id place) ≢ 0

-- a look at the hints of each of the id's groups told a way without a name, or that there is none
pub record HasRoom (id way : ℕ) (old new : Token) : Type 0 where
  pub grows : Grows (looks 2 old.number) old new
  pub inside : way < ways old.directory.plan
  pub place : IsWayOf old.directory.plan id way
  pub free : name_of new.seen way ≡ 0

abbrev pub Rooms : ℕ → Token → Token → Option ℕ → Type 0
Rooms id old new (Some way) = HasRoom id way old new
Rooms id old new None = Grows (looks 2 old.number) old new × IsFull id new

-- what a look at a group's hints told the clerk
pub record SeesRoom (group : ℕ) (old new : Token) (room : Room) : Type 0 where
  pub grows : Grows (looks 1 old.number) old new
  pub free : IfSome room.way (λ way. (group_of_way way ≡ group) × (name_of new.seen way ≡ 0))
  pub full : IfNone room.way (PassedByClerk (way_in group) 0 old 8 new)
