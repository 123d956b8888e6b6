-- What happens to a directory, newest first: each step of each caller is one event.
use Rattle.std.specs.Prelude.{◌≡◌, ◌≢◌, ℕ, ◌+◌, ◌%◌, ◌^◌, ◌<◌, ◌==◌, cond, List, [], ◌∷◌, replicate, bit_or, bit_xor}
use Rattle.std.specs.Prelude.{get_or}
use Rattle.std.specs.Int.{bit_at, to_le_bytes, w64}
use Rattle.nr_ids.specs.declared.plan.Plan.{Plan}
use Rattle.nr_ids.specs.Groups.{IsWayOf, group_of, group_of_way, hint_of, way_in, ways}

-- a step that concerns no name and no turn
pub data Touch : Type 0 where
  -- the word at that place of the table was loaded
  loaded : ℕ → Touch
  -- a way's use bit was set; those bits of a group's marks were turned over
  marked : ℕ → Touch
  turned : ℕ → ℕ → Touch
  -- the hints of a group's ways are this word from now on
  hinted : ℕ → ℕ → Touch

pub data Event : Type 0 where
  -- by the clerk: from now on a way has this name, or has none; a claim of a group is answered
  named : ℕ → ℕ → Event
  unnamed : ℕ → Event
  cleared : ℕ → Event
  -- by the caller of that number: its claim of an id's group is granted; it looked at a name, a turn or a group's
  -- hints; it touched another word, or set hints
  claimed : ℕ → ℕ → Event
  looked : ℕ → Event
  touched : ℕ → Touch → Event

-- the number of the caller whose step it was; the clerk's is 0
abbrev pub maker : Event → ℕ
maker (claimed by id) = by
maker (looked by) = by
maker (touched by touch) = by
maker _ = 0

-- a caller's own steps
abbrev pub own : ℕ → List Event → List Event
own by [] = []
own by (event ∷ log) = cond (maker event == by) (event ∷ own by log) (own by log)

-- so many looks of a caller's
abbrev pub looks : ℕ → ℕ → List Event
looks count by = replicate count (looked by)

-- the name of a way after these events, or 0
abbrev pub name_of : List Event → ℕ → ℕ
name_of [] way = 0
name_of (named other id ∷ log) way = cond (other == way) id (name_of log way)
name_of (unnamed other ∷ log) way = cond (other == way) 0 (name_of log way)
name_of (_ ∷ log) way = name_of log way

-- the turn of a group: how often it was claimed and cleared, so odd while a claim is open
abbrev pub turn_of : Plan → List Event → ℕ → ℕ
turn_of plan [] group = 0
turn_of plan (cleared other ∷ log) group = cond (other == group) (turn_of plan log group + 1) (turn_of plan log group)
turn_of plan (claimed by id ∷ log) group =
    cond (group_of plan id == group) (turn_of plan log group + 1) (turn_of plan log group)
turn_of plan (_ ∷ log) group = turn_of plan log group

-- a way's bit among its group's marks
abbrev pub mark_bit : ℕ → ℕ
mark_bit way = 2 ^ (way % 8)

-- the marks of a group after these events: a use bit of each of its eight ways, and above them the place at which the
-- next choice begins
abbrev pub marks_after : Touch → ℕ → ℕ → ℕ
marks_after (marked way) group marks = cond (group_of_way way == group) (bit_or marks (mark_bit way)) marks
marks_after (turned other bits) group marks = cond (other == group) (bit_xor marks bits) marks
marks_after _ group marks = marks

abbrev pub marks_of : List Event → ℕ → ℕ
marks_of [] group = 0
marks_of (touched by touch ∷ log) group = marks_after touch group (marks_of log group)
marks_of (_ ∷ log) group = marks_of log group

-- the hints of a group after these events: a byte for each of its eight ways, the first way's the lowest
abbrev pub hints_after : Touch → ℕ → ℕ → ℕ
hints_after (hinted other written) group hints = cond (other == group) written hints
hints_after _ group hints = hints

abbrev pub hints_of : List Event → ℕ → ℕ
hints_of [] group = 0
hints_of (touched by touch ∷ log) group = hints_after touch group (hints_of log group)
hints_of (_ ∷ log) group = hints_of log group

-- the hint at a place in a group's hints, and a way's; 0 is none
abbrev pub hint_at : ℕ → ℕ → ℕ
hint_at hints place = get_or (to_le_bytes w64 hints) place 0

abbrev pub hint_in : List Event → ℕ → ℕ
hint_in log way = hint_at (hints_of log (group_of_way way)) (way % 8)

-- the use bit at a place in a group's marks is set; a way's is
abbrev pub HasMark : ℕ → ℕ → Type 0
HasMark marks place = bit_at marks place ≡ 1

abbrev pub IsMarked : List Event → ℕ → Type 0
IsMarked log way = HasMark (marks_of log (group_of_way way)) (way % 8)

abbrev pub IsOpen : Plan → List Event → ℕ → Type 0
IsOpen plan log group = turn_of plan log group % 2 ≡ 1

abbrev pub IsClosed : Plan → List Event → ℕ → Type 0
IsClosed plan log group = turn_of plan log group % 2 ≡ 0

-- at this turn a group is worn out: it can't be claimed again
abbrev pub last_turn : ℕ
last_turn = 2 ^ 62

-- no way has the id's name
abbrev pub IsAbsent : List Event → ℕ → Type 0
IsAbsent log id = (way : ℕ) → name_of log way ≢ id

-- a way of the id's that has the id's hint and no name gets the id's, which no way has, while a claim of the id's group
-- is open
pub record MayName (plan : Plan) (log : List Event) (way id : ℕ) : Type 0 where
  pub inside : way < ways plan
  pub real : 0 < id
  pub place : IsWayOf plan id way
  pub hint : hint_in log way ≡ hint_of plan id
  pub free : name_of log way ≡ 0
  pub open_claim : IsOpen plan log (group_of plan id)
  pub absent : IsAbsent log id

-- a group is claimed for an id that no way has, while no claim of the group is open
pub record MayClaim (plan : Plan) (log : List Event) (id : ℕ) : Type 0 where
  pub real : 0 < id
  pub closed : IsClosed plan log (group_of plan id)
  pub early : turn_of plan log (group_of plan id) < last_turn
  pub absent : IsAbsent log id

-- use bits that are turned over are set, and the clerk does that
abbrev pub AreMarked : List Event → ℕ → ℕ → Type 0
AreMarked log group bits = (place : ℕ) → place < 8 → bit_at bits place ≡ 1 → HasMark (marks_of log group) place

-- hints that are written keep those of the ways that have a name, and the clerk writes them
abbrev pub KeepsHints : List Event → ℕ → ℕ → Type 0
KeepsHints log group hints =
    (place : ℕ) → place < 8 → name_of log (way_in group place) ≢ 0
    → hint_at hints place ≡ hint_at (hints_of log group) place

abbrev pub MayTouch : Plan → List Event → ℕ → Touch → Type 0
MayTouch plan log by (loaded place) = Unit {0}
MayTouch plan log by (marked way) = way < ways plan
MayTouch plan log by (turned group bits) = (by ≡ 0) × (group < plan.groups) × AreMarked log group bits
MayTouch plan log by (hinted group hints) = (by ≡ 0) × (group < plan.groups) × KeepsHints log group hints

abbrev pub May : Plan → List Event → Event → Type 0
May plan log (named way id) = MayName plan log way id
May plan log (unnamed way) = way < ways plan
May plan log (cleared group) = (group < plan.groups) × IsOpen plan log group
May plan log (claimed by id) = MayClaim plan log id
May plan log (looked by) = Unit {0}
May plan log (touched by touch) = MayTouch plan log by touch

abbrev pub IsLegal : Plan → List Event → Type 0
IsLegal plan [] = Unit {0}
IsLegal plan (event ∷ log) = May plan log event × IsLegal plan log
