-- Laws of legal events, and of what tokens know.
use Rattle.std.specs.Prelude.{◌≡◌, ◌≢◌, ℕ, ◌+◌, ◌*◌, ◌%◌, ◌<◌, ◌≤◌, ◌⊎◌, ◌==◌, cond, Contains, List, [], ◌∷◌, ◌++◌}
use Rattle.std.specs.Prelude.{Option, Some, bit_xor, length}
use Rattle.std.specs.Int.{bit_at}
use Rattle.nr_ids.specs.declared.plan.Plan.{Plan}
use Rattle.nr_ids.specs.Groups.{IsPlan, IsWayOf, group_of, group_of_way, hint_of, second_of, ways}
use Rattle.nr_ids.specs.Events.{Event, Touch, named, unnamed, cleared, claimed, touched, marked, turned, hint_in}
use Rattle.nr_ids.specs.Events.{marks_of, name_of, turn_of, IsLegal}
use Rattle.nr_ids.specs.Answers.{LooksUp}
use Rattle.nr_ids.specs.Marks.{ChoosesPlace}
use Rattle.nr_ids.specs.Rule.{BeginsWith}
use Rattle.nr_ids.specs.Tokens.{Known, Token, Grows, HasName}

-- an id has at most one way, which is at one of its places
abbrev pub OneWay : Type 0
OneWay =
    (plan : Plan) (log : List Event) (way other id : ℕ) → IsLegal plan log → 0 < id → name_of log way ≡ id
    → name_of log other ≡ id → way ≡ other

abbrev pub AtItsPlaces : Type 0
AtItsPlaces =
    (plan : Plan) (log : List Event) (way id : ℕ) → IsLegal plan log → 0 < id → name_of log way ≡ id
    → (way < ways plan) × IsWayOf plan id way

-- a way that has an id's name has the id's hint, which isn't 0
abbrev pub HintsTell : Type 0
HintsTell =
    (plan : Plan) (log : List Event) (way id : ℕ) → IsLegal plan log → 0 < id → name_of log way ≡ id
    → (hint_in log way ≡ hint_of plan id) × (hint_of plan id ≢ 0)

-- an id's second group is another one where there are two; so a way tells through which groups a scan found it
abbrev pub SecondIsAnother : Type 0
SecondIsAnother = (plan : Plan) (id : ℕ) → IsPlan plan → 1 < plan.groups → second_of plan id ≢ group_of plan id

-- one of these events is this one
abbrev pub Has : Event → List Event → Type 0
Has event log = (later : List Event) × (earlier : List Event) × (log ≡ later ++ event ∷ earlier)

-- between two claims of one group lies a clearing of it
abbrev pub OneClaim : Type 0
OneClaim =
    (plan : Plan) (rest log : List Event) (by id other twin : ℕ)
    → IsLegal plan (claimed by id ∷ rest ++ claimed other twin ∷ log) → group_of plan twin ≡ group_of plan id
    → Has (cleared (group_of plan id)) rest

-- between two namings for one id lies the taking of its first way's name
abbrev pub OneNaming : Type 0
OneNaming =
    (plan : Plan) (rest log : List Event) (way first id : ℕ)
    → IsLegal plan (named way id ∷ rest ++ named first id ∷ log) → Has (unnamed first) rest

-- how often a group was claimed, and how often a claim of it was closed
abbrev pub claims : Plan → ℕ → List Event → ℕ
claims plan group [] = 0
claims plan group (claimed by id ∷ log) =
    cond (group_of plan id == group) (claims plan group log + 1) (claims plan group log)
claims plan group (_ ∷ log) = claims plan group log

abbrev pub closings : ℕ → List Event → ℕ
closings group [] = 0
closings group (cleared other ∷ log) = cond (other == group) (closings group log + 1) (closings group log)
closings group (_ ∷ log) = closings group log

-- a turn counts both
abbrev pub TurnCounts : Type 0
TurnCounts =
    (plan : Plan) (log : List Event) (group : ℕ) → turn_of plan log group ≡ claims plan group log + closings group log

-- of names the clerk knows all: they are those that it knew, after its own steps
abbrev pub ClerkKnows : Type 0
ClerkKnows =
    (old : Token) (acts : List Event) (new : Token) (way : ℕ) → old.number ≡ 0 → Grows acts old new
    → name_of new.seen way ≡ name_of (acts ++ old.seen) way

-- a token that knows a way's name looks it up there, unless the name was taken since
abbrev pub FindsWhatItKnew : Type 0
FindsWhatItKnew =
    (id way : ℕ) (old new : Token) (found : Option ℕ) → 0 < id → HasName old way id → LooksUp id old new found
    → (found ≡ Some way) ⊎ ((rest : List Event) × (new.seen ≡ rest ++ old.seen) × Has (unnamed way) rest)

-- a token that heard of a way's name, and knows whatever more, looks it up there, unless the name was taken since the
-- note
abbrev pub FindsWhatItHeard : Type 0
FindsWhatItHeard =
    (note : Known) (id way : ℕ) (old new : Token) (found : Option ℕ) → 0 < id → name_of note.seen way ≡ id
    → BeginsWith old.seen note.seen → LooksUp id old new found
    → (found ≡ Some way) ⊎ ((rest : List Event) × (new.seen ≡ rest ++ note.seen) × Has (unnamed way) rest)

-- 1 where a way was marked, and its mark wasn't taken since, else 0
abbrev pub use_after : Touch → ℕ → ℕ → ℕ
use_after (marked other) way was = cond (other == way) 1 was
use_after (turned group bits) way was =
    cond (group == group_of_way way) (cond (bit_at bits (way % 8) == 1) 0 was) was
use_after _ way was = was

abbrev pub use_of : List Event → ℕ → ℕ
use_of [] way = 0
use_of (touched by touch ∷ log) way = use_after touch way (use_of log way)
use_of (_ ∷ log) way = use_of log way

-- that is what its bit among the marks tells
abbrev pub MarksTell : Type 0
MarksTell =
    (plan : Plan) (log : List Event) (way : ℕ) → IsLegal plan log
    → bit_at (marks_of log (group_of_way way)) (way % 8) ≡ use_of log way

-- choices by a group's marks, one after the other, where no way is marked in between: the places that they come to
abbrev pub ChoosesInTurn : ℕ → List ℕ → Type 0
ChoosesInTurn marks [] = Unit {0}
ChoosesInTurn marks (place ∷ places) =
    (bits : ℕ) × ChoosesPlace marks place bits × ChoosesInTurn (bit_xor marks bits) places

-- eight of them come to each place that had no mark, and sixteen to every one
abbrev pub EachPlaceIsChosen : Type 0
EachPlaceIsChosen =
    (marks : ℕ) (places : List ℕ) (place : ℕ) → ChoosesInTurn marks places → place < 8
    → 8 + 8 * bit_at marks place ≤ length places → Contains places place
