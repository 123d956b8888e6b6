-- A reader that is idle or holds the set of a key.
use Rattle.std.specs.Prelude.{◌≡◌, ◌≢◌, ℕ, suc, ◌+◌, ◌-◌, ◌*◌, ◌<◌, ◌==◌, ◌⊎◌, ◌&&◌, ◌||◌, nat_lt, Bool, true, false}
use Rattle.std.specs.Prelude.{if◌then◌else◌, List, [], ◌∷◌, ◌++◌, length, Option, Some, None, Result, Ok, Err}
use Rattle.atomic_table.specs.declared.shared.Seat.{Seat}
use Rattle.nr_model.specs.declared.rows.Row.{Row}
use Rattle.nr_model.specs.Rows.{IsRowSet}
use Rattle.nr_model.specs.declared.calls.Call.TheVariants as model
use Rattle.nr_model.specs.declared.calls.Reply.{Reply}
use Rattle.nr_model.specs.declared.calls.Reply.TheVariants as reply
use Rattle.nr_core.specs.Marks.{LoggedLoad, Marks, acted, with_loads}
use Rattle.nr_core.specs.Puts.{put_number}
use Rattle.nr_board.specs.declared.answers.Found.{Found}
use Rattle.nr_board.specs.declared.answers.Found.TheVariants as found
use Rattle.nr_board.specs.Callers.{Caller, Gains, Grows, Rests, token}
use Rattle.nr_board.specs.Holds.{FindsHole, FindsHoleAfter, FindsRows, FindsRowsAfter, HeldIn, HoleIn, LooksAgain}
use Rattle.nr_board.specs.Holds.{finds_by_word, looks_at}
use Rattle.nr_board.specs.Meetings.{HasPut}
use Rattle.nr_board.specs.Rule.{StartsWith}
use Rattle.nr_board.specs.Seats.{IdlesAt}
use Rattle.nr_board.specs.declared.board.Own.{Own}
use Rattle.nr_board.specs.Views.{View, rows_held, view_of}
use Rattle.nr_map.specs.declared.hand.Kept.{Kept}
use Rattle.nr_map.specs.Answers.{FindsIn, MarksFound}
use Rattle.nr_map.specs.Pins.{HoldsSlot, Pinned, Pins}
use Rattle.nr_core.specs.Slots.{name_number}
use Rattle.nr_words.specs.KeyWords.{is_filled}
use Rattle.nr_map.specs.Tokens.{IsReader}

-- the reader, the key whose set it holds, and the rows of that set; none where it holds nothing
pub record Handed : Type 0 where
  pub reader : Caller
  pub key : Option ℕ
  pub rows : List Row

-- of a reader that holds nothing
abbrev pub idle : Caller → Handed
idle reader = record { reader = reader; key = None; rows = [] }

-- what a pin holds, taken for a set of that key
abbrev pub in_hand : ℕ → Pinned → Handed
in_hand key pin = record { reader = pin.reader; key = Some key; rows = pin.rows }

-- what a hand holds is a pin, of whichever key; or it is a reader that holds nothing
abbrev pub BecomesPin : Handed → Result Pinned Caller → Type 0
BecomesPin hand (Ok pin) = (key : ℕ) × (hand ≡ in_hand key pin)
BecomesPin hand (Err reader) = hand ≡ idle reader

-- what is held is taken for a set of that key
abbrev pub taken_for : ℕ → Option ℕ → Option ℕ
taken_for key None = None
taken_for key (Some other) = Some key

abbrev pub held_for : ℕ → Handed → Handed
held_for key hand = record hand { key = taken_for key hand.key }

abbrev pub key_held : Option Kept → Option ℕ
key_held None = None
key_held (Some kept) = Some kept.key

abbrev pub handed : Seat (Unit {0}) View → Option Kept → Handed
handed seat held = record { reader = token seat; key = key_held held; rows = rows_held (view_of seat).role }

-- the seat is that of a reader, which holds nothing or what stands there
abbrev pub IsHand : Seat (Unit {0}) View → Own → Option Kept → Type 0
IsHand seat own None = IsReader seat own × IdlesAt (token seat).table seat
IsHand seat own (Some kept) = Pins seat own kept.set

-- a hand that holds a set lets it go by one step, an act; one that holds nothing makes none
abbrev pub steps_to_depart : Option ℕ → ℕ
steps_to_depart None = 0
steps_to_depart (Some key) = 1

abbrev pub departed : Option ℕ → Marks → Marks
departed None marks = marks
departed (Some key) marks = acted marks marks.put

pub record LetsGo (old new : Handed) : Type 0 where
  pub key_is : new.key ≡ None
  pub rows : new.rows ≡ []
  pub holds : new.reader.holds ≡ None
  pub silent : new.reader.says ≡ 0
  pub rests : Rests (steps_to_depart old.key) old.reader new.reader
  pub marks : new.reader.marks ≡ departed old.key old.reader.marks

-- in that many steps the hand read of what it holds, and nothing else changed
pub record CopiesHeld (steps : ℕ) (old new : Handed) : Type 0 where
  pub key_is : new.key ≡ old.key
  pub rows : new.rows ≡ old.rows
  pub rests : Rests steps old.reader new.reader
  pub holds : new.reader.holds ≡ old.reader.holds
  pub says : new.reader.says ≡ old.reader.says
  pub marks : new.reader.marks ≡ old.reader.marks

-- after a find it holds the key's set, or it holds nothing at a hole; what it held before is let go
pub record HoldsKey (key : ℕ) (old new : Handed) : Type 0 where
  pub key_is : new.key ≡ Some key
  pub row_set : IsRowSet old.reader.table.shape.rows new.rows
  pub holds : HoldsSlot new.reader
  pub marks : new.reader.marks
      ≡ acted (with_loads (departed old.key old.reader.marks) new.reader.marks.loads) (put_number new.reader.seen key)

pub record HoldsNothing (key : ℕ) (old new : Handed) : Type 0 where
  pub key_is : new.key ≡ None
  pub rows : new.rows ≡ []
  pub holds : new.reader.holds ≡ None
  pub silent : new.reader.says ≡ 0
  pub marks : new.reader.marks
      ≡ acted (with_loads (departed old.key old.reader.marks) new.reader.marks.loads) (put_number new.reader.seen key)

-- a pin by a hand lets go what it held before it finds
abbrev pub PinsByHand : ℕ → Handed → Handed → Bool → Type 0
PinsByHand key old new true =
    (finds : FindsRows (steps_to_depart old.key) key new.rows old.reader new.reader) × HoldsKey key old new
    × (new.reader.says ≡ finds.says)
PinsByHand key old new false = FindsHole (steps_to_depart old.key) key old.reader new.reader × HoldsNothing key old new

-- the key has the set still that the hand holds, and the find is answered with its rows in that many steps; nothing is
-- let go
pub record FindsHeld (steps key : ℕ) (old new : Handed) : Type 0 where
  pub held : old.key ≡ Some key
  pub gains : Gains steps (model.Find key) old.reader new.reader (reply.Rows old.rows)
  pub put : HasPut key old.reader.marks.put new.reader
  pub key_is : new.key ≡ old.key
  pub rows : new.rows ≡ old.rows
  pub holds : new.reader.holds ≡ old.reader.holds
  pub says : new.reader.says ≡ old.reader.says
  pub marks : LooksAgain key old.reader.holds true old.reader.marks new.reader.marks

-- the hand asked, in 1 step that is no entry, and the key had another set or none
pub record AsksInVain (key : ℕ) (old new : Handed) : Type 0 where
  pub grows : Grows 1 [] old.reader new.reader
  pub other : HasPut key old.reader.marks.put new.reader → ⊥
  pub key_is : new.key ≡ old.key
  pub rows : new.rows ≡ old.rows
  pub holds : new.reader.holds ≡ old.reader.holds
  pub says : new.reader.says ≡ old.reader.says
  pub marks : LooksAgain key old.reader.holds false old.reader.marks new.reader.marks

-- a hand finds a key again, or asked in vain, or holds no set of the key and makes no step
abbrev pub AgainByHand : ℕ → Handed → Handed → Bool → Type 0
AgainByHand key old new true = FindsHeld 1 key old new
AgainByHand key old new false = (old.key ≡ Some key → AsksInVain key old new) × (old.key ≢ Some key → new ≡ old)

-- what is held is let go, and then a find is made after which nothing is held
pub record LetsGoAndFinds (Finds : Caller → Caller → Type 0) (key : ℕ) (answer : Found)
    (old new : Handed) : Type 0 where
  pub reader : Caller
  pub lets_go : LetsGo old (idle reader)
  pub was_idle : old.key ≡ None → reader ≡ old.reader
  pub finds : Finds reader new.reader
  pub rests : new ≡ idle new.reader
  pub holds : new.reader.holds ≡ None
  pub silent : new.reader.says ≡ 0
  pub marks : MarksFound key reader new.reader answer

abbrev pub FindsAndLetsGo : {Room : Type 0} → (Room → List Row → Type 0) → ℕ → Handed → Room → Handed → Room → Found
    → Type 0
FindsAndLetsGo shows key old before new room answer =
    LetsGoAndFinds (λ reader next. FindsIn shows key reader before next room answer) key answer old new

-- the hand asked in vain before it came to where it is: with its first look since
abbrev pub AskedBefore : ℕ → Handed → Handed → Type 0
AskedBefore key old new =
    (asked : Handed) × AsksInVain key old asked × StartsWith new.reader.seen asked.reader.seen
    × ((later : List LoggedLoad) × (new.reader.marks.loads ≡ asked.reader.marks.loads ++ later))

-- a hand goes on from what it holds to the slot that a look at the key named, where it holds by its reader's word: that
-- look is the find's first. Else it lets go, in one step, and finds anew
abbrev pub goes_on : ℕ → ℕ → Bool
goes_on says word = nat_lt 0 says && is_filled word

abbrev pub first_by : ℕ → ℕ → List ℕ
first_by says word = (if goes_on says word then name_number word ∷ [] else [])

abbrev pub late_by : ℕ → ℕ → ℕ
late_by says word = (if goes_on says word then 0 else 2)

-- what a find's answer stands for: its reply, the steps of its hold, and what the hand holds then
abbrev pub reply_of : Bool → List Row → Reply
reply_of true rows = reply.Rows rows
reply_of false rows = reply.Hole

abbrev pub TakesIn : Bool → Bool → List ℕ → ℕ → ℕ → Type 0
TakesIn true by_word named says steps = HeldIn by_word named says steps
TakesIn false by_word named says steps = HoleIn by_word named steps

abbrev pub HoldsThen : Bool → ℕ → Handed → Handed → Type 0
HoldsThen true key old new = HoldsKey key old new
HoldsThen false key old new = HoldsNothing key old new

-- so after that look, by its answer
abbrev pub MovesByHand : ℕ → ℕ → Handed → Handed → Bool → Type 0
MovesByHand key word old new answer =
    (steps : ℕ) × (named : List ℕ)
    × TakesIn answer (finds_by_word old.reader) (first_by old.reader.says word ++ named) new.reader.says steps
    × Gains (steps + late_by old.reader.says word - 1) (model.Find key) old.reader new.reader (reply_of answer new.rows)
    × HoldsThen answer key old new × (new.reader.marks.loads ≡ old.reader.marks.loads ++ looks_at key named)

-- whether a hand that keeps its hold, and whose reader's word says that, looks at the key before it lets anything go:
-- it holds a set of the key, or another one by the word
abbrev pub looks_first : ℕ → Option ℕ → ℕ → Bool
looks_first key None says = false
looks_first key (Some held) says = (held == key) || nat_lt 0 says

-- What such a hand does before a find whose looks named this: so many steps, with looks that named that. It lets go
-- what it holds, without a look. Or it looks, and by the count it departs; by its word it clears that at a hole. Else
-- its look is the find's, and the next announcement lets go what it held.
abbrev pub BegunIn : ℕ → Handed → List ℕ → ℕ → List ℕ → Type 0
BegunIn key old named begun before =
    ((looks_first key old.key old.reader.says ≡ false) × (begun ≡ steps_to_depart old.key) × (before ≡ []))
    ⊎ ((looks_first key old.key old.reader.says ≡ true) × (name : ℕ) × (0 < old.reader.says → name ≡ 0) × (begun ≡ 2)
    × (before ≡ name ∷ []))
    ⊎ ((looks_first key old.key old.reader.says ≡ true) × (0 < old.reader.says) × (slot : ℕ) × (others : List ℕ)
    × (named ≡ suc slot ∷ others) × (begun ≡ 0) × (before ≡ []))

-- it holds the key's set then, in the steps of a hold, those, and so many more
abbrev pub HoldsAnew : ℕ → ℕ → Handed → Handed → Type 0
HoldsAnew more key old new =
    (begun : ℕ) × (before : List ℕ) × (finds : FindsRowsAfter before (begun + more) key new.rows old.reader new.reader)
    × BegunIn key old finds.named begun before × HoldsKey key old new × (new.reader.says ≡ finds.says)

-- or nothing, at a hole
abbrev pub FindsNone : ℕ → Handed → Handed → Type 0
FindsNone key old new =
    (begun : ℕ) × (before : List ℕ) × (finds : FindsHoleAfter before begun key old.reader new.reader)
    × BegunIn key old finds.named begun before × HoldsNothing key old new

-- a hand that keeps its hold: it finds the set that it holds again, or it finds anew
abbrev pub KeepsAnew : ℕ → Handed → Handed → Bool → Type 0
KeepsAnew key old new true = (old.key ≡ Some key → AskedBefore key old new) × HoldsAnew 0 key old new
KeepsAnew key old new false = (old.key ≡ Some key → AskedBefore key old new) × FindsNone key old new

abbrev pub KeepsByHand : ℕ → Handed → Handed → Bool → Type 0
KeepsByHand key old new true = FindsHeld 1 key old new ⊎ KeepsAnew key old new true
KeepsByHand key old new false = KeepsAnew key old new false

-- a find anew into any room; a hole leaves it as it was
abbrev pub FindsAnew : {Room : Type 0} → (Room → List Row → Type 0) → ℕ → Handed → Room → Handed → Room → Found → Type 0
FindsAnew shows key old before new room found.Rows = HoldsAnew (2 * length new.rows) key old new × shows room new.rows
FindsAnew shows key old before new room found.Hole = FindsNone key old new × (room ≡ before)

-- A find by a hand that keeps its hold, of a filled key, after which it read of the rows in so many steps: the key has
-- the set still that it held, or it found anew.
abbrev pub FindsAndReads : ℕ → ℕ → Handed → Handed → Type 0
FindsAndReads more key old new =
    FindsHeld (more + 1) key old new ⊎ ((old.key ≡ Some key → AskedBefore key old new) × HoldsAnew more key old new)

-- a find by a hand that keeps its hold: it reads the rows that it holds where the key has them still, and else finds
-- anew
abbrev pub FindsKept : {Room : Type 0} → (Room → List Row → Type 0) → ℕ → Handed → Room → Handed → Room → Found → Type 0
FindsKept shows key old before new room answer =
    (FindsHeld (2 * length old.rows + 1) key old new × shows room old.rows × (answer ≡ found.Rows))
    ⊎ ((old.key ≡ Some key → AskedBefore key old new) × FindsAnew shows key old before new room answer)
