-- The hands of the readers, and what a call of one of them does.
use Rattle.std.specs.Prelude.{◌≡◌, ℕ, false, List, [], ◌∷◌, ◌++◌, Option, None, Some, IsSome}
use Rattle.std.specs.Prelude.{option_map, Result, Ok, Err}
use Rattle.nr_model.specs.declared.rows.Row.{Row}
use Rattle.nr_model.specs.declared.calls.Call.{Call}
use Rattle.nr_model.specs.declared.calls.Call.TheVariants as model
use Rattle.nr_model.specs.declared.calls.Reply.{Reply}
use Rattle.nr_model.specs.declared.calls.Reply.TheVariants as reply
use Rattle.nr_model.specs.Histories.{Entry, is_done}
use Rattle.nr_core.specs.Story.{entry}
use Rattle.nr_core.specs.Marks.{Past}
use Rattle.nr_core.specs.Puts.{put_number}
use Rattle.nr_board.specs.Callers.{Caller, Grows, KnowsOwn, Rests, Table}
use Rattle.nr_board.specs.Meetings.{HasPut, how_is, with_step}
use Rattle.nr_board.specs.Rule.{StartsWith}
use Rattle.nr_script.specs.MapState.{Pin}
use Rattle.nr_script.specs.Answers.{Answer}
use Rattle.nr_script.specs.Answers as answers
use Rattle.nr_script.specs.declared.alone.answer.PinRefusal.{PinRefusal}
use Rattle.nr_script.specs.declared.alone.answer.PinRefusal.TheVariants as refusals
use Rattle.nr_map.specs.Hands.{Handed}

-- the reader of a hand
abbrev pub caller_in : Handed → Caller
caller_in hand = hand.reader

-- what a hand has pinned that holds the set of that key, or nothing
abbrev pub pin_for : Handed → Option ℕ → Option Pin
pin_for hand held = option_map (λ (key : ℕ). record { key = key; rows = hand.rows; put = hand.reader.marks.put }) held

abbrev pub pin_of : Handed → Option Pin
pin_of hand = pin_for hand hand.key

abbrev pub how_of : Handed → Past
how_of hand = how_is hand.reader

abbrev pub mine_of : Handed → List Entry
mine_of hand = hand.reader.mine

-- what gathers leave of a hand
pub record Still : Type 0 where
  pub table : Table
  pub mine : List Entry
  pub how : Past
  pub pin : Option Pin

abbrev pub still : Handed → Still
still hand = record { table = hand.reader.table; mine = mine_of hand; how = how_of hand; pin = pin_of hand }

-- a reader holds a slot exactly where it has a pin
abbrev pub HoldsItsPin : Option Pin → Option ℕ → Type 0
HoldsItsPin None slot = slot ≡ None
HoldsItsPin (Some pin) slot = IsSome slot

abbrev pub HandHoldsItsPin : Handed → Type 0
HandHoldsItsPin hand = HoldsItsPin (pin_of hand) hand.reader.holds

-- a reader's call with its reply; the history that it knew before had all that was heard
pub record Calls (heard : List Entry) (call : Call) (old new : Caller) (reply' : Reply) : Type 0 where
  pub quiet : is_done reply' ≡ false
  pub table : new.table ≡ old.table
  pub number : new.number ≡ old.number
  pub before : List Entry
  pub met : StartsWith before heard
  pub seen : new.seen ≡ before ++ entry old.number call reply' ∷ []
  pub mine : new.mine ≡ old.mine ++ entry old.number call reply' ∷ []
  pub own : KnowsOwn new

-- for a call that is made the writer makes a note; else it stays as it is
abbrev pub NotesFor : Caller → Caller → Result Answer PinRefusal → Type 0
NotesFor old new (Ok answer) = new ≡ with_step old
NotesFor old new (Err refusal) = new ≡ old

abbrev pub MakesCall : List Entry → Call → Handed → Handed → Result Answer PinRefusal → Type 0
MakesCall heard call old new (Ok answer) =
    (reply' : Reply) × (answer ≡ answers.Reply reply') × Calls heard call old.reader new.reader reply'
    × (pin_of old ≡ None) × (pin_of new ≡ None) × HandHoldsItsPin new
MakesCall heard call old new (Err refusals.Holding) = (new ≡ old) × IsSome (pin_of old)
MakesCall heard call old new (Err refusals.NotHolding) = ⊥

-- a pin is a find: of a filled key it holds the rows of the reply, with the put number that the key had
abbrev pub MakesPin : List Entry → ℕ → Handed → Handed → Result Answer PinRefusal → Type 0
MakesPin heard key old new (Ok answers.Ok) =
    (rows : List Row) × Calls heard (model.Find key) old.reader new.reader (reply.Rows rows)
    × (pin_of old ≡ None)
    × (pin_of new ≡ Some (record { key = key; rows = rows; put = put_number new.reader.seen key }))
    × HandHoldsItsPin new
MakesPin heard key old new (Ok (answers.Reply reply')) =
    (reply' ≡ reply.Hole) × Calls heard (model.Find key) old.reader new.reader reply.Hole
    × (pin_of old ≡ None) × (pin_of new ≡ None) × HandHoldsItsPin new
MakesPin heard key old new (Ok answers.Other) = ⊥
MakesPin heard key old new (Ok answers.NoSlot) = ⊥
MakesPin heard key old new (Err refusals.Holding) = (new ≡ old) × IsSome (pin_of old)
MakesPin heard key old new (Err refusals.NotHolding) = ⊥

-- the end of a pin
abbrev pub Unpins : Handed → Handed → Result Answer PinRefusal → Type 0
Unpins old new (Ok answer) =
    (answer ≡ answers.Ok) × Rests 1 old.reader new.reader × IsSome (pin_of old) × (pin_of new ≡ None)
    × HandHoldsItsPin new
Unpins old new (Err refusals.Holding) = ⊥
Unpins old new (Err refusals.NotHolding) = (new ≡ old) × (pin_of old ≡ None)

-- what stays of a reader that reads by its pin
abbrev pub KeepsPin : Handed → Handed → Type 0
KeepsPin old new = (pin_of new ≡ pin_of old) × (new.reader.holds ≡ old.reader.holds)

-- steps that read the pinned rows
abbrev pub ShowsPin : Handed → Handed → Result Answer PinRefusal → Type 0
ShowsPin old new (Ok answer) =
    (pin : Pin) × (pin_of old ≡ Some pin) × (answer ≡ answers.Reply (reply.Rows pin.rows)) × (steps : ℕ)
    × Rests steps old.reader new.reader
    × KeepsPin old new
ShowsPin old new (Err refusals.Holding) = ⊥
ShowsPin old new (Err refusals.NotHolding) = (new ≡ old) × (pin_of old ≡ None)

-- a find by the pin: where the key has the set of its put it is the reader's call, answered with the pinned rows; else
-- the reader learns the history so far
abbrev pub FindsAgain : ℕ → Handed → Handed → Result Answer PinRefusal → Type 0
FindsAgain key old new (Ok (answers.Reply reply')) =
    (pin : Pin) × (pin_of old ≡ Some pin) × (reply' ≡ reply.Rows pin.rows)
    × Calls old.reader.seen (model.Find key) old.reader new.reader reply'
    × HasPut key pin.put new.reader × KeepsPin old new
FindsAgain key old new (Ok answers.Other) =
    (pin : Pin) × (pin_of old ≡ Some pin) × Grows 1 [] old.reader new.reader
    × (HasPut key pin.put new.reader → ⊥) × KeepsPin old new
FindsAgain key old new (Ok answers.Ok) = ⊥
FindsAgain key old new (Ok answers.NoSlot) = ⊥
FindsAgain key old new (Err refusals.Holding) = ⊥
FindsAgain key old new (Err refusals.NotHolding) = (new ≡ old) × (pin_of old ≡ None)
