-- The laws of the steps, each of one form, which is all that a map of running callers needs: whatever the core state
-- is, a caller of that role can make that operation, and then the core state stands again, with the entries of its
-- calls.
use Rattle.std.specs.Prelude.{◌≡◌, ℕ, suc, ◌-◌, ◌^◌, ◌<◌, ◌≤◌, List, [], ◌∷◌, ◌++◌, length, slice_index, Bool, None}
use Rattle.nr_model.specs.declared.rows.Row.{Row}
use Rattle.nr_model.specs.Histories.{Entry}
use Rattle.nr_core.specs.declared.shape.Shape.{Shape}
use Rattle.nr_core.specs.declared.calls.WriterCall.{WriterCall}
use Rattle.nr_core.specs.declared.operation.Operation.TheVariants.{Load, Add, Or}
use Rattle.nr_core.specs.declared.places.Place.TheVariants.{Idle, Searching}
use Rattle.nr_core.specs.declared.roles.Desk.{Desk}
use Rattle.nr_core.specs.declared.roles.Role.{Role}
use Rattle.nr_core.specs.declared.roles.Role.TheVariants.{Writer, Reader, Note}
use Rattle.nr_core.specs.declared.roles.Grip.TheVariants.{Nothing, On}
use Rattle.nr_words.specs.declared.key_words.TheConstants.{ARRIVE}
use Rattle.nr_words.specs.SetWords.{encode}
use Rattle.nr_core.specs.Sums.{total}
use Rattle.nr_core.specs.Sizes.{IsShape}
use Rattle.nr_core.specs.Slots.{bound_of, departures, content, name_number, words_at_opening}
use Rattle.nr_core.specs.States.{key_of, opening_desk, retired_at}
use Rattle.nr_core.specs.Operations.{going}
use Rattle.nr_core.specs.Refusals.{if_not_busy}
use Rattle.nr_core.specs.Given.{IsGivenCall}
use Rattle.nr_core.specs.Roles.{is_reader, readers_from}
use Rattle.nr_core.specs.Core.{Core}
use Rattle.nr_core.specs.Steps.{CanStep, CanStepWhere, Arrives, Asks, LooksUp, HoldsNamed, ReadsHeld, FindsAgain}
use Rattle.nr_core.specs.Steps.{Departs, Looks, Goes, Tries, GivesUp, LoadsWord}

-- a reader that holds nothing arrives at a key, or asks for it
abbrev pub ArriveLaw : Type 0
ArriveLaw =
    (shape : Shape) (id reader at : ℕ) → at < shape.keys
    → CanStep shape id (Reader reader Nothing) (Add at ARRIVE) (Arrives shape reader at)

abbrev pub AskLaw : Type 0
AskLaw =
    (shape : Shape) (id reader at : ℕ) → at < shape.keys
    → CanStep shape id (Reader reader Nothing) (Or at 1) (Asks reader at)

-- a reader that holds nothing looks a key up; where the key names a slot, it may hold that slot as if it had arrived
abbrev pub LookUpLaw : Type 0
LookUpLaw =
    (shape : Shape) (id reader at : ℕ) → at < shape.keys
    → CanStep shape id (Reader reader Nothing) (Load at) (LooksUp reader at)

abbrev pub HoldNamedLaw : Type 0
HoldNamedLaw = (shape : Shape) (id reader at slot : ℕ) → at < shape.keys
    → CanStepWhere shape id (Reader reader Nothing) (Add (departures shape slot) (2 ^ 64 - 1))
    (λ words. name_number (slice_index words at) ≡ suc slot) (HoldsNamed shape reader slot at)

-- a reader that holds a slot reads a word of its set, or departs
abbrev pub ReadLaw : Type 0
ReadLaw =
    (shape : Shape) (id reader slot : ℕ) (rows : List Row) (sized : Bool) (index : ℕ) → index < length (encode rows)
    → CanStep shape id (Reader reader (On slot rows sized)) (Load (content shape slot index))
    (ReadsHeld reader slot rows sized index)

-- it finds a key again, by a load of the key's word
abbrev pub FindAgainLaw : Type 0
FindAgainLaw =
    (shape : Shape) (id reader slot : ℕ) (rows : List Row) (sized : Bool) (at : ℕ) → at < shape.keys
    → CanStep shape id (Reader reader (On slot rows sized)) (Load at) (FindsAgain shape reader slot rows sized at)

-- a reader that holds a slot departs from it
abbrev pub DepartLaw : Type 0
DepartLaw =
    (shape : Shape) (id reader slot : ℕ) (rows : List Row) (sized : Bool)
    → CanStep shape id (Reader reader (On slot rows sized)) (Add (departures shape slot) 1) (Departs reader)

-- the writer, in no call, begins one by its look; in a call it makes the next step, whichever kind that is
abbrev pub LookLaw : Type 0
LookLaw =
    (shape : Shape) (id : ℕ) (desk : Desk) (call : WriterCall) → desk.place ≡ Idle → IsGivenCall (bound_of shape) call
    → key_of call < shape.keys → CanStep shape id (Writer desk) (Load (key_of call)) (Looks shape desk call)

abbrev pub GoLaw : Type 0
GoLaw =
    (shape : Shape) (id : ℕ) (desk : Desk) → if_not_busy desk.place ≡ None
    → CanStep shape id (Writer desk) (going shape desk desk.place) (Goes shape desk)

-- in its search the writer polls whichever retired slot it likes, or gives up
abbrev pub TryLaw : Type 0
TryLaw =
    (shape : Shape) (id : ℕ) (desk : Desk) (call : WriterCall) (rows : List Row) (at poll : ℕ)
    → desk.place ≡ Searching call rows at → poll < length desk.retired
    → CanStep shape id (Writer desk) (Load (departures shape (retired_at desk poll).slot)) (Tries desk call rows poll)

abbrev pub GiveUpLaw : Type 0
GiveUpLaw =
    (shape : Shape) (id : ℕ) (desk : Desk) (call : WriterCall) (rows : List Row) (at place : ℕ)
    → desk.place ≡ Searching call rows at → CanStep shape id (Writer desk) (Load place) (GivesUp desk)

-- any caller loads a word, and only learns
abbrev pub LearnLaw : Type 0
LearnLaw = (shape : Shape) (id : ℕ) (role : Role) (place : ℕ) → CanStep shape id role (Load place) (LoadsWord role)

-- the opening words are a core state of a writer and any number of readers that hold nothing
abbrev pub OpeningLaw : Type 0
OpeningLaw =
    (shape : Shape) → IsShape shape → (readers : ℕ) → readers ≤ shape.readers
    → Core shape (words_at_opening shape) (Writer (opening_desk shape) ∷ readers_from 0 readers) []

-- one reader more, or one note more, changes nothing for the others
abbrev pub SeatLaw : Type 0
SeatLaw =
    (shape : Shape) (words : List ℕ) (roles : List Role) (log : List Entry) (reader : ℕ) → Core shape words roles log
    → total is_reader roles < shape.readers → Core shape words (roles ++ Reader reader Nothing ∷ []) log

abbrev pub NoteLaw : Type 0
NoteLaw =
    (shape : Shape) (words : List ℕ) (roles : List Role) (log : List Entry) → Core shape words roles log
    → Core shape words (roles ++ Note ∷ []) log
