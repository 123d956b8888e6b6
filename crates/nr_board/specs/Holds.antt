-- A reader finds a key and holds its set: by its own word where it has one, and else by the counts.
use Rattle.std.specs.Prelude.{◌≡◌, ◌≢◌, ℕ, suc, ◌+◌, ◌-◌, ◌<◌, ◌≤◌, ◌⊎◌, ◌↔◌, nat_lt, if◌then◌else◌, Bool, true, false}
use Rattle.std.specs.Prelude.{List, [], ◌∷◌, ◌++◌, length, map, Option, Some, None, Result, Ok, Err}
use Rattle.nr_model.specs.declared.calls.Call.TheVariants as model
use Rattle.nr_model.specs.declared.calls.Reply.TheVariants as reply
use Rattle.nr_model.specs.declared.rows.Row.{Row}
use Rattle.nr_words.specs.KeyWords.{is_filled, slot_of}
use Rattle.nr_core.specs.Slots.{content, name_number, names_slot}
use Rattle.nr_core.specs.Marks.{LoggedLoad, Marks, OfKey, acted, with_loads, with_look}
use Rattle.nr_core.specs.MarkSteps.{found_again}
use Rattle.nr_core.specs.Puts.{put_number}
use Rattle.nr_board.specs.declared.holds.Held.{Held}
use Rattle.nr_board.specs.Callers.{Caller, Gains, Grows, Table, token}
use Rattle.nr_board.specs.Seats.{AnnouncesAt, HoldsAt, IdlesAt}
use Rattle.nr_board.specs.Views.{caller_number, grip_of, rows_held, view_of}
use Rattle.nr_board.specs.WordPlays.{let_go}
use Rattle.nr_board.specs.WriterSeats.{MapSeat}

-- the reader has a word of its own, since it is one of the first ones
abbrev pub finds_by_word : Caller → Bool
finds_by_word reader = nat_lt (reader.number - 1) reader.table.announcers

-- the looks at a key of a reader that finds it, by what each named: 0, or one more than a slot
abbrev pub looks_at : ℕ → List ℕ → List LoggedLoad
looks_at key named = map (λ name. OfKey key name) named

-- its marks after them
abbrev pub looked : Marks → ℕ → List ℕ → Marks
looked marks key named = with_loads marks (marks.loads ++ looks_at key named)

-- In how many steps a reader that has a word holds a set, whose size it reads last, and what its word says then. It
-- looks, announces the slot that this named, and looks again: where that names the slot still, it holds it. Else it
-- announces the other one and looks once more. Then it clears its word and arrives.
abbrev pub HeldBy : List ℕ → ℕ → ℕ → Type 0
HeldBy named says steps =
    ((slot : ℕ) × (named ≡ suc slot ∷ suc slot ∷ []) × (says ≡ suc slot) × (steps ≡ 4))
    ⊎ ((first slot : ℕ) × (named ≡ suc first ∷ suc slot ∷ suc slot ∷ []) × (first ≢ slot) × (says ≡ suc slot)
    × (steps ≡ 6))
    ⊎ ((first second third : ℕ) × (named ≡ suc first ∷ suc second ∷ suc third ∷ []) × (first ≢ second)
    × (second ≢ third) × (says ≡ 0) × (steps ≡ 8))

-- in how many it finds a hole: at its first look; at a later one, after which it clears its word; or at its arrival
abbrev pub HoleBy : List ℕ → ℕ → Type 0
HoleBy named steps =
    ((named ≡ 0 ∷ []) × (steps ≡ 1))
    ⊎ ((slot : ℕ) × (named ≡ suc slot ∷ 0 ∷ []) × (steps ≡ 4))
    ⊎ ((first slot : ℕ) × (named ≡ suc first ∷ suc slot ∷ 0 ∷ []) × (first ≢ slot) × (steps ≡ 6))
    ⊎ ((first second third : ℕ) × (named ≡ suc first ∷ suc second ∷ suc third ∷ []) × (first ≢ second)
    × (second ≢ third) × (steps ≡ 7))

-- by the count it arrives, without a look
abbrev pub HeldIn : Bool → List ℕ → ℕ → ℕ → Type 0
HeldIn false named says steps = (named ≡ []) × (says ≡ 0) × (steps ≡ 2)
HeldIn true named says steps = HeldBy named says steps

abbrev pub HoleIn : Bool → List ℕ → ℕ → Type 0
HoleIn false named steps = (named ≡ []) × (steps ≡ 1)
HoleIn true named steps = HoleBy named steps

-- a find of these rows, in the steps of a hold and so many more: the looks at the key that named those came before, and
-- the hold's named these; what the reader's word said when it held the set
pub record FindsRowsAfter (before : List ℕ) (more key : ℕ) (rows : List Row) (old new : Caller) : Type 0 where
  pub steps : ℕ
  pub named : List ℕ
  pub says : ℕ
  pub holds_in : HeldIn (finds_by_word old) named says steps
  pub looks : new.marks.loads ≡ old.marks.loads ++ looks_at key (before ++ named)
  pub gains : Gains (steps + more) (model.Find key) old new (reply.Rows rows)

-- a find of a hole, likewise
pub record FindsHoleAfter (before : List ℕ) (more key : ℕ) (old new : Caller) : Type 0 where
  pub steps : ℕ
  pub named : List ℕ
  pub finds_in : HoleIn (finds_by_word old) named steps
  pub looks : new.marks.loads ≡ old.marks.loads ++ looks_at key (before ++ named)
  pub gains : Gains (steps + more) (model.Find key) old new reply.Hole

-- with no looks before
abbrev pub FindsRows : ℕ → ℕ → List Row → Caller → Caller → Type 0
FindsRows more key rows old new = FindsRowsAfter [] more key rows old new

abbrev pub FindsHole : ℕ → ℕ → Caller → Caller → Type 0
FindsHole more key old new = FindsHoleAfter [] more key old new

-- the slot that is held
abbrev pub slot_in : Option ℕ → ℕ
slot_in None = 0
slot_in (Some slot) = slot

-- what it holds by its word is the slot that this says
abbrev pub HoldsWhatItSays : Caller → Type 0
HoldsWhatItSays reader = 0 < reader.says → reader.says ≡ suc (slot_in reader.holds)

-- by one look at a key a reader that holds a slot finds the key again, where the look named that slot, and else it
-- finds nothing
pub record LooksAgain (key : ℕ) (holds : Option ℕ) (found : Bool) (old new : Marks) : Type 0 where
  pub named : ℕ
  pub exact : (found ≡ true) ↔ (named ≡ suc (slot_in holds))
  pub marks : new ≡ found_again found (with_look old key named)

-- WHAT A SEAT HOLDS

-- a reader's seat that holds this: by its own word, if that says anything, or by a count
pub record HeldAs (table : Table) (held : Held) (seat : MapSeat) : Type 0 where
  pub holds : HoldsAt table held.begin seat
  pub begin_is : held.begin ≡ content table.shape held.slot 0
  pub count_is : held.count ≡ length (rows_held (view_of seat).role)
  pub says : (view_of seat).says ≡ held.says
  pub said : 0 < held.says → held.says ≡ suc held.slot
  pub worded : 0 < held.says → caller_number (view_of seat).role ≤ table.announcers

-- the find of a reader whose marks were these is an entry after that many steps: the set is held, or the key was a hole
-- and nothing is held
pub record HeldSo (table : Table) (key steps : ℕ) (marks : Marks) (held : Held) (old new : MapSeat) : Type 0 where
  pub held_as : HeldAs table held new
  pub gains : Gains steps (model.Find key) (token old) (token new) (reply.Rows (rows_held (view_of new).role))
  pub marks_are : (view_of new).marks ≡ acted marks (put_number (view_of new).seen key)

pub record HoleSo (table : Table) (key steps : ℕ) (marks : Marks) (old new : MapSeat) : Type 0 where
  pub idles : IdlesAt table new
  pub gains : Gains steps (model.Find key) (token old) (token new) reply.Hole
  pub marks_are : (view_of new).marks ≡ acted marks (put_number (view_of new).seen key)

abbrev pub IsAnswered : Table → ℕ → ℕ → Marks → MapSeat → MapSeat → Option Held → Type 0
IsAnswered table key steps marks old new (Some held) = HeldSo table key steps marks held old new
IsAnswered table key steps marks old new None = HoleSo table key steps marks old new

abbrev pub TakesSteps : Bool → Option Held → List ℕ → ℕ → Type 0
TakesSteps by_word (Some held) named steps = HeldIn by_word named held.says steps
TakesSteps by_word None named steps = HoleIn by_word named steps

-- a find that holds, so many steps after it began
pub record HoldsAfter (late : ℕ) (by_word : Bool) (table : Table) (key : ℕ) (marks : Marks) (old new : MapSeat)
    (answer : Option Held) : Type 0 where
  pub steps : ℕ
  pub named : List ℕ
  pub takes : TakesSteps by_word answer named steps
  pub answered : IsAnswered table key (steps + late) (looked marks key named) old new answer

-- a find by a word, that many steps after it began: after its look, or after a try too, which named this
pub record HoldsOn (made : ℕ) (earlier : List ℕ) (table : Table) (key : ℕ) (old new : MapSeat)
    (answer : Option Held) : Type 0 where
  pub steps : ℕ
  pub named : List ℕ
  pub takes : TakesSteps true answer (earlier ++ named) (made + steps)
  pub answered : IsAnswered table key steps (looked (let_go (grip_of (view_of old).role) (view_of old).marks) key named)
      old new answer

-- the slot of a word was announced, and not confirmed, since the key's newer word names another
pub record NamesOther (table : Table) (key word newer : ℕ) (old new : MapSeat) : Type 0 where
  pub announces : AnnouncesAt table (slot_of word) new
  pub filled : is_filled newer ≡ true
  pub other : names_slot (slot_of word) newer ≡ false
  pub grows : Grows 2 [] (token old) (token new)
  pub marks_are : (view_of new).marks
      ≡ with_look (let_go (grip_of (view_of old).role) (view_of old).marks) key (name_number newer)

-- what the look named that answered
abbrev pub last_named : ℕ → Option Held → ℕ
last_named slot (Some held) = suc slot
last_named slot None = 0

-- it holds the slot by its word
abbrev pub SaysSlot : ℕ → Option Held → Type 0
SaysSlot slot (Some held) = held.says ≡ suc slot
SaysSlot slot None = Unit {0}

-- an announcement and its confirmation, and the load or the store that follows: the find is answered, or there is a
-- newer word
abbrev pub TriesWord : Table → ℕ → ℕ → MapSeat → MapSeat → Result (Option Held) ℕ → Type 0
TriesWord table key word old new (Ok answer) =
    SaysSlot (slot_of word) answer
    × IsAnswered table key 3
    (with_look (let_go (grip_of (view_of old).role) (view_of old).marks) key (last_named (slot_of word) answer))
    old new answer
TriesWord table key word old new (Err newer) = NamesOther table key word newer old new

-- a reader that holds by its word finds a key by the word that a load of it gave: or that was a hole's, and it clears
-- its word and finds anew
pub record MovesTo (table : Table) (key word : ℕ) (old new : MapSeat) (answer : Option Held) : Type 0 where
  pub steps : ℕ
  pub named : List ℕ
  pub takes : TakesSteps true answer ((if is_filled word then name_number word ∷ [] else []) ++ named) steps
  -- but for that load
  pub answered : IsAnswered table key (steps + (if is_filled word then 0 else 2) - 1)
      (looked (acted (view_of old).marks (view_of old).marks.put) key named) old new answer
