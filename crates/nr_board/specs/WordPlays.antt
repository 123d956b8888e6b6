-- What a reader's steps by its own word tell: a look at a key, an announcement of the slot that it names, a second look
-- that confirms it, and the end of what the word said.
use Rattle.std.specs.Prelude.{◌≡◌, ℕ, suc, ◌-◌, ◌<◌, if◌then◌else◌, [], ◌∷◌, true, false}
use Rattle.nr_model.specs.declared.calls.Call.TheVariants as model
use Rattle.nr_model.specs.declared.calls.Reply.TheVariants as reply
use Rattle.nr_words.specs.KeyWords.{is_filled}
use Rattle.nr_core.specs.declared.roles.Grip.{Grip}
use Rattle.nr_core.specs.declared.roles.Grip.TheVariants.{Nothing, On}
use Rattle.nr_core.specs.declared.roles.Role.TheVariants.{Reader}
use Rattle.nr_core.specs.declared.shape.Shape.{Shape}
use Rattle.nr_core.specs.Slots.{name_number, names_slot}
use Rattle.nr_core.specs.Story.{entry}
use Rattle.nr_core.specs.Marks.{Marks, acted, with_look}
use Rattle.nr_core.specs.Puts.{put_number}
use Rattle.nr_board.specs.declared.board.Own.{Own}
use Rattle.nr_board.specs.Announcing.{says_at}
use Rattle.nr_board.specs.Callers.{Table}
use Rattle.nr_board.specs.Plays.{Advances, Holds, Then, Waits}
use Rattle.nr_board.specs.Views.{View, caller_number, grip_of, rows_held, slot_held}

-- the reader has a word of its own
pub record HasWord (own : ℕ) (view : View) : Type 0 where
  pub number : caller_number view.role ≡ suc own
  pub within : own < view.announcers

-- where the own word of the reader of that index stands, if it has one
abbrev pub IsOwn : Table → Own → Type 0
IsOwn table own = own.index < table.announcers → own.place ≡ says_at table.shape own.index

-- the slot that a word announces, where it announces one
abbrev pub slot_said : View → ℕ
slot_said view = view.says - 1

-- the view whose reader's word says that
abbrev pub saying : ℕ → View → View
saying says view = record view { says = says }

-- a look at a key by a reader that holds nothing: a hole is found; a slot that the key names is not held yet
pub record LookedUp (key found : ℕ) (old new : View) : Type 0 where
  pub role : new.role ≡ old.role
  pub says : new.says ≡ old.says
  pub hole : is_filled found ≡ false
      → Advances (entry (caller_number old.role) (model.Find key) reply.Hole ∷ []) old new
  pub named : is_filled found ≡ true → Advances [] old new
  pub marks : new.marks
      ≡ (if is_filled found then with_look old.marks key (name_number found) else acted
      (with_look old.marks key (name_number found)) (put_number new.seen key))

abbrev pub has_looked_up : Then
has_looked_up step (before, _) found (after, _) = LookedUp step.word found before after

-- the announced slot is the key's still: the reader holds it with the set that the key has, and the find is an entry
pub record HoldsSaid (key : ℕ) (old new : View) : Type 0 where
  pub number : caller_number new.role ≡ caller_number old.role
  pub says : new.says ≡ old.says
  pub holds : Holds old.shape new.role
  pub slot : slot_held new.role ≡ slot_said old
  pub gains : Advances (entry (caller_number old.role) (model.Find key) (reply.Rows (rows_held new.role)) ∷ []) old new
  pub marks : new.marks ≡ acted (with_look old.marks key (suc (slot_said old))) (put_number new.seen key)

-- a second look, by a reader whose word announces a slot; else it is as the first one
pub record Confirmed (key found : ℕ) (old new : View) : Type 0 where
  pub same : names_slot (slot_said old) found ≡ true → HoldsSaid key old new
  pub other : names_slot (slot_said old) found ≡ false → LookedUp key found old new

abbrev pub has_confirmed : Then
has_confirmed step (before, _) found (after, _) = Confirmed step.word found before after

-- a reader's marks when it lets go of what it holds
abbrev pub let_go : Grip → Marks → Marks
let_go Nothing marks = marks
let_go (On slot rows sized) marks = acted marks marks.put

-- a reader's word says something else, or nothing: what it held by its word is let go
pub record Said (says : ℕ) (old new : View) : Type 0 where
  pub role : new.role ≡ Reader (caller_number old.role) Nothing
  pub says_it : new.says ≡ says
  pub waits : Waits old new
  pub marks : new.marks ≡ let_go (grip_of old.role) old.marks

abbrev pub has_said : Then
has_said step (before, _) found (after, _) = Said step.first before after

-- what a reader holds, it holds by its word
abbrev pub HoldsByWord : Shape → View → Type 0
HoldsByWord shape view = Holds shape view.role × (0 < view.says)
