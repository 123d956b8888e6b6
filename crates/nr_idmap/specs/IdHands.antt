-- A reader by id that holds nothing, or the set of an id.
use Rattle.std.specs.Prelude.{◌≡◌, ◌≢◌, ℕ, zero, suc, ◌<◌, ◌⊎◌, Bool, true, false, List, [], ◌∷◌, Option, Some, None}
use Rattle.nr_model.specs.declared.rows.Row.{Row}
use Rattle.nr_model.specs.Rows.{IsRowSet}
use Rattle.nr_board.specs.declared.answers.Found.{Found}
use Rattle.nr_board.specs.declared.answers.Found.TheVariants as answer
use Rattle.nr_map.specs.LoadsAhead.{load_of, with_loads}
use Rattle.nr_map.specs.Hands.{AsksInVain, FindsHeld, FindsKept, Handed, LetsGo, idle}
use Rattle.nr_ids.specs.Answers.{LooksUp}
use Rattle.nr_ids.specs.Marks.{Marks, SetsMark}
use Rattle.nr_ids.specs.Tokens.{Token}
use Rattle.nr_idmap.specs.declared.finds.FoundId.{FoundId}
use Rattle.nr_idmap.specs.declared.finds.FoundId.TheVariants as found
use Rattle.nr_idmap.specs.declared.finds.NamedWay.{NamedWay}
use Rattle.nr_idmap.specs.declared.hands.Holding.{Holding}
use Rattle.nr_idmap.specs.IdFinds.{LooksForWay, line_of}
use Rattle.nr_idmap.specs.Keepers.{IdCaller, IdTable}
use Rattle.nr_idmap.specs.Tags.{rows_behind, tag_of}

-- the map's hand, which holds the set of a way; the directory's reader; and whose set it is
pub record IdHanded : Type 0 where
  pub hand : Handed
  pub ids : Token
  pub id : Option ℕ

-- of which map over ids it is
abbrev pub hand_table_of : IdHanded → IdTable
hand_table_of hand = record { map = hand.hand.reader.table; directory = hand.ids.directory }

-- of a reader that holds nothing
abbrev pub idle_by_id : IdCaller → IdHanded
idle_by_id reader = record { hand = idle reader.caller; ids = reader.ids; id = None }

abbrev pub id_held : Option Holding → Option ℕ
id_held None = None
id_held (Some held) = Some held.id

-- the rows of the id whose set is held; none where nothing is, or a set for no id, of which the number 0 tells
abbrev pub rows_of_id : Option ℕ → List Row → List Row
rows_of_id (Some (suc id)) set = rows_behind set
rows_of_id _ set = []

abbrev pub rows_in_hand : IdHanded → List Row
rows_in_hand hand = rows_of_id hand.id hand.hand.rows

-- the set has the id's tag, and the sorted rows are the set
pub record HasTagged (id : ℕ) (set sorted : List Row) : Type 0 where
  pub rows : List Row
  pub tagged : set ≡ tag_of id ∷ rows
  pub sorted_is : sorted ≡ set

-- a set of that way is held, and where that is for an id it has the id's tag
pub record HoldsWay (held : Holding) (hand : Handed) (sorted : List Row) : Type 0 where
  pub key_is : hand.key ≡ Some held.way
  pub near : held.way < hand.reader.table.shape.keys
  pub row_set : IsRowSet 255 hand.rows
  pub set : 0 < held.id → HasTagged held.id hand.rows sorted

abbrev pub IsIdHand : Handed → List Row → Option Holding → Type 0
IsIdHand hand sorted None = hand.key ≡ None
IsIdHand hand sorted (Some held) = HoldsWay held hand sorted

-- a set is held for that id
abbrev pub IsHeldFor : ℕ → Option ℕ → Type 0
IsHeldFor zero held = ⊥
IsHeldFor (suc id) held = held ≡ Some (suc id)

-- its tokens, as a reader has them
abbrev pub reader_of : IdHanded → IdCaller
reader_of hand = record { caller = hand.hand.reader; ids = hand.ids }

-- what is held stays held
pub record HoldsSame (old new : IdHanded) : Type 0 where
  pub key_is : new.hand.key ≡ old.hand.key
  pub rows : new.hand.rows ≡ old.hand.rows
  pub id_is : new.id ≡ old.id

-- a hand that holds a set lets it go by one step; one that holds nothing makes none
pub record LetsGoById (old new : IdHanded) : Type 0 where
  pub hand : LetsGo old.hand new.hand
  pub ids : new.ids ≡ old.ids
  pub id : new.id ≡ None

-- THE SAME SET AGAIN
-- the way has the id's set still that the hand holds: a find of it in one step, which looks at no name
pub record FindsIdHeld (id : ℕ) (old new : IdHanded) : Type 0 where
  pub way : ℕ
  pub rows : List Row
  pub held : old.id ≡ Some id
  pub tagged : old.hand.rows ≡ tag_of id ∷ rows
  pub finds : FindsHeld 1 way old.hand new.hand
  pub ids : new.ids ≡ old.ids
  pub id_is : new.id ≡ old.id

-- the way had another set or none: one step that is no entry
pub record AsksIdInVain (old new : IdHanded) : Type 0 where
  pub way : ℕ
  pub held : old.hand.key ≡ Some way
  pub asks : AsksInVain way old.hand new.hand
  pub ids : new.ids ≡ old.ids
  pub id_is : new.id ≡ old.id

-- or the hand holds no set of the id, and makes no step
abbrev pub AgainById : ℕ → IdHanded → IdHanded → Bool → Type 0
AgainById id old new true = FindsIdHeld id old new
AgainById id old new false =
    (IsHeldFor id old.id → AsksIdInVain old new) × ((IsHeldFor id old.id → ⊥) → new ≡ old)

-- A FIND THAT HOLDS
-- the map's hand found the way and holds its set, or a hole, as a find that keeps what it found
abbrev pub KeepsWay : ℕ → Handed → Handed → Found → Type 0
KeepsWay way old new told =
    (before set : List Row) × FindsKept (λ (sorted : List Row) (rows : List Row). sorted ≡ rows) way old before new set
    told

-- in the way that had the id's name: the set is held that has the id's tag; else nothing is, since the way was a hole
-- or had another's set
abbrev pub HoldsInWay : ℕ → ℕ → IdHanded → IdHanded → FoundId → Type 0
HoldsInWay way id old new found.Rows =
    (rows : List Row) × KeepsWay way old.hand new.hand answer.Rows × (new.hand.rows ≡ tag_of id ∷ rows)
    × (new.id ≡ Some id)
HoldsInWay way id old new found.Pending = KeepsWay way old.hand new.hand answer.Hole × (new.id ≡ None)
HoldsInWay way id old new found.Moved =
    (kept : Handed) × KeepsWay way old.hand kept answer.Rows × ((rows : List Row) → kept.rows ≢ tag_of id ∷ rows)
    × LetsGo kept new.hand × (new.id ≡ None)
HoldsInWay way id old new found.Absent = ⊥

-- by the id's name, in its way, which is marked as found if the set is held, unless it was marked; or nothing is held,
-- since there was a moment at which the id had no way
abbrev pub HoldsByName : ℕ → IdHanded → IdHanded → FoundId → Type 0
HoldsByName id old new found.Rows =
    (at : NamedWay) × (looked : Token) × LooksForWay id old.ids looked (Some at)
    × HoldsInWay at.way id old new found.Rows × SetsMark at.way at.is_marked looked new.ids
HoldsByName id old new found.Absent =
    LooksForWay id old.ids new.ids None × LetsGo old.hand new.hand × (new.id ≡ None)
HoldsByName id old new told =
    (at : NamedWay) × LooksForWay id old.ids new.ids (Some at) × HoldsInWay at.way id old new told

-- the same by a look-up that looks at no mark, and without marking the way
abbrev pub HoldsByNameAlone : ℕ → IdHanded → IdHanded → FoundId → Type 0
HoldsByNameAlone id old new found.Absent =
    LooksUp id old.ids new.ids None × LetsGo old.hand new.hand × (new.id ≡ None)
HoldsByNameAlone id old new told =
    (way : ℕ) × LooksUp id old.ids new.ids (Some way) × HoldsInWay way id old new told

-- the word of the first way of the id's group was loaded, as by a find
abbrev pub with_line_loaded : ℕ → ℕ → IdHanded → IdHanded
with_line_loaded id word old =
    record old {
      hand = record old.hand { reader = with_loads (load_of (line_of id old.ids) word ∷ []) old.hand.reader };
    }

abbrev pub LoadsLine : ℕ → IdHanded → IdHanded → Type 0
LoadsLine id old new = (word : ℕ) × (new ≡ with_line_loaded id word old)

abbrev pub HoldsAnew : ℕ → IdHanded → IdHanded → FoundId → Type 0
HoldsAnew id old new told = (word : ℕ) × HoldsByName id (with_line_loaded id word old) new told

abbrev pub HoldsUnmarked : ℕ → IdHanded → IdHanded → FoundId → Type 0
HoldsUnmarked id old new told = (word : ℕ) × HoldsByNameAlone id (with_line_loaded id word old) new told

-- the way whose set is held is marked as found unless it is
pub record MarksHeld (old new : IdHanded) : Type 0 where
  pub way : ℕ
  pub held : old.hand.key ≡ Some way
  pub marks : Marks way old.ids new.ids
  pub hand : new.hand ≡ old.hand
  pub id_is : new.id ≡ old.id

-- by the set that is held already, where the way has it still; else by the name
abbrev pub PinsById : ℕ → IdHanded → IdHanded → FoundId → Type 0
PinsById id old new told =
    ((told ≡ found.Rows) × (held : IdHanded) × FindsIdHeld id old held × MarksHeld held new)
    ⊎ ((asked : IdHanded) × AgainById id old asked false × HoldsAnew id asked new told)

-- the same without a look at a mark, and without one that is set
abbrev pub HoldsById : ℕ → IdHanded → IdHanded → FoundId → Type 0
HoldsById id old new told =
    ((told ≡ found.Rows) × FindsIdHeld id old new)
    ⊎ ((asked : IdHanded) × AgainById id old asked false × HoldsUnmarked id asked new told)

-- such a find into a room, which has the id's rows then; else it stays
abbrev pub FindsIdKept : {Room : Type 0} → (Room → List Row → Type 0) → ℕ → IdHanded → Room → IdHanded → Room → FoundId
    → Type 0
FindsIdKept shows id old before new room told =
    PinsById id old new told × (told ≡ found.Rows → shows room (rows_in_hand new)) × (told ≢ found.Rows → room ≡ before)
