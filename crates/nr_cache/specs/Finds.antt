-- A find of a value by a reader that holds it.
use Rattle.std.specs.Prelude.{◌≡◌, ◌≢◌, ℕ, ◌<◌, ◌++◌, List, [], ◌∷◌, Option, Some, None}
use Rattle.nr_model.specs.declared.rows.Row.{Row}
use Rattle.nr_model.specs.declared.calls.Call.TheVariants as model
use Rattle.nr_model.specs.declared.calls.Reply.TheVariants as reply
use Rattle.nr_model.specs.Histories.{Entry}
use Rattle.nr_core.specs.Story.{entry}
use Rattle.nr_board.specs.Callers.{Caller, Gains, map_seen}
use Rattle.nr_board.specs.Meetings.{Known}
use Rattle.nr_map.specs.Written.{HeardBefore, LastPut}
use Rattle.nr_idmap.specs.Keepers.{Keeper}
use Rattle.nr_idmap.specs.Tags.{tag_of}
use Rattle.nr_cache.specs.declared.finds.FoundValue.{FoundValue}
use Rattle.nr_cache.specs.Places.{IsGone}
use Rattle.nr_idmap.specs.declared.finds.FoundId.{FoundId}
use Rattle.nr_idmap.specs.declared.finds.FoundId.TheVariants as found
use Rattle.nr_idmap.specs.IdHands.{HoldsById, IdHanded, PinsById, rows_in_hand}

-- the value of an id's rows, and its stamp
abbrev pub tells_value : List Row → Option FoundValue
tells_value [] = None
tells_value (row ∷ rows) = Some (record { stamp = row.a; value = row.b })

-- the value of the set that is held, where a find of the map was answered with rows; else none
pub record TellsFound (hand : IdHanded) (told : FoundId) (value : Option FoundValue) : Type 0 where
  pub is : told ≡ found.Rows → value ≡ tells_value (rows_in_hand hand)
  pub none : told ≢ found.Rows → value ≡ None

-- the value that such a find told, of which that says how it was made
pub record FindsValueBy (made : FoundId → Type 0) (new : IdHanded) (value : Option FoundValue) : Type 0 where
  pub told : FoundId
  pub finds : made told
  pub tells : TellsFound new told value

-- of the id, whose set is held then, or that was answered without rows
abbrev pub FindsValue : ℕ → IdHanded → IdHanded → Option FoundValue → Type 0
FindsValue id old new value = FindsValueBy (PinsById id old new) new value

-- and without marking what it found
abbrev pub HoldsValue : ℕ → IdHanded → IdHanded → Option FoundValue → Type 0
HoldsValue id old new value = FindsValueBy (HoldsById id old new) new value

-- The id had no set in what the writer had seen, as after its invalidation, and who heard its note finds one: it was
-- put since.
abbrev pub FindsNothingOlder : Type 0
FindsNothingOlder =
    (keeper : Keeper) (old asking new : Caller) (note : Known) (id key steps : ℕ) (rows : List Row) →
    IsGone id keeper →
    note.seen ≡ keeper.writer.seen →
    old.table ≡ keeper.writer.table →
    key < old.table.shape.keys →
    HeardBefore note old asking →
    Gains steps (model.Find key) asking new (reply.Rows (tag_of id ∷ rows)) →
    (more : List Entry)
    × (new.seen ≡ (keeper.writer.seen ++ more)
    ++ entry asking.number (model.Find key) (reply.Rows (tag_of id ∷ rows)) ∷ [])
    × LastPut (map_seen keeper.writer) key more (tag_of id ∷ rows)
