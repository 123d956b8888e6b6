-- The writer of a map over ids: the map's writer, the directory's clerk and a reader that asks, in one hand. What ties
-- the two tables, and the ledger of open upqueries.
use Rattle.std.specs.Prelude.{◌≡◌, ◌≢◌, ℕ, suc, ◌-◌, ◌<◌, List, ◌∷◌, Option, Some, None}
use Rattle.nr_model.specs.declared.rows.Row.{Row}
use Rattle.nr_model.specs.declared.states.KeyState.{KeyState}
use Rattle.nr_model.specs.declared.states.KeyState.TheVariants.{Hole, Asked, Rows}
use Rattle.nr_model.specs.Maps.{state_of}
use Rattle.nr_board.specs.Callers.{Caller, IsSound, KnowsOwn, Table, map_at_opening, map_seen}
use Rattle.nr_ids.specs.Groups.{ways}
use Rattle.nr_ids.specs.Events as ids
use Rattle.nr_ids.specs.Tokens.{Opened, Token}
use Rattle.nr_idmap.specs.Tags.{tag_of}
use Rattle.nr_idmap.specs.Tidy.{IsTidy}

-- which map over ids it is
pub record IdTable : Type 0 where
  pub map : Table
  pub directory : Opened

-- how many rows an id may have: a key has one more, for the tag
abbrev pub id_rows : IdTable → ℕ
id_rows table = table.map.shape.rows - 1

-- a reader by id: the map's token, and the directory's
pub record IdCaller : Type 0 where
  pub caller : Caller
  pub ids : Token

abbrev pub id_table_of : IdCaller → IdTable
id_table_of reader = record { map = reader.caller.table; directory = reader.ids.directory }

-- the writer by id
pub record Keeper : Type 0 where
  pub table : IdTable
  pub writer : Caller
  pub asker : Caller
  pub clerk : Token

-- of these three tokens
abbrev pub keeper_of : Caller → Caller → Token → Keeper
keeper_of writer asker clerk =
    record {
      table = record { map = writer.table; directory = clerk.directory };
      writer = writer;
      asker = asker;
      clerk = clerk;
    }

-- the name of a way, as the clerk knows it: an id, or 0
abbrev pub name_at : Keeper → ℕ → ℕ
name_at keeper way = ids.name_of keeper.clerk.seen way

-- the state of a way's key, as the writer knows it
abbrev pub state_at : Keeper → ℕ → KeyState
state_at keeper way = state_of (map_seen keeper.writer) way

-- a way whose key is a hole has no name; one whose key is filled has the name that its set's tag tells
abbrev pub Agrees : ℕ → KeyState → Type 0
Agrees name (Hole number) = name ≡ 0
Agrees name (Asked number) = Unit {0}
Agrees name (Rows number rows) = (0 < name) × (others : List Row) × (rows ≡ tag_of name ∷ others)

-- what holds between two calls of the writer
pub record IsTied (keeper : Keeper) : Type 0 where
  pub writes : (keeper.writer.table ≡ keeper.table.map) × (keeper.writer.number ≡ 0)
  pub asks : (keeper.asker.table ≡ keeper.table.map) × KnowsOwn keeper.asker
  pub names : (keeper.clerk.directory ≡ keeper.table.directory) × (keeper.clerk.number ≡ 0)
  -- each way is a key, and a key has room for a tag
  pub ways_are : ways keeper.table.directory.plan ≡ keeper.table.map.shape.keys
  pub room : 0 < keeper.table.map.shape.rows
  pub sound : IsSound keeper.writer
  pub tidy : IsTidy (map_at_opening keeper.table.map) keeper.writer.seen
  pub legal : ids.IsLegal keeper.table.directory.plan keeper.clerk.seen
  pub agrees : (way : ℕ) → Agrees (name_at keeper way) (state_at keeper way)

-- THE LEDGER
-- an upquery: for which way and id, and by which ticket number it is answered
pub record Owed : Type 0 where
  pub way : ℕ
  pub number : ℕ
  pub id : ℕ

-- what contracts see of an upquery that was handed out
pub record Sent : Type 0 where
  pub table : IdTable
  pub owed : Owed

-- a way's open upquery: its key is asked for, and it has a name
abbrev pub owed_for : ℕ → ℕ → KeyState → Option Owed
owed_for way (suc name) (Asked number) = Some (record { way = way; number = number; id = suc name })
owed_for way _ _ = None

abbrev pub owed_at : Keeper → ℕ → Option Owed
owed_at keeper way = owed_for way (name_at keeper way) (state_at keeper way)

-- the same upqueries are open
abbrev pub OwesSame : Keeper → Keeper → Type 0
OwesSame old new = (way : ℕ) → owed_at new way ≡ owed_at old way

-- the same but for one way's
abbrev pub OwesElse : ℕ → Keeper → Keeper → Type 0
OwesElse way old new = (other : ℕ) → other ≢ way → owed_at new other ≡ owed_at old other

-- this one was opened, and closed
pub record OpensOne (owed : Owed) (old new : Keeper) : Type 0 where
  pub before : owed_at old owed.way ≡ None
  pub after : owed_at new owed.way ≡ Some owed
  pub others : OwesElse owed.way old new

pub record ClosesOne (owed : Owed) (old new : Keeper) : Type 0 where
  pub before : owed_at old owed.way ≡ Some owed
  pub after : owed_at new owed.way ≡ None
  pub others : OwesElse owed.way old new
