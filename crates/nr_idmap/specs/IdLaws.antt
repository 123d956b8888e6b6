-- What the functions of the module `laws` show.
use Rattle.std.specs.Prelude.{◌≡◌, ◌≢◌, ℕ, suc, ◌<◌, ◌⊎◌, List, ◌∷◌, ◌++◌, Some, None}
use Rattle.nr_model.specs.declared.rows.Row.{Row}
use Rattle.nr_model.specs.Histories.{Entry, IsLegal, after}
use Rattle.nr_model.specs.Maps.{PartialMap, opening, state_of}
use Rattle.nr_model.specs.declared.calls.Call.TheVariants.{Find}
use Rattle.nr_model.specs.declared.calls.Reply.TheVariants as reply
use Rattle.nr_model.specs.declared.states.KeyState.TheVariants.{Rows}
use Rattle.nr_board.specs.Callers.{Caller, Gains, map_at_opening, map_seen}
use Rattle.nr_board.specs.Rule.{StartsWith}
use Rattle.nr_idmap.specs.Tags.{IdSet, IsResident, KeepsId, set_at, tag_of}
use Rattle.nr_idmap.specs.PartialIds.{PartialIds, IsIdLegal, ids_after, no_ids, read_by_id}
use Rattle.nr_idmap.specs.Tidy.{IsTidy}
use Rattle.nr_idmap.specs.Keepers.{IsTied, Keeper, Owed, name_at, owed_at}

-- each filled key's set begins with a tag
abbrev pub AllTagged : PartialMap → Type 0
AllTagged map =
    (key number : ℕ) (rows : List Row) → state_of map key ≡ Rows number rows
    → (id : ℕ) × (others : List Row) × (rows ≡ tag_of id ∷ others)

-- the keys' sets are the ids' rows, each once
pub record TellsIds (map : PartialMap) (ids : PartialIds) : Type 0 where
  pub bound : map.bound ≡ suc ids.bound
  pub tagged : AllTagged map
  pub present : (key : ℕ) (set : IdSet) → set_at map key ≡ Some set → ids.rows_of set.id ≡ Some set.rows
  pub only : (id : ℕ) (rows : List Row) → ids.rows_of id ≡ Some rows
      → (key : ℕ) × (set_at map key ≡ Some (record { id = id; rows = rows }))
  pub one : (j k : ℕ) (s t : IdSet) → set_at map j ≡ Some s → set_at map k ≡ Some t → s.id ≡ t.id → j ≡ k

-- a legal history of keys whose writer is tidy, read by its tags, is a legal history of the partial map over ids, and
-- both end with the same rows
abbrev pub ReadsAsIds : Type 0
ReadsAsIds =
    (keys bound number : ℕ) (history : List Entry) →
    IsLegal (opening keys (suc bound) number) history →
    IsTidy (opening keys (suc bound) number) history →
    IsIdLegal (no_ids bound) (read_by_id (opening keys (suc bound) number) history)
    × TellsIds (after (opening keys (suc bound) number) history)
    (ids_after (no_ids bound) (read_by_id (opening keys (suc bound) number) history))

-- in it an id is resident with one set, of one key
abbrev pub OneSet : Type 0
OneSet =
    (keys bound number : ℕ) (history : List Entry) (id key other : ℕ) (rows others : List Row) →
    IsLegal (opening keys (suc bound) number) history →
    IsTidy (opening keys (suc bound) number) history →
    KeepsId (after (opening keys (suc bound) number) history) key id rows →
    KeepsId (after (opening keys (suc bound) number) history) other id others →
    (key ≡ other) × (rows ≡ others)

-- what a tidy history begins with is tidy
abbrev pub TidyBegins : Type 0
TidyBegins = (map : PartialMap) (history later : List Entry) → IsTidy map (history ++ later) → IsTidy map history

-- the rows that each id has after what the caller has seen
abbrev pub ids_seen : ℕ → Caller → PartialIds
ids_seen bound caller = ids_after (no_ids bound) (read_by_id (map_at_opening caller.table) caller.seen)

-- THE WRITER BY ID
-- what it has seen is, by its tags, a legal history of the partial map over ids
abbrev pub TiedReadsAsIds : Type 0
TiedReadsAsIds =
    (keeper : Keeper) (bound : ℕ) →
    IsTied keeper →
    keeper.table.map.shape.rows ≡ suc bound →
    IsIdLegal (no_ids bound) (read_by_id (map_at_opening keeper.writer.table) keeper.writer.seen)
    × TellsIds (map_seen keeper.writer) (ids_seen bound keeper.writer)

-- a find of a reader whose history the writer has heard, answered with an id's tag, has the rows that the id has then
-- in the map over ids
abbrev pub HeardFinds : Type 0
HeardFinds =
    (keeper : Keeper) (old new : Caller) (steps key bound id : ℕ) (rows : List Row) →
    IsTied keeper →
    keeper.table.map.shape.rows ≡ suc bound →
    old.table ≡ keeper.table.map →
    StartsWith keeper.writer.seen new.seen →
    (gains : Gains steps (Find key) old new (reply.Rows (tag_of id ∷ rows))) →
    (ids_after (no_ids bound) (read_by_id (map_at_opening old.table) (old.seen ++ gains.between))).rows_of id
    ≡ Some rows

-- THE LEDGER
-- an open upquery is for its way, whose name is its id
abbrev pub OwedIsNamed : Type 0
OwedIsNamed =
    (keeper : Keeper) (way : ℕ) (owed : Owed) → owed_at keeper way ≡ Some owed
    → (owed.way ≡ way) × (name_at keeper way ≡ owed.id) × (0 < owed.id)

-- an id has one open upquery at most
abbrev pub OneUpquery : Type 0
OneUpquery =
    (keeper : Keeper) (way other : ℕ) (owed twin : Owed) →
    IsTied keeper →
    owed_at keeper way ≡ Some owed →
    owed_at keeper other ≡ Some twin →
    owed.id ≡ twin.id →
    owed ≡ twin

-- an id that has a way has an open upquery, or it has rows; it never has both
abbrev pub NamedIsOwedOrResident : Type 0
NamedIsOwedOrResident =
    (keeper : Keeper) (way : ℕ) →
    IsTied keeper →
    0 < name_at keeper way →
    ((owed : Owed) × (owed_at keeper way ≡ Some owed)
    × ((rows : List Row) → IsResident (map_seen keeper.writer) (name_at keeper way) rows → ⊥))
    ⊎ ((rows : List Row) × IsResident (map_seen keeper.writer) (name_at keeper way) rows × (owed_at keeper way ≡ None))

-- an id that has no way has neither
abbrev pub UnnamedIsAbsent : Type 0
UnnamedIsAbsent =
    (keeper : Keeper) (id : ℕ) →
    IsTied keeper →
    ((way : ℕ) → name_at keeper way ≢ id) →
    ((rows : List Row) → IsResident (map_seen keeper.writer) id rows → ⊥)
    × ((way : ℕ) (owed : Owed) → owed_at keeper way ≡ Some owed → owed.id ≢ id)
