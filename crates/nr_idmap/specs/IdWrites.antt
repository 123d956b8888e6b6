-- What a call of the writer by id says of its tokens, by its answer.
use Rattle.std.specs.Prelude.{◌≡◌, ◌≢◌, ℕ, ◌⊎◌, List, ◌∷◌, Option, Some, None, Result, Ok, Err}
use Rattle.nr_model.specs.declared.rows.Row.{Row}
use Rattle.nr_core.specs.declared.calls.NoSlot.{NoSlot}
use Rattle.nr_board.specs.declared.answers.Cancel.TheVariants as cancel
use Rattle.nr_board.specs.declared.answers.Evict.{Evict}
use Rattle.nr_board.specs.declared.answers.Evict.TheVariants as evict
use Rattle.nr_board.specs.declared.answers.FillFault.{FillFault}
use Rattle.nr_board.specs.declared.answers.FillFault.TheVariants as fill
use Rattle.nr_board.specs.Callers.{Caller}
use Rattle.nr_board.specs.declared.answers.Reclaimed.{Reclaimed}
use Rattle.nr_board.specs.Reclaiming.{FillsReclaiming}
use Rattle.nr_board.specs.WriterAnswers.{CancelsKey, EvictsKey, FillsKey}
use Rattle.nr_ids.specs.declared.admissions.Refused.{Refused}
use Rattle.nr_ids.specs.Answers.{Admits, FindsWay, Unnames}
use Rattle.nr_ids.specs.Tokens.{Token}
use Rattle.nr_idmap.specs.declared.writes.IdFault.{IdFault}
use Rattle.nr_idmap.specs.declared.writes.IdFault.TheVariants as fault
use Rattle.nr_idmap.specs.declared.upqueries.Unfilled.{Unfilled}
use Rattle.nr_idmap.specs.declared.upqueries.Unfilled.TheVariants as unfilled
use Rattle.nr_idmap.specs.declared.upqueries.Withdrawn.{Withdrawn}
use Rattle.nr_idmap.specs.declared.upqueries.Withdrawn.TheVariants as withdrawn
use Rattle.nr_idmap.specs.Keepers.{ClosesOne, IdTable, Keeper, OpensOne, Owed, OwesSame, owed_at}
use Rattle.nr_idmap.specs.Asking.{AsksWay}
use Rattle.nr_idmap.specs.Tags.{tag_of}

-- ADMISSION
-- a way of the id's group gets its name and is asked for, and one upquery more is open
pub record AdmitsId (id : ℕ) (old new : Keeper) (owed : Owed) : Type 0 where
  pub id_is : owed.id ≡ id
  pub names : Admits id old.clerk new.clerk (Ok owed.way)
  pub asks : AsksWay owed.way old.asker old.writer new.asker new.writer
  pub opens : OpensOne owed old new

-- the directory refuses, and nothing else happened
pub record RefusesId (id : ℕ) (old new : Keeper) (why : Refused) : Type 0 where
  pub refused : Admits id old.clerk new.clerk (Err why)
  pub writer : new.writer ≡ old.writer
  pub asker : new.asker ≡ old.asker
  pub owes : OwesSame old new

-- FILL AND WITHDRAWAL
-- the clerk found the upquery's way by its id
abbrev pub FindsOwed : Owed → Keeper → Keeper → Type 0
FindsOwed owed old new = FindsWay owed.id old.clerk new.clerk (Some owed.way)

-- the way has the id's rows, behind its tag, and the upquery is closed
pub record FillsOwed (owed : Owed) (rows : List Row) (old new : Keeper) : Type 0 where
  pub finds : FindsOwed owed old new
  pub fills : FillsKey owed.way owed.number (tag_of owed.id ∷ rows) old.writer new.writer (Ok tt)
  pub closes : ClosesOne owed old new

-- there is no slot for them, and it is open still
pub record LacksForOwed (owed : Owed) (rows : List Row) (old new : Keeper) (counts : NoSlot) : Type 0 where
  pub finds : FindsOwed owed old new
  pub lacks : FillsKey owed.way owed.number (tag_of owed.id ∷ rows) old.writer new.writer (Err (fill.NoSlot counts))
  pub open_yet : owed_at old owed.way ≡ Some owed
  pub owes : OwesSame old new

-- It wasn't open. Its way hasn't the id's name, and the map wasn't called; or the map refused the call.
pub record WasClosed (refused : Caller → Caller → Type 0) (owed : Owed) (old new : Keeper) : Type 0 where
  pub closed : owed_at old owed.way ≢ Some owed
  pub found : Option ℕ
  pub finds : FindsWay owed.id old.clerk new.clerk found
  pub how : (new.writer ≡ old.writer) ⊎ ((found ≡ Some owed.way) × refused old.writer new.writer)
  pub owes : OwesSame old new

abbrev pub FillsId : Owed → List Row → Keeper → Keeper → Result (Unit {0}) Unfilled → Type 0
FillsId owed rows old new (Ok done) = FillsOwed owed rows old new
FillsId owed rows old new (Err unfilled.Closed) =
    WasClosed
    (λ writer writer'. (why : FillFault)
    × FillsKey owed.way owed.number (tag_of owed.id ∷ rows) writer writer' (Err why))
    owed old new
FillsId owed rows old new (Err (unfilled.NoSlot upquery counts)) =
    (upquery ≡ record { table = old.table; owed = owed }) × LacksForOwed owed rows old new counts

-- the same by a call that gives out what its slot had; where nothing was put the room stays
pub record FillsAndGives {Room : Type 0} (shows : Room → List Row → Type 0) (owed : Owed) (rows : List Row)
    (old : Keeper) (before : Room) (new : Keeper) (after : Room) (given : Reclaimed) : Type 0 where
  pub finds : FindsOwed owed old new
  pub fills : FillsReclaiming shows owed.way owed.number (tag_of owed.id ∷ rows) old.writer before new.writer after
      (Ok given)
  pub closes : ClosesOne owed old new

abbrev pub FillsIdReclaiming : {Room : Type 0} → (Room → List Row → Type 0) → Owed → List Row → Keeper → Room → Keeper
    → Room → Result Reclaimed Unfilled → Type 0
FillsIdReclaiming shows owed rows old before new after (Ok given) =
    FillsAndGives shows owed rows old before new after given
FillsIdReclaiming shows owed rows old before new after (Err why) =
    FillsId owed rows old new (Err why) × (after ≡ before)

-- what comes back is of that map
abbrev pub ReturnsTo : IdTable → Unfilled → Type 0
ReturnsTo table unfilled.Closed = Unit {0}
ReturnsTo table (unfilled.NoSlot upquery counts) = upquery.table ≡ table

abbrev pub ReturnsWorn : IdTable → Withdrawn → Type 0
ReturnsWorn table (withdrawn.Worn upquery) = upquery.table ≡ table
ReturnsWorn table _ = Unit {0}

-- the way has the next number, and then no name, and the upquery is closed
pub record WithdrawsOwed (owed : Owed) (old new : Keeper) : Type 0 where
  pub mid : Token
  pub finds : FindsWay owed.id old.clerk mid (Some owed.way)
  pub cancels : CancelsKey owed.way old.writer new.writer cancel.Cancelled
  pub unnames : Unnames owed.way mid new.clerk
  pub closes : ClosesOne owed old new

-- its number is the last one, and it is open still
pub record WornOwed (owed : Owed) (old new : Keeper) : Type 0 where
  pub finds : FindsOwed owed old new
  pub worn : CancelsKey owed.way old.writer new.writer cancel.Worn
  pub open_yet : owed_at old owed.way ≡ Some owed
  pub owes : OwesSame old new

abbrev pub WithdrawsId : Owed → Keeper → Keeper → Withdrawn → Type 0
WithdrawsId owed old new withdrawn.Done = WithdrawsOwed owed old new
WithdrawsId owed old new withdrawn.Closed =
    WasClosed (λ writer writer'. CancelsKey owed.way writer writer' cancel.Nothing) owed old new
WithdrawsId owed old new (withdrawn.Worn upquery) =
    (upquery ≡ record { table = old.table; owed = owed }) × WornOwed owed old new

-- UPDATES, REPLACEMENTS AND EVICTIONS
-- the call of the map's writer on the id's way, or the id has none
abbrev pub CallsWay : {Done Fault : Type 0} → (ℕ → Caller → Caller → Result Done Fault → Type 0) → ℕ → Keeper → Keeper
    → Result Done (IdFault Fault) → Type 0
CallsWay calls id old new (Ok done) =
    (way : ℕ) × FindsWay id old.clerk new.clerk (Some way) × calls way old.writer new.writer (Ok done)
CallsWay calls id old new (Err (fault.Refused why)) =
    (way : ℕ) × FindsWay id old.clerk new.clerk (Some way) × calls way old.writer new.writer (Err why)
CallsWay calls id old new (Err fault.Absent) = FindsWay id old.clerk new.clerk None × (new.writer ≡ old.writer)

-- an eviction takes the set of the id's way, and then its name; a way that is asked for keeps both its number and its
-- name
pub record EvictsWay (id way : ℕ) (old new : Keeper) : Type 0 where
  pub mid : Token
  pub finds : FindsWay id old.clerk mid (Some way)
  pub evicts : EvictsKey way old.writer new.writer evict.Evicted
  pub unnames : Unnames way mid new.clerk

abbrev pub EvictsId : ℕ → Keeper → Keeper → Evict → Type 0
EvictsId id old new evict.Evicted = (way : ℕ) × EvictsWay id way old new
EvictsId id old new evict.Nothing = (FindsWay id old.clerk new.clerk None × (new.writer ≡ old.writer))
    ⊎ ((way : ℕ) × FindsWay id old.clerk new.clerk (Some way) × EvictsKey way old.writer new.writer evict.Nothing)
