-- What the calls of the writer by id say that open and close upqueries, by their codes.
use Rattle.std.specs.Prelude.{ℕ, ◌≡◌, ◌⊎◌, List, Result, Ok, Err}
use Rattle.nr_model.specs.declared.rows.Row.{Row}
use Rattle.nr_ids.specs.declared.admissions.Refused.{Refused}
use Rattle.nr_idmap.specs.declared.upqueries.Unfilled.{Unfilled}
use Rattle.nr_idmap.specs.declared.upqueries.Unfilled.TheVariants as unfilled
use Rattle.nr_idmap.specs.declared.upqueries.Withdrawn.{Withdrawn}
use Rattle.nr_idmap.specs.declared.upqueries.Withdrawn.TheVariants as withdrawn
use Rattle.nr_idmap.specs.IdWrites.{AdmitsId, FillsId, RefusesId, WithdrawsId}
use Rattle.nr_idmap.specs.Keepers.{Owed, Sent, id_rows}
use Rattle.nr_idmap.specs.Tags.{IsIdSet}
use Rattle.nr_c.specs.declared.id_writer_side.IdWriterSide.{IdWriterSide}
use Rattle.nr_c.specs.declared.kept_upquery.NrUpquery.{NrUpquery}
use Rattle.nr_c.specs.IdCodes.{filled_code, refused_code, withdrawn_code}
use Rattle.nr_c.specs.IdRows.{AreIdRowsRefused}
use Rattle.nr_c.specs.Ledgers.{Entries, GivesUp, KeepsNone, keeps, keeps_new, next_count, owed_of}
use Rattle.nr_c.specs.IdLive.{Turn}
use Rattle.nr_c.specs.Numbers.{answer_send, answer_stale, answer_stranger}

-- the upquery that the map opened is kept under a count of its own, and its numbers are told
pub record AdmitsAndKeeps (id : ℕ) (told : NrUpquery) (old new : IdWriterSide) (code : ℕ) : Type 0 where
  pub code_is : code ≡ answer_send
  pub upquery : Sent
  pub admits : AdmitsId id old.writer new.writer upquery.owed
  pub numbers : owed_of told ≡ upquery.owed
  pub count : told.count ≡ next_count old.ledger
  pub map : told.map ≡ old.ledger.map
  pub keeps : new.ledger ≡ keeps_new upquery old.ledger

-- the directory refuses, and nothing else happened
pub record AdmitsNot (id : ℕ) (before after : NrUpquery) (old new : IdWriterSide) (code : ℕ) : Type 0 where
  pub why : Refused
  pub code_is : code ≡ refused_code why
  pub refuses : RefusesId id old.writer new.writer why
  pub stays : after ≡ before
  pub keeps : new.ledger ≡ old.ledger

abbrev pub AdmitsByCode : ℕ → NrUpquery → NrUpquery → IdWriterSide → IdWriterSide → ℕ → Type 0
AdmitsByCode id before after old new code =
    AdmitsAndKeeps id after old new code ⊎ AdmitsNot id before after old new code

-- another map's upquery is refused, which the code says; nothing has changed
pub record IsStranger (upquery : NrUpquery) (stay : Type 0) (old new : IdWriterSide) (code : ℕ) : Type 0 where
  pub code_is : code ≡ answer_stranger
  pub other : upquery.map ≡ old.ledger.map → ⊥
  pub stays : new.writer ≡ old.writer
  pub keeps : new.ledger ≡ old.ledger
  pub told : stay

-- a call with an upquery: it is refused where that is another map's, and else does what it does
abbrev pub WithOwn : NrUpquery → Type 0 → Turn → Turn
WithOwn upquery stays does old new code =
    IsStranger upquery stays old new code ⊎ ((upquery.map ≡ old.ledger.map) × does old new code)

-- no upquery with these numbers is open
abbrev pub IsStale : NrUpquery → IdWriterSide → IdWriterSide → ℕ → Type 0
IsStale wanted old new code =
    (code ≡ answer_stale) × (new.writer ≡ old.writer) × KeepsNone wanted old.ledger new.ledger

-- one that comes back is kept again, under its count
abbrev pub kept_unfilled : {Made : Type 0} → ℕ → Result Made Unfilled → Entries → Entries
kept_unfilled count (Ok done) kept = kept
kept_unfilled count (Err unfilled.Closed) kept = kept
kept_unfilled count (Err (unfilled.NoSlot upquery counts)) kept = keeps count upquery kept

abbrev pub kept_worn : ℕ → Withdrawn → Entries → Entries
kept_worn count withdrawn.Done kept = kept
kept_worn count withdrawn.Closed kept = kept
kept_worn count (withdrawn.Worn upquery) kept = keeps count upquery kept

-- the one that was kept is given up by the map's answer, and then this is kept again
pub record EndsKept {Answer : Type 0} (code_of : Answer → ℕ) (ends : Owed → Answer → Type 0)
    (kept : ℕ → Answer → Entries → Entries) (wanted : NrUpquery) (old new : Entries) (code : ℕ) : Type 0 where
  pub upquery : Sent
  pub rest : Entries
  pub gives_up : GivesUp wanted upquery old rest
  pub answer : Answer
  pub code_is : code ≡ code_of answer
  pub ended : ends upquery.owed answer
  pub keeps : new ≡ kept wanted.count answer rest

-- the one that was kept is the map's fill
abbrev pub FillsKept : NrUpquery → List Row → IdWriterSide → IdWriterSide → ℕ → Type 0
FillsKept wanted rows old new =
    EndsKept filled_code (λ owed. FillsId owed rows old.writer new.writer) kept_unfilled wanted old.ledger new.ledger

-- rows that are no id's change nothing
pub record RefusesIdRows (rows : List Row) (old new : IdWriterSide) (code : ℕ) : Type 0 where
  pub refused : AreIdRowsRefused (id_rows old.writer.table) rows code
  pub stays : new.writer ≡ old.writer
  pub keeps : new.ledger ≡ old.ledger

abbrev pub FillsIdByCode : NrUpquery → List Row → IdWriterSide → IdWriterSide → ℕ → Type 0
FillsIdByCode wanted rows old new code =
    RefusesIdRows rows old new code
    ⊎ (IsIdSet (id_rows old.writer.table) rows × (IsStale wanted old new code ⊎ FillsKept wanted rows old new code))

abbrev pub WithdrawsByCode : NrUpquery → IdWriterSide → IdWriterSide → ℕ → Type 0
WithdrawsByCode wanted old new code =
    IsStale wanted old new code
    ⊎ EndsKept withdrawn_code (λ owed. WithdrawsId owed old.writer new.writer) kept_worn wanted old.ledger new.ledger
    code
