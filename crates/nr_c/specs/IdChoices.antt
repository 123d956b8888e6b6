-- What the calls of the writer by id say that help to choose whom to evict, by their codes.
use Rattle.std.specs.Prelude.{ℕ, ◌≡◌, ◌⊎◌, if◌then◌else◌, Option, Some, None}
use Rattle.nr_idmap.specs.IdChoices.{ChoosesId, StaysButClerk, UsesId}
use Rattle.nr_ids.specs.Groups.{group_of}
use Rattle.nr_idmap.specs.Keepers.{Keeper}
use Rattle.nr_c.specs.declared.id_writer_side.IdWriterSide.{IdWriterSide}
use Rattle.nr_c.specs.Codes.{ByCode}
use Rattle.nr_c.specs.IdLive.{OwesAll}
use Rattle.nr_c.specs.Ledgers.{AreAllAsked}
use Rattle.nr_c.specs.Numbers.{answer_all_asked, answer_done, answer_nothing}

-- whether an id was found since
abbrev pub UsesIdByCode : ℕ → Keeper → Keeper → ℕ → Type 0
UsesIdByCode id old new =
    ByCode (λ used. if used then answer_done else answer_nothing)
    (λ used. UsesId id old.clerk new.clerk used × StaysButClerk old new)

abbrev pub chosen_code : Option ℕ → ℕ
chosen_code None = answer_nothing
chosen_code (Some id) = answer_done

-- the id that is told: the chosen one, and else what stood there
abbrev pub chosen_or : ℕ → Option ℕ → ℕ
chosen_or told None = told
chosen_or told (Some id) = id

-- which id of another's group to evict
abbrev pub ChoosesIdByCode : ℕ → ℕ → ℕ → Keeper → Keeper → ℕ → Type 0
ChoosesIdByCode id told tells old new =
    ByCode chosen_code
    (λ named. (tells ≡ chosen_or told named) × ChoosesId id old.clerk new.clerk named × StaysButClerk old new)

-- each way of the id's group has an open upquery
abbrev pub IsAskedWhole : ℕ → IdWriterSide → Type 0
IsAskedWhole id side = AreAllAsked (group_of side.writer.table.directory.plan id) side.ledger

-- so none can be evicted, which the code says, and nothing has changed
pub record ChoosesNone (id told tells : ℕ) (old new : IdWriterSide) (code : ℕ) : Type 0 where
  pub code_is : code ≡ answer_all_asked
  pub all : IsAskedWhole id old
  pub stays : new.writer ≡ old.writer
  pub keeps : new.ledger ≡ old.ledger
  pub still : tells ≡ told

-- a choice where one may be there to evict
pub record ChoosesSome (id told tells : ℕ) (old new : IdWriterSide) (code : ℕ) : Type 0 where
  pub some : IsAskedWhole id old → ⊥
  pub chooses : OwesAll (ChoosesIdByCode id told tells) old new code

abbrev pub ChoosesByCode : ℕ → ℕ → ℕ → IdWriterSide → IdWriterSide → ℕ → Type 0
ChoosesByCode id told tells old new code =
    ChoosesNone id told tells old new code ⊎ ChoosesSome id told tells old new code
