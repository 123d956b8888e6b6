-- What the writer by id does after a write in the base, by its code.
use Rattle.std.specs.Prelude.{ℕ, ◌⊎◌, Option, Some, None}
use Rattle.nr_ids.specs.Groups.{group_of, second_of}
use Rattle.nr_idmap.specs.Keepers.{Keeper}
use Rattle.nr_c.specs.declared.id_writer_side.IdWriterSide.{IdWriterSide}
use Rattle.nr_c.specs.declared.kept_upquery.NrUpquery.{NrUpquery}
use Rattle.nr_c.specs.IdLive.{OwesAll}
use Rattle.nr_c.specs.IdUpqueries.{WithdrawsByCode}
use Rattle.nr_c.specs.IdWrites.{EvictsIdByCode}
use Rattle.nr_c.specs.Ledgers.{Entries, IsInEither, Tells}

-- the id's upquery among those that are kept, each at a way of one of its id's two groups
abbrev pub TellsOpen : ℕ → Keeper → Entries → Option NrUpquery → Type 0
TellsOpen id keeper =
    let plan = keeper.table.directory.plan in
    Tells (IsInEither (group_of plan id) (second_of plan id) id)

-- the id's open upquery is withdrawn; where it has none, the id is evicted
abbrev pub InvalidatesIdByCode : ℕ → IdWriterSide → IdWriterSide → ℕ → Type 0
InvalidatesIdByCode id old new code =
    ((upquery : NrUpquery) × TellsOpen id old.writer old.ledger (Some upquery) × WithdrawsByCode upquery old new code)
    ⊎ (TellsOpen id old.writer old.ledger None × OwesAll (EvictsIdByCode id) old new code)
