use Rattle.nr_serve.proofs.Ledger.{each_trigger_ends_once_lem}
use Rattle.nr_serve.proofs.laws.each_trigger_ends_once.Goals as goal

pub returns : goal.returns
returns g c = each_trigger_ends_once_lem g.S.FallibleSource.gives g.S.FallibleSource.fails
