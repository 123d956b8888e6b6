use Rattle.nr_cache.proofs.InOrder.{held_is_fresh_lem}
use Rattle.nr_cache.proofs.laws.held_is_fresh.Goals as goal

pub returns : goal.returns
returns c = held_is_fresh_lem
