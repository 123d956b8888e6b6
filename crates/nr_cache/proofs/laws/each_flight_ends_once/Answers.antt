use Rattle.nr_cache.proofs.InOrder.{each_flight_ends_once_lem}
use Rattle.nr_cache.proofs.laws.each_flight_ends_once.Goals as goal

pub returns : goal.returns
returns c = each_flight_ends_once_lem
