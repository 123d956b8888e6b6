use Rattle.nr_tour.proofs.Doing.{opens_so}
use Rattle.nr_tour.proofs.cache.sharing.opened.Goals as goal

pub returns-clause-new : goal.returns-clause-new
returns-clause-new c = opens_so _ _ _ _ c.in_ok-map.ensures.ok
