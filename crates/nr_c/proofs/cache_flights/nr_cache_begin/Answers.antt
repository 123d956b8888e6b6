use Rattle.std.proofs.Common.{arith, refl}
use Rattle.nr_c.proofs.KeptUpqueries.{turns}
use Rattle.nr_c.proofs.cache_flights.nr_cache_begin.Goals as goal

pub returns : goal.returns
returns c =
    rw (← c.is_live.ensures.same, c.side-side.ensures.value)
    (turns (omega arith) (refl, refl, refl)
    (c.begin-begun.result, c.of_begun.ensures.code, (c.begin-begun.ensures.begins, c.of_begun.ensures.told)))
