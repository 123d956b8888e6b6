use Rattle.std.proofs.Common.{rules, subst}
use Rattle.nr_idmap.specs.Keepers.{IsTied}
use Rattle.nr_cache.specs.StoreSeen.{StoreSeen}
use Rattle.nr_cache.proofs.Looking.{swaps_own}
use Rattle.nr_cache.proofs.store.Store.swap.Goals as goal

pub returns-in-Own-clause-swaps : goal.returns-in-Own-clause-swaps
returns-in-Own-clause-swaps g c =
    swaps_own g.R.RowRoom.shows c.unnamed_is_absent.ensures
    (subst (λ (s : StoreSeen). IsTied s.keeper) c.self.view_is c.is_tied.ensures)
    (record { found = c.in-Some.found; looks = c.in-Some.ensures.looks; same = search rules }) c.in-Own.ensures.puts
