use Rattle.std.proofs.Common.{ap, refl, subst, ◌∙◌}
use Rattle.nr_c.specs.Endings.{Ends}
use Rattle.nr_c.specs.CacheOpenings.{ClosesCacheSide}
use Rattle.nr_c.specs.declared.cache_side.CacheSide.{CacheSide}
use Rattle.nr_c.proofs.cache_open.nr_close_cache.Goals as goal

pub returns-clause-ends : goal.returns-clause-ends
returns-clause-ends c side led =
    let same = c.close-side.ensures.ends side (ap (λ handle. handle.live) c.is_live.ensures.same ∙ led) in
    subst (λ (held : CacheSide). Ends (ClosesCacheSide held)) same
    (_, c.leave.ensures, record { map = refl; store = refl; spare = refl; watch = c.close.ensures })
