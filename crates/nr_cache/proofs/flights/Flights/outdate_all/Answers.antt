use Rattle.std.proofs.Common.{rules, ap, ◌∙◌, set}
use Rattle.std.proofs.lemmas.List.Edits.{map_over_more}
use Rattle.nr_cache.specs.declared.flights.Flight.{Flight}
use Rattle.nr_cache.specs.Flights.{outdated}
use Rattle.nr_cache.proofs.flights.Flights.outdate_all.Goals as goal

pub loop-place-preserved : goal.loop-place-preserved
loop-place-preserved c =
    let xs = c.self.inside.under_way.items in
    let ys = c.loop-place.self-inside.under_way.items in
    let place = c.loop-place.place in (
      ap (λ (f : Flight). set ys place f) c.outdated.ensures
          ∙ map_over_more outdated xs ys place c.index.result.now (search rules) c.loop-place.invariant.0 (search
          rules),
      c.loop-place.invariant.1,
      c.loop-place.invariant.2,
      c.loop-place.invariant.3,
      c.loop-place.invariant.4,
      (search rules),
    )
