use Rattle.std.proofs.Common.{◌≡◌, ◌<◌, ◌++◌, drop, map, take}
use Rattle.std.specs.List.{All}
use Rattle.nr_cache.specs.declared.flights.Flight.{Flight}
use Rattle.nr_cache.specs.Flights.{outdated}
use Rattle.nr_cache.proofs.flights.Flights.outdate_all.Given as goal

abbrev pub invariant-loop-place : goal.invariant-loop-place
invariant-loop-place l =
    (l.self-inside.under_way.items
    ≡ map outdated (take l.place l.initial.self-inside.under_way.items)
    ++ drop l.place l.initial.self-inside.under_way.items)
    × (l.self-inside.under_way.len ≡ l.initial.self-inside.under_way.len)
    × (l.self-inside.under_way.cap ≡ l.initial.self-inside.under_way.cap)
    × (l.self-inside.begun ≡ l.initial.self-inside.begun)
    × (l.self-inside.changing ≡ l.initial.self-inside.changing)
    × All (λ (flight : Flight). 0 < flight.id) l.self-inside.under_way.items
