use Rattle.std.proofs.Common.{◌≡◌, take}
use Rattle.nr_cache.specs.GivenValues.{ShowsValue}
use Rattle.nr_cache.proofs.given.GivenValueRowRoom.refill.Given as goal

abbrev pub invariant-loop-place : goal.invariant-loop-place
invariant-loop-place g l =
    ShowsValue l.self (take l.place (g.S.RowSource.rows l.initial.source))
    × (g.S.RowSource.rows l.source ≡ g.S.RowSource.rows l.initial.source)
    × g.S.RowSource.is_ready l.source l.place
    × g.S.RowSource.gave l.initial.source l.place l.source
