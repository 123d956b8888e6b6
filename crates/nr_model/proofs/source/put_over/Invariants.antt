use Rattle.std.proofs.Common.{◌≡◌, ◌++◌, take, drop}
use Rattle.nr_model.proofs.source.put_over.Given as goal

abbrev pub invariant-loop-place : goal.invariant-loop-place
invariant-loop-place g l =
    (l.cells ≡ take l.place (g.S.RowSource.rows l.initial.source) ++ drop l.place l.initial.cells)
    × (g.S.RowSource.rows l.source ≡ g.S.RowSource.rows l.initial.source)
    × g.S.RowSource.is_ready l.source l.place
    × g.S.RowSource.gave l.initial.source l.place l.source
