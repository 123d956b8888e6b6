use Rattle.std.specs.Prelude.{◌≡◌, min}
use Rattle.nr_map.specs.FirstRows.{ArePutOver}
use Rattle.nr_c.proofs.rows.put_first.Given as goal

abbrev pub invariant-loop-place : goal.invariant-loop-place
invariant-loop-place g l =
    ArePutOver (g.S.RowSource.rows l.initial.source) l.initial.cells (min l.place l.count) l.cells
    × (g.S.RowSource.rows l.source ≡ g.S.RowSource.rows l.initial.source)
    × g.S.RowSource.is_ready l.source (min l.place l.count)
    × g.S.RowSource.gave l.initial.source (min l.place l.count) l.source
