use Rattle.std.specs.Prelude.{◌≤◌, vec_capacity}
use Rattle.nr_map.specs.Opened.{Seated}
use Rattle.nr_map.proofs.reader_map.seat_readers.Given as goal

abbrev pub invariant-loop-made : goal.invariant-loop-made
invariant-loop-made l = Seated l.board l.seat l.readers.items l.made × (l.count ≤ vec_capacity l.readers)
