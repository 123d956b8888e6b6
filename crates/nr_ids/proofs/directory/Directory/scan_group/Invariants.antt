use Rattle.nr_ids.specs.Tokens.{Sits, token}
use Rattle.nr_ids.proofs.Through.{SoFar}
use Rattle.nr_ids.proofs.directory.Directory.scan_group.Given as goal

abbrev pub invariant-loop-left : goal.invariant-loop-left
invariant-loop-left l = record {
  sits : Sits l.self l.seat;
  so_far : SoFar l.id l.group (token l.fn.seat) (token l.seat) l.left;
}

abbrev pub decreases-loop-left : goal.decreases-loop-left
decreases-loop-left l = l.left
