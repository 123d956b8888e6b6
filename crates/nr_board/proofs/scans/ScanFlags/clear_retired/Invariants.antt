use Rattle.nr_board.proofs.ScannedWords.{ClearedTo}
use Rattle.nr_board.proofs.scans.ScanFlags.clear_retired.Given as goal

abbrev pub invariant-loop-place : goal.invariant-loop-place
invariant-loop-place l = ClearedTo l.fn.lists.retired l.fn.self l.self l.place
