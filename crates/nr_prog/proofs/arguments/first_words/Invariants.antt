use Rattle.std.proofs.Common.{◌≡◌, ◌++◌, ◌≤◌}
use Rattle.std.specs.Vec.Iter.{into_iter_items, into_iter_len}
use Rattle.arrayvec.specs.ArrayVec.{array_vec_len}
use Rattle.nr_prog.specs.declared.arguments.TheConstants.{ROOM}
use Rattle.nr_prog.proofs.arguments.first_words.Given as goal

-- the words so far, and those to come, are all
abbrev pub invariant-loop-word : goal.invariant-loop-word
invariant-loop-word l =
    (l.words.items ++ into_iter_items l.args ≡ into_iter_items l.initial.args) × (array_vec_len l.words ≤ ROOM)

abbrev pub decreases-loop-word : goal.decreases-loop-word
decreases-loop-word l = into_iter_len l.args
