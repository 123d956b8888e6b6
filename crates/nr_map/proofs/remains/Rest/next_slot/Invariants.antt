use Rattle.nr_map.specs.Remains.{AllReaped}
use Rattle.nr_map.proofs.remains.Rest.next_slot.Given as goal

abbrev pub invariant-loop-slot : goal.invariant-loop-slot
invariant-loop-slot l = AllReaped l.self.writer.marks l.self.next l.slot
