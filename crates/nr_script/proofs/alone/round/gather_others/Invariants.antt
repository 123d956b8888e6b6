use Rattle.std.proofs.Common.{◌≡◌, ◌<◌, ℕ, map, get_or}
use Rattle.nr_map.specs.Hands.{Handed}
use Rattle.nr_script.specs.Hands.{still}
use Rattle.nr_script.specs.Rounds.{IsShown, IsSoundWriter, WriterStays}
use Rattle.nr_script.proofs.alone.round.gather_others.Given as goal

abbrev pub invariant-loop-at : goal.invariant-loop-at
invariant-loop-at l = record {
  stays : WriterStays l.fn.writer l.writer;
  sound : IsSoundWriter l.writer;
  same : map still l.hands ≡ map still l.fn.hands;
  first : (other : Handed) → IsShown l.fn.writer.seen l.writer (get_or l.hands l.fn.first other);
  done : (at : ℕ) (other : Handed) → at < l.at → IsShown l.fn.writer.seen l.writer (get_or l.hands at other);
}
