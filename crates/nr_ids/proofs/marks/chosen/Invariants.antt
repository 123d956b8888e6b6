use Rattle.std.specs.Prelude.{◌≡◌, ◌<◌, ◌≤◌, ℕ}
use Rattle.nr_ids.specs.Events.{HasMark}
use Rattle.nr_ids.specs.Marks.{begin_of, bits_from, place_after}
use Rattle.nr_ids.proofs.marks.chosen.Given as goal

abbrev pub invariant-loop-step : goal.invariant-loop-step
invariant-loop-step l = record {
  bits : l.passed ≡ bits_from (begin_of l.marks) l.step;
  marked : (step : ℕ) → step < l.step → HasMark l.marks (place_after (begin_of l.marks) step);
  few : l.step ≤ 8;
}
