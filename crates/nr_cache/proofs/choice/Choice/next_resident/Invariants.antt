use Rattle.std.proofs.Common.{◌≡◌}
use Rattle.nr_idmap.specs.IdChoices.{StaysButClerk}
use Rattle.nr_cache.proofs.choice.Choice.next_resident.Given as goal

abbrev pub invariant-loop : goal.invariant-loop
invariant-loop l = record {
  own : l.writer.table ≡ l.map;
  stays : StaysButClerk l.initial.writer l.writer;
}
