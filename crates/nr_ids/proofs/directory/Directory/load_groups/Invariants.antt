use Rattle.std.specs.Prelude.{take}
use Rattle.nr_ids.specs.Marks.{LoadsGroups}
use Rattle.nr_ids.specs.Tokens.{Sits, token}
use Rattle.nr_ids.proofs.directory.Directory.load_groups.Given as goal

abbrev pub invariant-loop-id : goal.invariant-loop-id
invariant-loop-id l = record {
  sits : Sits l.self l.seat;
  loads : LoadsGroups (take l.id-index l.ids) (token l.fn.seat) (token l.seat);
}
