use Rattle.std.specs.Prelude.{◌≡◌, ◌+◌, ◌*◌, ◌/◌, drop, length}
use Rattle.nr_idmap.specs.IdFindsEach.{FindsBatch, batches, in_sixteens}
use Rattle.nr_idmap.specs.IdHands.{hand_table_of}
use Rattle.nr_idmap.proofs.InTurn.{Made}
use Rattle.nr_idmap.proofs.id_map.IdMap.find_batches.Given as goal

abbrev pub invariant-loop-batch : goal.invariant-loop-batch
invariant-loop-batch g l = record {
  own : hand_table_of l.hand ≡ l.self;
  long : length l.wanted ≡ length l.fn.wanted;
  rest : drop (l.batch * 16) l.wanted ≡ drop (l.batch * 16) l.fn.wanted;
  made : Made (FindsBatch g.R.RowRoom.shows) l.fn.hand (in_sixteens l.fn.wanted) l.batch l.hand
      (batches ((length l.fn.wanted + 15) / 16) l.wanted);
}
