use Rattle.std.specs.Prelude.{◌≡◌, drop}
use Rattle.nr_idmap.specs.IdFindsEach.{FindsNext}
use Rattle.nr_idmap.specs.IdHands.{hand_table_of}
use Rattle.nr_idmap.proofs.InTurn.{Made}
use Rattle.nr_idmap.proofs.id_map.IdMap.find_in_ways.Given as goal

abbrev pub invariant-loop-place : goal.invariant-loop-place
invariant-loop-place g l = record {
  own : hand_table_of l.hand ≡ l.self;
  made : Made (FindsNext g.R.RowRoom.shows) (l.fn.hand, l.ways) l.fn.wanted l.place (l.hand, drop l.place l.ways)
      l.wanted;
}
