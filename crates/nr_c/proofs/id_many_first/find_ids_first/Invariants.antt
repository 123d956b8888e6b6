use Rattle.std.specs.Prelude.{◌≡◌, All, None, replicate}
use Rattle.nr_idmap.specs.IdHands.{hand_table_of}
use Rattle.nr_idmap.specs.IdWalks.{IsNear}
use Rattle.nr_c.specs.IdManyFirst.{FindsIdAtFirst}
use Rattle.nr_c.proofs.FindsMade.{Made}
use Rattle.nr_c.proofs.id_many_first.find_ids_first.Given as goal

abbrev pub invariant-loop-place : goal.invariant-loop-place
invariant-loop-place l = record {
  own : hand_table_of l.hand ≡ l.map;
  near : All (IsNear l.map.map.shape.keys) l.ways;
  made : Made (FindsIdAtFirst l.room) (((l.fn.hand, replicate 16 None), l.fn.watch), l.fn.rows) l.fn.wanted l.place
      (((l.hand, l.ways), l.watch), l.rows) l.wanted;
}
