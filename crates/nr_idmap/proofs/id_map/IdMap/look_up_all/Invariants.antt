use Rattle.std.specs.Prelude.{◌≡◌, All, length, take}
use Rattle.nr_idmap.specs.IdLoads.{LooksUpEach, keys_named}
use Rattle.nr_idmap.specs.IdWalks.{IsNear}
use Rattle.nr_idmap.proofs.id_map.IdMap.look_up_all.Given as goal

abbrev pub invariant-loop-place : goal.invariant-loop-place
invariant-loop-place l = record {
  own : l.reader.directory ≡ l.self.directory;
  looks : LooksUpEach (take l.place l.ids) (take l.place l.ways) l.fn.reader l.reader;
  near : All (IsNear l.self.map.shape.keys) l.ways;
  keys : take l.place l.keys ≡ keys_named (take l.place l.ways);
  long : length l.ways ≡ 16;
  as_long : length l.keys ≡ 16;
}
