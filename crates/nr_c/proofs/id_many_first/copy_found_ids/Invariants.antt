use Rattle.std.specs.Prelude.{◌≡◌, length, take}
use Rattle.nr_c.specs.IdManyFirst.{ids_found}
use Rattle.nr_c.proofs.id_many_first.copy_found_ids.Given as goal

abbrev pub invariant-loop-place : goal.invariant-loop-place
invariant-loop-place l = (take l.place l.ids ≡ ids_found (take l.place l.group)) × (length l.ids ≡ 16)
