use Rattle.std.specs.Prelude.{◌≡◌, length, take}
use Rattle.nr_c.specs.IdMany.{ids_wanted}
use Rattle.nr_c.proofs.id_many.copy_ids.Given as goal

abbrev pub invariant-loop-place : goal.invariant-loop-place
invariant-loop-place l = (take l.place l.ids ≡ ids_wanted (take l.place l.group)) × (length l.ids ≡ 16)
