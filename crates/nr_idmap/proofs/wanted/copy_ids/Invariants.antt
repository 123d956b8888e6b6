use Rattle.std.specs.Prelude.{◌≡◌, length, take}
use Rattle.nr_idmap.specs.IdFindsEach.{ids_of}
use Rattle.nr_idmap.proofs.wanted.copy_ids.Given as goal

abbrev pub invariant-loop-place : goal.invariant-loop-place
invariant-loop-place g l = (take l.place l.ids ≡ ids_of (take l.place l.wanted)) × (length l.ids ≡ 16)
