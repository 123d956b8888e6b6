use Rattle.std.specs.Prelude.{◌≡◌, length, take}
use Rattle.nr_c.specs.Many.{keys_wanted}
use Rattle.nr_c.proofs.many.copy_keys.Given as goal

abbrev pub invariant-loop-place : goal.invariant-loop-place
invariant-loop-place l = (take l.place l.keys ≡ keys_wanted (take l.place l.group)) × (length l.keys ≡ 16)
