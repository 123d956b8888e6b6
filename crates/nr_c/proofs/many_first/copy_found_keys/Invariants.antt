use Rattle.std.specs.Prelude.{◌≡◌, length, take}
use Rattle.nr_c.specs.ManyFirst.{keys_found}
use Rattle.nr_c.proofs.many_first.copy_found_keys.Given as goal

abbrev pub invariant-loop-place : goal.invariant-loop-place
invariant-loop-place l = (take l.place l.keys ≡ keys_found (take l.place l.group)) × (length l.keys ≡ 16)
