use Rattle.std.proofs.Common.{◌<◌, ℕ}
use Rattle.nr_c.specs.declared.many_first.NrFound.{NrFound}
use Rattle.nr_c.proofs.LookedUp.{holds_of_copied}
use Rattle.nr_c.proofs.many_first.load_first_from.Goals as goal

pub load_ahead-requires-clause-keys : goal.load_ahead-requires-clause-keys
load_ahead-requires-clause-keys c =
    holds_of_copied (λ (one : NrFound). one.key) c.args.left.now c.min.result c.copy_found_keys.ensures
    (λ (key : ℕ). key < c.args.map.now.shape.keys) c.requires.keys
