use Rattle.std.proofs.Common.{arith}
use Rattle.nr_idmap.proofs.Tagging.{tagged_set}
use Rattle.nr_idmap.proofs.rows.put_tagged.Goals as goal

pub refill-requires-clause-row_set : goal.refill-requires-clause-row_set
refill-requires-clause-row_set c = let set = tagged_set c.args.bound c.args.id c.args.rows.now c.requires.id_set in
    (set.0, omega (arith, set.1, c.requires.few))
