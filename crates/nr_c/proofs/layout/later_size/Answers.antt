use Rattle.std.proofs.Common.{arith, sym}
use Rattle.std.proofs.lemmas.List.{get_or_past}
use Rattle.nr_c.specs.Layout.{struct_sizes}
use Rattle.nr_c.proofs.layout.later_size.Goals as goal

pub returns-in_default-clause-size : goal.returns-in_default-clause-size
returns-in_default-clause-size c =
    sym (get_or_past struct_sizes c.args.place 0 (omega (arith, c.requires, c.in_default)))
