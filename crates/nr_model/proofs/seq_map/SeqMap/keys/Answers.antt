use Rattle.std.proofs.Common.{ap, arith}
use Rattle.nr_model.specs.Maps.{key_count}
use Rattle.nr_model.proofs.RunLemmas.{length-states_in}
use Rattle.nr_model.proofs.seq_map.SeqMap.keys.Goals as goal

pub returns-clause-value : goal.returns-clause-value
returns-clause-value c =
    omega (
      arith,
      c.len.ensures,
      c.self.inside.heads.ok,
      ap (λ m. key_count m) c.self.view_is,
      length-states_in c.self.inside.rows c.self.inside.heads.items c.self.inside.cells.items,
    )
