use Rattle.nr_trigger.proofs.Passes.{first-pass-becomes-takers}
use Rattle.nr_trigger.proofs.triggers.Triggers.begin.Goals as goal

pub another-spare-requires-clause-rule : goal.another-spare-requires-clause-rule
another-spare-requires-clause-rule g c = first-pass-becomes-takers _ _ _ c.requires.first
