use Rattle.nr_ids.proofs.Bytes.{lowest_cleared}
use Rattle.nr_ids.proofs.hints.others.Goals as goal

pub returns-clause-others : goal.returns-clause-others
returns-clause-others c = λ first place is. lowest_cleared first c.args.places place c.requires.some is
