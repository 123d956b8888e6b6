use Rattle.nr_script.proofs.alone.premises.laws.Goals as goal

pub returns : goal.returns
returns c = assumption
