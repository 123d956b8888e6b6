use Rattle.nr_trigger.proofs.triggers.seated_for.Given as goal

abbrev pub ghost-seated : goal.ghost-seated
ghost-seated g a = g.limits
