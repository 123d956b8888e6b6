use Rattle.nr_serve_tests.proofs.specified.trigger.fault_of.Given as goal

abbrev pub ghost-open : goal.ghost-open
ghost-open a = 2
