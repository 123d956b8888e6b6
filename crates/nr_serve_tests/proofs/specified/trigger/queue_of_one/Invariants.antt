use Rattle.nr_serve_tests.proofs.specified.trigger.queue_of_one.Given as goal

abbrev pub ghost-open : goal.ghost-open
ghost-open g a = 2
