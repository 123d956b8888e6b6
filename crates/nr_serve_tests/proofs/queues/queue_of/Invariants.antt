use Rattle.nr_serve_tests.proofs.queues.queue_of.Given as goal

abbrev pub ghost-open : goal.ghost-open
ghost-open g a = 20
