use Rattle.nr_serve_tests.proofs.queues.small_queue.Given as goal

abbrev pub ghost-open : goal.ghost-open
ghost-open a = 20
