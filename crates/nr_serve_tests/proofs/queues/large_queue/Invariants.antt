use Rattle.nr_serve_tests.proofs.queues.large_queue.Given as goal

abbrev pub ghost-open_large : goal.ghost-open_large
ghost-open_large a = 20
