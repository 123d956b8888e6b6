use Rattle.nr_serve_tests.proofs.by_id.opened.queue.Given as goal

abbrev pub ghost-open : goal.ghost-open
ghost-open g a = 1
