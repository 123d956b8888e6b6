use Rattle.nr_tour.proofs.server.queue.opened_queue.Given as goal

abbrev pub ghost-open : goal.ghost-open
ghost-open a = 2
