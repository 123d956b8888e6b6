use Rattle.nr_tour.proofs.server.large.has_queue.Given as goal

abbrev pub ghost-open_large : goal.ghost-open_large
ghost-open_large a = 200000
