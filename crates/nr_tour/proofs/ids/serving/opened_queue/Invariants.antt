use Rattle.nr_tour.proofs.ids.serving.opened_queue.Given as goal

abbrev pub ghost-open : goal.ghost-open
ghost-open a = 1
