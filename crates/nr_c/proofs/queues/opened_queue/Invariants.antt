use Rattle.nr_c.proofs.queues.opened_queue.Given as goal

abbrev pub ghost-open_large : goal.ghost-open_large
ghost-open_large g a = g.below
