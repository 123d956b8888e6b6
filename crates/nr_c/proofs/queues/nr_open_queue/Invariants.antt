use Rattle.nr_c.proofs.queues.nr_open_queue.Given as goal

abbrev pub ghost-opened_queue : goal.ghost-opened_queue
ghost-opened_queue a = a.keys
