use Rattle.nr_trigger.proofs.triggers.seated.Given as goal

abbrev pub ghost-seat_taker : goal.ghost-seat_taker
ghost-seat_taker g a = g.limits

abbrev pub ghost-seat_posters : goal.ghost-seat_posters
ghost-seat_posters g a = g.limits
