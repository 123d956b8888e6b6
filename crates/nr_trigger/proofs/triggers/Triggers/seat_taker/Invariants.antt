use Rattle.nr_trigger.proofs.triggers.Triggers.seat_taker.Given as goal

abbrev pub ghosts-begin : goal.ghosts-begin
ghosts-begin g a = record { limits = g.limits }
