use Rattle.nr_serve_tests.proofs.opened.one_poster.Given as goal

abbrev pub ghost-open : goal.ghost-open
ghost-open g a = 2
