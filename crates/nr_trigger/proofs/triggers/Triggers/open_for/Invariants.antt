use Rattle.nr_trigger.specs.Posts.{of_map}
use Rattle.nr_trigger.proofs.triggers.Triggers.open_for.Given as goal

abbrev pub ghost-seated_for : goal.ghost-seated_for
ghost-seated_for a = of_map a.map.now
