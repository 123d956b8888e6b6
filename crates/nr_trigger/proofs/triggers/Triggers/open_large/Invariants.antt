use Rattle.nr_trigger.specs.Posts.{without_notes}
use Rattle.nr_trigger.proofs.triggers.Triggers.open_large.Given as goal

abbrev pub ghost-seated : goal.ghost-seated
ghost-seated g a = without_notes g.keys
