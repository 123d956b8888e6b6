use Rattle.nr_cache.proofs.Looking.{no_look}
use Rattle.nr_cache.proofs.stamps.goes_first.Goals as goal

pub returns-then-way-newcomer-clause-looks : goal.returns-then-way-newcomer-clause-looks
returns-then-way-newcomer-clause-looks c = no_look c.args.writer.now
