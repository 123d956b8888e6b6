use Rattle.nr_cache.proofs.Ways.{seen_names}
use Rattle.nr_cache.proofs.limits.other_at.Goals as goal

pub returns-clause-names : goal.returns-clause-names
returns-clause-names c =
    seen_names c.args.way c.args.writer.now c.id_at.new.writer c.id_at.result c.is_tied.ensures c.id_at.ensures.names

pub returns-in_err-id-clause-names : goal.returns-in_err-id-clause-names
returns-in_err-id-clause-names c =
    seen_names c.args.way c.args.writer.now c.id_at.new.writer c.id_at.result c.is_tied.ensures c.id_at.ensures.names
