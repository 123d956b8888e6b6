use Rattle.nr_cache.specs.Stamps as stamps
use Rattle.nr_cache.proofs.limits.Limit.first_to_go.Goals as goal

pub returns-in-Some-clause-looks : goal.returns-in-Some-clause-looks
returns-in-Some-clause-looks c =
    stamps.ThenStays c.args.writer.now c.stale_way-stale.new.writer c.other_at.new.writer
    c.stale_way-stale.ensures.looks c.other_at.ensures.stays

pub returns-in-None-clause-looks : goal.returns-in-None-clause-looks
returns-in-None-clause-looks c =
    stamps.ThenStays c.args.writer.now c.stale_way-stale.new.writer c.victim.new.writer
    c.stale_way-stale.ensures.looks c.victim.ensures.stays
