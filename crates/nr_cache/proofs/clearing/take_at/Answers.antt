use Rattle.std.proofs.Common.{◌∙◌}
use Rattle.nr_cache.proofs.Ways.{seen_names}
use Rattle.nr_cache.proofs.Gone.{found_there, has_value, none_still, unnamed_at}
use Rattle.nr_cache.proofs.Weighing.{evicted_lightens, lightens_stays, lightens_then, only_still}
use Rattle.nr_cache.proofs.clearing.take_at.Goals as goal

pub unreachable-requires : goal.unreachable-requires
unreachable-requires c =
    let seen = c.in-Some.ensures in
    let none = seen.stays.owes c.args.way ∙ c.requires.owes c.args.way in
    let had =
    has_value c.args.way c.named_is_owed_or_resident.ensures c.is_tied-2.ensures none seen.names.2 seen.names.1.has in
    c.if-not-take_value.ensures.takes.0 had.0 had.1

pub returns-clause-none : goal.returns-clause-none
returns-clause-none c =
    let names = c.in-Some.ensures.names in
    let evicts = c.if-not-take_value.ensures.takes.1.1 in
    unnamed_at c.is_tied-2.ensures evicts c.args.way
    (found_there c.args.way c.is_tied-2.ensures evicts.finds names.2 names.1.has)

pub returns-clause-others : goal.returns-clause-others
returns-clause-others c other was =
    none_still c.is_tied-2.ensures c.if-not-take_value.ensures.takes.1.1 other
    (seen_names c.args.way c.args.writer.now c.id_at-named.new.writer c.id_at-named.result c.is_tied.ensures
    c.id_at-named.ensures.names other
    ∙ was)

pub returns-clause-lightens : goal.returns-clause-lightens
returns-clause-lightens c =
    let seen = c.in-Some.ensures in
    lightens_then (lightens_stays seen.stays)
    (rw c.leave.ensures (evicted_lightens c.args.way c.is_tied-2.ensures c.if-not-take_value.ensures.takes.1.1
    seen.names.2 seen.names.1.has))

pub returns-clause-only : goal.returns-clause-only
returns-clause-only c = only_still c.requires.only (returns-clause-lightens c)
