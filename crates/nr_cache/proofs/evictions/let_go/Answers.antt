use Rattle.std.proofs.Common.{◌∙◌}
use Rattle.nr_cache.proofs.Gone.{has_value, unnames_one}
use Rattle.nr_cache.proofs.Weighing.{evicted_lightens, lightens_stays, lightens_then, only_still}
use Rattle.nr_cache.proofs.evictions.let_go.Goals as goal

pub unreachable-requires : goal.unreachable-requires
unreachable-requires c =
    let seen = c.in-Some.ensures in
    let way = c.in-Some.way in
    let none = seen.stays.owes way ∙ c.requires.owes way in
    let had =
    has_value way c.named_is_owed_or_resident.ensures c.is_tied-2.ensures none c.requires.id seen.finds.1.has in
    c.if-not-take_value.ensures.takes.0 had.0 had.1

pub returns-clause-lightens : goal.returns-clause-lightens
returns-clause-lightens c =
    let seen = c.in-Some.ensures in
    lightens_then (lightens_stays seen.stays)
    (rw c.leave.ensures (evicted_lightens c.in-Some.way c.is_tied-2.ensures c.if-not-take_value.ensures.takes.1.1
    c.requires.id seen.finds.1.has))

pub returns-clause-only : goal.returns-clause-only
returns-clause-only c = only_still c.requires.only (returns-clause-lightens c)

pub returns-clause-unnames : goal.returns-clause-unnames
returns-clause-unnames c =
    unnames_one c.is_tied.ensures c.is_tied-2.ensures c.requires.id c.in-Some.ensures.finds
    c.if-not-take_value.ensures.takes.1.1
