use Rattle.std.proofs.Common.{◌∙◌}
use Rattle.nr_cache.proofs.Placing.{absent_still, chooses_one, room_is_free}
use Rattle.nr_cache.proofs.Gone.{has_value}
use Rattle.nr_cache.proofs.Weighing.{lightens_stays, lightens_then, only_still}
use Rattle.nr_cache.proofs.evictions.make_room.Goals as goal

pub unreachable-requires : goal.unreachable-requires
unreachable-requires c =
    chooses_one c.args.id c.args.writer.now c.choose.new.writer.clerk c.is_tied.ensures c.requires.full
    c.in_default.ensures.chooses

pub unreachable-requires-then-not-let_go : goal.unreachable-requires-then-not-let_go
unreachable-requires-then-not-let_go c =
    let choice = c.in-Some.ensures.chooses in
    let none = c.in-Some.ensures.stays.owes choice.way ∙ c.requires.owes choice.way in
    let had =
    has_value choice.way c.named_is_owed_or_resident.ensures c.is_tied-2.ensures none choice.names.2
    choice.names.1.has in
    c.if-not-let_go.ensures.loses.1 had.0 had.1

pub returns-clause-free : goal.returns-clause-free
returns-clause-free c = room_is_free c.is_tied.ensures c.in-Some.ensures.chooses c.let_go.ensures.unnames

pub returns-clause-absent : goal.returns-clause-absent
returns-clause-absent c =
    absent_still c.is_tied.ensures c.in-Some.ensures.chooses c.let_go.ensures.unnames c.requires.id c.requires.absent

pub let_go-requires-clause-only : goal.let_go-requires-clause-only
let_go-requires-clause-only c =
    only_still {was = c.args.weights.now} c.requires.only (lightens_stays c.in-Some.ensures.stays)

pub returns-clause-lightens : goal.returns-clause-lightens
returns-clause-lightens c = lightens_then (lightens_stays c.in-Some.ensures.stays) c.let_go.ensures.lightens
