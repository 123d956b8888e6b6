use Rattle.std.proofs.Common.{rules, ◌<◌}
use Rattle.nr_ids.specs.Tokens.{token}
use Rattle.nr_ids.proofs.Admitting.{looks_of_names, room_found}
use Rattle.nr_ids.proofs.Calls.{second_is}
use Rattle.nr_ids.proofs.directory.Directory.room_for.Goals as goal

pub room_in-there-requires-clause-hints : goal.room_in-there-requires-clause-hints
room_in-there-requires-clause-hints c =
    looks_of_names 1 c.requires.number c.room_in-here.ensures.room.grows c.requires.hints

pub returns-clause-rooms : goal.returns-clause-rooms
returns-clause-rooms c =
    let id = c.args.id in
    let old = token c.args.seat.now in
    let here = c.room_in-here in
    let there = c.room_in-there in
    let low : (c.group_of.result < old.directory.plan.groups) × (c.second_of.result < old.directory.plan.groups)
    = search rules in
    let second = second_is id old c.requires.clerk.own c.plan-plan.ensures.value c.second_of.ensures.value in
    room_found id c.group_of.result c.second_of.result old (token here.new.seat) (token there.new.seat)
    c.requires.number (cc) second low here.result there.result here.ensures.room there.ensures.room
    c.chosen.result c.chosen.ensures.some c.chosen.ensures.none
