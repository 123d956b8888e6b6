use Rattle.std.proofs.Common.{refl, rules}
use Rattle.nr_ids.proofs.Logs.{open_early}
use Rattle.nr_ids.proofs.Seats.{grows_by, looks_at_turn, stands}
use Rattle.nr_ids.proofs.directory.Directory.look_at_turn.Goals as goal

pub load-requires : goal.load-requires
load-requires c =
    looks_at_turn (stands c.self.view_is c.self.invariant) c.requires.caller c.args.group c.turn_place-place.result
    c.requires.group c.turn_place-place.ensures.value

pub returns-clause-grows : goal.returns-clause-grows
returns-clause-grows c = grows_by c.args.seat.now c.load.new.seat _ c.load.ensures.0 c.load.ensures.2.0 refl

pub returns-clause-early : goal.returns-clause-early
returns-clause-early c =
    open_early c.args.seat.now.me.0.plan c.load.new.seat.me.0.seen c.args.group c.load.result c.load.ensures.2.0.legal
    (c.load.ensures.2.1 c.args.group (search rules))
