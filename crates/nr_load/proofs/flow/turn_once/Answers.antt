use Rattle.std.proofs.Common.{arith}
use Rattle.nr_load.proofs.Flowing.{turn_fills, turn_idles, turn_is_refused, turn_passes}
use Rattle.nr_load.proofs.flow.turn_once.Goals as goal

pub returns-in-Idle-clause-turns : goal.returns-in-Idle-clause-turns
returns-in-Idle-clause-turns g c =
    turn_idles c.args.flow.now c.try_turn_or_sleep.new.self c.args.fills.now (omega arith) c.in-Idle.ensures.turns

pub returns-in-Passed-clause-turns : goal.returns-in-Passed-clause-turns
returns-in-Passed-clause-turns g c =
    turn_passes c.args.flow.now c.try_turn_or_sleep.new.self c.in-Passed.field-0 c.args.fills.now c.requires.base
    (omega arith) c.in-Passed.ensures.turns

pub returns-in-Ok-clause-turns : goal.returns-in-Ok-clause-turns
returns-in-Ok-clause-turns g c =
    turn_fills c.args.flow.now c.try_turn_or_sleep.new.self c.change.new.flow c.in-Filled.key c.args.fills.now
    c.saturating_add.result c.requires.base
    c.in-Filled.ensures.turns (omega (arith, c.saturating_add.ensures)) c.try_turn_or_sleep.ensures.places.0
    c.change.ensures.triggers _
    c.in-Ok.ensures.gained

pub returns-in-Err-clause-turns : goal.returns-in-Err-clause-turns
returns-in-Err-clause-turns g c =
    turn_is_refused c.args.flow.now c.try_turn_or_sleep.new.self c.change.new.flow c.in-Filled.key c.args.fills.now
    c.saturating_add.result
    c.requires.base c.in-Filled.ensures.turns (omega (arith, c.saturating_add.ensures))
    c.try_turn_or_sleep.ensures.places.0 c.change.ensures.triggers c.in-Err.field-0
    c.in-Err.ensures.gained
