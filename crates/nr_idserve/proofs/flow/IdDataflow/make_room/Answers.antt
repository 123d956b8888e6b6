use Rattle.std.proofs.Common.{false, true, refl}
use Rattle.nr_board.specs.declared.answers.Evict.TheVariants as evict
use Rattle.nr_idserve.specs.IdTakes.{EvictsOneId}
use Rattle.nr_idserve.proofs.flow.IdDataflow.make_room.Goals as goal

pub returns-then-not-may_go-clause-makes : goal.returns-then-not-may_go-clause-makes
returns-then-not-may_go-clause-makes g c =
    let victim = c.choose-victim in
    let said = c.if-not-may_go.ensures in
    (record { id = victim.result; may_go = false }, (victim.new.self, victim.ensures.chooses, refl), said)

pub returns-in-Evicted-clause-makes : goal.returns-in-Evicted-clause-makes
returns-in-Evicted-clause-makes g c =
    let victim = c.choose-victim in
    let said = c.if-not-may_go.ensures in
    let goes = c.in-Evicted.ensures in
    let evicted : EvictsOneId victim.result victim.new.self c.evict.new.self evict.Evicted
    = record { evicts = goes.evicts; owes = goes.owes; raised = goes.raised; rest = goes.rest } in
    (record { id = victim.result; may_go = true }, (victim.new.self, victim.ensures.chooses, evicted), said)

pub returns-in-Nothing-clause-makes : goal.returns-in-Nothing-clause-makes
returns-in-Nothing-clause-makes g c =
    let victim = c.choose-victim in
    let said = c.if-not-may_go.ensures in
    let goes = c.in-Nothing.ensures in
    let nothing : EvictsOneId victim.result victim.new.self c.evict.new.self evict.Nothing
    = record { evicts = goes.evicts; owes = goes.owes; raised = goes.raised; rest = goes.rest } in
    (record { id = victim.result; may_go = true }, (victim.new.self, victim.ensures.chooses, nothing), said)
