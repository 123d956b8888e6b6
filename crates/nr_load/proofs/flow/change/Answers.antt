use Rattle.std.proofs.Common.{ℕ, ◌%◌, List, refl, ap, arith, eq-eqb, ne_eqb}
use Rattle.nr_serve.specs.Flows.{FlowSeen}
use Rattle.nr_load.proofs.Flowing.{change_evicts, change_stays, change_updates}
use Rattle.nr_load.proofs.flow.change.Goals as goal

pub returns-then-fills-eq0-clause-gained : goal.returns-then-fills-eq0-clause-gained
returns-then-fills-eq0-clause-gained c =
    let old = c.args.flow.now in let new = c.evict.new.self in
    change_evicts old.map.shape.keys c.args.fills c.args.key old.writer new.writer old.source new.source c.evict.result
    tt c.requires.key.0 (eq-eqb (c.args.fills % 4) 0 (omega (arith, c.if-fills-eq0.true)))
    (ap (λ (flow : FlowSeen (List ℕ)). flow.source) c.evict.ensures.rest) c.evict.ensures.evicts

pub returns-in_default-clause-gained : goal.returns-in_default-clause-gained
returns-in_default-clause-gained c =
    let old = c.args.flow.now in
    change_stays old.map.shape.keys c.args.fills c.args.key old.writer old.writer old.source c.step.new.self tt
    (ne_eqb (c.args.fills % 4) 0 (λ same. omega (arith, same, c.if-fills-eq0.false))) refl
    (rw (c.in_default.is, c.source.ensures.value) at c.step.ensures)

pub returns-clause-gained : goal.returns-clause-gained
returns-clause-gained c =
    let old = c.args.flow.now in let new = c.apply_rows.new.self in
    change_updates old.map.shape.keys old.map.shape.rows c.args.fills c.args.key old.writer new.writer old.source
    new.source c.in-Some.deltas
    c.apply_rows.result c.requires.key.0
    (ne_eqb (c.args.fills % 4) 0 (λ same. omega (arith, same, c.if-fills-eq0.false)))
    (rw (ap (λ (flow : FlowSeen (List ℕ)). flow.source) c.apply_rows.ensures.rest)
    (rw (c.in-Some.is, c.source.ensures.value) at c.step.ensures))
    c.apply_rows.ensures.updates (c.apply_rows.ensures.room c.requires.room)
