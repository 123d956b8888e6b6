use Rattle.std.proofs.Common.{ap, ◌∙◌, sym, inr, refl, Some}
use Rattle.nr_ids.specs.Events.{name_of}
use Rattle.nr_board.specs.Callers.{map_seen}
use Rattle.nr_model.specs.Maps.{number_of, state_of}
use Rattle.nr_idmap.specs.Keepers.{Owed}
use Rattle.nr_idmap.proofs.Answering.{closed_so, closed_unfound, found_not, found_way}
use Rattle.nr_idmap.proofs.LedgerLaws.{owed_tells}
use Rattle.nr_idmap.proofs.Ties.{searched}
use Rattle.nr_idmap.proofs.WayCalls.{cancel_nothing, cancel_worn, withdrawn_way}
use Rattle.nr_idmap.proofs.id_map.IdMap.withdraw.Goals as goal

pub invariant_of-writer : goal.invariant_of-writer
invariant_of-writer c = (searched c.writer.invariant c.into_parts-way.result.2 _ c.way_of.ensures.answer).0

pub returns-then-ne-clause-withdraws : goal.returns-then-ne-clause-withdraws
returns-then-ne-clause-withdraws c =
    let owed : Owed = record
    { way = c.into_parts-way.result.0; number = c.into_parts-way.result.1; id = c.into_parts-way.result.2 } in
    rw c.into_parts-way.ensures.parts
    (closed_unfound c.writer.view_is c.writer.invariant owed c.into_parts-way.ensures.id _ c.way_of.ensures.answer _
    (found_not c.way_of.result owed.way (sym c.if-ne.true ∙ c.ne.ensures)))

pub invariant_of-writer-then-number : goal.invariant_of-writer-then-number
invariant_of-writer-then-number c = (searched c.writer.invariant c.into_parts-way.result.2 _ c.way_of.ensures.answer).0

-- what is open for the way has the way's number
pub returns-then-number-clause-withdraws : goal.returns-then-number-clause-withdraws
returns-then-number-clause-withdraws c =
    let owed : Owed = record
    { way = c.into_parts-way.result.0; number = c.into_parts-way.result.1; id = c.into_parts-way.result.2 } in
    rw c.into_parts-way.ensures.parts
    (closed_so c.writer.view_is c.writer.invariant owed c.into_parts-way.ensures.id _ c.way_of.ensures.answer _
    (λ is. let tells = owed_tells owed.way (name_of c.writer.inside.clerk.seen owed.way)
    (state_of (map_seen c.writer.inside.writer) owed.way) owed is in
    c.if-number.true (c.number.ensures.number ∙ ap number_of tells.3)))

pub invariant_of-writer-in-Cancelled : goal.invariant_of-writer-in-Cancelled
invariant_of-writer-in-Cancelled c =
    (withdrawn_way c.writer.invariant c.into_parts-way.result.2 c.into_parts-way.result.0
    (found_way _ _ _ c.if-ne.ensures c.way_of.ensures.answer) c.unname.ensures.answer c.into_parts-way.result.1
    c.into_parts-way.ensures.id (sym c.number.ensures.number ∙ c.if-number.false) c.in-Cancelled.ensures).0

pub invariant_of-writer-in-Nothing : goal.invariant_of-writer-in-Nothing
invariant_of-writer-in-Nothing c =
    (cancel_nothing c.writer.invariant c.into_parts-way.result.2 c.into_parts-way.result.0
    (found_way _ _ _ c.if-ne.ensures c.way_of.ensures.answer) c.in-Nothing.ensures).0.0

pub invariant_of-writer-in-Worn : goal.invariant_of-writer-in-Worn
invariant_of-writer-in-Worn c =
    (cancel_worn c.writer.invariant c.into_parts-way.result.2 c.into_parts-way.result.0
    (found_way _ _ _ c.if-ne.ensures c.way_of.ensures.answer) c.into_parts-way.result.1 c.into_parts-way.ensures.id
    (sym c.number.ensures.number ∙ c.if-number.false) c.in-Worn.ensures).0

pub returns-in-Cancelled-clause-withdraws : goal.returns-in-Cancelled-clause-withdraws
returns-in-Cancelled-clause-withdraws c = rw (c.into_parts-way.ensures.parts, ← c.writer.view_is)
    (withdrawn_way c.writer.invariant c.into_parts-way.result.2 c.into_parts-way.result.0
    (found_way _ _ _ c.if-ne.ensures c.way_of.ensures.answer) c.unname.ensures.answer c.into_parts-way.result.1
    c.into_parts-way.ensures.id (sym c.number.ensures.number ∙ c.if-number.false) c.in-Cancelled.ensures).1

pub returns-in-Nothing-clause-withdraws : goal.returns-in-Nothing-clause-withdraws
returns-in-Nothing-clause-withdraws c =
    let met = cancel_nothing c.writer.invariant c.into_parts-way.result.2 c.into_parts-way.result.0
    (found_way _ _ _ c.if-ne.ensures c.way_of.ensures.answer) c.in-Nothing.ensures in
    rw (c.into_parts-way.ensures.parts, ← c.writer.view_is)
    (record {
      closed = met.1 _;
      found = Some c.into_parts-way.result.0;
      finds = found_way _ _ _ c.if-ne.ensures c.way_of.ensures.answer;
      how = inr (refl, c.in-Nothing.ensures);
      owes = met.0.1;
    })

pub returns-in-Worn-clause-withdraws : goal.returns-in-Worn-clause-withdraws
returns-in-Worn-clause-withdraws c =
    let worn = cancel_worn c.writer.invariant c.into_parts-way.result.2 c.into_parts-way.result.0
    (found_way _ _ _ c.if-ne.ensures c.way_of.ensures.answer) c.into_parts-way.result.1 c.into_parts-way.ensures.id
    (sym c.number.ensures.number ∙ c.if-number.false) c.in-Worn.ensures in
    let sent = c.upquery.ensures ∙ (λ i. record
    { table = sym c.requires.own i; owed = sym c.into_parts-way.ensures.parts i }) in
    (sent, rw (c.into_parts-way.ensures.parts, ← c.writer.view_is) worn.1)
