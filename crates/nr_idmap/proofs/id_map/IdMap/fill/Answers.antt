use Rattle.std.proofs.Common.{◌≡◌, ap, ◌∙◌, sym, refl}
use Rattle.nr_idmap.specs.Keepers.{IdTable, Keeper, Owed, Sent}
use Rattle.nr_idmap.proofs.Answering.{closed_unfound, found_not, found_way}
use Rattle.nr_idmap.proofs.Ties.{searched}
use Rattle.nr_idmap.proofs.WayCalls.{fill_left, fill_told}
use Rattle.nr_idmap.proofs.id_map.IdMap.fill.Goals as goal
use Rattle.nr_idmap.proofs.id_map.IdMap.fill.Goals.{in-Ok, in-Err-NoSlot, in-Err-NotAsked, in-Err-Already, in-Err-Stale}

pub invariant_of-writer : goal.invariant_of-writer
invariant_of-writer c =
    (searched c.writer.invariant c.into_parts-way.result.2 _ c.way_of.ensures.answer).0

pub returns-then-ne-clause-fills : goal.returns-then-ne-clause-fills
returns-then-ne-clause-fills c =
    let owed : Owed = record
    { way = c.into_parts-way.result.0; number = c.into_parts-way.result.1; id = c.into_parts-way.result.2 } in
    rw c.into_parts-way.ensures.parts
    (closed_unfound c.writer.view_is c.writer.invariant owed c.into_parts-way.ensures.id _ c.way_of.ensures.answer _
    (found_not c.way_of.result owed.way (sym c.if-ne.true ∙ c.ne.ensures)))

pub invariant_of-writer-2 : goal.invariant_of-writer-2
invariant_of-writer-2 c =
    (fill_left c.writer.invariant c.into_parts-way.result.2 c.into_parts-way.result.0
    (found_way _ _ _ c.if-ne.ensures c.way_of.ensures.answer)
    c.into_parts-way.ensures.id c.args.rows.now c.into_parts-way.result.1 _ refl c.fill_rows.result
    (rw (c.as_slice.ensures.value ∙ c.put_tagged.ensures.sorted) at c.fill_rows.ensures)).0

pub returns-clause-fills : goal.returns-clause-fills
returns-clause-fills c =
    let owed : Owed = record
    { way = c.into_parts-way.result.0; number = c.into_parts-way.result.1; id = c.into_parts-way.result.2 } in
    let sent : Sent = record { table = c.args.self.now; owed = owed } in
    let table = sym c.requires.own ∙ ap (λ (k : Keeper). k.table) (sym c.writer.view_is) in
    let told : c.match-fill_rows.result ≡ fill_told sent c.fill_rows.result = elim c.match-fill_rows.branch [
      | in-Ok v ↦ rw v.in-Ok.is v.result-is
      | in-Err-NoSlot v ↦ rw (v.in-Err-NoSlot.is, v.in-Err-NoSlot.field-0-is, ← v.upquery.ensures) v.result-is
      | in-Err-NotAsked v ↦ rw (v.in-Err-NotAsked.is, v.in-Err-NotAsked.field-0-is) v.result-is
      | in-Err-Already v ↦ rw (v.in-Err-Already.is, v.in-Err-Already.field-0-is) v.result-is
      | in-Err-Stale v ↦ rw (v.in-Err-Stale.is, v.in-Err-Stale.field-0-is) v.result-is
    ] in
    rw (c.into_parts-way.ensures.parts, told, ← c.writer.view_is)
    (fill_left c.writer.invariant c.into_parts-way.result.2 c.into_parts-way.result.0
    (found_way _ _ _ c.if-ne.ensures c.way_of.ensures.answer)
    c.into_parts-way.ensures.id c.args.rows.now c.into_parts-way.result.1 sent
    (ap (λ (t : IdTable). record { table = t; owed = owed }) table) c.fill_rows.result
    (rw (c.as_slice.ensures.value ∙ c.put_tagged.ensures.sorted) at c.fill_rows.ensures)).1
