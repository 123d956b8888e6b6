use Rattle.std.proofs.Common.{ap, refl, sym, subst, ◌∙◌}
use Rattle.nr_board.specs.Callers.{Table}
use Rattle.nr_idmap.specs.Keepers.{IdTable}
use Rattle.nr_cache.specs.Values.{HasSlots, values_in}
use Rattle.nr_cache.proofs.Placing.{closes_only}
use Rattle.nr_cache.proofs.Looking.{brings_one}
use Rattle.nr_cache.proofs.Filled.{filled_more, has_slot}
use Rattle.nr_cache.proofs.WriterCalls.{writes}
use Rattle.nr_cache.proofs.values.fill.Goals as goal

pub unreachable-requires-in-Err-NoSlot : goal.unreachable-requires-in-Err-NoSlot
unreachable-requires-in-Err-NoSlot g c =
    let does = rw c.in-Err-NoSlot.field-0-is at c.in-Err-NoSlot.ensures.fills.0 in
    has_slot 1 _ c.in-Err-NoSlot._counts c.args.writer.now c.fill_reclaiming.new.writer c.is_tied.ensures
    c.no_slot_is_rare.ensures
    (subst (λ (t : Table). HasSlots (values_in c.args.writer.now) t)
    (sym (c.is_tied.ensures.writes.0 ∙ ap (λ (t : IdTable). t.map) c.requires.own.0)) c.requires.slots)
    does.1.lacks

pub returns-clause-owes : goal.returns-clause-owes
returns-clause-owes g c = closes_only c.requires.owes c.in-Ok.ensures.fills.closes

pub returns-clause-values : goal.returns-clause-values
returns-clause-values g c =
    let does = c.in-Ok.ensures.fills.fills in
    brings_one does.published.gains (c.args.upquery.owed.id, c.args.row.a, c.args.row.b, refl) c.requires.values

pub returns-clause-more : goal.returns-clause-more
returns-clause-more g c = filled_more (writes c.is_tied.ensures) c.in-Ok.ensures.fills.fills.published.gains
