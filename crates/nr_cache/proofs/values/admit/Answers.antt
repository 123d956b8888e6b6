use Rattle.std.proofs.Common.{◌∙◌, inr, sym}
use Rattle.nr_cache.proofs.Placing.{not_full, owes_only, refused_absent}
use Rattle.nr_cache.proofs.Weighing.{lightens_admitted, lightens_refused, lightens_then, only_still}
use Rattle.nr_cache.proofs.values.admit.Goals as goal

-- AT ONCE
pub returns-in-Ok-clause-lightens : goal.returns-in-Ok-clause-lightens
returns-in-Ok-clause-lightens c = lightens_admitted c.is_tied.ensures c.in-Ok.ensures.admits.1

pub returns-in-Ok-clause-only : goal.returns-in-Ok-clause-only
returns-in-Ok-clause-only c = only_still c.requires.only (returns-in-Ok-clause-lightens c)

pub returns-in-Err-NoClaim-clause-none : goal.returns-in-Err-NoClaim-clause-none
returns-in-Err-NoClaim-clause-none c =
    let refuses = c.in-Err-NoClaim.ensures.refused in (
      λ way. refuses.owes way ∙ c.requires.owes way,
      refused_absent c.is_tied.ensures refuses c.requires.absent,
    )

pub returns-in-Err-NoClaim-clause-lightens : goal.returns-in-Err-NoClaim-clause-lightens
returns-in-Err-NoClaim-clause-lightens c = lightens_refused c.in-Err-NoClaim.ensures.refused

pub returns-in-Err-NoClaim-clause-only : goal.returns-in-Err-NoClaim-clause-only
returns-in-Err-NoClaim-clause-only c = only_still c.requires.only (returns-in-Err-NoClaim-clause-lightens c)

pub unreachable-requires : goal.unreachable-requires
unreachable-requires c =
    let refuses = rw c.in-Err-Named.field-0-is at c.in-Err-Named.ensures.refused in
    refused_absent c.is_tied.ensures refuses c.requires.absent c.in-Err-Named._way refuses.refused.1.has

-- AFTER ROOM WAS MADE
pub make_room-requires-clause-absent : goal.make_room-requires-clause-absent
make_room-requires-clause-absent c =
    refused_absent c.is_tied.ensures c.in-Err-Full.ensures.refused c.requires.absent

pub make_room-requires-clause-only : goal.make_room-requires-clause-only
make_room-requires-clause-only c =
    only_still {was = c.args.weights.now} c.requires.only (lightens_refused c.in-Err-Full.ensures.refused)

pub unreachable-requires-in-Err-Full-admit : goal.unreachable-requires-in-Err-Full-admit
unreachable-requires-in-Err-Full-admit c =
    not_full c.is_tied-2.ensures c.make_room.ensures.free
    (rw c.in-Err-Full-admit.field-0-is at c.in-Err-Full-admit.ensures.refused)

pub unreachable-requires-in-Err-Named-admit : goal.unreachable-requires-in-Err-Named-admit
unreachable-requires-in-Err-Named-admit c =
    let refuses = rw c.in-Err-Named-admit.field-0-is at c.in-Err-Named-admit.ensures.refused in
    refused_absent c.is_tied-2.ensures refuses c.make_room.ensures.absent c.in-Err-Named-admit._way
    refuses.refused.1.has

pub returns-in-Ok-admit-clause-admits : goal.returns-in-Ok-admit-clause-admits
returns-in-Ok-admit-clause-admits c =
    inr (record {
      full = c.admit.new.writer;
      roomy = c.make_room.new.writer;
      refuses = rw c.in-Err-Full.field-0-is at c.in-Err-Full.ensures.refused;
      room = c.make_room.ensures.room;
      admits = (c.in-Ok-admit.ensures.admits.1, c.in-Ok-admit.ensures.admits.0 ∙ sym c.admit-2.ensures.own);
    })

pub returns-in-Ok-admit-clause-lightens : goal.returns-in-Ok-admit-clause-lightens
returns-in-Ok-admit-clause-lightens c =
    lightens_then (lightens_then (lightens_refused c.in-Err-Full.ensures.refused) c.make_room.ensures.lightens)
    (lightens_admitted c.is_tied-2.ensures c.in-Ok-admit.ensures.admits.1)

pub returns-in-Ok-admit-clause-only : goal.returns-in-Ok-admit-clause-only
returns-in-Ok-admit-clause-only c = only_still c.requires.only (returns-in-Ok-admit-clause-lightens c)

pub returns-in-Ok-admit-clause-upquery : goal.returns-in-Ok-admit-clause-upquery
returns-in-Ok-admit-clause-upquery c =
    (c.in-Ok-admit.ensures.admits.0, owes_only c.make_room.ensures.owes c.in-Ok-admit.ensures.admits.1)

pub returns-in-Err-NoClaim-admit-clause-admits : goal.returns-in-Err-NoClaim-admit-clause-admits
returns-in-Err-NoClaim-admit-clause-admits c =
    inr (record {
      full = c.admit.new.writer;
      roomy = c.make_room.new.writer;
      refuses = rw c.in-Err-Full.field-0-is at c.in-Err-Full.ensures.refused;
      room = c.make_room.ensures.room;
      admits = rw c.in-Err-NoClaim-admit.field-0-is at c.in-Err-NoClaim-admit.ensures.refused;
    })

pub returns-in-Err-NoClaim-admit-clause-none : goal.returns-in-Err-NoClaim-admit-clause-none
returns-in-Err-NoClaim-admit-clause-none c =
    let refuses = c.in-Err-NoClaim-admit.ensures.refused in (
      λ way. refuses.owes way ∙ c.make_room.ensures.owes way,
      refused_absent c.is_tied-2.ensures refuses c.make_room.ensures.absent,
    )

pub returns-in-Err-NoClaim-admit-clause-lightens : goal.returns-in-Err-NoClaim-admit-clause-lightens
returns-in-Err-NoClaim-admit-clause-lightens c =
    lightens_then (lightens_then (lightens_refused c.in-Err-Full.ensures.refused) c.make_room.ensures.lightens)
    (lightens_refused c.in-Err-NoClaim-admit.ensures.refused)

pub returns-in-Err-NoClaim-admit-clause-only : goal.returns-in-Err-NoClaim-admit-clause-only
returns-in-Err-NoClaim-admit-clause-only c = only_still c.requires.only (returns-in-Err-NoClaim-admit-clause-lightens c)
