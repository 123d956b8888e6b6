use Rattle.std.proofs.Common.{ap, subst, sym, ◌∙◌}
use Rattle.nr_board.specs.WriterAnswers.{ReplacesKey}
use Rattle.nr_board.specs.Callers.{Caller}
use Rattle.nr_map.specs.SlotBounds.{HasRoomForAll}
use Rattle.nr_serve.proofs.dataflow.Dataflow.replace.Goals as goal

pub returns-clause-replaces : goal.returns-clause-replaces
returns-clause-replaces g c =
    subst (λ (writer : Caller). ReplacesKey c.args.key c.args.rows.now writer c.replace.new.writer c.replace.result)
    (ap (λ flow. flow.writer) c.self.view_is) c.replace.ensures

pub returns-clause-room : goal.returns-clause-room
returns-clause-room g c room counts none =
    let law = c.room_for_replacements.ensures in
    let slots = subst HasRoomForAll (ap (λ flow. flow.map) (sym c.self.view_is) ∙ sym c.self.invariant.writes) room in
    law _ _ _ c.replace.new.writer counts slots (subst (ReplacesKey _ _ _ _) none c.replace.ensures)
