use Rattle.std.proofs.Common.{ℕ, ap, subst, sym, ◌∙◌}
use Rattle.nr_board.specs.WriterAnswers.{UpdatesKey}
use Rattle.nr_board.specs.Callers.{Caller}
use Rattle.nr_map.specs.SlotBounds.{HasRoomForAll}
use Rattle.nr_serve.proofs.dataflow.Dataflow.apply_rows.Goals as goal

pub returns-clause-updates : goal.returns-clause-updates
returns-clause-updates g c =
    let updates
    = subst
    (λ (bound : ℕ). UpdatesKey bound c.args.key c.args.deltas.now c.self.inside.writer c.update_rows.new.writer
    c.update_rows.result)
    (ap (λ flow. flow.map.shape.rows) c.self.view_is) c.update_rows.ensures in
    subst
    (λ (writer : Caller). UpdatesKey c.args.self.now.map.shape.rows c.args.key c.args.deltas.now writer
    c.update_rows.new.writer c.update_rows.result)
    (ap (λ flow. flow.writer) c.self.view_is) updates

pub returns-clause-room : goal.returns-clause-room
returns-clause-room g c room counts none =
    let law = c.room_for_updates.ensures in
    let slots = subst HasRoomForAll (ap (λ flow. flow.map) (sym c.self.view_is) ∙ sym c.self.invariant.writes) room in
    law _ _ _ _ c.update_rows.new.writer counts slots (subst (UpdatesKey _ _ _ _ _) none c.update_rows.ensures)
