use Rattle.std.proofs.Common.{Result, Ok, Err, ap, subst, sym, ◌∙◌}
use Rattle.nr_board.specs.declared.answers.FillFault.{FillFault}
use Rattle.nr_board.specs.WriterAnswers.{FillsKey}
use Rattle.nr_map.specs.SlotBounds.{HasRoomForAll}
use Rattle.nr_serve.specs.declared.source.SourceFault.{SourceFault}
use Rattle.nr_serve.proofs.dataflow.Dataflow.fill_from_source.Goals as goal

-- the answer to the fill, where the source gave rows
answered : Result (Result (Unit {0}) FillFault) SourceFault → Result (Unit {0}) FillFault
answered (Ok answer) = answer
answered (Err fault) = Ok tt

pub returns-clause-room : goal.returns-clause-room
unfolding answered
returns-clause-room g c room counts none =
    let law = c.room_for_fills.ensures in
    let slots = subst HasRoomForAll (ap (λ flow. flow.map) (sym c.self.view_is) ∙ sym c.self.invariant.writes) room in
    law _ _ _ _ c.fill.new.writer counts slots (subst (FillsKey _ _ _ _ _) (ap answered none) c.fill.ensures)
