use Rattle.std.proofs.Common.{subst, ap, ◌∙◌}
use Rattle.nr_board.specs.Callers.{Caller}
use Rattle.nr_board.specs.Meetings.{HearsNote, with_steps}
use Rattle.nr_map.specs.Hands.{Handed}
use Rattle.nr_serve.proofs.Heard.{hears_after_steps}
use Rattle.nr_serve.proofs.applied.Applied.wait.Goals as goal

pub returns-in-Some-look-clause-hears : goal.returns-in-Some-look-clause-hears
returns-in-Some-look-clause-hears g c =
    let told = c.in-Some-look.ensures.told in
    let same
    = ap (λ (hand : Handed). hand.reader) told.2
    ∙ ap (λ (hand : Handed). with_steps 3 hand.reader) c.loop.invariant.0 in (
      told.0,
      c.in-Some-look.note,
      told.1,
      hears_after_steps 3 c.args.reader.now.reader c.hear.new.self.reader c.in-Some-look.note
          (subst (λ (reader : Caller). HearsNote 1 c.in-Some-look.note reader c.hear.new.self.reader) same
          c.hear.ensures.reader),
    )
