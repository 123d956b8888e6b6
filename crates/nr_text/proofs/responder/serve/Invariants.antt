use Rattle.nr_text.specs.Input.{allowance}
use Rattle.nr_text.specs.Plain.{or_bad}
use Rattle.nr_text.proofs.RunLemmas.{Answered}
use Rattle.nr_text.proofs.responder.serve.Given as goal

abbrev pub invariant-lines : goal.invariant-lines
invariant-lines g l =
    Answered (or_bad g.M.Responder.answer) (g.M.Responder.state_of l.fn.responder) l.limit l.input
    (g.R.Read.remaining l.fn.reader) (g.R.Read.remaining l.reader)
    (g.W.Write.contents l.fn.writer) (g.W.Write.contents l.writer) (g.M.Responder.state_of l.responder)
    (g.M.Responder.lines_left l.responder)

abbrev pub decreases-lines : goal.decreases-lines
decreases-lines g l = allowance l.input
