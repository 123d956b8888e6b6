use Rattle.std.proofs.lemmas.Result.{err_from_is_err_and}
use Rattle.std.specs.Prelude.{string_bytes}
use Rattle.nr_text.specs.Plain.{or_bad}
use Rattle.nr_text.proofs.RunLemmas.{ends_reading, ends_empty, ends_answering, ends_sending, ends_whole, answered_more}
use Rattle.nr_text.proofs.responder.serve.Goals as goal

pub returns-in_err-end : goal.returns-in_err-end
returns-in_err-end g c =
    let p = err_from_is_err_and c.from_residual.result c.from_residual.ensures.1 in
    rw (p.1, p.2)
    (ends_reading (or_bad g.M.Responder.answer) (g.M.Responder.state_of c.args.responder.now) c.args.limit
    c.lines.input c.read_line.new.self _ _ _ _ _ _ _ c.read_line.new.line c.lines.invariant _
    c.in_err-end.ensures)

pub returns-in-NoLine : goal.returns-in-NoLine
returns-in-NoLine g c =
    ends_empty (or_bad g.M.Responder.answer) (g.M.Responder.state_of c.args.responder.now) c.args.limit c.lines.input
    c.read_line.new.self _ _ _ _ _ _ _ c.read_line.new.line c.lines.invariant _
    (rw c.in-NoLine.is at c.in_ok-end.ensures)

pub returns-in_err-reply_to : goal.returns-in_err-reply_to
returns-in_err-reply_to g c =
    let p = err_from_is_err_and c.from_residual-in_err-reply_to.result c.from_residual-in_err-reply_to.ensures.1 in
    rw (p.1, p.2, c.in_err-reply_to.ensures.fault)
    (ends_answering (or_bad g.M.Responder.answer) (g.M.Responder.state_of c.args.responder.now) c.args.limit
    c.lines.input c.read_line.new.self _ _ _ _ _ _ _ c.read_line.new.line c.lines.invariant
    c.in_ok-end.end c.in_default.not-NoLine c.in_ok-end.ensures)

pub returns-in_err-send : goal.returns-in_err-send
returns-in_err-send g c =
    let p = err_from_is_err_and c.from_residual-in_err-send.result c.from_residual-in_err-send.ensures.1 in
    rw (p.1, p.2)
    (ends_sending (or_bad g.M.Responder.answer) (g.M.Responder.state_of c.args.responder.now) c.args.limit c.lines.input
    c.read_line.new.self _ _ _ _ _ _ _ c.read_line.new.line c.lines.invariant
    (g.M.Responder.state_of c.reply_to.new.responder) (string_bytes c.reply_to.new.reply) _
    c.in_ok-reply_to.ensures.reply
    c.in_ok-end.end _ c.in_default.not-NoLine c.in_ok-end.ensures c.in_err-send.ensures)

pub returns-in-InputEnd : goal.returns-in-InputEnd
returns-in-InputEnd g c =
    ends_whole (or_bad g.M.Responder.answer) (g.M.Responder.state_of c.args.responder.now) c.args.limit c.lines.input
    c.read_line.new.self _ _ _ _ _ _ _ c.read_line.new.line c.lines.invariant
    (g.M.Responder.state_of c.reply_to.new.responder) (string_bytes c.reply_to.new.reply) _
    c.in_ok-reply_to.ensures.reply c.in_ok-send.ensures
    _ (rw c.in-InputEnd.is at c.in_ok-end.ensures)

pub lines-preserved : goal.lines-preserved
lines-preserved g c =
    answered_more (or_bad g.M.Responder.answer) (g.M.Responder.state_of c.args.responder.now) c.args.limit c.lines.input
    c.read_line.new.self _ _ _ _ _ _ _ c.read_line.new.line c.lines.invariant
    (g.M.Responder.state_of c.reply_to.new.responder) (string_bytes c.reply_to.new.reply) _
    c.in_ok-reply_to.ensures.reply c.in_ok-send.ensures
    c.in_ok-end.end _ c.in_default.not-NoLine c.in_default-end.not-InputEnd c.in_ok-end.ensures
    c.in_ok-reply_to.ensures.left
