use Rattle.std.proofs.lemmas.Result.{err_from_is_err_and}
use Rattle.nr_text.proofs.InputLemmas.{line_fault, line_ended, line_more}
use Rattle.nr_text.proofs.input.Input.read_line.Goals as goal

pub returns-in_err-byte : goal.returns-in_err-byte
returns-in_err-byte g c =
    let p = err_from_is_err_and c.from_residual.result c.from_residual.ensures.1 in
    rw (p.1, p.2)
    (line_fault c.args.self.now c.bytes.self c.next.new.self _ _ _ c.bytes.line _ c.bytes.invariant
    c.in_err-byte.ensures)

pub returns-then-byte-eq10 : goal.returns-then-byte-eq10
returns-then-byte-eq10 g c =
    line_ended c.args.self.now c.bytes.self c.next.new.self _ _ _ c.bytes.line c.in-Some.byte c.bytes.invariant
    (rw c.in-Some.is at c.in_ok-byte.ensures) c.if-byte-eq10.true

pub bytes-preserved : goal.bytes-preserved
bytes-preserved g c =
    line_more c.args.self.now c.bytes.self c.next.new.self _ _ _ c.bytes.line c.push.new.self c.in-Some.byte
    c.bytes.invariant (rw c.in-Some.is at c.in_ok-byte.ensures) c.if-byte-eq10.false
    (c.push.ensures c.bytes.invariant.taken c.bytes.invariant.held)
