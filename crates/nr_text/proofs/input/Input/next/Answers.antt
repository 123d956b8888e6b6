use Rattle.std.proofs.Common.{◌≡◌, [], arith}
use Rattle.std.proofs.lemmas.Grind.{common_steps}
use Rattle.std.proofs.lemmas.Result.{err_from_is_err_and}
use Rattle.nr_text.specs.Input.{pending_bytes}
use Rattle.nr_text.proofs.InputLemmas.{refill_fault}
use Rattle.nr_text.proofs.input.Input.next.Goals as goal

pub returns-in_err-refill : goal.returns-in_err-refill
returns-in_err-refill g c =
    let p = err_from_is_err_and c.from_residual.result c.from_residual.ensures.1 in
    let none : pending_bytes c.args.self.now ≡ [] = grind (arith, common_steps) in
    rw (p.1, p.2) (refill_fault c.args.self.now c.refill.new.self _ _ _ none c.in_err-refill.ensures)
