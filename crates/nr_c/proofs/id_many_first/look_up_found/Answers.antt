use Rattle.std.proofs.Common.{◌<◌, ℕ, arith}
use Rattle.nr_c.specs.declared.id_many_first.NrFoundId.{NrFoundId}
use Rattle.nr_c.proofs.LookedUp.{holds_of_copied, sixteen_looked_up}
use Rattle.nr_c.proofs.id_many_first.look_up_found.Goals as goal

pub look_up-requires-clause-ids : goal.look_up-requires-clause-ids
look_up-requires-clause-ids c =
    holds_of_copied (λ (one : NrFoundId). one.id) c.args.left.now c.min.result c.copy_found_ids.ensures
    (λ (id : ℕ). 0 < id) c.requires.ids

pub returns-then-place-eq0-clause-looks : goal.returns-then-place-eq0-clause-looks
returns-then-place-eq0-clause-looks c =
    sixteen_looked_up (λ (one : NrFoundId). one.id) c.args.left.now c.min.result c.copy_found_ids.ensures _
    c.args.ways.now c.look_up.new.ways c.args.hand.now c.look_up.new.self c.if-place-eq0.true
    (omega (arith, c.min.ensures)) c.look_up.ensures.looks
