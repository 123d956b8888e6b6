use Rattle.std.proofs.Common.{ap, ◌∙◌, refl, Err}
use Rattle.std.proofs.lemmas.Result.{err_from_is_err_and}
use Rattle.nr_ids.specs.declared.admissions.Refused.{Refused}
use Rattle.nr_idmap.proofs.Asking.{admitted, admitted_tied, unadmitted}
use Rattle.nr_idmap.proofs.id_map.IdMap.admit.Goals as goal

pub invariant_of-writer : goal.invariant_of-writer
invariant_of-writer c =
    (unadmitted c.writer.invariant c.args.id c.in_err-way.field-0.0 c.in_err-way.ensures.answer).0

pub returns-in_err-way-clause-refused : goal.returns-in_err-way-clause-refused
returns-in_err-way-clause-refused c =
    let told = err_from_is_err_and c.from_residual.result c.from_residual.ensures.1 in
    rw (told.1 ∙ ap (λ (why : Refused). Err why) told.2, ← c.writer.view_is)
    (unadmitted c.writer.invariant c.args.id c.in_err-way.field-0.0 c.in_err-way.ensures.answer).1

pub invariant_of-writer-2 : goal.invariant_of-writer-2
invariant_of-writer-2 c = admitted_tied c.writer.invariant c.args.id c.in_ok-way.way c.requires.id
    c.in_ok-way.ensures.answer c.ask_way-number.ensures.asks

pub returns-clause-admits : goal.returns-clause-admits
returns-clause-admits c =
    let admits = admitted c.writer.invariant c.args.id c.in_ok-way.way c.requires.id c.in_ok-way.ensures.answer
    c.ask_way-number.ensures.asks c.ask_way-number.result c.ask_way-number.ensures.number in
    rw (c.upquery.ensures, ← c.writer.view_is) (refl, admits)
