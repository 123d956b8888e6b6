use Rattle.std.proofs.Common.{◌∙◌, ap, arith, refl}
use Rattle.nr_cache.specs.Finds.{tells_value}
use Rattle.nr_cache.proofs.Looking.{brings_one, looked_at}
use Rattle.nr_cache.proofs.Ways.{not_passed_over}
use Rattle.nr_cache.proofs.WriterCalls.{called, find_keeps, writes}
use Rattle.nr_cache.proofs.looks.look_at.Goals as goal

pub unreachable-requires : goal.unreachable-requires
unreachable-requires c =
    let looks = c.in-Pending.ensures.looks in
    not_passed_over c.look-looked.new.writer c.is_tied-2.ensures (called (writes c.is_tied.ensures) looks.2) refl
    c.requires.id looks.1.1.has (c.look-looked.ensures.owes looks.0 ∙ c.requires.owes looks.0)

pub returns-in-Rows-clause-values : goal.returns-in-Rows-clause-values
returns-in-Rows-clause-values c = brings_one c.in-Rows.ensures.looks.2.1 tt c.requires.values

pub returns-in-Rows-clause-looks : goal.returns-in-Rows-clause-looks
returns-in-Rows-clause-looks c =
    let looks = c.in-Rows.ensures.looks in
    rw (c.value_of.ensures ∙ ap tells_value (c.as_slice.ensures.value ∙ looks.3))
    (looked_at c.args.id looks.0 looks.1 c.args.writer.now c.look-looked.new.writer c.is_tied.ensures
    c.is_tied-2.ensures c.look-looked.ensures.asker (returns-in-Rows-clause-values c) looks.2)

pub returns-in-Rows-clause-fewer : goal.returns-in-Rows-clause-fewer
returns-in-Rows-clause-fewer c =
    omega (arith, (find_keeps (writes c.is_tied.ensures) c.in-Rows.ensures.looks.2.1).count)

pub returns-in-Rows-clause-stay : goal.returns-in-Rows-clause-stay
returns-in-Rows-clause-stay c = (find_keeps (writes c.is_tied.ensures) c.in-Rows.ensures.looks.2.1).sets
