use Rattle.std.proofs.Common.{◌≡◌, ◌+◌, ◌-◌, ◌*◌, ◌%◌, None, ℕ, arith, get_or, refl}
use Rattle.std.proofs.lemmas.Option.{slice_get-get_or}
use Rattle.nr_c.specs.declared.id_many_first.NrFoundId.{NrFoundId}
use Rattle.nr_c.proofs.FindsMade.{all_made, one_more}
use Rattle.nr_c.proofs.id_many_first.find_ids_first.Goals as goal

abbrev blank : NrFoundId
blank = record { id = 0; answer = 0; count = 0 }

pub returns-clause-finds : goal.returns-clause-finds
returns-clause-finds c = let had = c.loop-place.invariant.made in
    (c.loop-place.ways, all_made had (omega (arith, had.long, c.loop-place-test.false)))

pub loop-place-preserved : goal.loop-place-preserved
loop-place-preserved c =
    let place = c.loop-place.place in
    let had = c.loop-place.invariant.made in
    let ways = c.look_up_found.new.ways in
    let begin : ℕ = place * c.args.room in
    let begins = c.part_begin-begin.ensures.begin in
    let width : begin + c.args.room - begin ≡ c.args.room = omega arith in
    record {
      own = c.find_id_first.ensures.own;
      near = c.look_up_found.ensures.near;
      made = one_more had blank (omega (arith, c.loop-place-test.true, had.long)) (
        c.look_up_found.new.hand,
        c.look_up_found.ensures.looks,
        get_or ways (place % 16) None,
        slice_get-get_or ways (place % 16) None (omega (arith, c.type_inv.ways)),
        c.find_id_first.new.cells,
        rw (begins, width) at c.find_id_first.ensures.finds,
        rw (begins, width) refl,
      );
    }
