use Rattle.std.proofs.Common.{◌%◌, [], None, arith, get_or}
use Rattle.std.proofs.lemmas.Option.{slice_get-get_or}
use Rattle.nr_c.specs.declared.id_many.NrWantedId.{NrWantedId}
use Rattle.nr_c.proofs.FindsMade.{all_made, one_more}
use Rattle.nr_c.proofs.id_many.find_all_ids.Goals as goal

abbrev blank : NrWantedId
blank = record { id = 0; answer = 0; rows = record { count = 0; row = [] } }

pub returns-clause-finds : goal.returns-clause-finds
returns-clause-finds c = let had = c.loop-place.invariant.made in
    (c.loop-place.ways, all_made had (omega (arith, had.long, c.loop-place-test.false)))

pub loop-place-preserved : goal.loop-place-preserved
loop-place-preserved c =
    let place = c.loop-place.place in
    let had = c.loop-place.invariant.made in
    let ways = c.look_up_from.new.ways in
    record {
      own = c.find_one_id.ensures.own;
      near = c.look_up_from.ensures.near;
      made = one_more had blank (omega (arith, c.loop-place-test.true, had.long)) (
        c.look_up_from.new.hand,
        c.look_up_from.ensures.looks,
        get_or ways (place % 16) None,
        slice_get-get_or ways (place % 16) None (omega (arith, c.type_inv.ways)),
        c.find_one_id.ensures.finds,
      );
    }
