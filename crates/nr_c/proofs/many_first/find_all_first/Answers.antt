use Rattle.std.proofs.Common.{◌≡◌, ◌+◌, ◌-◌, ◌*◌, ◌<◌, ℕ, arith, refl}
use Rattle.nr_c.specs.declared.many_first.NrFound.{NrFound}
use Rattle.nr_c.proofs.FindsMade.{all_made, of_wanted, one_more}
use Rattle.nr_c.proofs.many_first.find_all_first.Goals as goal

abbrev blank : NrFound
blank = record { key = 0; answer = 0; count = 0 }

pub find_one_first-requires-clause-key : goal.find_one_first-requires-clause-key
find_one_first-requires-clause-key c =
    let had = c.loop-place.invariant.made in
    of_wanted had blank (omega (arith, c.loop-place-test.true, had.long))
    (λ (one : NrFound). one.key < c.args.map.now.shape.keys) c.requires.keys

pub returns-clause-finds : goal.returns-clause-finds
returns-clause-finds c = let had = c.loop-place.invariant.made in
    all_made had (omega (arith, had.long, c.loop-place-test.false))

pub loop-place-preserved : goal.loop-place-preserved
loop-place-preserved c =
    let had = c.loop-place.invariant.made in
    let begin : ℕ = c.loop-place.place * c.args.room in
    let begins = c.part_begin-begin.ensures.begin in
    let width : begin + c.args.room - begin ≡ c.args.room = omega arith in
    record {
      own = c.find_one_first.ensures.own;
      made =
          one_more had blank (omega (arith, c.loop-place-test.true, had.long)) (
            c.load_first_from.new.hand,
            c.load_first_from.ensures.loads,
            c.find_one_first.new.cells,
            rw (begins, width) at c.find_one_first.ensures.finds,
            rw (begins, width) refl,
          );
    }
