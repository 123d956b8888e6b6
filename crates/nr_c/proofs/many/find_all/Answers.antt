use Rattle.std.proofs.Common.{◌<◌, [], arith}
use Rattle.nr_c.specs.declared.many.NrWanted.{NrWanted}
use Rattle.nr_c.proofs.FindsMade.{all_made, of_wanted, one_more}
use Rattle.nr_c.proofs.many.find_all.Goals as goal

abbrev blank : NrWanted
blank = record { key = 0; answer = 0; rows = record { count = 0; row = [] } }

pub find_one-requires-clause-key : goal.find_one-requires-clause-key
find_one-requires-clause-key c =
    let had = c.loop-place.invariant.made in
    of_wanted had blank (omega (arith, c.loop-place-test.true, had.long))
    (λ (one : NrWanted). one.key < c.args.map.now.shape.keys) c.requires.keys

pub returns-clause-finds : goal.returns-clause-finds
returns-clause-finds c = let had = c.loop-place.invariant.made in
    all_made had (omega (arith, had.long, c.loop-place-test.false))

pub loop-place-preserved : goal.loop-place-preserved
loop-place-preserved c =
    let had = c.loop-place.invariant.made in
    record {
      own = c.find_one.ensures.own;
      made =
          one_more had blank (omega (arith, c.loop-place-test.true, had.long))
          (c.load_from.new.hand, c.load_from.ensures.loads, c.find_one.ensures.finds);
    }
