use Rattle.std.proofs.Common.{◌<◌, ◌+◌, ℕ, List, Option, None, arith, drop, get_or, length, refl, subst, sym}
use Rattle.std.proofs.lemmas.List.{drop_all, drop_more}
use Rattle.nr_idmap.specs.declared.finds.NamedWay.{NamedWay}
use Rattle.nr_idmap.specs.declared.wanted.WantedId.{WantedId}
use Rattle.nr_idmap.specs.IdFindsEach.{FindsNext, FindsWantedId}
use Rattle.nr_idmap.proofs.InTurn.{all_made, one_more}
use Rattle.nr_idmap.proofs.id_map.IdMap.find_in_ways.Goals as goal

pub loop-place-preserved : goal.loop-place-preserved
loop-place-preserved g c =
    let shows = g.R.RowRoom.shows in
    let place : ℕ = c.loop-place.place in
    let ways : List (Option NamedWay) = c.args.ways.now in
    let wanted : List (WantedId g.row.R.Denot) = c.args.wanted.now in
    let ones : List (WantedId g.row.R.Denot) = c.loop-place.wanted in
    let had = c.loop-place.invariant.made in
    let hand = c.loop-place.hand in let next = c.find_wanted.new.hand in
    let one : WantedId g.row.R.Denot = c.index-wanted-place.result in
    let done : WantedId g.row.R.Denot = c.find_wanted.new.one in
    let near : place < length ways = omega (arith, c.loop-place-test.true) in
    let low : place < length ones = omega (arith, near, c.requires.as_many, had.long) in
    let finds = subst
    (λ (w : WantedId g.row.R.Denot). FindsWantedId shows (get_or ways place None) hand w next done)
    (sym c.index-wanted-place.is) c.find_wanted.ensures.finds in
    record {
      own = c.find_wanted.ensures.own;
      made =
          one_more (FindsNext shows) (c.args.hand.now, ways) wanted place (hand, drop place ways) ones had one low
          c.index-wanted-place.is (next, drop (place + 1) ways) done
          (rw (drop_more ways place None near) (refl, finds));
    }

pub returns-clause-finds : goal.returns-clause-finds
returns-clause-finds g c =
    let shows = g.R.RowRoom.shows in
    let place : ℕ = c.loop-place.place in
    let ways : List (Option NamedWay) = c.args.ways.now in
    let wanted : List (WantedId g.row.R.Denot) = c.args.wanted.now in
    let ones : List (WantedId g.row.R.Denot) = c.loop-place.wanted in
    let had = c.loop-place.invariant.made in
    rw (drop_all place ways (omega (arith, c.loop-place-test.false)))
    at (all_made (FindsNext shows) (c.args.hand.now, ways) wanted place (c.loop-place.hand, drop place ways) ones had
    (omega (arith, c.loop-place-test.false, c.requires.as_many, had.long)))
