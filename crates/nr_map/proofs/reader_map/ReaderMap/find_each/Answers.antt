use Rattle.std.proofs.Common.{ℕ, ◌≡◌, ◌+◌, ◌-◌, ◌*◌, ◌<◌, arith, length, min, refl}
use Rattle.std.proofs.lemmas.Grind.{div_ceil_times}
use Rattle.nr_map.specs.FindsEach.{FindsFrom}
use Rattle.nr_map.proofs.FindsEach.{all_made, group_more}
use Rattle.nr_map.proofs.reader_map.ReaderMap.find_each.Goals as goal

pub loop-group-preserved : goal.loop-group-preserved
loop-group-preserved g c =
    let first = c.args.reader.now in
    let wanted = c.args.wanted.now in
    let group : ℕ = c.loop-group.group in
    let end : ℕ = c.end_of_group-end.result in
    let had = c.loop-group.invariant.grouped in
    let bounds = div_ceil_times (length wanted) 16 (omega arith) in
    let near : group * 16 < length wanted
    = omega (arith, bounds.1, c.div_ceil-group-end.ensures, c.loop-group-test.true) in
    let here : min (group * 16) (length wanted) ≡ group * 16 = omega (arith, near) in
    let end_is = c.end_of_group-end.ensures in
    let there : min ((group + 1) * 16) (length wanted) ≡ group * 16 + (end - group * 16)
    = omega (arith, had.long, near, end_is) in
    record {
      own = c.find_group.ensures.own;
      grouped =
          rw there
          (group_more g.R.RowRoom.shows first wanted group (end - group * 16) c.loop-group.reader c.loop-group.wanted
          (rw here at had) (omega (arith, had.long, near, end_is)) (omega (arith, had.long, near, end_is))
          c.find_group.new.reader c.find_group.new.group c.find_group.ensures.finds);
    }

pub returns-clause-finds : goal.returns-clause-finds
returns-clause-finds g c =
    let wanted = c.args.wanted.now in
    let had = c.loop-group.invariant.grouped in
    let bounds = div_ceil_times (length wanted) 16 (omega arith) in
    all_made (FindsFrom g.R.RowRoom.shows) c.args.reader.now wanted (min (c.loop-group.group * 16) (length wanted))
    c.loop-group.reader c.loop-group.wanted had
    (omega (arith, had.long, bounds.0, c.div_ceil-group-end.ensures, c.loop-group-test.false)) refl
