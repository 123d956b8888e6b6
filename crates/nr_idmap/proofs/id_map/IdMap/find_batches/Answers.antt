use Rattle.std.proofs.Common.{ℕ, ◌≡◌, ◌+◌, ◌-◌, ◌*◌, ◌/◌, ◌<◌, ◌++◌, ◌∙◌, List, [], ap, arith, drop, length, min, sym}
use Rattle.std.proofs.Common.{take}
use Rattle.std.proofs.lemmas.Grind.{div_ceil_times}
use Rattle.std.proofs.lemmas.List.{drop-drop}
use Rattle.nr_idmap.specs.declared.wanted.WantedId.{WantedId}
use Rattle.nr_idmap.specs.IdFindsEach.{FindsBatch, FindsNext, batches, in_sixteens}
use Rattle.nr_idmap.proofs.Batches.{batch_at, batch_put, many_batches, put_long, rest_put, slice_is}
use Rattle.nr_idmap.proofs.InTurn.{all_made, in_turn_long, one_more}
use Rattle.nr_idmap.proofs.id_map.IdMap.find_batches.Goals as goal

pub loop-batch-preserved : goal.loop-batch-preserved
loop-batch-preserved g c =
    let shows = g.R.RowRoom.shows in
    let first = c.args.hand.now in
    let wanted : List (WantedId g.row.R.Denot) = c.args.wanted.now in
    let ones : List (WantedId g.row.R.Denot) = c.loop-batch.wanted in let had = c.loop-batch.invariant in
    let at : ℕ = c.loop-batch.batch in let begin : ℕ = at * 16 in let count : ℕ = (length wanted + 15) / 16 in
    let bounds = div_ceil_times (length wanted) 16 (omega arith) in
    let near : begin < length ones
    = omega (arith, bounds.1, c.div_ceil-batch-end.ensures, c.loop-batch-test.true, had.long) in
    let below : at < count = omega (arith, near, had.long) in
    let end : ℕ = c.end_of_batch-end.result in
    let ends : end ≡ begin + min (length ones - begin) 16 = omega (arith, c.end_of_batch-end.ensures, near) in
    let batch : List (WantedId g.row.R.Denot) = take 16 (drop begin ones) in
    let next = c.find_batch.new.hand in let found : List (WantedId g.row.R.Denot) = c.find_batch.new.wanted in
    let finds : FindsBatch shows c.loop-batch.hand batch next found
    = rw (slice_is at end ones near ends) at c.find_batch.ensures.finds in
    let long : length found ≡ length batch
    = in_turn_long (FindsNext shows) (finds.ready, finds.ways) batch (next, []) found finds.finds in
    let more
    = one_more (FindsBatch shows) first (in_sixteens wanted) at c.loop-batch.hand (batches count ones) had.made
    batch
    (omega (arith, many_batches count ones, below)) (sym (batch_at count at ones batch below)) next found finds in
    record {
      own = c.find_batch.ensures.own;
      long = put_long at end ones near ends found long ∙ had.long;
      rest =
          ap (λ (n : ℕ). drop n (take begin ones ++ (found ++ drop (end - begin) (drop begin ones)))) (omega arith)
          ∙ rest_put at end ones near ends found long ∙ sym (drop-drop 16 begin ones)
          ∙ ap (drop 16) had.rest ∙ drop-drop 16 begin wanted ∙ ap (λ (n : ℕ). drop n wanted) (omega arith);
      made = rw (batch_put at end ones near ends count found below long) more;
    }

pub returns-clause-finds : goal.returns-clause-finds
returns-clause-finds g c =
    let shows = g.R.RowRoom.shows in
    let first = c.args.hand.now in
    let wanted : List (WantedId g.row.R.Denot) = c.args.wanted.now in
    let ones : List (WantedId g.row.R.Denot) = c.loop-batch.wanted in
    let had = c.loop-batch.invariant in
    let count : ℕ = (length wanted + 15) / 16 in
    let bounds = div_ceil_times (length wanted) 16 (omega arith) in
    rw had.long
    (all_made (FindsBatch shows) first (in_sixteens wanted) c.loop-batch.batch c.loop-batch.hand (batches count ones)
    had.made
    (omega (arith, many_batches count ones, bounds.0, bounds.1, c.div_ceil-batch-end.ensures, c.loop-batch-test.false)))
