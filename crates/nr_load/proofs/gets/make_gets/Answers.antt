use Rattle.std.proofs.Common.{◌≡◌, ◌+◌, ◌++◌, ℕ, List, length, take, drop, replicate, sym, ap, ◌∙◌, arith, Some}
use Rattle.std.proofs.lemmas.List.{take_at}
use Rattle.nr_load.specs.Works.{answers, of_gets}
use Rattle.nr_load.proofs.Working.{answers_one, ends, ends_with, goes_on, judged_long, judged_told}
use Rattle.nr_load.proofs.gets.make_gets.Goals as goal

pub returns-then-is_closed_as-clause-works : goal.returns-then-is_closed_as-clause-works
returns-then-is_closed_as-clause-works g c =
    rw (c.stopped.ensures.stopped.1, c.stopped.ensures.made.0, c.stopped.ensures.made.1)
    (ends 1000000 _ _ _ _ _ _ _ _ _ c.loop-made.invariant.begun)

pub returns-clause-works : goal.returns-clause-works
returns-clause-works g c =
    let all : c.loop-made.made ≡ c.args.gets = omega arith in
    rw (c.ended-2.ensures.fault.0, c.ended-2.ensures.made.0, c.ended-2.ensures.made.1, ← all)
    (ends 1000000 _ _ _ _ _ _ _ _ _ c.loop-made.invariant.begun)

pub loop-made-preserved : goal.loop-made-preserved
loop-made-preserved g c =
    let so_far = c.loop-made.invariant in let got = c.get_drawn-got in let keys : ℕ = c.args.draws.now.keys in
    let gets = rw so_far.keys at got.ensures.gets in
    let judged
    = rw (so_far.keys, c.as_mut_slice.ensures.value, c.in_default-fault.is) at got.ensures.judged in
    let long : length got.new.known ≡ length c.loop-made.known.items = judged_long _ _ _ _ _ _ judged in
    let items : take c.loop-made.known.len (got.new.known ++ drop (length got.new.known) c.loop-made.known.items)
    ≡ got.new.known
    =
    take_at got.new.known (drop (length got.new.known) c.loop-made.known.items) c.loop-made.known.len
    (long ∙ sym (ap (λ (l : List ℕ). length l) c.as_mut_slice.ensures.value) ∙ c.as_mut_slice.ensures.len) in
    record {
      map = got.ensures.places.0 ∙ so_far.map;
      queue = got.ensures.places.1 ∙ so_far.queue;
      opened = got.ensures.places.2 ∙ so_far.opened;
      keys = got.ensures.draws.0 ∙ so_far.keys;
      lobby = c.is_closed_as.ensures.looks.later.lobby ∙ so_far.lobby;
      few = omega (arith, so_far.few, c.answers_of-answered.ensures, answers_one got.result.0);
      long = ap (λ (l : List ℕ). length l) items ∙ long ∙ so_far.long;
      begun =
          rw (c.answers_of-answered.ensures, items, got.ensures.draws.1)
          (goes_on 1000000 keys c.loop-made.made c.args.draws.now.generator c.loop-made.answered (replicate keys 0)
          c.args.client.now.hands c.loop-made.known.items c.loop-made.client.hands got.new.client.hands
          c.loop-made.draws.generator got.result.0 got.new.rows got.new.known so_far.begun gets judged);
    }

pub returns-in-Some-clause-works : goal.returns-in-Some-clause-works
returns-in-Some-clause-works g c =
    let so_far = c.loop-made.invariant in let got = c.get_drawn-got in let keys : ℕ = c.args.draws.now.keys in
    let end = c.ended-in-Some in
    let gets = rw so_far.keys at got.ensures.gets in
    let judged = rw (so_far.keys, c.as_mut_slice.ensures.value, c.in-Some.is) at got.ensures.judged in
    let fault : of_gets end.result.fault ≡ Some c.in-Some.fault
    = ap of_gets end.ensures.fault.0 ∙ judged_told _ _ _ _ _ _ judged in
    let answered : end.result.answered ≡ c.loop-made.answered + answers got.result.0
    = end.ensures.made.1 ∙ ap (λ (n : ℕ). c.loop-made.answered + n) c.answers_of-answered.ensures in
    rw (end.ensures.made.0, answered, fault, got.ensures.draws.1)
    (ends_with 1000000 keys c.loop-made.made c.args.draws.now.generator c.loop-made.answered (replicate keys 0)
    c.args.client.now.hands c.loop-made.known.items c.loop-made.client.hands got.new.client.hands
    c.loop-made.draws.generator got.result.0 got.new.rows got.new.known so_far.begun gets c.in-Some.fault judged)
