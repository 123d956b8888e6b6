use Rattle.std.proofs.Common.{◌≡◌, List, ◌∷◌, length, arith, sym, ap, append_assoc}
use Rattle.std.proofs.lemmas.List.Elements.{All-head, All-rest, All-same}
use Rattle.std.specs.Vec.Iter.{into_iter_items}
use Rattle.nr_board.specs.Callers.{Caller}
use Rattle.nr_load.specs.Handed.{IsPosterOf}
use Rattle.nr_load.proofs.Settling.{started}
use Rattle.nr_load.proofs.workers.start_workers.Goals as goal

pub start_worker-requires-clause-queue : goal.start_worker-requires-clause-queue
start_worker-requires-clause-queue g c κs within =
    All-head (IsPosterOf c.args.shared.now.service.map c.args.shared.now.service.queue) c.in-Some-next.poster
    (into_iter_items c.next-in-loop-reader.new.self)
    (All-same (IsPosterOf c.args.shared.now.service.map c.args.shared.now.service.queue) _ _
    (sym c.in-Some-next.ensures.cases.0) c.loop-reader.invariant.queue)

pub loop-reader-preserved : goal.loop-reader-preserved
loop-reader-preserved g c =
    let i = c.loop-reader.invariant in
    let step = c.in-Some.ensures.steps in
    let post = c.in-Some-next.ensures.cases in
    let push = c.push_reserved.ensures in
    let h = c.in-Ok.handle in
    record {
      whole = i.whole;
      long = omega (arith, i.long, step.1, ap (λ (l : List Caller). length l) step.0);
      posters = omega (arith, i.posters, step.1, post.1);
      count = omega (arith, i.count, step.1, push.len);
      room = omega (arith, i.room, step.1, push.len, push.capacity);
      own =
          All-rest (λ (r : Caller). r.table ≡ c.args.shared.now.service.map) c.in-Some.reader
          (into_iter_items c.next.new.self) _ step.0 i.own;
      queue =
          All-rest (IsPosterOf c.args.shared.now.service.map c.args.shared.now.service.queue) c.in-Some-next.poster
          (into_iter_items c.next-in-loop-reader.new.self) _ post.0 i.queue;
      carries = λ hs rest. rw (push.items, append_assoc)
          (i.carries (h ∷ hs) (rw step.0 (c.in-Ok.ensures, rest)));
    }

pub returns-clause-readers : goal.returns-clause-readers
returns-clause-readers g c =
    started c.args.shared.now.plan.seed c.args.shared.now.plan.gets _ (into_iter_items c.loop-reader.reader-iterator) _
    c.loop-reader.invariant.carries
