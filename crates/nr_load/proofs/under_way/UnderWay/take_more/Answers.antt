use Rattle.std.proofs.Common.{[], ◌∷◌, List, length, length-append, ap, arith, inr, refl}
use Rattle.nr_trigger.specs.declared.post.Post.{Post}
use Rattle.nr_load.proofs.Turning.{takes_one_more, was_empty}
use Rattle.nr_load.proofs.under_way.UnderWay.take_more.Goals as goal

pub returns-in_default-clause-far : goal.returns-in_default-clause-far
returns-in_default-clause-far g c =
    inr
    (was_empty c.loop-taken.flow c.take.new.self
    (rw c.in_default.is at c.take.ensures))

pub loop-taken-preserved : goal.loop-taken-preserved
loop-taken-preserved g c =
    let so_far = c.loop-taken.invariant in let old = c.loop-taken.self-inside in let pushed = c.push_back_reserved in
    record {
      takes =
          takes_one_more c.args.flow.now c.loop-taken.flow c.take.new.self c.args.self.now
          (record { most = old.most; posts = old.triggers.items })
          (record { most = old.most; posts = pushed.new.self.items }) c.in-Some.trigger
          so_far.takes
          (rw c.in-Some.is at c.take.ensures)
          pushed.ensures.items refl;
      count =
          omega (
            arith,
            so_far.count,
            ap (λ (l : List Post). length l) pushed.ensures.items,
            length-append old.triggers.items (c.in-Some.trigger ∷ []),
          );
      end = so_far.end;
      room = omega (arith, so_far.room, pushed.ensures.capacity);
    }
