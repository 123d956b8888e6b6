use Rattle.std.proofs.Common.{◌<◌, ap, subst, sym, ◌∙◌}
use Rattle.nr_trigger.specs.Tokens.{WasFull, poster_seen, poster_tried}
use Rattle.nr_trigger.specs.Views.{posting_of}
use Rattle.nr_trigger.proofs.Moments.{full-before}
use Rattle.nr_trigger.proofs.Passes.{poster-posts}
use Rattle.nr_trigger.proofs.triggers.Triggers.try_push.Goals as goal

pub try_push_as-requires-clause-rule : goal.try_push_as-requires-clause-rule
try_push_as-requires-clause-rule c =
    let key = subst (λ n. c.args.upquery.key < n) (sym (ap (λ poster. poster.keys) c.poster.view_is)) c.requires.key in
    poster-posts _ _ _ _ _ c.poster.invariant.1 c.poster.invariant.2 (key, tt)

pub returns-in-Err-clause-full : goal.returns-in-Err-clause-full
returns-in-Err-clause-full c is = full-before _ _ (subst (WasFull c.args.self.now.capacity)
    ((λ i. poster_seen (c.try_push_as.ensures.queue.0 i) (posting_of (c.in-Err.ensures.rule.1 i))
    (c.then-poster-inside.ensures i))
    ∙ ap poster_tried c.poster.view_is)
    (c.obstacle_to_push.ensures.full is))
