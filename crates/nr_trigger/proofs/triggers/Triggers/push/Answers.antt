use Rattle.std.proofs.Common.{◌≡◌, ◌<◌, ℕ, IfErr, MatchResult, ap, subst, sym}
use Rattle.crossbeam_queue.specs.Fifo.{Held}
use Rattle.crossbeam_queue.specs.Passes.{ruled_capacity, view}
use Rattle.nr_trigger.specs.declared.post.Post.{Post}
use Rattle.nr_trigger.specs.Delivers.{Moment}
use Rattle.nr_trigger.specs.Posts.{IsNoteOf}
use Rattle.nr_trigger.specs.Tokens.{PosterSeen, WasFull}
use Rattle.nr_trigger.specs.Views.{has_posted}
use Rattle.nr_trigger.proofs.Moments.{pass-learns-moment, push-tells}
use Rattle.nr_trigger.proofs.Passes.{poster-posts}
use Rattle.nr_trigger.proofs.triggers.Triggers.push.Goals as goal

pub push_as-requires-clause-rule : goal.push_as-requires-clause-rule
push_as-requires-clause-rule g c =
    let may
    = subst (λ (poster : PosterSeen). (c.args.upquery.key < poster.keys) × IsNoteOf poster.map c.args.note)
    (sym c.poster.view_is) (c.requires.key, c.requires.note) in
    (poster-posts _ _ _ _ _ c.poster.invariant.1 c.poster.invariant.2 may, pass-learns-moment _ _)

pub returns-clause-full : goal.returns-clause-full
returns-clause-full g c =
    let new = view c.push_as.new.pass in
    let post : Post = record { poster = c.poster.inside.number; upquery = c.args.upquery; note = c.args.note } in
    let room = ap (λ queue. queue.capacity) c.self.view_is in
    let tells
    = subst
    (λ old. MatchResult c.push_as.result (λ _. has_posted old post new)
    (λ back. (back ≡ post) × (new ≡ old) × Held (ruled_capacity c.self.inside.queue) (Moment old)))
    c.poster.invariant.1 c.push_as.ensures.rule in
    let full = push-tells _ _ _ _ _ _ new tells in
    subst (λ (at : ℕ × PosterSeen). IfErr c.push_as.result (λ _. WasFull at.0 at.1)) (λ i. (room i, c.poster.view_is i))
    full
