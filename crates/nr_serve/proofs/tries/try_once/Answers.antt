use Rattle.std.proofs.Common.{ap, subst, sym}
use Rattle.nr_serve.specs.declared.hands.Hands.{Hands}
use Rattle.nr_serve.proofs.Ringing.{rings_both, rings_same}
use Rattle.nr_serve.proofs.Waiting.{Posted, hole_by_hand, tries_hole}
use Rattle.nr_serve.proofs.tries.try_once.Goals as goal

pub returns-clause-tries : goal.returns-clause-tries
returns-clause-tries g c =
    let posts = c.post_kept.ensures in
    let posted
    = subst (λ (hands : Hands). Posted c.args.hands.now hands) (sym c.hands.view_is)
    (record { moves = posts.moves; attempts = posts.attempts; reader = posts.reader }) in
    let found = hole_by_hand c.args.key c.hands.inside.reader c.pin.new.self c.hands.invariant c.if-pin.ensures.pins in
    let asked = c.request.ensures in
    tries_hole c.args.key c.args.hands.now _ c.request.new.hands c.pin.new.self.reader c.request.result c.args.rows.now
    posted found.0 found.1 asked.marks asked.moves asked.leaves asked.attempts

pub returns-clause-rings : goal.returns-clause-rings
returns-clause-rings g c =
    let posted = c.post_kept in
    let same
    = rings_same posted.new.hands.poster c.hands.inside.poster posted.new.lobby
    (ap (λ (hands : Hands). hands.poster.posted) c.hands.view_is) in
    rings_both posted.ensures.rings (rings_both same c.request.ensures.rings)
