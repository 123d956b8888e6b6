use Rattle.std.proofs.Common.{◌≡◌, ⊎_elim, subst}
use Rattle.nr_idmap.specs.declared.finds.FoundId.{FoundId}
use Rattle.nr_idmap.specs.declared.finds.FoundId.TheVariants as found
use Rattle.nr_idmap.specs.IdFinds.{FindsById}
use Rattle.nr_serve.proofs.Ringing.{rings_both}
use Rattle.nr_idserve.proofs.IdWaiting.{missed_by}
use Rattle.nr_idserve.proofs.tries.try_once.Goals as goal

pub returns-in-Moved-clause-rings : goal.returns-in-Moved-clause-rings
returns-in-Moved-clause-rings g c = rings_both c.post_kept.ensures.rings c.request.ensures.rings

pub returns-in-Moved-clause-tries : goal.returns-in-Moved-clause-tries
returns-in-Moved-clause-tries g c =
    let shows = g.R.RowRoom.shows in
    let id = c.args.id in
    let posted = c.post_kept.new.hands in
    let before = c.args.rows.now in
    let reader = c.find.new.reader in
    let after = c.find.new.rows in
    let finds = λ (answer : FoundId) (is : c.find.result ≡ answer).
    subst (λ (told : FoundId). FindsById shows id posted.reader before reader after told) is c.find.ensures.finds in
    let requests = c.request.ensures.requests in
    let missed = missed_by shows c.args.service.now.queue.capacity id c.args.hands.now posted reader
    c.request.new.hands c.request.result before after in
    ⊎_elim
    (λ (is : c.find.result ≡ found.Moved).
    missed found.Moved c.post_kept.ensures.posts (finds found.Moved is) requests)
    (λ (is : c.find.result ≡ found.Absent).
    missed found.Absent c.post_kept.ensures.posts (finds found.Absent is) requests)
    c.in-Moved.is
