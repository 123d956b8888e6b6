use Rattle.std.proofs.Common.{◌≡◌, ◌==◌, ◌*◌, ℕ, refl, sym, ap, ◌∙◌, arith}
use Rattle.std.proofs.lemmas.Bool.{eqb-true}
use Rattle.nr_core.specs.declared.shape.Shape.{Shape}
use Rattle.nr_load.proofs.Settling.{all_cancelled, all_filled, all_sent, fits, in_order, own_readers, none_told}
use Rattle.nr_load.proofs.Settling.{served_few}
use Rattle.nr_load.proofs.Reporting.{comes}
use Rattle.nr_load.proofs.load.settle.Goals as goal

pub collect-readers-requires-clause-room : goal.collect-readers-requires-clause-room
collect-readers-requires-clause-room c =
    let e = c.requires.ended in (
      omega (
        arith,
        served_few c.args.plan.now.seed c.args.plan.now.gets e.readers c.args.joined.outcomes.items e.served,
        e.opened.count,
        ap (λ (shape : Shape). shape.readers) c.requires.sizes,
        c.requires.room.0,
        c.args.joined.outcomes.ok,
      ),
      c.requires.room.1,
    )

pub collect-readers-requires-clause-made : goal.collect-readers-requires-clause-made
collect-readers-requires-clause-made c =
    fits _ _ _ c.args.joined c.requires.ended (λ o. o.worked.made) c.args.plan.now.gets (λ r o serves. serves.made)
    (omega (arith, c.fits-plan))
    (omega (arith, ap (λ (shape : Shape). shape.readers) c.requires.sizes, c.requires.readers.1))

pub collect-readers-requires-clause-sends : goal.collect-readers-requires-clause-sends
collect-readers-requires-clause-sends c =
    fits _ _ _ c.args.joined c.requires.ended (λ o. o.sends) (1000000 * c.args.plan.now.gets)
    (λ r o serves. serves.few)
    (omega (arith, c.fits-plan))
    (omega (arith, ap (λ (shape : Shape). shape.readers) c.requires.sizes, c.requires.readers.1))

pub collect-readers-requires-clause-answered : goal.collect-readers-requires-clause-answered
collect-readers-requires-clause-answered c =
    fits _ _ _ c.args.joined c.requires.ended (λ o. o.worked.answered) c.args.plan.now.gets
    (λ r o serves. serves.answered)
    (omega (arith, c.fits-plan))
    (omega (arith, ap (λ (shape : Shape). shape.readers) c.requires.sizes, c.requires.readers.1))

pub account-asked-requires-clause-readers : goal.account-asked-requires-clause-readers
account-asked-requires-clause-readers c =
    rw c.collect-readers.ensures.readers (own_readers _ _ _ c.args.joined c.requires.ended)

pub account-asked-requires-clause-order : goal.account-asked-requires-clause-order
account-asked-requires-clause-order c =
    let sums = c.collect-readers.result.0 in
    rw c.collect-readers.ensures.readers (in_order _ _ _ c.args.joined c.requires.ended
    (none_told sums.fault c.args.joined.flowed.fault c.args.joined.is_whole
    (sums.made == c.from.result * c.from-2.result) (sym c.first_fault.ensures ∙ c.in_default.is)).0)

pub account-asked-requires-clause-some : goal.account-asked-requires-clause-some
account-asked-requires-clause-some c = rw c.requires.sizes c.requires.readers.0

pub account-asked-requires-clause-sends : goal.account-asked-requires-clause-sends
account-asked-requires-clause-sends c =
    rw c.collect-readers.ensures.readers
    (all_sent _ _ _ c.args.joined c.requires.ended ∙ sym c.collect-readers.ensures.sends)

pub account-asked-requires-clause-fills : goal.account-asked-requires-clause-fills
account-asked-requires-clause-fills c =
    rw c.collect-readers.ensures.readers (all_filled _ _ _ c.args.joined c.requires.ended)

pub account-asked-requires-clause-cancels : goal.account-asked-requires-clause-cancels
account-asked-requires-clause-cancels c =
    rw c.collect-readers.ensures.readers (all_cancelled _ _ _ c.args.joined c.requires.ended)

pub returns-clause-report : goal.returns-clause-report
returns-clause-report c =
    let sums = c.collect-readers.result.0 in
    let all
    = none_told sums.fault c.args.joined.flowed.fault c.args.joined.is_whole
    (sums.made == c.from.result * c.from-2.result) (sym c.first_fault.ensures ∙ c.in_default.is) in
    let readers : c.from.result ≡ c.args.plan.now.readers = omega (arith, c.from.ensures) in
    let each : c.from-2.result ≡ c.args.plan.now.gets = omega (arith, c.from-2.ensures) in
    let gets : c.from.result * c.from-2.result ≡ c.args.plan.now.readers * c.args.plan.now.gets
    = ap (λ (n : ℕ). n * c.from-2.result) readers ∙ ap (λ (n : ℕ). c.args.plan.now.readers * n) each in
    comes c.args.map.now c.args.plan.now c.args.joined c.requires.ended c.requires.sizes _
    (rw c.collect-readers.ensures.readers at c.account-asked.ensures.account)
    all.0 (sym c.collect-readers.ensures.fault ∙ all.2) all.3
    (sym c.collect-readers.ensures.made ∙ eqb-true sums.made (c.from.result * c.from-2.result) all.1 ∙ gets) gets
    c.collect-readers.ensures.answered c.collect-readers.ensures.sends
    (rw c.collect-readers.ensures.readers at c.account-asked.ensures.fills)
    refl c.account-asked.ensures.balance
