use Rattle.std.proofs.Common.{inr, refl}
use Rattle.nr_idmap.specs.declared.upqueries.Withdrawn.TheVariants as withdrawn
use Rattle.nr_c.proofs.KeptUpqueries.{ends_kept}
use Rattle.nr_c.proofs.id_upqueries.take_back.Goals as goal

pub returns-in-Done-clause-withdraws : goal.returns-in-Done-clause-withdraws
returns-in-Done-clause-withdraws c =
    inr (ends_kept c.in-Some.ensures withdrawn.Done refl c.in-Done.ensures.withdraws refl)

pub returns-in-Closed-clause-withdraws : goal.returns-in-Closed-clause-withdraws
returns-in-Closed-clause-withdraws c =
    inr (ends_kept c.in-Some.ensures withdrawn.Closed refl c.in-Closed.ensures.withdraws refl)

pub returns-in-Worn-clause-withdraws : goal.returns-in-Worn-clause-withdraws
returns-in-Worn-clause-withdraws c =
    inr (ends_kept c.in-Some.ensures (withdrawn.Worn c.in-Worn.opened) refl c.in-Worn.ensures.withdraws c.keep.ensures)
