use Rattle.std.proofs.Common.{ap, refl, Some}
use Rattle.nr_ids.specs.declared.admissions.Refused.TheVariants as refused
use Rattle.nr_idserve.specs.IdFlows.{IdFlowSeen}
use Rattle.nr_idserve.proofs.flow.IdDataflow.admit_next.Goals as goal

pub returns-in-Err-Full-clause-admits : goal.returns-in-Err-Full-clause-admits
returns-in-Err-Full-clause-admits g c =
    let after = c.admit_making_room.new.self in
    let asked = c.in-Err-Full.ensures.admits in (
      asked.0,
      (
        refl,
        after,
        rw c.in-Err-Full.field-0-is at asked.1,
        ap (λ (flow : IdFlowSeen). record flow { refused = Some c.args.id }) c.self.view_is,
      ),
      asked.2,
    )

-- Of these two the claim needs no upquery.
pub returns-in-Err-NoClaim-clause-admits : goal.returns-in-Err-NoClaim-clause-admits
returns-in-Err-NoClaim-clause-admits g c =
    let asked = c.in-Err-NoClaim.ensures.admits in
    (asked.0, (refl, refused.NoClaim, tt, rw c.in-Err-NoClaim.field-0-is at asked.1), asked.2)

pub returns-in-Err-Named-clause-admits : goal.returns-in-Err-Named-clause-admits
returns-in-Err-Named-clause-admits g c =
    let asked = c.in-Err-Named.ensures.admits in
    (asked.0, (refl, refused.Named c.in-Err-Named.field-0-0, tt, rw c.in-Err-Named.field-0-is at asked.1), asked.2)
