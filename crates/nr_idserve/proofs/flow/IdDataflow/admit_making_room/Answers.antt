use Rattle.std.proofs.Common.{Some, Err, Result, inl, inr, refl, subst}
use Rattle.nr_ids.specs.declared.admissions.Refused.{Refused}
use Rattle.nr_idmap.specs.Keepers.{IsTied, Sent}
use Rattle.nr_idserve.specs.IdFlows.{IdFlowSeen}
use Rattle.nr_idserve.specs.IdTakes.{AdmitsInRoom, AdmitsOne}
use Rattle.nr_idserve.proofs.IdRoom.{room_is_made}
use Rattle.nr_idserve.proofs.flow.IdDataflow.admit_making_room.Goals as goal

pub returns-then-not-make_room-clause-admits : goal.returns-then-not-make_room-clause-admits
returns-then-not-make_room-clause-admits g c =
    let full = c.admit.new.self in
    let makes = c.if-not-make_room.ensures.makes in
    let refused
    = subst (λ (why : Refused). AdmitsOne c.args.id c.args.self.now full (Err why)) c.in-Err-Full.field-0-is
    c.in-Err-Full.ensures.admits in (Some makes.0, inr (full, refused, inl (refl, makes.1)), makes.2)

pub returns-clause-admits : goal.returns-clause-admits
returns-clause-admits g c =
    let full = c.admit.new.self in
    let makes = c.if-not-make_room.ensures.makes in
    let room = c.make_room.new.self in
    let after = c.admit-2.new.self in
    let refused
    = subst (λ (why : Refused). AdmitsOne c.args.id c.args.self.now full (Err why)) c.in-Err-Full.field-0-is
    c.in-Err-Full.ensures.admits in
    let tied = subst (λ (flow : IdFlowSeen). IsTied flow.writer) c.self.view_is c.is_tied.ensures in
    let again : AdmitsInRoom c.args.id room after c.admit-2.result
    = (
      c.admit-2.ensures.admits,
      λ is.
          room_is_made c.args.id makes.0 full room after tied.names.1 makes.1
          (subst (λ (answer : Result Sent Refused). AdmitsOne c.args.id room after answer) is
          c.admit-2.ensures.admits),
    ) in (Some makes.0, inr (full, refused, inr (room, makes.1, again)), makes.2)
