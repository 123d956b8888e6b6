use Rattle.std.proofs.Common.{◌≡◌, ◌∙◌, subst}
use Rattle.nr_idmap.specs.declared.finds.FoundId.TheVariants as found
use Rattle.nr_idmap.specs.IdHands.{HoldsByNameAlone, IdHanded, id_held, with_line_loaded}
use Rattle.nr_idmap.proofs.Holding.{held_alone}
use Rattle.nr_idmap.proofs.hands.IdHand.hold_unmarked.Goals as goal

pub returns-in_default-clause-holds : goal.returns-in_default-clause-holds
returns-in_default-clause-holds c =
    let loads = c.load_line.ensures.loads in
    let own : IdHanded
    = record { hand = c.self.inside.hand; ids = c.self.inside.ids; id = id_held c.self.inside.held } in
    let is : own ≡ with_line_loaded c.args.id loads.0 c.args.self.now = c.self.view_is ∙ loads.1 in
    let goes = c.release.ensures.lets_go in (
      loads.0,
      subst (λ (loaded : IdHanded). HoldsByNameAlone c.args.id loaded c.release.new.self found.Absent) is
          (rw goes.ids c.in_default.ensures.answer, goes.hand, goes.id),
    )

pub returns-clause-holds : goal.returns-clause-holds
returns-clause-holds c =
    let loads = c.load_line.ensures.loads in
    let own : IdHanded
    = record { hand = c.self.inside.hand; ids = c.self.inside.ids; id = id_held c.self.inside.held } in
    let is : own ≡ with_line_loaded c.args.id loads.0 c.args.self.now = c.self.view_is ∙ loads.1 in
    let holds = c.hold_in.ensures in (
      loads.0,
      subst (λ (loaded : IdHanded). HoldsByNameAlone c.args.id loaded c.hold_in.new.self c.hold_in.result) is
          (held_alone c.args.id own c.look_up.new.reader own.id c.in-Some.way c.hold_in.new.self c.hold_in.result
          c.in-Some.ensures.answer holds.holds holds.ids),
    )
