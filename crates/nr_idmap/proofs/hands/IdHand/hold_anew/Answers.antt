use Rattle.std.proofs.Common.{◌≡◌, ◌∙◌, subst, sym}
use Rattle.nr_idmap.specs.declared.finds.FoundId.TheVariants as found
use Rattle.nr_idmap.specs.IdHands.{HoldsByName, HoldsInWay, IdHanded, id_held, with_line_loaded}
use Rattle.nr_idmap.proofs.Holding.{held_and_marked, not_held}
use Rattle.nr_idmap.proofs.hands.IdHand.hold_anew.Goals as goal

pub returns-in_default-clause-holds : goal.returns-in_default-clause-holds
returns-in_default-clause-holds c =
    let loads = c.load_line.ensures.loads in
    let own : IdHanded
    = record { hand = c.self.inside.hand; ids = c.self.inside.ids; id = id_held c.self.inside.held } in
    let is : own ≡ with_line_loaded c.args.id loads.0 c.args.self.now = c.self.view_is ∙ loads.1 in
    let goes = c.release.ensures.lets_go in (
      loads.0,
      subst (λ (loaded : IdHanded). HoldsByName c.args.id loaded c.release.new.self found.Absent) is
          (rw goes.ids c.in_default.ensures.looks, goes.hand, goes.id),
    )

pub returns-in-Rows-clause-holds : goal.returns-in-Rows-clause-holds
returns-in-Rows-clause-holds c =
    let loads = c.load_line.ensures.loads in
    let own : IdHanded
    = record { hand = c.self.inside.hand; ids = c.self.inside.ids; id = id_held c.self.inside.held } in
    let is : own ≡ with_line_loaded c.args.id loads.0 c.args.self.now = c.self.view_is ∙ loads.1 in
    let at = c.in-Some.at in
    let kept : IdHanded
    = record { hand = c.self-2.inside.hand; ids = c.self-2.inside.ids; id = id_held c.self-2.inside.held } in
    let new : IdHanded = record kept { ids = c.mark.new.reader } in
    let before : IdHanded = record { hand = own.hand; ids = c.look_up.new.ids; id = own.id } in
    let holds : HoldsInWay at.way c.args.id before kept found.Rows
    = subst (λ (k : IdHanded). HoldsInWay at.way c.args.id before k found.Rows) (sym c.self-2.view_is)
    c.in-Rows.ensures.holds in
    let finds : HoldsByName c.args.id own new found.Rows
    = held_and_marked c.args.id own c.look_up.new.ids own.id at c.in-Some.ensures.looks kept c.mark.new.reader holds
    (rw (← c.self-2.view_is) at c.hold_in-found.ensures.ids) c.mark.ensures.marks in
    rw c.in-Rows.is
    (loads.0, subst (λ (loaded : IdHanded). HoldsByName c.args.id loaded new found.Rows) is finds)

pub returns-in_default-found : goal.returns-in_default-found
returns-in_default-found c =
    let loads = c.load_line.ensures.loads in
    let own : IdHanded
    = record { hand = c.self.inside.hand; ids = c.self.inside.ids; id = id_held c.self.inside.held } in
    let is : own ≡ with_line_loaded c.args.id loads.0 c.args.self.now = c.self.view_is ∙ loads.1 in
    let there = c.hold_in-found in
    let finds : HoldsByName c.args.id own there.new.self there.result
    = not_held c.args.id own c.look_up.new.ids own.id c.in-Some.at c.in-Some.ensures.looks there.new.self
    there.result c.in_default-found.not-Rows there.ensures.holds there.ensures.ids in
    record {
      own = there.ensures.own;
      holds =
          (loads.0, subst (λ (loaded : IdHanded). HoldsByName c.args.id loaded there.new.self there.result) is finds);
    }
