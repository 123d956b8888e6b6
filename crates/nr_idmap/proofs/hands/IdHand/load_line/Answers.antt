use Rattle.std.proofs.Common.{rules, ap}
use Rattle.nr_map.specs.Hands.{Handed}
use Rattle.nr_idmap.specs.IdHands.{IdHanded, id_held}
use Rattle.nr_idmap.proofs.Walking.{line_held}
use Rattle.nr_idmap.proofs.hands.IdHand.load_line.Goals as goal

pub returns-clause-loads : goal.returns-clause-loads
returns-clause-loads c =
    let own : IdHanded
    = record { hand = c.self.inside.hand; ids = c.self.inside.ids; id = id_held c.self.inside.held } in
    let loads = c.load_key.ensures.loads in
    let is = line_held c.args.id c.first_way-first.result own c.load_key.new.self (search rules) loads
    c.load_key.ensures.held in
    rw (← c.self.view_is)
    (loads.0, ap (λ (hand : Handed). record { hand = hand; ids = own.ids; id = own.id }) is)
