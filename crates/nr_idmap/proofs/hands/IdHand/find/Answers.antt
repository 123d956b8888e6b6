use Rattle.std.proofs.Common.{rules, ◌≡◌, ap, ◌∙◌, List, Option, Some, None}
use Rattle.nr_model.specs.declared.rows.Row.{Row}
use Rattle.nr_map.specs.Hands.{Handed}
use Rattle.nr_idmap.specs.IdFinds.{line_of}
use Rattle.nr_idmap.specs.declared.hands.Holding.{Holding}
use Rattle.nr_idmap.specs.IdHands.{IdHanded, IsIdHand, id_held}
use Rattle.nr_idmap.specs.Keepers.{IdCaller}
use Rattle.nr_map.specs.LoadsAhead.{LoadsKey}
use Rattle.nr_idmap.proofs.Finding.{finds_absent, finds_by_id, finds_inside}
use Rattle.nr_idmap.proofs.hands.IdHand.find.Goals as goal

-- a hand that holds no id's set holds none of the map
holds_none : (hand : Handed) (sorted : List Row) (held : Option Holding) → IsIdHand hand sorted held
    → id_held held ≡ None → hand.key ≡ None
holds_none hand sorted None holds idle = holds
holds_none hand sorted (Some held) holds idle = absurd (cc (idle))

pub returns-clause-finds : goal.returns-clause-finds
returns-clause-finds g c =
    let own : IdCaller = record { caller = c.self.inside.hand.reader; ids = c.self.inside.ids } in
    let line : c.first_way-first.result ≡ line_of c.args.id own.ids = search rules in
    let there = c.find_tagged-found.ensures.finds in
    let none = holds_none c.self.inside.hand c.self.inside.sorted c.self.inside.held c.self.invariant
    (ap (λ (h : IdHanded). h.id) c.self.view_is ∙ c.requires.idle) in
    let loads : LoadsKey c.first_way-first.result own.caller there.reader
    = rw (there.was_idle (c.load_key.ensures.held.0 ∙ none)) c.load_key.ensures.loads in
    rw (← c.self.view_is, c.tell.ensures.answer)
    (finds_by_id g.R.RowRoom.shows c.args.id c.in-Some.at own
    (record { caller = c.find_tagged-found.new.self.reader; ids = c.tell.new.ids }) c.first_way-first.result
    there.reader c.look_up.new.ids c.args.rows.now c.find_tagged-found.new.rows _ line loads c.in-Some.ensures.looks
    (finds_inside g.R.RowRoom.shows c.args.id c.in-Some.at
    (record { caller = there.reader; ids = c.look_up.new.ids }) c.find_tagged-found.new.self.reader c.tell.new.ids
    c.args.rows.now c.find_tagged-found.new.rows c.tag_of.result c.find_tagged-found.result
    c.tag_of.ensures there.finds c.tell.ensures.marks))

pub returns-in_default-clause-finds : goal.returns-in_default-clause-finds
returns-in_default-clause-finds g c =
    let own : IdCaller = record { caller = c.self.inside.hand.reader; ids = c.self.inside.ids } in
    rw (← c.self.view_is)
    (finds_absent g.R.RowRoom.shows c.args.id own c.first_way-first.result c.load_key.new.self.reader
    c.look_up.new.ids c.args.rows.now (search rules) c.load_key.ensures.loads c.in_default.ensures.looks)
