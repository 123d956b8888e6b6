use Rattle.std.proofs.Common.{rules, ◌<◌, ◌≤◌, ◌∙◌, Some, Option, ap, subst}
use Rattle.nr_model.specs.declared.rows.Row.{Row}
use Rattle.nr_map.specs.FirstRows.{FindsTaggedFirst}
use Rattle.nr_idmap.specs.declared.hands.Holding.{Holding}
use Rattle.nr_idmap.specs.IdHands.{IdHanded, id_held}
use Rattle.nr_idmap.specs.IdWalks.{FindsFirstOn}
use Rattle.nr_idmap.proofs.Walking.{held_id, held_row_set, kept_first, walks_hold}
use Rattle.nr_idmap.proofs.hands.IdHand.find_first_in.Goals as goal

pub invariant_of-self : goal.invariant_of-self
invariant_of-self c =
    let found = c.find_tagged_first-found in
    let at = c.in-Some.at in
    let old = c.self.inside.hand in
    let sorted = c.self.inside.sorted in
    let near : at.way < c.args.map.now.map.shape.keys = rw c.in-Some.is at c.requires.near in
    let inside : at.way < found.new.self.reader.table.shape.keys = search rules in
    let few : old.reader.table.shape.rows ≤ 255 = search rules in
    rw c.held_then-self-inside.ensures
    (walks_hold at.way old found.new.self sorted inside few
    (held_row_set old sorted c.self.inside.held c.self.invariant) found.result.0
    (kept_first c.tag_of.result at.way old found.new.self c.args.cells.now found.new.cells found.result.1
    found.result.0 found.ensures.finds))

pub returns-clause-finds : goal.returns-clause-finds
returns-clause-finds c =
    let found = c.find_tagged_first-found in
    let at = c.in-Some.at in
    let own : IdHanded
    = record { hand = c.self.inside.hand; ids = c.self.inside.ids; id = id_held c.self.inside.held } in
    let new : IdHanded
    = record { hand = found.new.self; ids = c.tell.new.ids; id = id_held c.held_then-self-inside.result } in
    let finds : FindsFirstOn c.args.id (Some at) own c.args.cells.now new found.new.cells found.result.1 c.tell.result
    = record {
      answer = found.result.0;
      finds_so =
          subst
          (λ (tag : Row). FindsTaggedFirst tag at.way own.hand c.args.cells.now found.new.self found.new.cells
          found.result.1 found.result.0)
          c.tag_of.ensures found.ensures.finds;
      told_is = c.tell.ensures.answer;
      marks = c.tell.ensures.marks;
      id_is =
          ap (λ (held : Option Holding). id_held held) c.held_then-self-inside.ensures ∙ held_id at.way found.result.0;
    } in
    search rules
