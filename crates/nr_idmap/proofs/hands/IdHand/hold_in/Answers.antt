use Rattle.std.proofs.Common.{rules, ◌≡◌, ◌<◌, ◌≤◌, true, false, None, refl, sym, ◌∙◌}
use Rattle.nr_idmap.specs.declared.finds.FoundId.TheVariants as found
use Rattle.nr_idmap.specs.IdHands.{HoldsInWay, IdHanded, id_held}
use Rattle.nr_idmap.specs.Tags.{HasTag}
use Rattle.nr_idmap.proofs.Walking.{held_row_set, kept_reads, kept_set, reads_hold}
use Rattle.nr_idmap.proofs.hands.IdHand.hold_in.Goals as goal

pub returns-in-Hole-clause-holds : goal.returns-in-Hole-clause-holds
returns-in-Hole-clause-holds c =
    rw (← c.self.view_is) ((c.self.inside.sorted, c.find_kept.new.rows, c.in-Hole.ensures.finds), refl)

pub returns-then-has_tag-clause-holds : goal.returns-then-has_tag-clause-holds
returns-then-has_tag-clause-holds c =
    let tag : HasTag c.args.id c.as_slice.result.now = c.has_tag.ensures.0 c.if-has_tag.true in
    let same = kept_set c.args.way c.self.inside.hand c.find_kept.new.self c.self.inside.sorted c.find_kept.new.rows
    c.in-Rows.ensures.finds in
    rw (← c.self.view_is) (
      tag.0,
      (c.self.inside.sorted, c.find_kept.new.rows, c.in-Rows.ensures.finds),
      sym (c.as_slice.ensures.value ∙ same) ∙ tag.1,
      refl,
    )

pub returns-else-has_tag-clause-holds : goal.returns-else-has_tag-clause-holds
returns-else-has_tag-clause-holds c =
    let own : IdHanded
    = record { hand = c.self.inside.hand; ids = c.self.inside.ids; id = id_held c.self.inside.held } in
    let same = kept_set c.args.way c.self.inside.hand c.find_kept.new.self c.self.inside.sorted c.find_kept.new.rows
    c.in-Rows.ensures.finds in
    let no : c.has_tag.result ≡ false = c.if-has_tag.false in
    let left : IdHanded = record { hand = c.release.new.self; ids = c.self.inside.ids; id = None } in
    let moved : HoldsInWay c.args.way c.args.id own left found.Moved = (
      c.find_kept.new.self,
      (c.self.inside.sorted, c.find_kept.new.rows, c.in-Rows.ensures.finds),
      λ rows e. let yes : c.has_tag.result ≡ true
          = c.has_tag.ensures.1 (rows, c.as_slice.ensures.value ∙ same ∙ e) in absurd (cc (yes, no)),
      c.release.ensures.lets_go,
      refl,
    ) in
    rw (← c.self.view_is) moved

pub invariant_of-self-then-has_tag : goal.invariant_of-self-then-has_tag
invariant_of-self-then-has_tag c =
    let old = c.self.inside.hand in
    let new = c.find_kept.new.self in
    let sorted = c.find_kept.new.rows in
    let tag = c.has_tag.ensures.0 c.if-has_tag.true in
    let same = kept_set c.args.way old new c.self.inside.sorted sorted c.in-Rows.ensures.finds in
    let reads = kept_reads c.args.way old new c.self.inside.sorted sorted c.in-Rows.ensures.finds in
    let inside : c.args.way < new.reader.table.shape.keys = search rules in
    let few : old.reader.table.shape.rows ≤ 255 = search rules in
    reads_hold c.args.way old new sorted inside few
    (held_row_set old c.self.inside.sorted c.self.inside.held c.self.invariant)
    c.args.id reads.0 reads.1
    (λ _. record { rows = tag.0; tagged = sym (c.as_slice.ensures.value ∙ same) ∙ tag.1; sorted_is = same })
