use Rattle.std.proofs.Common.{rules, ◌∙◌, ◌≡◌, ◌-◌, List, remove, sym, subst}
use Rattle.nr_core.specs.declared.places.Retired.{Retired}
use Rattle.nr_core.specs.SlotLists.{AreReaped}
use Rattle.nr_core.specs.SlotNotes.{reaped_of, retirements_of}
use Rattle.nr_core.proofs.Noted.{counts_long}
use Rattle.nr_core.proofs.Passed.{counts_taken, reaped_before, reaped_behind}
use Rattle.nr_core.proofs.slot_lists.SlotLists.take_retired.Goals as goal

-- src/slot_lists.rt:114:13
pub invariant_of-self : goal.invariant_of-self
invariant_of-self c =
    let (room, wide, fresh, counts, reaped) = c.self.invariant in
    let own = c.self.inside in
    let gone : c.remove.new.self.items ≡ remove own.retired.items c.args.place = search rules in
    let notes = c.one_fewer.new.notes.items in
    let long = counts_long own.notes.items notes c.one_fewer.ensures.length in
    let counted
    = counts_taken own.slots own.retired.items c.remove.new.self.items (retirements_of own.notes.items)
    (retirements_of notes) c.args.place c.index-entry.result.now (search rules) c.index-entry.ensures gone long counts
    c.one_fewer.ensures.counts in
    let fewer
    = subst (λ (it : List Retired). AreReaped (own.passed - 1) it (reaped_of own.notes.items)) (sym gone)
    (reaped_before own.passed own.retired.items (reaped_of own.notes.items) reaped c.args.place
    c.if-place-self.true) in
    (search rules, c.one_fewer.ensures.length ∙ wide, fresh, counted, rw c.one_fewer.ensures.reaped fewer)

pub invariant_of-self-else-place-self : goal.invariant_of-self-else-place-self
invariant_of-self-else-place-self c =
    let (room, wide, fresh, counts, reaped) = c.self.invariant in
    let own = c.self.inside in
    let gone : c.remove.new.self.items ≡ remove own.retired.items c.args.place = search rules in
    let notes = c.one_fewer.new.notes.items in
    let long = counts_long own.notes.items notes c.one_fewer.ensures.length in
    let counted
    = counts_taken own.slots own.retired.items c.remove.new.self.items (retirements_of own.notes.items)
    (retirements_of notes) c.args.place c.index-entry.result.now (search rules) c.index-entry.ensures gone long counts
    c.one_fewer.ensures.counts in
    let passed
    = subst (λ (it : List Retired). AreReaped own.passed it (reaped_of own.notes.items)) (sym gone)
    (reaped_behind own.passed own.retired.items (reaped_of own.notes.items) reaped c.args.place
    c.if-place-self.false (search rules)) in
    (search rules, c.one_fewer.ensures.length ∙ wide, fresh, counted, rw c.one_fewer.ensures.reaped passed)
