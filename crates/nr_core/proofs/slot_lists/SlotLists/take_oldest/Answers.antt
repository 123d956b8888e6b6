use Rattle.std.proofs.Common.{rules, ◌∙◌, ◌≡◌, ◌∷◌, subst, sym}
use Rattle.nr_core.specs.SlotLists.{AreReaped}
use Rattle.nr_core.specs.SlotNotes.{reaped_of, retirements_of}
use Rattle.nr_core.proofs.Noted.{counts_long}
use Rattle.nr_core.proofs.Passed.{counts_popped, reaped_popped}
use Rattle.nr_core.proofs.slot_lists.SlotLists.take_oldest.Goals as goal

-- src/slot_lists.rt:131:9
pub invariant_of-self-2 : goal.invariant_of-self-2
invariant_of-self-2 c =
    let (room, wide, fresh, counts, reaped) = c.self.invariant in
    let own = c.self.inside in
    let oldest = c.in_ok-oldest.oldest in
    let left = c.pop_front.new.self.items in
    let popped : own.retired.items ≡ oldest ∷ left = search rules in
    let notes = c.one_fewer.new.notes.items in
    let long = counts_long own.notes.items notes c.one_fewer.ensures.length in
    let counted
    = counts_popped own.slots own.retired.items left (retirements_of own.notes.items) (retirements_of notes) oldest
    popped long counts c.one_fewer.ensures.counts in
    let passed
    = subst (λ count. AreReaped count left (reaped_of own.notes.items)) (sym c.saturating_sub-self-inside.ensures)
    (reaped_popped own.passed own.retired.items left oldest (reaped_of own.notes.items) popped reaped) in
    (search rules, c.one_fewer.ensures.length ∙ wide, fresh, counted, rw c.one_fewer.ensures.reaped passed)
