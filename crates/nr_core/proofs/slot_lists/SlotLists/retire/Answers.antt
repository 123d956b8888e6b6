use Rattle.std.proofs.Common.{rules, ◌∙◌, subst, sym, ◌∷◌, []}
use Rattle.nr_core.specs.declared.places.Retired.{Retired}
use Rattle.nr_core.specs.SlotLists.{AreReaped}
use Rattle.nr_core.specs.SlotNotes.{reaped_of, retirements_of}
use Rattle.nr_core.proofs.Noted.{counts_long}
use Rattle.nr_core.proofs.Passed.{counts_put, reaped_still}
use Rattle.nr_core.proofs.slot_lists.SlotLists.retire.Goals as goal

-- src/slot_lists.rt:162:13
pub invariant_of-self : goal.invariant_of-self
invariant_of-self c =
    let (room, wide, fresh, counts, reaped) = c.self.invariant in
    let own = c.self.inside in
    let old = c.parts-old.result in
    let entry : Retired = record { slot = old.slot; arrivals = old.arrivals } in
    let notes = c.one_more.new.notes.items in
    let long = counts_long own.notes.items notes c.one_more.ensures.length in
    let counted
    = counts_put own.slots own.retired.items c.push_back_reserved.new.self.items (retirements_of own.notes.items)
    (retirements_of notes) entry c.push_back_reserved.ensures.items long counts c.one_more.ensures.counts in
    let passed
    = subst (λ it. AreReaped own.passed it (reaped_of own.notes.items)) (sym c.push_back_reserved.ensures.items)
    (reaped_still own.passed own.retired.items (reaped_of own.notes.items) reaped (entry ∷ [])) in
    (search rules, c.one_more.ensures.length ∙ wide, fresh, counted, rw c.one_more.ensures.reaped passed)
