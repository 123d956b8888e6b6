use Rattle.std.proofs.Common.{refl, rules, ◌∙◌, ◌≡◌, ◌<◌, false, length, slice_set, Bool, ℕ}
use Rattle.nr_core.specs.declared.slot_notes.SlotNote.{SlotNote}
use Rattle.nr_core.specs.SlotNotes.{reaped_of, retirements_of}
use Rattle.nr_core.proofs.Noted.{reaped_long, reaped_set, retirements_same, retirements_there}
use Rattle.nr_core.proofs.Passed.{reaped_none, reaped_noted}
use Rattle.nr_core.proofs.slot_lists.SlotLists.set_reaped.Goals.{then-note-eq0, else-note-eq0}
use Rattle.nr_core.proofs.slot_lists.SlotLists.set_reaped.Goals as goal

-- src/slot_lists.rt:188:20
pub pass_one-next-requires : goal.pass_one-next-requires
pass_one-next-requires c =
    let (room, wide, fresh, counts, reaped) = c.self.invariant in
    let own = c.self.inside in
    let slot : ℕ = c.args.slot in
    let flag : Bool = c.args.reaped in
    let old = c.index.result.now in
    let note : SlotNote = record { reaped = flag; retirements = old.retirements } in
    let inside : slot < own.slots = search rules in
    let within : slot < length own.notes.items = search rules in
    let there = retirements_there own.notes.items slot old note c.index.ensures within in
    rw (reaped_set own.notes.items slot note) (elim c.if-note-eq0.branch [
      | then-note-eq0 w ↦ let zero : flag ≡ false → old.retirements ≡ 0 = search rules in
          rw w.known-is
          (reaped_noted own.passed own.slots own.retired.items (reaped_of own.notes.items)
          (retirements_of own.notes.items) reaped counts slot inside (search (rules, reaped_long)) flag
          (λ off. there ∙ zero off))
      | else-note-eq0 w ↦
          rw w.known-is (reaped_none own.retired.items (slice_set (reaped_of own.notes.items) slot flag))
    ])

pub invariant_of-self : goal.invariant_of-self
invariant_of-self c =
    let (room, wide, fresh, counts, reaped) = c.self.invariant in
    let own = c.self.inside in
    let old = c.index.result.now in
    let note : SlotNote = record { reaped = c.args.reaped; retirements = old.retirements } in
    let same = retirements_same own.notes.items c.args.slot old note c.index.ensures refl in
    (room, search rules, fresh, rw same counts, c.pass_one-self-inside.ensures)

pub returns : goal.returns
returns c =
    let old = c.index.result.now in
    let note : SlotNote = record { reaped = c.args.reaped; retirements = old.retirements } in
    let noted = reaped_set c.self.inside.notes.items c.args.slot note in
    search rules
