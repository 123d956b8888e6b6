use Rattle.std.proofs.Common.{refl, rules}
use Rattle.nr_core.specs.declared.slot_notes.SlotNote.{SlotNote}
use Rattle.nr_core.proofs.Noted.{notes_none, reaped_same}
use Rattle.nr_core.proofs.slot_notes.one_fewer.Goals as goal

-- src/slot_notes.rt:29:1
pub returns-then-note-eq1-clause-reaped : goal.returns-then-note-eq1-clause-reaped
returns-then-note-eq1-clause-reaped c = search (rules, reaped_same)

-- src/slot_notes.rt:29:1
pub returns-then-note-eq1-clause-counts : goal.returns-then-note-eq1-clause-counts
returns-then-note-eq1-clause-counts c =
    let old = c.in-Some.note.now in
    let note : SlotNote = record { reaped = old.reaped; retirements = 0 } in
    notes_none c.args.notes.now.items c.args.slot old note (search rules) (search rules) refl
