use Rattle.std.proofs.Common.{refl, rules, ◌+◌}
use Rattle.nr_core.specs.declared.slot_notes.SlotNote.{SlotNote}
use Rattle.nr_core.proofs.Noted.{notes_more, reaped_same}
use Rattle.nr_core.proofs.slot_notes.one_more.Goals as goal

-- src/slot_notes.rt:16:1
pub returns-then-note-lt2-clause-reaped : goal.returns-then-note-lt2-clause-reaped
returns-then-note-lt2-clause-reaped c = search (rules, reaped_same)

-- src/slot_notes.rt:16:1
pub returns-then-note-lt2-clause-counts : goal.returns-then-note-lt2-clause-counts
returns-then-note-lt2-clause-counts c =
    let old = c.in-Some.note.now in
    let note : SlotNote = record { reaped = old.reaped; retirements = old.retirements + 1 } in
    notes_more c.args.notes.now.items c.args.slot old note (search rules) refl
