-- What is noted of each slot: whether the set in it was given out already, and how often it is retired.
use Rattle.std.specs.Prelude.{ℕ, Bool, List, map}
use Rattle.nr_core.specs.declared.slot_notes.SlotNote.{SlotNote}

abbrev pub reaped_of : List SlotNote → List Bool
reaped_of notes = map (λ (note : SlotNote). note.reaped) notes

abbrev pub retirements_of : List SlotNote → List ℕ
retirements_of notes = map (λ (note : SlotNote). note.retirements) notes
