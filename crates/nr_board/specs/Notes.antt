-- Notes: a token makes one of what it has seen, and another takes it in.
use Rattle.std.specs.Prelude.{◌≡◌, ◌+◌, ◌<◌, []}
use Rattle.atomic_table.specs.declared.shared.Seat.{Seat}
use Rattle.nr_core.specs.declared.roles.Role.{Role}
use Rattle.nr_core.specs.declared.roles.Role.TheVariants.{Note}
use Rattle.nr_core.specs.Roles.{is_reader, is_writer}
use Rattle.nr_core.specs.Marks.{told_by}
use Rattle.nr_board.specs.Views.{View, view_of, carried_by, no_view}

-- a writer or a reader, and no note
abbrev pub IsCaller : Role → Type 0
IsCaller role = 0 < is_writer role + is_reader role

-- the token that makes a note counts the note's step, and is else as it was; so is one whose load tells it nothing
abbrev pub has_noted : View → View
has_noted view = record view { steps = view.steps + 1 }

abbrev pub note_of : View → View
note_of view = record no_view {
  shape = view.shape;
  announcers = view.announcers;
  seen = view.seen;
  pasts = told_by view.role view.marks view.pasts;
}

-- a note that says again what the note told which the token took in last
abbrev pub retold : View → View
retold view = record (note_of view) { seen = view.told; pasts = view.told_pasts }

-- the seat of a note that nobody has taken in
abbrev pub IsNote : Seat (Unit {0}) View → Type 0
IsNote seat = ((view_of seat).role ≡ Note) × (carried_by seat ≡ [])

-- the token with what a note tells it
abbrev pub told_by_note : View → View → View
told_by_note view note = record view { told = note.seen; told_pasts = note.pasts }

-- the token that takes a note in counts its own step
abbrev pub with_note : View → View → View
with_note view note = has_noted (told_by_note view note)

-- what is left of a note
abbrev pub spent : View
spent = note_of no_view
