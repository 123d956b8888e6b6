-- What goes through the queue, and each poster's part of it.
use Rattle.std.specs.Prelude.{◌≡◌, ◌<◌, ℕ, List, [], ◌∷◌, Option, Some, None, cond, nat_eq}
use Rattle.nr_board.specs.Callers.{Table}
use Rattle.nr_board.specs.Meetings.{Known}
use Rattle.nr_map.specs.Tickets.{Request}
use Rattle.nr_trigger.specs.declared.post.Post.{Post}
use Rattle.nr_trigger.specs.declared.post.Upquery.{Upquery}

-- what a ticket names
abbrev pub upquery_of : Request → Upquery
upquery_of ticket = record { key = ticket.key; number = ticket.number }

-- what each post of one poster has, in their order
abbrev pub part_of : {A : Type 0} → (Post → A) → ℕ → List Post → List A
part_of has number [] = []
part_of has number (post ∷ posts) =
    cond (nat_eq post.poster number) (has post ∷ part_of has number posts) (part_of has number posts)

-- the upqueries of one poster, in their order
abbrev pub part : ℕ → List Post → List Upquery
part = part_of (λ post. post.upquery)

-- the note that went with each of them, if one did
abbrev pub notes_part : ℕ → List Post → List (Option Known)
notes_part = part_of (λ post. post.note)

-- what may go through a queue
pub record Limits : Type 0 where
  -- a number above each key
  pub keys : ℕ
  -- the map whose notes may go along, if any may
  pub map : Option Table

-- the limits of a queue that carries no notes, and of one for a map
abbrev pub without_notes : ℕ → Limits
without_notes keys = record { keys = keys; map = None }

abbrev pub of_map : Table → Limits
of_map map = record { keys = map.shape.keys; map = Some map }

-- there is no note, or it is one of the map's
abbrev pub IsNoteOf : Option Table → Option Known → Type 0
IsNoteOf map None = Unit {0}
IsNoteOf map (Some note) = map ≡ Some note.table

-- the post is within the limits, or each post is
abbrev pub MayGo : Limits → Post → Type 0
MayGo limits post = (post.upquery.key < limits.keys) × IsNoteOf limits.map post.note

abbrev pub MayAllGo : Limits → List Post → Type 0
MayAllGo limits [] = Unit {0}
MayAllGo limits (post ∷ posts) = MayGo limits post × MayAllGo limits posts
