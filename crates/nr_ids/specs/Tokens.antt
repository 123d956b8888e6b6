-- What contracts see of a token, and what a call adds to it.
use Rattle.std.specs.Prelude.{◌≡◌, ◌≢◌, ℕ, ◌+◌, ◌<◌, true, false, List, [], ◌∷◌, ◌++◌, length}
use Rattle.atomic_table.specs.Seated.{TableId}
use Rattle.atomic_table.specs.Table.{Me}
use Rattle.atomic_table.specs.declared.shared.Seat.{Seat}
use Rattle.nr_ids.specs.declared.plan.Plan.{Plan}
use Rattle.nr_ids.specs.Groups.{ways}
use Rattle.nr_ids.specs.Events.{Event, claimed, own, looks, name_of, IsAbsent, IsLegal}
use Rattle.nr_ids.specs.Rule.{View, BeginsWith}

-- which directory it is, and what it was opened with
pub record Opened : Type 0 where
  pub id : TableId
  pub plan : Plan

pub record Token : Type 0 where
  pub directory : Opened
  -- 0 is the clerk, the others are the readers
  pub number : ℕ
  -- how many readers the clerk has made
  pub made : ℕ
  -- the events that it knows, newest first
  pub seen : List Event
  -- its atomic steps since the opening
  pub steps : ℕ

abbrev pub view_in : Me ℕ View → View
view_in (view, _) = view

abbrev pub carried_in : Me ℕ View → List (ℕ × ℕ)
carried_in (_, carried) = carried

-- what a seat's token knows, and the table's slots that it carries
abbrev pub view_of : Seat ℕ View → View
view_of seat = view_in seat.me

abbrev pub carried_by : Seat ℕ View → List (ℕ × ℕ)
carried_by seat = carried_in seat.me

abbrev pub token_by : TableId → View → Token
token_by id view =
    record {
      directory = record { id = id; plan = view.plan };
      number = view.number;
      made = view.made;
      seen = view.seen;
      steps = view.steps;
    }

abbrev pub token : Seat ℕ View → Token
token seat = token_by seat.table_id (view_of seat)

-- the seat is a caller's of this directory
pub record Sits (directory : Opened) (seat : Seat ℕ View) : Type 0 where
  pub own : (token seat).directory ≡ directory
  pub calls : (view_of seat).calls ≡ true
  pub legal : IsLegal directory.plan (view_of seat).seen

-- the seat is a note's, which makes no steps and carries nothing
abbrev pub IsNote : Seat ℕ View → Type 0
IsNote seat = ((view_of seat).calls ≡ false) × (carried_by seat ≡ [])

-- a token that has made no step and seen nothing
abbrev pub fresh_token : Opened → ℕ → Token
fresh_token directory number = record { directory = directory; number = number; made = 0; seen = []; steps = 0 }

-- the token counts so many steps, or one, and is else as it was
abbrev pub with_steps : ℕ → Token → Token
with_steps steps token = record token { steps = token.steps + steps }

abbrev pub with_step : Token → Token
with_step token = with_steps 1 token

-- the newest event that a token knows is its last step; without a step it knows what it knew
abbrev pub Newest : List Event → List Event → List Event → Type 0
Newest [] old new = new ≡ old
Newest (act ∷ acts) old new = (before : List Event) × (new ≡ act ∷ before)

-- the token's own steps were just these, newest first; it knows a legal list of events, which begins with all that it
-- knew
pub record Grows (acts : List Event) (old new : Token) : Type 0 where
  pub directory : new.directory ≡ old.directory
  pub number : new.number ≡ old.number
  pub made : new.made ≡ old.made
  pub rest : List Event
  pub seen : new.seen ≡ rest ++ old.seen
  pub acts_are : own old.number rest ≡ acts
  pub newest : Newest acts old.seen new.seen
  pub legal : IsLegal old.directory.plan new.seen
  pub steps : new.steps ≡ old.steps + length acts

-- a moment within a call: after its first step, and no later than its last
pub record Within (old new : Token) (moment : List Event) : Type 0 where
  pub since : List Event
  pub from : moment ≡ since ++ old.seen
  pub begun : own old.number since ≢ []
  pub later : List Event
  pub until : new.seen ≡ later ++ moment

-- the way has that name at the last event that the token knows
pub record HasName (token : Token) (way id : ℕ) : Type 0 where
  pub inside : way < ways token.directory.plan
  pub has : name_of token.seen way ≡ id

-- the clerk made a reader
abbrev pub with_reader_made : Token → Token
with_reader_made token = record (with_step token) { made = token.made + 1 }

-- what a note tells
pub record Known : Type 0 where
  pub directory : Opened
  pub seen : List Event

abbrev pub known_to : Token → Known
known_to token = record { directory = token.directory; seen = token.seen }

-- after these steps a claim was granted to the token, at its last step: then the id had no way
pub record WinsClaim (id : ℕ) (acts : List Event) (old new : Token) : Type 0 where
  pub grows : Grows (claimed old.number id ∷ acts) old new
  pub before : List Event
  pub last : new.seen ≡ claimed old.number id ∷ before
  pub absent : IsAbsent before id

-- the token took a note in, and then by one look knew all that it knew before and all that the note told
pub record Hears (note : Known) (old new : Token) : Type 0 where
  pub grows : Grows (looks 1 old.number) (with_step old) new
  pub knows : BeginsWith new.seen note.seen

-- what contracts see of a claim
pub record Granted : Type 0 where
  pub directory : Opened
  pub id : ℕ
