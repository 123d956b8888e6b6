-- The rule of the table: its words show the names, turns, marks and hints after one legal list of events, and each
-- token knows an end of that list.
use Rattle.std.specs.Prelude.{◌≡◌, ℕ, ◌+◌, ◌*◌, ◌<◌, ◌≤◌, Bool, true, false, List, [], ◌++◌, length, slice_index}
use mathlib.Core.Option.{some}
use lib.ListN.{get_elem?}
use Rattle.atomic_table.specs.Table.{State}
use Rattle.nr_ids.specs.declared.plan.Plan.{Plan}
use Rattle.nr_ids.specs.Groups.{IsPlan, ways}
use Rattle.nr_ids.specs.Events.{Event, own, hints_of, marks_of, name_of, turn_of, IsLegal}

-- what a token knows
pub record View : Type 0 where
  pub plan : Plan
  -- whether it makes steps; a note makes none
  pub calls : Bool
  -- 0 is the clerk, the others are the readers
  pub number : ℕ
  -- how many readers the clerk has made
  pub made : ℕ
  -- the events that it knows, and those that a note told it of which it took in last
  pub seen : List Event
  pub told : List Event
  pub steps : ℕ

abbrev pub newcomer : Plan → ℕ → View
newcomer plan number = record { plan = plan; calls = true; number = number; made = 0; seen = []; told = []; steps = 0 }

abbrev pub opener : Plan → View
opener plan = newcomer plan 0

abbrev pub counted : View → View
counted view = record view { steps = view.steps + 1 }

-- the clerk makes a reader
abbrev pub with_reader : View → View
with_reader view = record (counted view) { made = view.made + 1 }

abbrev pub next_reader : View → View
next_reader view = newcomer view.plan (view.made + 1)

-- a note of what a token has seen, or of what it was told last; a token that took one in, and what is left of that
abbrev pub note_of : View → View
note_of view = record { plan = view.plan; calls = false; number = 0; made = 0; seen = view.seen; told = []; steps = 0 }

abbrev pub retold : View → View
retold view = record (note_of view) { seen = view.told }

abbrev pub with_note : View → View → View
with_note view note = record (counted view) { told = note.seen }

abbrev pub spent : View
spent =
    record {
      plan = record { groups = 0; key = 0 };
      calls = false;
      number = 0;
      made = 0;
      seen = [];
      told = [];
      steps = 0;
    }

-- the events began with these
abbrev pub BeginsWith : List Event → List Event → Type 0
BeginsWith log first = (rest : List Event) × (log ≡ rest ++ first)

-- the events that the token knows, and then others'
pub record Later (log : List Event) (view : View) : Type 0 where
  pub rest : List Event
  pub is : log ≡ rest ++ view.seen
  pub quiet : view.calls ≡ true → own view.number rest ≡ []

-- the marks of a group stand behind all names, and its hints beside them
abbrev pub marks_place : Plan → ℕ → ℕ
marks_place plan group = ways plan + 2 * group

abbrev pub hints_place : Plan → ℕ → ℕ
hints_place plan group = ways plan + 2 * group + 1

-- its turn stands behind all of those
abbrev pub turn_place : Plan → ℕ → ℕ
turn_place plan group = ways plan + 2 * plan.groups + group

abbrev pub total : Plan → ℕ
total plan = ways plan + 3 * plan.groups

pub record Shows (plan : Plan) (words : List ℕ) (log : List Event) : Type 0 where
  pub size : length words ≡ total plan
  pub names : (way : ℕ) → way < ways plan → slice_index words way ≡ name_of log way
  pub turns : (group : ℕ) → group < plan.groups → slice_index words (turn_place plan group) ≡ turn_of plan log group
  pub marks : (group : ℕ) → group < plan.groups → slice_index words (marks_place plan group) ≡ marks_of log group
  pub hints : (group : ℕ) → group < plan.groups → slice_index words (hints_place plan group) ≡ hints_of log group

pub record Fits (plan : Plan) (log : List Event) (made : ℕ) (view : View) : Type 0 where
  pub plan_is : view.calls ≡ true → view.plan ≡ plan
  pub later : Later log view
  pub told : BeginsWith log view.told
  pub few : view.calls ≡ true → view.number ≤ made
  pub maker : view.calls ≡ true → view.number ≡ 0 → view.made ≡ made

pub record Kept (plan : Plan) (state : State ℕ View) : Type 0 where
  pub log : List Event
  pub shows : Shows plan state.words log
  pub legal : IsLegal plan log
  pub sizes : IsPlan plan
  pub made : ℕ
  pub fits : (at : ℕ) (view : View) → get_elem? state.views at ≡ some view → Fits plan log made view
  -- no two callers have one number
  pub once : (at other : ℕ) (view twin : View) → get_elem? state.views at ≡ some view
      → get_elem? state.views other ≡ some twin → view.calls ≡ true → twin.calls ≡ true
      → view.number ≡ twin.number → at ≡ other
  -- and a number that no caller has yet has no events
  pub fresh : (number : ℕ) → made < number → own number log ≡ []
