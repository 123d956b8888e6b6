-- Schedules as runs of the step machine: the events that their lines spell, and the law that ties the two.
use Rattle.std.specs.Prelude.{ℕ, ◌≡◌, true, if◌then◌else◌, fold, List, [], ◌∷◌, ◌++◌, Option, None, Some}
use Rattle.nr_model.specs.declared.rows.Row.{Row}
use Rattle.nr_core.specs.declared.calls.WriterCall.{WriterCall}
use Rattle.nr_core.specs.declared.calls.WriterCall.TheVariants as calls
use Rattle.nr_core.specs.States.{State, Event, Arrive, Read, Depart, Ask, FindAgain, Start, Go}
use Rattle.nr_core.specs.Machine.{next_state, run}
use Rattle.nr_core.specs.Slots.{bound_of}
use Rattle.nr_core.specs.Sizes.{IsShape}
use Rattle.nr_core.specs.Laws.{AllGiven}
use Rattle.nr_text.specs.declared.opening.Opening.{Opening}
use Rattle.nr_prog.specs.declared.schedule.command.Command.{Command}
use Rattle.nr_prog.specs.declared.schedule.command.Command.TheVariants as commands
use Rattle.nr_prog.specs.ScheduleCommands.{schedule_command}
use Rattle.nr_text.specs.Grammar.{within, words}
use Rattle.nr_text.specs.Opening.{is_in_limits, shape_of_opening}
use Rattle.nr_prog.specs.ScheduleMachine.{schedule_reply}
use Rattle.nr_prog.specs.ScheduleOpened.{number_now, opened_schedule}
use Rattle.nr_text.specs.Plain.{is_plain, or_bad}
use Rattle.nr_text.specs.Text.{after_lines}

-- the event of a command, where it is one of the machine's; a fill that names no number has that of its key as it
-- stands
abbrev pub event_with : (List Row → WriterCall) → Option (List Row) → List Event
event_with call (Some rows) = Start (call rows) ∷ []
event_with call None = []

abbrev pub event_of : State → Command → List Event
event_of state (commands.Open opening) = []
event_of state (commands.Arrive reader key) = Arrive reader key ∷ []
event_of state (commands.Read reader index) = Read reader index ∷ []
event_of state (commands.Depart reader) = Depart reader ∷ []
event_of state (commands.Ask reader key) = Ask reader key ∷ []
event_of state (commands.Again reader key) = FindAgain reader key ∷ []
event_of state (commands.Find key) = Start (calls.Find key) ∷ []
event_of state (commands.Fill key rows) =
    event_with (calls.Fill key (number_now state key)) (within state.shape.rows rows)
event_of state (commands.FillAs key number rows) = event_with (calls.Fill key number) (within state.shape.rows rows)
event_of state (commands.Update key batch) = Start (calls.Update key batch) ∷ []
event_of state (commands.Replace key rows) = event_with (calls.Replace key) (within state.shape.rows rows)
event_of state (commands.Evict key) = Start (calls.Evict key) ∷ []
event_of state (commands.Cancel key) = Start (calls.Cancel key) ∷ []
event_of state commands.Go = Go ∷ []

abbrev pub event_if : State → Option Command → List Event
event_if state None = []
event_if state (Some command) = event_of state command

-- the event that a line spells at a machine, if it spells one
abbrev pub line_event : State → List ℕ → List Event
line_event state line = if is_plain line then event_if state (schedule_command (words line)) else []

-- the events that lines spell, one line after the other
abbrev pub events : State → List (List ℕ) → List Event
events state [] = []
events state (line ∷ more) = line_event state line ++ events (fold next_state state (line_event state line)) more

-- Whatever its lines are, an opened schedule is the run of the events that they spell: the laws over all lists of
-- events speak of it.
abbrev pub ScheduleRuns : Type 0
ScheduleRuns = (opening : Opening) (lines : List (List ℕ)) → is_in_limits opening ≡ true
    → IsShape (shape_of_opening opening)
    × AllGiven (bound_of (shape_of_opening opening)) (events (opened_schedule opening) lines)
    × (after_lines (or_bad schedule_reply) (Some (opened_schedule opening)) lines
    ≡ Some (run (shape_of_opening opening) (events (opened_schedule opening) lines)))
