-- An opened schedule: what each command does to the step machine, and what it is answered.
use Rattle.std.specs.Prelude.{ℕ, ◌≤◌, if◌then◌else◌, List, Option, None, Some, Result, Ok, Err}
use Rattle.nr_model.specs.declared.rows.Row.{Row}
use Rattle.nr_core.specs.declared.shape.Shape.{Shape}
use Rattle.nr_core.specs.declared.calls.Refusal.{Refusal}
use Rattle.nr_core.specs.declared.calls.WriterCall.{WriterCall}
use Rattle.nr_core.specs.declared.calls.WriterCall.TheVariants as calls
use Rattle.nr_core.specs.Refusals.{has_key}
use Rattle.nr_core.specs.States as machine
use Rattle.nr_core.specs.States.{number_at}
use Rattle.nr_core.specs.Machine.{next_state, arrive_answer, read_answer, depart_answer, ask_answer}
use Rattle.nr_core.specs.Machine.{find_again_answer, start_answer, go_answer}
use Rattle.nr_text.specs.Opening.{shape_of_opening}
use Rattle.nr_text.specs.Grammar.{within}
use Rattle.nr_text.specs.declared.limits.TheConstants.{MAX_KEYS, MAX_READERS}
use Rattle.nr_text.specs.declared.opening.Opening.{Opening}
use Rattle.nr_prog.specs.declared.schedule.command.Command.{Command}
use Rattle.nr_prog.specs.declared.schedule.command.Command.TheVariants.{Open, Arrive, Read, Depart, Ask, Again, Find}
use Rattle.nr_prog.specs.declared.schedule.command.Command.TheVariants.{Fill, FillAs, Update, Replace, Evict, Cancel}
use Rattle.nr_prog.specs.declared.schedule.command.Command.TheVariants.{Go}
use Rattle.nr_prog.specs.declared.schedule.answer.StepAnswer.{StepAnswer}
use Rattle.nr_prog.specs.declared.schedule.answer.StepAnswer.TheVariants as answers
use Rattle.nr_prog.specs.declared.schedule.answer.StepRefusal.{StepRefusal}
use Rattle.nr_prog.specs.declared.schedule.answer.StepRefusal.TheVariants as refusals

-- what a command is answered, or why it is refused, and the machine after it
abbrev pub ScheduleOutcome : Type 0
ScheduleOutcome = Result StepAnswer StepRefusal × machine.State

-- an answer of the machine's, or its refusal
abbrev pub by_machine : {A : Type 0} → (A → StepAnswer) → Result A Refusal → Result StepAnswer StepRefusal
by_machine answer (Ok given) = Ok (answer given)
by_machine answer (Err why) = Err (refusals.Refused why)

-- the writer begins a call
abbrev pub start : machine.State → WriterCall → ScheduleOutcome
start state call = (by_machine answers.Writer (start_answer state call), next_state state (machine.Start call))

-- with too many rows it is no call
abbrev pub start_with : machine.State → (List Row → WriterCall) → Option (List Row) → ScheduleOutcome
start_with state call (Some rows) = start state (call rows)
start_with state call None = (Err refusals.TooMany, state)

-- the number of a key as it stands; a key that isn't there has none, and its fill is refused whatever it names
abbrev pub number_now : machine.State → ℕ → ℕ
number_now state key = if has_key state.shape key then number_at state.desk key else 0

-- each command at an opened machine
abbrev pub answer_opened_schedule : machine.State → Command → ScheduleOutcome
answer_opened_schedule state (Open opening) = (Err refusals.Bad, state)
answer_opened_schedule state (Arrive reader key) =
    (by_machine answers.Arrived (arrive_answer state reader key), next_state state (machine.Arrive reader key))
answer_opened_schedule state (Read reader index) =
    (by_machine answers.Word (read_answer state reader index), next_state state (machine.Read reader index))
answer_opened_schedule state (Depart reader) =
    (by_machine (λ _. answers.Ok) (depart_answer state reader), next_state state (machine.Depart reader))
answer_opened_schedule state (Ask reader key) =
    (by_machine answers.Asked (ask_answer state reader key), next_state state (machine.Ask reader key))
answer_opened_schedule state (Again reader key) =
    (by_machine answers.Again (find_again_answer state reader key), next_state state (machine.FindAgain reader key))
answer_opened_schedule state (Find key) = start state (calls.Find key)
answer_opened_schedule state (Fill key rows) =
    start_with state (calls.Fill key (number_now state key)) (within state.shape.rows rows)
answer_opened_schedule state (FillAs key number rows) =
    start_with state (calls.Fill key number) (within state.shape.rows rows)
answer_opened_schedule state (Update key batch) = start state (calls.Update key batch)
answer_opened_schedule state (Replace key rows) = start_with state (calls.Replace key) (within state.shape.rows rows)
answer_opened_schedule state (Evict key) = start state (calls.Evict key)
answer_opened_schedule state (Cancel key) = start state (calls.Cancel key)
answer_opened_schedule state Go = (by_machine answers.Writer (go_answer state), next_state state machine.Go)

abbrev pub opened_schedule : Opening → machine.State
opened_schedule opening = machine.opening_state (shape_of_opening opening)

-- the keys and readers of a machine that was opened are within their limits
abbrev pub IsLimited : Shape → Type 0
IsLimited shape = (shape.keys ≤ MAX_KEYS) × (shape.readers ≤ MAX_READERS)
