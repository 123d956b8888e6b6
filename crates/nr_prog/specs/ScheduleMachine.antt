-- A schedule from its first line on: closed until it is opened; its reply to each line, and its text.
use Rattle.std.specs.Prelude.{ℕ, if◌then◌else◌, Bool, false, List, Option, None, Some, Result, Ok, Err}
use Rattle.nr_core.specs.States as machine
use Rattle.nr_text.specs.Dialogue.{answer_command, in_words}
use Rattle.nr_text.specs.Plain.{or_bad}
use Rattle.nr_text.specs.Text.{text}
use Rattle.nr_text.specs.Grammar.{words}
use Rattle.nr_text.specs.Opening.{is_in_limits}
use Rattle.nr_prog.specs.declared.schedule.command.Command.{Command}
use Rattle.nr_prog.specs.declared.schedule.command.Command.TheVariants.{Open}
use Rattle.nr_prog.specs.declared.schedule.answer.StepAnswer.{StepAnswer}
use Rattle.nr_prog.specs.declared.schedule.answer.StepAnswer.TheVariants as answers
use Rattle.nr_prog.specs.declared.schedule.answer.StepRefusal.{StepRefusal}
use Rattle.nr_prog.specs.declared.schedule.answer.StepRefusal.TheVariants as refusals
use Rattle.nr_prog.specs.ScheduleCommands.{schedule_command}
use Rattle.nr_prog.specs.ScheduleOpened.{opened_schedule, answer_opened_schedule}
use Rattle.nr_prog.specs.ScheduleSpelling.{spelled_by_schedule}

-- a schedule's machine, where it was opened
abbrev pub ScheduleState : Type 0
ScheduleState = Option machine.State

abbrev pub closed_schedule : ScheduleState
closed_schedule = None

-- each command of a schedule that is closed
abbrev pub answer_closed_schedule : Command → Result StepAnswer StepRefusal × ScheduleState
answer_closed_schedule (Open opening) =
    if is_in_limits opening then (Ok answers.Ok, Some (opened_schedule opening)) else (Err refusals.Bad, None)
answer_closed_schedule other = (Err refusals.Closed, None)

-- to a command, or to a line that spells none
abbrev pub answer_schedule_command : ScheduleState → Option Command → Result StepAnswer StepRefusal × ScheduleState
answer_schedule_command = answer_command (Err refusals.Bad) answer_closed_schedule answer_opened_schedule

abbrev pub answer_schedule_line : ScheduleState → List ℕ → Result StepAnswer StepRefusal × ScheduleState
answer_schedule_line state line = answer_schedule_command state (schedule_command (words line))

-- the command opens the schedule, which takes memory
abbrev pub opens_schedule : ScheduleState → Option Command → Bool
opens_schedule None (Some (Open opening)) = is_in_limits opening
opens_schedule state other = false

-- the reply to a plain line, and the state after it
abbrev pub schedule_reply : ScheduleState → List ℕ → List ℕ × ScheduleState
schedule_reply state line = in_words spelled_by_schedule (answer_schedule_line state line)

-- what a schedule writes for its lines
abbrev pub schedule_text : List (List ℕ) → List ℕ
schedule_text lines = text (or_bad schedule_reply) closed_schedule lines
