-- A script from its first line on: closed until it is opened; its reply to each line, and its text.
use Rattle.std.specs.Prelude.{ℕ, if◌then◌else◌, Bool, false, List, Option, None, Some, Result, Ok, Err}
use Rattle.nr_text.specs.declared.fault.RunFault.{RunFault}
use Rattle.nr_text.specs.declared.fault.RunFault.TheVariants as faults
use Rattle.nr_text.specs.Dialogue.{answer_command, in_words}
use Rattle.nr_text.specs.Plain.{or_bad}
use Rattle.nr_text.specs.Text.{text}
use Rattle.nr_text.specs.Grammar.{words}
use Rattle.nr_text.specs.Opening.{is_in_limits}
use Rattle.nr_script.specs.Answers.{Answer}
use Rattle.nr_script.specs.Answers as answers
use Rattle.nr_script.specs.declared.answer.ScriptRefusal.{ScriptRefusal}
use Rattle.nr_script.specs.declared.answer.ScriptRefusal.TheVariants as refusals
use Rattle.nr_script.specs.declared.command.Command.{Command}
use Rattle.nr_script.specs.declared.command.Command.TheVariants.{Open}
use Rattle.nr_script.specs.declared.machine.ScriptMachine.{ScriptMachine}
use Rattle.nr_script.specs.Commands.{script_command}
use Rattle.nr_script.specs.Opened.{Opened, opened_script, answer_opened_script, adds_by}
use Rattle.nr_script.specs.Spelling.{spelled_by_script}

-- a script, which begins closed
abbrev pub ScriptState : Type 0
ScriptState = Option Opened

abbrev pub closed_script : ScriptState
closed_script = None

-- each command of a script that is closed
abbrev pub answer_closed_script : Command → Result Answer ScriptRefusal × ScriptState
answer_closed_script (Open named sizes) =
    if is_in_limits sizes then (Ok answers.Ok, Some (opened_script named sizes)) else (Err refusals.Bad, None)
answer_closed_script other = (Err refusals.Closed, None)

-- to a command, or to a line that spells none
abbrev pub answer_script_command : ScriptState → Option Command → Result Answer ScriptRefusal × ScriptState
answer_script_command = answer_command (Err refusals.Bad) answer_closed_script answer_opened_script

abbrev pub answer_script_line : ScriptState → List ℕ → Result Answer ScriptRefusal × ScriptState
answer_script_line state line = answer_script_command state (script_command (words line))

-- what a line asks for takes memory: the map that it opens, or the name that it adds
abbrev pub takes_memory : ScriptState → Option Command → Bool
takes_memory state None = false
takes_memory None (Some (Open named sizes)) = is_in_limits sizes
takes_memory None (Some other) = false
takes_memory (Some script) (Some command) = adds_by script command

-- the reply to a plain line, and the state after it
abbrev pub script_reply : ScriptState → List ℕ → List ℕ × ScriptState
script_reply state line = in_words spelled_by_script (answer_script_line state line)

-- what a script writes for its lines
abbrev pub script_text : List (List ℕ) → List ℕ
script_text lines = text (or_bad script_reply) closed_script lines

-- what a run over bytes in memory comes to, by how it ended and what it wrote: these are read without a fault
abbrev pub replies_of : {X : Type 0} → Result (Unit {0}) RunFault → X → Result X RunFault
replies_of (Ok _) text = Ok text
replies_of (Err faults.TooMuch) text = Err faults.TooMuch
replies_of (Err other) text = Err faults.Memory

-- what the program keeps of a script
abbrev pub script_state : ScriptMachine → ScriptState
script_state machine = machine.opened
