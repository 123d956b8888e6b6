-- How the answers to a schedule's lines are spelled.
use Rattle.std.specs.Prelude.{ℕ, Bool, true, false, List, ◌∷◌, ◌++◌, codes, Result, Ok, Err}
use Rattle.std.specs.Fmt.{decimal}
use Rattle.nr_core.specs.declared.calls.Arrived.{Arrived}
use Rattle.nr_core.specs.declared.calls.Arrived.TheVariants as arrived
use Rattle.nr_core.specs.declared.calls.AskReply.{AskReply}
use Rattle.nr_core.specs.declared.calls.AskReply.TheVariants as asked
use Rattle.nr_core.specs.declared.calls.Step.{Step}
use Rattle.nr_core.specs.declared.calls.Step.TheVariants.{Going, Ended}
use Rattle.nr_core.specs.declared.calls.WReply.TheVariants as ended
use Rattle.nr_core.specs.declared.calls.Refusal.{Refusal}
use Rattle.nr_core.specs.declared.calls.Refusal.TheVariants.{Holding, NotHolding, Busy, NotBusy, OutOfRange}
use Rattle.nr_prog.specs.declared.schedule.answer.StepAnswer.{StepAnswer}
use Rattle.nr_prog.specs.declared.schedule.answer.StepAnswer.TheVariants as answer
use Rattle.nr_prog.specs.declared.schedule.answer.StepRefusal.{StepRefusal}
use Rattle.nr_prog.specs.declared.schedule.answer.StepRefusal.TheVariants as refusal
use Rattle.nr_text.specs.Spelling.{spelled_reply}

abbrev pub spelled_arrived : Arrived → List ℕ
spelled_arrived arrived.Held = codes "held"
spelled_arrived arrived.Hole = codes "hole"

abbrev pub spelled_asked : AskReply → List ℕ
spelled_asked (asked.Send number) = codes "send"
spelled_asked asked.Waiting = codes "waiting"
spelled_asked asked.Filled = codes "filled"

-- whether the key has the set that the reader holds
abbrev pub spelled_again : Bool → List ℕ
spelled_again true = codes "same"
spelled_again false = codes "other"

-- the writer's call goes on, or has ended: with no slot, the live number and the held number
abbrev pub spelled_step : Step → List ℕ
spelled_step Going = codes "-"
spelled_step (Ended (ended.Reply reply)) = spelled_reply reply
spelled_step (Ended (ended.NoSlot counts)) = codes "no-slot" ++ 32 ∷ (decimal counts.live ++ 32 ∷ decimal counts.held)

abbrev pub spelled_schedule_answer : StepAnswer → List ℕ
spelled_schedule_answer answer.Ok = codes "ok"
spelled_schedule_answer (answer.Arrived found) = spelled_arrived found
spelled_schedule_answer (answer.Word word) = decimal word
spelled_schedule_answer (answer.Asked reply) = spelled_asked reply
spelled_schedule_answer (answer.Again same) = spelled_again same
spelled_schedule_answer (answer.Writer step) = spelled_step step

-- the machine's refusals
abbrev pub spelled_refused : Refusal → List ℕ
spelled_refused Holding = codes "holding"
spelled_refused NotHolding = codes "not-holding"
spelled_refused Busy = codes "busy"
spelled_refused NotBusy = codes "not-busy"
spelled_refused OutOfRange = codes "out-of-range"

abbrev pub spelled_schedule_refusal : StepRefusal → List ℕ
spelled_schedule_refusal refusal.Bad = codes "bad"
spelled_schedule_refusal refusal.Closed = codes "closed"
spelled_schedule_refusal refusal.TooMany = codes "too-many"
spelled_schedule_refusal (refusal.Refused why) = spelled_refused why

-- an answer, or why there is none
abbrev pub spelled_by_schedule : Result StepAnswer StepRefusal → List ℕ
spelled_by_schedule (Ok answer) = spelled_schedule_answer answer
spelled_by_schedule (Err why) = spelled_schedule_refusal why
