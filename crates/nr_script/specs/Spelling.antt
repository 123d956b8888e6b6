-- How answers are spelled.
use Rattle.std.specs.Prelude.{ℕ, List, codes, Result, Ok, Err}
use Rattle.nr_text.specs.Spelling.{spelled_reply}
use Rattle.nr_script.specs.Answers.{Answer}
use Rattle.nr_script.specs.Answers as answer
use Rattle.nr_script.specs.declared.answer.ScriptRefusal.{ScriptRefusal}
use Rattle.nr_script.specs.declared.answer.ScriptRefusal.TheVariants as refusal

abbrev pub spelled_script_answer : Answer → List ℕ
spelled_script_answer answer.Ok = codes "ok"
spelled_script_answer (answer.Reply reply) = spelled_reply reply
spelled_script_answer answer.Other = codes "other"
spelled_script_answer answer.NoSlot = codes "no-slot"

abbrev pub spelled_script_refusal : ScriptRefusal → List ℕ
spelled_script_refusal refusal.Bad = codes "bad"
spelled_script_refusal refusal.Closed = codes "closed"
spelled_script_refusal refusal.NoReader = codes "no-reader"
spelled_script_refusal refusal.NoKey = codes "no-key"
spelled_script_refusal refusal.TooLong = codes "too-long"
spelled_script_refusal refusal.Full = codes "full"
spelled_script_refusal refusal.TooMany = codes "too-many"
spelled_script_refusal refusal.Holding = codes "holding"
spelled_script_refusal refusal.NotHolding = codes "not-holding"

-- an answer, or why there is none
abbrev pub spelled_by_script : Result Answer ScriptRefusal → List ℕ
spelled_by_script (Ok answer) = spelled_script_answer answer
spelled_by_script (Err refusal) = spelled_script_refusal refusal
