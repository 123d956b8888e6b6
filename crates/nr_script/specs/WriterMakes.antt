-- A call of the writer, by its answer.
use Rattle.std.specs.Prelude.{◌≡◌, ℕ, List, false}
use Rattle.nr_model.specs.declared.rows.Row.{Row}
use Rattle.nr_model.specs.declared.calls.Call.{Call}
use Rattle.nr_model.specs.declared.calls.Reply.{Reply}
use Rattle.nr_model.specs.declared.calls.Reply.TheVariants as reply
use Rattle.nr_model.specs.Histories.{is_done}
use Rattle.nr_core.specs.declared.calls.NoSlot.{NoSlot}
use Rattle.nr_board.specs.WriterAnswers.{HasNoSlot, Publishes}
use Rattle.nr_board.specs.Callers.{Caller, Gains}
use Rattle.nr_script.specs.Answers.{Answer}
use Rattle.nr_script.specs.Answers as answers

-- a reply but Done
pub record Replies (call : Call) (old new : Caller) (reply' : Reply) : Type 0 where
  pub steps : ℕ
  pub quiet : is_done reply' ≡ false
  pub gains : Gains steps call old new reply'

pub record PutsSet (call : Call) (old new : Caller) : Type 0 where
  pub steps : ℕ
  pub rows : List Row
  pub publishes : Publishes steps call rows old new

pub record EndsWithoutSlot (call : Call) (old new : Caller) : Type 0 where
  pub steps : ℕ
  pub counts : NoSlot
  pub lacks : HasNoSlot steps call old new counts

abbrev pub WriterMakes : Call → Caller → Caller → Answer → Type 0
WriterMakes call old new answers.Ok = ⊥
WriterMakes call old new answers.Other = ⊥
WriterMakes call old new answers.NoSlot = EndsWithoutSlot call old new
WriterMakes call old new (answers.Reply reply.Done) = PutsSet call old new
WriterMakes call old new (answers.Reply other) = Replies call old new other
