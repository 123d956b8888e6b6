-- The answer that is said, with the rows that lie elsewhere.
use Rattle.nr_model.specs.declared.calls.Reply.TheVariants as reply
use Rattle.nr_script.specs.Answers.{Answer}
use Rattle.nr_script.specs.Answers as answers
use Rattle.nr_script.specs.declared.alone.answer.Said.{Said}
use Rattle.nr_script.specs.declared.alone.answer.Said.TheVariants as said

abbrev pub answer_said : Said → Answer
answer_said said.Ok = answers.Ok
answer_said (said.Rows rows) = answers.Reply (reply.Rows rows.now)
answer_said said.Hole = answers.Reply reply.Hole
answer_said (said.Send number) = answers.Reply (reply.Send number)
answer_said said.Waiting = answers.Reply reply.Waiting
answer_said said.Filled = answers.Reply reply.Filled
answer_said said.Done = answers.Reply reply.Done
answer_said said.NotAsked = answers.Reply reply.NotAsked
answer_said said.Stale = answers.Reply reply.Stale
answer_said said.Already = answers.Reply reply.Already
answer_said said.Dropped = answers.Reply reply.Dropped
answer_said said.NoRow = answers.Reply reply.NoRow
answer_said said.TooMany = answers.Reply reply.TooMany
answer_said said.Evicted = answers.Reply reply.Evicted
answer_said said.Nothing = answers.Reply reply.Nothing
answer_said said.Cancelled = answers.Reply reply.Cancelled
answer_said said.Worn = answers.Reply reply.Worn
answer_said said.Other = answers.Other
answer_said said.NoSlot = answers.NoSlot
