-- What the find of a reader that heard a note finds.
use Rattle.std.proofs.Common.{◌+◌, ◌*◌, ◌<◌, List, [], length, append-nil, refl, sym}
use Rattle.nr_model.specs.declared.rows.Row.{Row}
use Rattle.nr_model.specs.declared.calls.Reply.TheVariants as reply
use Rattle.nr_board.specs.declared.answers.Found.{Found}
use Rattle.nr_board.specs.declared.answers.Found.TheVariants as found
use Rattle.nr_board.specs.Callers.{Caller}
use Rattle.nr_board.specs.Meetings.{HearsNote, Known}
use Rattle.nr_map.specs.Answers.{FindsKey}
use Rattle.nr_map.specs.Written.{FindsAfter, FindsWhatItHeard, HeardBefore, answered}

module _ (law : FindsWhatItHeard) (old heard new : Caller) (note : Known) (hears : HearsNote 1 note old heard)
    (near : 0 < old.table.shape.keys) where
  just_heard : HeardBefore note old heard
  just_heard =
      record {
        steps = 1;
        heard = heard;
        hears = hears;
        table = refl;
        seen = record { rest = []; is = sym (append-nil heard.seen) };
      }

  pub finds_after : (answer : Found) (before rows : List Row) → FindsKey 0 heard before new rows answer
      → FindsAfter old.table 0 note.seen (answered answer rows)
  finds_after found.Rows before rows finds first since put is puts =
      let told
      = law old heard new note first since put 0 (finds.steps + (2 * length rows + 1)) (reply.Rows rows) near is
      puts just_heard finds.gains in
      (told.0, told.2)
  finds_after found.Hole before rows finds first since put is puts =
      let told
      = law old heard new note first since put 0 (finds.0.steps + 0) reply.Hole near is puts just_heard
      finds.0.gains in
      (told.0, told.2)
