use Rattle.std.proofs.Common.{ap}
use Rattle.nr_board.proofs.Gathering.{meets_seat}
use Rattle.nr_board.proofs.board.Board.hear.Goals as goal

pub returns : goal.returns
returns c = let heard = c.hear_note.ensures in
    let told
    = meets_seat c.args.seat.now c.args.other.now c.note-note.result c.hear_note.new.seat c.requires.knows
    (ap (λ me. me.0) c.note-note.ensures.note.1) heard.hears heard.readers in
    record {
      meets = told.0;
      readers = told.1;
      numbers = heard.numbers;
      role = heard.role;
      says = heard.says;
      other = c.note-note.ensures.maker;
    }
