use Rattle.std.proofs.Common.{[], ◌∷◌}
use Rattle.nr_words.specs.KeyWords.{slot_of}
use Rattle.nr_board.specs.Holds.{last_named}
use Rattle.nr_board.proofs.Holding.{takes_one, tries_on}
use Rattle.nr_board.proofs.board.Board.hold_named.Goals as goal

pub returns-in-Ok : goal.returns-in-Ok
returns-in-Ok c =
    record {
      steps = 3;
      named = last_named (slot_of c.args.word) c.in-Ok.answer ∷ [];
      takes = takes_one (slot_of c.args.word) c.in-Ok.answer c.in-Ok.ensures.0;
      answered = c.in-Ok.ensures.1;
    }

pub returns-in-Err : goal.returns-in-Err
returns-in-Err c =
    tries_on c.args.self.now c.args.key c.args.word c.in-Err.newer c.args.seat.now c.try_word.new.seat c.in-Err.ensures
    c.hold_newer.new.seat c.hold_newer.result c.hold_newer.ensures
