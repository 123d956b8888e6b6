use Rattle.std.proofs.Common.{[], ◌∷◌}
use Rattle.nr_words.specs.KeyWords.{slot_of}
use Rattle.nr_board.specs.Holds.{last_named}
use Rattle.nr_board.proofs.Holding.{takes_two, then_arrives}
use Rattle.nr_board.proofs.board.Board.hold_newer.Goals as goal

pub returns-in-Ok : goal.returns-in-Ok
returns-in-Ok
    c = λ first apart.
    record {
      steps = 3;
      named = last_named (slot_of c.args.word) c.in-Ok.answer ∷ [];
      takes = takes_two first (slot_of c.args.word) apart c.in-Ok.answer c.in-Ok.ensures.0;
      answered = c.in-Ok.ensures.1;
    }

pub returns : goal.returns
returns c =
    then_arrives c.args.self.now c.args.key c.args.word c.in_default.field-0 c.args.seat.now c.try_word.new.seat
    c.in_default.ensures c.clear.new.seat c.hold_by_count.new.seat c.hold_by_count.result
    c.clear.ensures.rests c.clear.ensures.marks c.hold_by_count.ensures
