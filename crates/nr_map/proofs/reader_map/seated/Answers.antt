use Rattle.std.proofs.Common.{ap, arith, replicate, ◌∙◌}
use Rattle.nr_core.specs.declared.shape.Shape.{Shape}
use Rattle.nr_core.specs.Marks.{opening_marks}
use Rattle.nr_map.specs.Opened.{newcomer}
use Rattle.nr_board.specs.Callers.{Caller, caller_of}
use Rattle.std.proofs.lemmas.Option.{get_or_from_slice_get}
use Rattle.nr_map.proofs.reader_map.seated.Goals as goal

pub returns : goal.returns
returns c = let board = c.in_ok-board.board in let seated = c.in_ok-readers.ensures in record {
  sizes = c.in_ok-board.ensures.board.0;
  words_are = c.in_ok-board.ensures.board.1;
  writes =
      c.in_ok-writer.ensures ∙ (λ j. caller_of (seated.own j) (seated.view j))
      ∙ ap
      (λ (s : Shape).
      record (newcomer board 0 (opening_marks s)) {
        numbers = replicate s.keys s.first_number;
        heard = replicate s.slots 0;
      })
      c.in_ok-board.ensures.board.0;
  count = seated.count;
  reads = seated.reads;
  own = λ place other low. ap (λ (reader : Caller). reader.table)
      (get_or_from_slice_get c.in_ok-readers.readers.items place _ other
      (seated.reads place (omega (arith, low, seated.count))));
}
