use Rattle.std.proofs.Common.{ap, arith, get_or, sym, ℕ, ◌+◌, ◌-◌, ◌∙◌, ◌≡◌}
use Rattle.nr_core.specs.Slots.{content}
use Rattle.nr_core.specs.declared.shape.Shape.{Shape}
use Rattle.nr_words.specs.SetWords.{encode}
use Rattle.nr_board.proofs.BoardPlaces.{content_at, content_fits, content_in, own_shape, same_id, stands}
use Rattle.nr_board.proofs.ReaderSeats.{read_seat}
use Rattle.nr_board.proofs.ReaderSteps.{reads_so}
use Rattle.nr_board.proofs.Rows.{length-encode}
use Rattle.nr_board.specs.Callers.{Table}
use Rattle.nr_core.specs.Marks.{gripped}
use Rattle.nr_board.specs.Views.{grip_of, rows_held, slot_held}
use Rattle.nr_board.proofs.board.Board.read.Goals as goal

pub overflow_add-place : goal.overflow_add-place
overflow_add-place c =
    let board = stands c.self.view_is c.self.invariant in
    let reader = c.requires.reader in
    let words = length-encode (rows_held c.args.seat.now.me.0.role) in
    record {
      fits = content_fits board (slot_held c.args.seat.now.me.0.role) reader.holds.inside c.args.begin
          c.args.index reader.begin_is (omega (arith, c.requires.index, reader.holds.row_set.1));
    }

pub load-requires : goal.load-requires
load-requires c =
    let shared = c.self.inside.table.shared in
    let board = stands c.self.view_is c.self.invariant in
    let seat = c.args.seat.now in
    let reader = c.requires.reader in
    let words = length-encode (rows_held seat.me.0.role) in
    let slot : ℕ = slot_held seat.me.0.role in
    let index : ℕ = c.args.index in
    let place = content_at board slot reader.holds.inside c.args.begin index reader.begin_is in (
      same_id reader.own c.self.view_is,
      content_in board slot reader.holds.inside c.args.begin index reader.begin_is
          (omega (arith, c.requires.index, reader.holds.row_set.1)),
      rw place (reads_so shared.key.shape shared.table_id.slots seat.id seat.me index reader.holds.is
          (omega (arith, reader.holds.inside, ap (λ (s : Shape). s.slots) board.key_is))
          (omega (arith, words, c.requires.index, reader.holds.row_set.1, ap (λ (s : Shape). s.rows) board.key_is))
          c.requires.index (own_shape board reader.own)),
    )

pub returns : goal.returns
returns c =
    let before = c.args.seat.now in
    let told = c.load.ensures.2 in
    let index : ℕ = c.args.index in
    let reader = c.requires.reader in
    let shape_is = ap (λ (t : Table). t.shape) reader.own in let slot : ℕ = slot_held before.me.0.role in
    let back : c.args.begin + c.args.index - content before.me.0.shape slot 0 ≡ index
    = ap (λ (s : Shape). c.args.begin + c.args.index - content s slot 0) shape_is
    ∙ omega (arith, reader.begin_is) in
    let still
    = read_seat c.args.self.now before c.load.new.seat c.load.ensures.0 c.args.begin (c.args.begin + c.args.index)
    c.load.result reader told in
    record {
      value = told.value ∙ ap (λ (i : ℕ). get_or (encode (rows_held before.me.0.role)) i 0) back;
      reader = still.0;
      rows = still.1;
      rests = still.2;
      hold = (λ j. gripped (grip_of (told.hold j))) ∙ sym (λ j. gripped (grip_of (reader.holds.is j)));
      marks = told.marks;
      says = told.says;
    }
