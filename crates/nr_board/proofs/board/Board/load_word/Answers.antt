use Rattle.std.proofs.Common.{ap, arith, sym, ◌∙◌}
use Rattle.nr_board.proofs.BoardPlaces.{stands}
use Rattle.nr_board.proofs.Notes.{loaded_token, loads_so}
use Rattle.nr_board.specs.Callers.{Table}
use Rattle.nr_board.specs.Views.{View}
use Rattle.nr_board.proofs.board.Board.load_word.Goals as goal

pub load-requires : goal.load-requires
load-requires c =
    let shared = c.self.inside.table.shared in
    let seat = c.args.seat.now in
    let board = stands c.self.view_is c.self.invariant in (
      ap (λ (t : Table). t.id) (c.requires.own ∙ sym c.self.view_is),
      omega (arith, c.requires.place, board.size),
      loads_so shared.key.shape shared.table_id.slots seat.id seat.me c.args.place,
    )

pub returns : goal.returns
returns c =
    record {
      step = loaded_token c.args.seat.now c.load.new.seat c.args.place c.load.result c.load.ensures.0 c.load.ensures.2;
      role = ap (λ (v : View). v.role) c.load.ensures.2;
      says = ap (λ (v : View). v.says) c.load.ensures.2;
    }
