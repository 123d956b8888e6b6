use Rattle.std.proofs.Common.{ap, sym, ◌∙◌}
use Rattle.nr_board.proofs.BoardPlaces.{key_in, stands}
use Rattle.nr_board.proofs.Notes.{loaded_token, loads_so}
use Rattle.nr_board.specs.Callers.{Table}
use Rattle.nr_board.specs.Views.{View}
use Rattle.nr_board.proofs.board.Board.load_key.Goals as goal

pub load-requires : goal.load-requires
load-requires c = let shared = c.self.inside.table.shared in let seat = c.args.seat.now in (
  ap (λ (t : Table). t.id) (c.requires.own ∙ sym c.self.view_is),
  key_in (stands c.self.view_is c.self.invariant) c.requires.key,
  loads_so shared.key.shape shared.table_id.slots seat.id seat.me c.args.key,
)

pub returns : goal.returns
returns c =
    record {
      step = loaded_token c.args.seat.now c.load.new.seat c.args.key c.load.result c.load.ensures.0 c.load.ensures.2;
      role = ap (λ (v : View). v.role) c.load.ensures.2;
      says = ap (λ (v : View). v.says) c.load.ensures.2;
    }
