use Rattle.std.proofs.Common.{ap}
use Rattle.nr_core.specs.Slots.{name_number}
use Rattle.nr_board.proofs.BoardPlaces.{key_in, same_id, stands}
use Rattle.nr_board.proofs.Notes.{ahead_token, looks_ahead_so}
use Rattle.nr_board.specs.Views.{View}
use Rattle.nr_board.proofs.board.Board.look_ahead.Goals as goal

pub load-requires : goal.load-requires
load-requires c = let shared = c.self.inside.table.shared in let seat = c.args.seat.now in (
  same_id c.requires.own c.self.view_is,
  key_in (stands c.self.view_is c.self.invariant) c.requires.key,
  looks_ahead_so shared.key.shape shared.table_id.slots seat.id seat.me c.args.key,
)

pub returns : goal.returns
returns c =
    record {
      step = ahead_token c.args.seat.now c.load.new.seat c.args.key (name_number c.load.result) c.load.ensures.0
          c.load.ensures.2;
      role = ap (λ (v : View). v.role) c.load.ensures.2;
      says = ap (λ (v : View). v.says) c.load.ensures.2;
    }
