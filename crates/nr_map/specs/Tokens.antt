-- The token of a reader, whatever it holds.
use Rattle.std.specs.Prelude.{◌≡◌, suc, ◌<◌, ◌^◌}
use Rattle.nr_board.specs.Callers.{KnowsOwn, token}
use Rattle.nr_board.specs.WordPlays.{IsOwn}
use Rattle.nr_board.specs.WriterSeats.{MapSeat}
use Rattle.nr_board.specs.declared.board.Own.{Own}

-- the seat is that reader's, which knows where its own word stands
pub record IsReader (seat : MapSeat) (own : Own) : Type 0 where
  pub number : (token seat).number ≡ suc own.index
  pub few : suc own.index < 2 ^ 32
  pub place : IsOwn (token seat).table own
  pub knows : KnowsOwn (token seat)
