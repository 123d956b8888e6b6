use Rattle.nr_map.proofs.Pinning.{pins_hole, pins_key}
use Rattle.nr_map.proofs.reader_map.ReaderMap.pin.Goals as goal

pub returns-in-Some : goal.returns-in-Some
returns-in-Some c =
    pins_key (rw c.self.view_is at c.in-Some.ensures) c.into_token-caller.ensures.token

pub returns-in-None : goal.returns-in-None
returns-in-None c =
    pins_hole c.into_token-caller.ensures.token c.of_token.ensures (rw c.self.view_is at c.in-None.ensures)
