-- What contracts see of a client, and what holds of it between its calls.
use Rattle.std.specs.Prelude.{◌≡◌, ℕ, List, ◌++◌, drop, length}
use Rattle.nr_model.specs.Histories.{Entry}
use Rattle.nr_board.specs.Callers.{Table}
use Rattle.nr_trigger.specs.Tokens.{Queue}
use Rattle.nr_serve.specs.declared.hands.Hands.{Hands}
use Rattle.nr_serve.specs.Counts.{GuestSeen}
use Rattle.nr_serve.specs.Hands.{IsReady, capped}
use Rattle.nr_serve.specs.Tickets.{sent}

pub record ClientSeen (G : Type 0) : Type 0 where
  pub map : Table
  pub queue : Queue
  pub gate : G
  -- its reader's number, by which the gate is told of it
  pub reader : ℕ
  -- what it was opened with
  pub opened : Hands
  pub hands : Hands
  -- what it has seen of the lobby, and did there
  pub guest : GuestSeen
  -- how many gets it has made, up to the last number
  pub gets : ℕ

-- the calls that the reader made since then
abbrev pub since : Hands → Hands → List Entry
since opened hands = drop (length opened.reader.mine) hands.reader.mine

-- the hands are ready, and count the requests that were sent since the opening
pub record IsServing (map : Table) (queue : Queue) (opened hands : Hands) : Type 0 where
  pub ready : IsReady map queue hands
  pub begins : opened.reader.mine ++ since opened hands ≡ hands.reader.mine
  pub counted : hands.sends ≡ capped (length (sent (since opened hands)))
