-- A reader between two calls: whether it holds a set, and how it ends.
use Rattle.std.specs.Prelude.{◌≡◌, IsSome, None}
use Rattle.nr_board.specs.Callers.{Caller}
use Rattle.nr_map.specs.Hands.{Handed, LetsGo, idle}
use Rattle.nr_idmap.specs.IdHands.{IdHanded, LetsGoById, idle_by_id}
use Rattle.nr_idmap.specs.Keepers.{IdCaller}

-- the reader holds nothing, and it holds a set
abbrev pub HoldsNone : Handed → Type 0
HoldsNone hand = hand.key ≡ None

abbrev pub HoldsSome : Handed → Type 0
HoldsSome hand = IsSome hand.key

-- and one by id
abbrev pub HoldsNoId : IdHanded → Type 0
HoldsNoId hand = hand.id ≡ None

abbrev pub HoldsAnId : IdHanded → Type 0
HoldsAnId hand = IsSome hand.id

-- the reader that is left holds nothing: what it held was let go
abbrev pub EndsHand : Handed → Caller → Type 0
EndsHand hand reader = LetsGo hand (idle reader)

abbrev pub EndsIdHand : IdHanded → IdCaller → Type 0
EndsIdHand hand reader = LetsGoById hand (idle_by_id reader)
