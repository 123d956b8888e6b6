-- Calls for each of a list, one after another.
use Rattle.std.specs.Prelude.{◌≡◌, List, [], ◌∷◌}

-- by a call for each, on what the calls before it left, the ones became the others
abbrev pub InTurn : {State One : Type 0} → (State → One → State → One → Type 0) → State → List One → State → List One
    → Type 0
InTurn call old [] new [] = new ≡ old
InTurn {State = State} call old (one ∷ ones) new (done ∷ others) =
    (next : State) × call old one next done × InTurn call next ones new others
InTurn call old _ new _ = ⊥
