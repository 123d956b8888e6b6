-- Tokens without a handle, which a side keeps: the last of them gets a handle, or one is put back.
use Rattle.std.specs.Prelude.{ℕ, ◌≡◌, ◌⊎◌, List, [], ◌∷◌, ◌++◌}
use Rattle.nr_c.specs.Live.{Turns}
use Rattle.nr_c.specs.Numbers.{answer_done, answer_no_memory}

-- the handle leads to one side, of which so much stays, and these tokens of its have no handle
abbrev pub KeepsSpare : {Side Token : Type 0} → (Side → List Token) → (Side → Side → Type 0) → List Side → List Side
    → List Token → List Token → Type 0
KeepsSpare spare stays before after had has =
    Turns stays (λ old new. (spare old ≡ had) × (spare new ≡ has)) before after

-- no token is without a handle; or the last one without gets one, or for want of memory stays without
abbrev pub TakesLast : {Token : Type 0} → ℕ → (List Token → List Token → Type 0) → (Token → Type 0) → Type 0 → ℕ
    → Type 0
TakesLast {Token = Token} none keeps leads stays code =
    ((code ≡ none) × keeps [] [] × stays)
    ⊎ ((code ≡ answer_done) × (rest : List Token) × (token : Token)
    × keeps (rest ++ token ∷ []) rest × leads token)
    ⊎ ((code ≡ answer_no_memory) × (rest : List Token) × (token : Token)
    × keeps (rest ++ token ∷ []) (rest ++ token ∷ []) × stays)
