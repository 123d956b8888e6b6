-- How a call tells that a token ended: a reader, one by id, or all that a handle led to.
use Rattle.std.specs.Prelude.{◌≡◌, List, [], ◌∷◌}

-- A token of which contracts saw just this has ended. It stands shut: only the functions that tokens end by tell it, of
-- one that they take.
pub HasEnded : {Seen : Type 0} → Seen → Type 0
HasEnded seen = Unit {0}

pub has_ended : {Seen : Type 0} → (seen : Seen) → HasEnded seen
unfolding HasEnded
has_ended seen = tt

-- a token ended, and this held of it
abbrev pub Ends : {Seen : Type 0} → (Seen → Type 0) → Type 0
Ends {Seen = Seen} holds = (token : Seen) × HasEnded token × holds token

-- so did a share of a map, and what was known of its writer
abbrev pub EndsShare : {Map Knows : Type 0} → Map → Knows → Type 0
EndsShare map watch = HasEnded map × HasEnded watch

-- all that a handle led to ended
abbrev pub EndsSide : {Side : Type 0} → List Side → Type 0
EndsSide {Side = Side} before = (side : Side) → before ≡ side ∷ [] → HasEnded side
