-- The sizes that an opening refuses.
use Rattle.std.specs.Prelude.{ℕ, ◌≡◌, ◌<◌, ◌⊎◌}

-- none at all, or more than the limit
abbrev pub IsBadSize : ℕ → ℕ → Type 0
IsBadSize limit size = (size ≡ 0) ⊎ (limit < size)
