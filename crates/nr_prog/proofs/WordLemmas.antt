-- Words that there is room for.
use Rattle.std.proofs.Common.{ℕ, ◌≡◌, List, ◌++◌, length, take, sym, ap, ◌∙◌}
use Rattle.std.proofs.lemmas.List.{take_at}

pub full_room : {A : Type 0} (kept rest all : List A) (room : ℕ) → length kept ≡ room → kept ++ rest ≡ all
    → kept ≡ take room all
full_room kept rest all room full are = sym (take_at kept rest room full) ∙ ap (λ list. take room list) are
