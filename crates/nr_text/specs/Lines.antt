-- Lines: how an input is cut at line feeds.
use Rattle.std.specs.Prelude.{ℕ, ◌≢◌, ◌==◌, if◌then◌else◌, List, [], ◌∷◌}
use Rattle.std.specs.List.{onto_first}

-- the byte that ends a line
abbrev pub line_feed : ℕ
line_feed = 10

-- a byte in front of the first line, if there is one
abbrev pub onto_any : ℕ → List (List ℕ) → List (List ℕ)
onto_any b [] = []
onto_any b (line ∷ more) = (b ∷ line) ∷ more

-- the lines of a whole input, without their line feeds; a last byte that is none begins a line that lacks its own
abbrev pub lines : List ℕ → List (List ℕ)
lines [] = []
lines (b ∷ bs) = if b == line_feed then [] ∷ lines bs else onto_first b (lines bs)

-- the lines that have ended, each by its line feed
abbrev pub ended_lines : List ℕ → List (List ℕ)
ended_lines [] = []
ended_lines (b ∷ bs) = if b == line_feed then [] ∷ ended_lines bs else onto_any b (ended_lines bs)

-- no byte ends a line
abbrev pub HasNoFeed : List ℕ → Type 0
HasNoFeed [] = Unit {0}
HasNoFeed (b ∷ bs) = (b ≢ line_feed) × HasNoFeed bs
