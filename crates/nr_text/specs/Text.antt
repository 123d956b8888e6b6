-- The text that lines are answered with, one reply a line.
use Rattle.std.specs.Prelude.{ℕ, List, [], ◌∷◌, ◌++◌}
use Rattle.nr_text.specs.Lines.{line_feed}

-- the replies to these lines, each ended by a line feed
abbrev pub text : {S : Type 0} → (S → List ℕ → List ℕ × S) → S → List (List ℕ) → List ℕ
text answer state [] = []
text answer state (line ∷ more) =
    let (reply, next) = answer state line in
    (reply ++ line_feed ∷ []) ++ text answer next more

-- the state after these lines
abbrev pub after_lines : {S : Type 0} → (S → List ℕ → List ℕ × S) → S → List (List ℕ) → S
after_lines answer state [] = state
after_lines answer state (line ∷ more) = let (_, next) = answer state line in after_lines answer next more
