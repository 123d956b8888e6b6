-- Plain lines, which a responder answers; any other is bad.
use Rattle.std.specs.Prelude.{ℕ, ◌&&◌, nat_lt, nat_le, if◌then◌else◌, Bool, List, length, codes}
use Rattle.std.specs.List.{list_all}
use Rattle.nr_text.specs.Limits.{longest_line}

abbrev pub is_printed : ℕ → Bool
is_printed b = nat_le 32 b && nat_le b 126

-- not too long, not empty, and all printed
abbrev pub is_plain : List ℕ → Bool
is_plain line = nat_le (length line) longest_line && (nat_lt 0 (length line) && list_all is_printed line)

-- the reply to any line, and the state after it
abbrev pub or_bad : {S : Type 0} → (S → List ℕ → List ℕ × S) → S → List ℕ → List ℕ × S
or_bad answer state line = if is_plain line then answer state line else (codes "bad", state)
