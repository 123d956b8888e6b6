-- How many bytes an input may have, and a line without its line feed.
use Rattle.std.specs.Prelude.{ℕ}

abbrev pub longest_input : ℕ
longest_input = 268435456

abbrev pub longest_line : ℕ
longest_line = 4096
