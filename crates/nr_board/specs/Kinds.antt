-- The kind of a key's state, and what its word shows of it.
use Rattle.std.specs.Prelude.{ℕ, if◌then◌else◌}
use Rattle.nr_model.specs.declared.states.KeyState.{KeyState}
use Rattle.nr_model.specs.declared.states.KeyState.TheVariants as key
use Rattle.nr_words.specs.KeyWords.{has_ask, is_filled}
use Rattle.nr_board.specs.declared.answers.KeyKind.{KeyKind}
use Rattle.nr_board.specs.declared.answers.KeyKind.TheVariants as kind

abbrev pub kind_of : KeyState → KeyKind
kind_of (key.Hole number) = kind.Hole
kind_of (key.Asked number) = kind.Asked
kind_of (key.Rows number rows) = kind.Rows

abbrev pub kind_shown : ℕ → KeyKind
kind_shown word = (if is_filled word then kind.Rows else (if has_ask word then kind.Asked else kind.Hole))
