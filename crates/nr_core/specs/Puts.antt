-- Put numbers: the sets that a history put, by fills, updates and replacements that were done, are numbered in their
-- order from 0 on.
use Rattle.std.specs.Prelude.{ℕ, ◌+◌, ◌==◌, ◌&&◌, Bool, if◌then◌else◌, List, [], ◌∷◌}
use Rattle.nr_model.specs.Maps.{call_key}
use Rattle.nr_model.specs.Histories.{Entry, is_done}
use Rattle.nr_core.specs.Sums.{total}

-- 1 where the entry put a set
abbrev pub puts_set : Entry → ℕ
puts_set entry = (if is_done entry.reply then 1 else 0)

-- how many sets the history put
abbrev pub put_count : List Entry → ℕ
put_count log = total puts_set log

-- the entry put a set of the key
abbrev pub puts_at : ℕ → Entry → Bool
puts_at key entry = is_done entry.reply && (call_key entry.call == key)

-- the number of what the entries put last for the key, where `next` is the first number that they give and `last` that
-- of the key before them
abbrev pub put_from : ℕ → ℕ → ℕ → List Entry → ℕ
put_from key next last [] = last
put_from key next last (entry ∷ log) =
    put_from key (next + puts_set entry) (if puts_at key entry then next else last) log

-- the number of what was put last for the key
abbrev pub put_number : List Entry → ℕ → ℕ
put_number log key = put_from key 0 0 log
