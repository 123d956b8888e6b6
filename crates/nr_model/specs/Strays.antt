-- Put numbers: each set that is put into a key has one of its own, and a pinned set that has left its key is a stray.
use Rattle.std.specs.Prelude.{ℕ, ◌+◌, ◌==◌, if◌then◌else◌, List, [], ◌∷◌}
use Rattle.std.specs.List.{count_by}
use Rattle.nr_model.specs.declared.states.KeyState.{KeyState}
use Rattle.nr_model.specs.Maps.{is_filled_key}

-- the put numbers of the filled keys
abbrev pub keyed : List KeyState → List ℕ → List ℕ
keyed [] puts = []
keyed (state ∷ states) [] = []
keyed (state ∷ states) (put ∷ puts) = if is_filled_key state then put ∷ keyed states puts else keyed states puts

-- how often the number stands in the list
abbrev pub count_of_put : List ℕ → ℕ → ℕ
count_of_put puts put = count_by (λ other. other == put) puts

-- one, where a count is 0
abbrev pub one_if_none : ℕ → ℕ
one_if_none count = if count == 0 then 1 else 0

-- how many different numbers are pinned that no key has
abbrev pub strays : List ℕ → List ℕ → ℕ
strays keyed [] = 0
strays keyed (put ∷ pinned) = one_if_none (count_of_put pinned put + count_of_put keyed put) + strays keyed pinned
