-- A replacement is told of once it is there.
use Rattle.std.proofs.Common.{◌++◌, ℕ, List, [], Ok, append-nil, eq-eqb, refl, sym, ◌∙◌}
use Rattle.nr_model.specs.declared.rows.Row.{Row}
use Rattle.nr_board.specs.Callers.{Caller}
use Rattle.nr_board.specs.Meetings.{known_to}
use Rattle.nr_board.specs.WriterAnswers.{ReplacesKey}
use Rattle.nr_serve.specs.Applied.{HasPut}

-- the history that its writer knows then has it
pub replacement_is_put : (key : ℕ) (rows : List Row) (old new : Caller) → ReplacesKey key rows old new (Ok tt)
    → HasPut key (known_to new)
replacement_is_put key rows old new replaces =
    (old.seen ++ replaces.gains.between, [], _, replaces.gains.seen ∙ sym (append-nil _), eq-eqb key key refl)
