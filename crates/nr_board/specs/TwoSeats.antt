-- What a step of two seats asks.
use Rattle.std.specs.Prelude.{◌≡◌, ℕ, slice_set}
use mathlib.Core.Option.{some}
use lib.ListN.{get_elem?}
use Rattle.atomic_table.specs.Table.{State}

-- whatever the table is, the other is spent and the seat has a new view, which keeps the rule, and `then` holds of that
-- view
abbrev pub CanTakeIn : {S V : Type 0} → (State S V → Type 0) → ℕ → V → ℕ → V → V → (V → Type 0) → Type 0
CanTakeIn {S} {V} holds id view other told spent then =
    (state : State S V) → holds state → get_elem? state.views id ≡ some view → get_elem? state.views other ≡ some told
    → ¬ (other ≡ id)
    → (next : V)
    × holds
    record {
      words = state.words;
      homes = state.homes;
      views = slice_set (slice_set state.views other spent) id next;
    }
    × then next
