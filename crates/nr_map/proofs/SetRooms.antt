-- A room that is a set: the rows that it shows are its value.
use Rattle.std.proofs.Common.{arith, ◌≡◌, ℕ, List}
use Rattle.nr_model.specs.declared.rows.Row.{Row}
use Rattle.nr_model.specs.Rows.{IsRowSet}
use Rattle.nr_board.specs.declared.answers.Found.{Found}
use Rattle.nr_board.specs.declared.answers.Found.TheVariants as found
use Rattle.nr_board.specs.WriterAnswers.{LooksAt, LooksIn}
use Rattle.nr_map.specs.Answers.{FindsIn, FindsKey}
use Rattle.nr_board.specs.Callers.{Caller}

module _ (key : ℕ) (old new : Caller) (before after : List Row) where
  pub finds_set : (answer : Found) → FindsIn (λ (room rows : List Row). room ≡ rows) key old before new after answer
      → FindsKey key old before new after answer
  finds_set answer told = grind arith

  pub looks_set : (answer : Found) → LooksIn (λ (room rows : List Row). room ≡ rows) key old before new after answer
      → LooksAt key old before new after answer
  looks_set answer told = grind arith

  -- of rows that the find found, and no others
  pub finds_row_set : (answer : Found) → FindsIn (λ (room rows : List Row). room ≡ rows) key old before new after answer
      → answer ≡ found.Rows → IsRowSet old.table.shape.rows after
  finds_row_set answer told is = grind arith

  pub looks_row_set : (answer : Found) → LooksIn (λ (room rows : List Row). room ≡ rows) key old before new after answer
      → answer ≡ found.Rows → IsRowSet old.table.shape.rows after
  looks_row_set answer told is = grind arith
