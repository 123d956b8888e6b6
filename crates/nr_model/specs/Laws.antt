-- The laws that functions of the module `laws` show.
use Rattle.std.specs.Prelude.{ℕ, ◌≡◌, ◌+◌, ◌<◌, ◌≤◌, ◌↔◌, List, [], ◌∷◌, ◌++◌, length, IsTrue, Ok, Err}
use Rattle.std.specs.List.{All}
use Rattle.nr_model.specs.declared.rows.Row.{Row}
use Rattle.nr_model.specs.declared.batches.Delta.{Delta}
use Rattle.nr_model.specs.Rows.{is_ascending, in_order, count_of, IsRowSet}
use Rattle.nr_model.specs.Batches.{applied, positive_rows, negative_rows}
use Rattle.nr_model.specs.declared.calls.Call.{Call}
use Rattle.nr_model.specs.declared.calls.Call.TheVariants.{Ask, Fill, Replace}
use Rattle.nr_model.specs.declared.states.KeyState.{KeyState}
use Rattle.nr_model.specs.declared.states.KeyState.TheVariants.{Asked, Rows}
use Rattle.nr_model.specs.Maps.{PartialMap, last_number, opening, state_of, number_of, reply_to, next}
use Rattle.nr_model.specs.Histories.{Entry, after, IsLegal, sends, fills, cancels}
use Rattle.nr_model.specs.declared.batches.ApplyFault.TheVariants as fault
use Rattle.nr_model.specs.declared.calls.Reply.TheVariants as reply

-- a list in order has the same rows as before, ascending
abbrev pub OrderKeepsRows : Type 0
OrderKeepsRows =
    (rows : List Row) →
    IsTrue (is_ascending (in_order rows))
    × (length (in_order rows) ≡ length rows)
    × ((r : Row) → count_of (in_order rows) r ≡ count_of rows r)

-- ascending lists with the same rows, each as often, are equal
abbrev pub CountsDecide : Type 0
CountsDecide =
    (rows others : List Row) →
    IsTrue (is_ascending rows) →
    IsTrue (is_ascending others) →
    ((r : Row) → count_of rows r ≡ count_of others r) →
    rows ≡ others

-- ascending rows are in order already
abbrev pub OrderedStay : Type 0
OrderedStay = (rows : List Row) → IsTrue (is_ascending rows) → in_order rows ≡ rows

-- a batch that is applied adds its positive rows and takes its negative ones away
abbrev pub BatchMovesRows : Type 0
BatchMovesRows =
    (bound : ℕ) (rows left : List Row) (batch : List Delta) →
    IsTrue (is_ascending rows) →
    applied bound rows batch ≡ Ok left →
    IsRowSet bound left
    × ((r : Row)
    → count_of left r + count_of (negative_rows batch) r ≡ count_of rows r + count_of (positive_rows batch) r)

-- a batch lacks a row exactly where it takes some row away more often than it can
abbrev pub BatchLacksRow : Type 0
BatchLacksRow =
    (bound : ℕ) (rows : List Row) (batch : List Delta) →
    (applied bound rows batch ≡ Err fault.NoRow)
    ↔ ((r : Row) × (count_of rows r + count_of (positive_rows batch) r < count_of (negative_rows batch) r))

-- a history goes on legally exactly with the map's reply
abbrev pub LegalGoesOn : Type 0
LegalGoesOn =
    (map : PartialMap) (history : List Entry) (e : Entry) →
    (after map (history ++ e ∷ []) ≡ next (after map history) e.call)
    × ((IsLegal map history × (e.reply ≡ reply_to (after map history) e.call)) ↔ IsLegal map (history ++ e ∷ []))

-- a beginning of a legal history is legal
abbrev pub LegalBegins : Type 0
LegalBegins =
    (map : PartialMap) (history later : List Entry) → IsLegal map (history ++ later) → IsLegal map history

-- 1 where the key is asked
abbrev pub pending : KeyState → ℕ
pending (Asked n) = 1
pending other = 0

-- each request that was sent was filled or cancelled once, but the one that is pending
abbrev pub SendsAreAnswered : Type 0
SendsAreAnswered =
    (keys bound first_number key : ℕ) (history : List Entry) →
    IsLegal (opening keys bound first_number) history →
    key < keys →
    sends history key
    ≡ fills history key + cancels history key
    + pending (state_of (after (opening keys bound first_number) history) key)

-- a key's ticket number is the first number and one more for each cancel; it never passes the last one
abbrev pub NumbersCountCancels : Type 0
NumbersCountCancels =
    (keys bound first_number key : ℕ) (history : List Entry) →
    IsLegal (opening keys bound first_number) history →
    key < keys →
    (number_of (state_of (after (opening keys bound first_number) history) key) ≡ first_number + cancels history key)
    × (first_number ≤ last_number
    → number_of (state_of (after (opening keys bound first_number) history) key) ≤ last_number)

-- a request that is sent tells the first number and one more for each cancel before it, and a fill is done under that
-- number alone
abbrev pub AnswersFitTheirRequests : Type 0
AnswersFitTheirRequests =
    (keys bound first_number key number : ℕ) (history : List Entry) (e : Entry) →
    IsLegal (opening keys bound first_number) (history ++ e ∷ []) →
    key < keys →
    ((e.call ≡ Ask key) → (e.reply ≡ reply.Send number) → number ≡ first_number + cancels history key)
    × ((rows : List Row) → (e.call ≡ Fill key number rows) → (e.reply ≡ reply.Done)
    → number ≡ first_number + cancels history key)

-- the set that a call brings is a row set within the bound
abbrev pub BringsRowSet : ℕ → Call → Type 0
BringsRowSet bound (Fill key number rows) = IsRowSet bound rows
BringsRowSet bound (Replace key rows) = IsRowSet bound rows
BringsRowSet bound other = Unit {0}

-- whatever is called, each key's rows are a row set within the bound, where each set that is brought is one
abbrev pub RowsStayWithinBound : Type 0
RowsStayWithinBound =
    (keys bound first_number key number : ℕ) (rows : List Row) (history : List Entry) →
    All (λ e. BringsRowSet bound e.call) history →
    key < keys →
    state_of (after (opening keys bound first_number) history) key ≡ Rows number rows →
    IsRowSet bound rows
