-- The call that ends brings a row set of the map: each was given one, and so the set that a call wants at its key is
-- the one that it brings.
use Rattle.std.proofs.Common.{◌≡◌, ℕ, ◌+◌, ◌*◌, ◌<◌, ◌==◌, List, length, inl, refl, sym, ap, subst}
use Rattle.std.specs.Prelude.{None, Some, Option, slice_index}
use Rattle.nr_model.specs.declared.rows.Row.{Row}
use Rattle.nr_model.specs.declared.calls.Call.{Call}
use Rattle.nr_model.specs.declared.calls.Call.TheVariants as model
use Rattle.nr_model.specs.declared.calls.Reply.TheVariants as reply
use Rattle.nr_model.specs.declared.states.KeyState.{KeyState}
use Rattle.nr_model.specs.declared.states.KeyState.TheVariants as states
use Rattle.nr_model.specs.Laws.{BringsRowSet}
use Rattle.nr_model.specs.Maps.{PartialMap, call_key, number_of, replace_reply, replaced, reply_at, state_after}
use Rattle.nr_model.specs.Maps.{state_of}
use Rattle.nr_model.specs.Rows.{IsRowSet}
use Rattle.nr_words.specs.SetWords.{decode}
use Rattle.nr_core.proofs.Choices.{on_test}
use Rattle.nr_core.specs.declared.calls.Step.{Step}
use Rattle.nr_core.specs.declared.calls.Step.TheVariants.{Ended, Going}
use Rattle.nr_core.specs.declared.calls.WReply.TheVariants as writer
use Rattle.nr_core.specs.declared.calls.WriterCall.{WriterCall}
use Rattle.nr_core.specs.declared.calls.WriterCall.TheVariants.{Fill, Replace}
use Rattle.nr_core.specs.declared.roles.Desk.{Desk}
use Rattle.nr_core.specs.declared.shape.Shape.{Shape}
use Rattle.nr_core.specs.Given.{IsGivenCall}
use Rattle.nr_core.specs.Slots.{bound_of}
use Rattle.nr_core.specs.Story.{call_of, ending}
use Rattle.nr_core.specs.Writer.{decided, decoded, read_on}
use Rattle.nr_core.specs.Core.{Wants}
use Rattle.nr_board.specs.Entries.{AreCallers}
use Rattle.nr_board.specs.NamedRows.{rows_of_state}

-- a call that ends is an entry of the writer's
pub writer_entries : (shape : Shape) (call : Call) (step : Step) → call_key call < shape.keys
    → BringsRowSet shape.rows call → AreCallers shape (ending call step)
writer_entries shape call (Ended (writer.Reply answer)) near brings = ((near, inl (refl, brings)), tt)
writer_entries shape call other near brings = tt

pub given_brings : (bound : ℕ) (call : WriterCall) → IsGivenCall bound call → BringsRowSet bound (call_of call)
given_brings bound (Fill key number rows) given = given
given_brings bound (Replace key rows) given = given
given_brings bound other given = tt

-- what a done fill leaves at its key is the set that it brings
fill_leaves : (bound key number : ℕ) (new rows : List Row) (state : KeyState)
    → reply_at bound (model.Fill key number new) state ≡ reply.Done
    → state_after bound (model.Fill key number new) state ≡ states.Rows (number_of state) rows → new ≡ rows
fill_leaves bound key number new rows (states.Asked n) done leaves =
    on_test (λ (s : KeyState). s ≡ states.Rows n rows → new ≡ rows) (n == number) (λ _ is. ap rows_of_state is)
    (λ _ is. absurd (cc)) leaves
fill_leaves bound key number new rows other done leaves = absurd (cc)

-- and so of a replacement
replace_leaves : (new rows : List Row) (state : KeyState) → replace_reply state ≡ reply.Done
    → replaced new state ≡ states.Rows (number_of state) rows → new ≡ rows
replace_leaves new rows (states.Rows n had) done leaves = ap rows_of_state leaves
replace_leaves new rows other done leaves = absurd (cc)

pub wants_brings : (shape : Shape) (words : List ℕ) (map : PartialMap) (hold : ℕ → ℕ) (call : WriterCall)
    (rows : List Row)
    → Wants shape words map hold call rows → BringsRowSet shape.rows (call_of call)
wants_brings shape words map hold (Fill key number new) rows wants =
    rw (fill_leaves (bound_of shape) key number new rows (state_of map key) wants.done wants.leaves) wants.row_set
wants_brings shape words map hold (Replace key new) rows wants =
    subst (IsRowSet shape.rows) (sym (replace_leaves new rows (state_of map key) wants.done wants.leaves)) wants.row_set
wants_brings shape words map hold other rows wants = tt

-- a call that brings its set ends with no read
quiet_read : (shape : Shape) (desk : Desk) (call : WriterCall) (slot : ℕ) (got : List ℕ)
    → ((found : List Row) → (decided shape desk call found).1 ≡ Going)
    → AreCallers shape (ending (call_of call) (read_on shape desk call slot got).1)
quiet_read shape desk call slot got quiet =
    on_test (λ (o : Desk × Step). AreCallers shape (ending (call_of call) o.1))
    (length got == 2 * slice_index got 0 + 1) (λ _. by_set (decode got)) (λ _. tt)
  where
    by_set : (set : Option (List Row)) → AreCallers shape (ending (call_of call) (decoded shape desk call set).1)
    by_set None = tt
    by_set (Some found) = subst (λ (step : Step). AreCallers shape (ending (call_of call) step)) (sym (quiet found)) tt

-- only finds and updates read
pub reads_no_fill : (shape : Shape) (desk : Desk) (call : WriterCall) (slot : ℕ) (got : List ℕ)
    → call_key (call_of call) < shape.keys
    → AreCallers shape (ending (call_of call) (read_on shape desk call slot got).1)
reads_no_fill shape desk (Fill key number rows) slot got near =
    quiet_read shape desk (Fill key number rows) slot got (λ found. refl)
reads_no_fill shape desk (Replace key rows) slot got near =
    quiet_read shape desk (Replace key rows) slot got (λ found. refl)
reads_no_fill shape desk call slot got near =
    writer_entries shape (call_of call) (read_on shape desk call slot got).1 near tt
