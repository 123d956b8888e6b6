-- Which fills were done by a call of the writer's.
use Rattle.std.proofs.Common.{arith, ◌≡◌, ℕ, List, [], ◌∷◌, ◌++◌, Result, Ok, Err, refl, sym, ◌∙◌, append_assoc}
use Rattle.std.proofs.Common.{append-nil}
use Rattle.nr_model.specs.declared.batches.Delta.{Delta}
use Rattle.nr_model.specs.declared.rows.Row.{Row}
use Rattle.nr_model.specs.Histories.{Entry}
use Rattle.nr_board.specs.declared.answers.Cancel.{Cancel}
use Rattle.nr_board.specs.declared.answers.Evict.{Evict}
use Rattle.nr_board.specs.declared.answers.FillFault.{FillFault}
use Rattle.nr_board.specs.declared.answers.ReplaceFault.{ReplaceFault}
use Rattle.nr_board.specs.declared.answers.UpdateFault.{UpdateFault}
use Rattle.nr_board.specs.Callers.{Caller, Grows}
use Rattle.nr_board.specs.WriterAnswers.{CancelsKey, EvictsKey, FillsKey, ReplacesKey, UpdatesKey}
use Rattle.nr_serve.specs.Ledger.{Filling, fills_done}

pub fills_done-append : (l m : List Entry) → fills_done (l ++ m) ≡ fills_done l ++ fills_done m
fills_done-append [] m = refl
fills_done-append (e ∷ l) m = rw (fills_done-append l m, append_assoc)

-- the writer made calls, among which these fills were done
pub record Made (a b : Caller) (fills : List Filling) : Type 0 where
  pub calls : List Entry
  pub mine : b.mine ≡ a.mine ++ calls
  pub done : fills_done calls ≡ fills

pub made_none : (a b : Caller) → b.mine ≡ a.mine → Made a b []
made_none a b same = record { calls = []; mine = same ∙ sym (append-nil a.mine); done = refl }

pub made : (steps : ℕ) (a b : Caller) (calls : List Entry) (fills : List Filling) → Grows steps calls a b
    → fills_done calls ≡ fills → Made a b fills
made steps a b calls fills grows done = record { calls = calls; mine = grows.mine; done = done }

pub update_made : (bound key : ℕ) (batch : List Delta) (a b : Caller) (answer : Result (Unit {0}) UpdateFault)
    → UpdatesKey bound key batch a b answer → Made a b []
update_made bound key batch a b answer is = grind arith

pub replace_made : (key : ℕ) (rows : List Row) (a b : Caller) (answer : Result (Unit {0}) ReplaceFault)
    → ReplacesKey key rows a b answer → Made a b []
replace_made key rows a b answer is = grind arith

pub evict_made : (key : ℕ) (a b : Caller) (answer : Evict) → EvictsKey key a b answer → Made a b []
evict_made key a b answer is = grind arith

pub cancel_made : (key : ℕ) (a b : Caller) (answer : Cancel) → CancelsKey key a b answer → Made a b []
cancel_made key a b answer is = grind arith

-- a fill that was done, one that its key refused, and one that found no slot
abbrev pub filling : ℕ → ℕ → List Row → List Filling
filling key number rows = record { key = key; number = number; rows = rows } ∷ []

pub fill_made : (key number : ℕ) (rows : List Row) (a b : Caller) → FillsKey key number rows a b (Ok tt)
    → Made a b (filling key number rows)
fill_made key number rows a b is = made _ a b _ _ is.gains refl

pub pass_made : (key number : ℕ) (rows : List Row) (a b : Caller) (fault : FillFault)
    → FillsKey key number rows a b (Err fault) → Made a b []
pass_made key number rows a b fault is = grind arith

-- a call of each kind
pub ruleset calls_made = (made_none, update_made, replace_made, evict_made, cancel_made, fill_made, pass_made)
