use Rattle.std.proofs.Common.{arith, ◌≡◌, ℕ, true, List, [], ◌∷◌, ⊎_elim, All}
use Rattle.std.proofs.lemmas.List.Elements.{All-cons, All-nil}
use Rattle.nr_model.specs.declared.calls.Call.{Call}
use Rattle.nr_model.specs.Histories.{Entry}
use Rattle.nr_model.specs.Laws.{BringsRowSet}
use Rattle.nr_core.specs.declared.shape.Shape.{Shape}
use Rattle.nr_board.specs.Entries.{AreCallers, is_reading}
use Rattle.nr_map.proofs.laws.rows_fit_the_map.Goals as goal

-- a find and a request bring none
reading_brings : (bound : ℕ) (call : Call) → is_reading call ≡ true → BringsRowSet bound call
reading_brings bound call reads = grind arith

callers_bring : (shape : Shape) (log : List Entry) → AreCallers shape log
    → All (λ entry. BringsRowSet shape.rows entry.call) log
callers_bring shape [] callers = All-nil (λ (e : Entry). BringsRowSet shape.rows e.call)
callers_bring shape (e ∷ log) callers = All-cons (λ (x : Entry). BringsRowSet shape.rows x.call) e log
    (⊎_elim (λ writes. writes.1) (λ reads. reading_brings shape.rows e.call reads.1) callers.0.1)
    (callers_bring shape log callers.1)

-- the callers' calls bring row sets of the map, so no key has more rows than it may have
pub returns : goal.returns
returns c map log key number rows callers near filled =
    c.rows_stay_within_bound.ensures _ _ map.shape.first_number key number rows log
    (callers_bring map.shape log callers) near filled
