-- Whose entries a history has.
use Rattle.std.proofs.Common.{◌≡◌, ◌≢◌, ℕ, ◌<◌, Bool, cond, List, [], ◌∷◌, ◌++◌, ⊎_elim, ap, refl, arith, ne_eqb, ◌∙◌}
use Rattle.nr_model.specs.Histories.{Entry, entries_of}
use Rattle.nr_core.specs.declared.shape.Shape.{Shape}
use Rattle.nr_board.specs.Entries.{AreCallers}

pub callers_both : (shape : Shape) (log entries : List Entry) → AreCallers shape log → AreCallers shape entries
    → AreCallers shape (log ++ entries)
callers_both shape [] entries before then = then
callers_both shape (e ∷ log) entries before then = (before.0, callers_both shape log entries before.1 then)

pub callers_before : (shape : Shape) (log entries : List Entry) → AreCallers shape (log ++ entries)
    → AreCallers shape log
callers_before shape [] entries all = tt
callers_before shape (e ∷ log) entries all = (all.0, callers_before shape log entries all.1)

pub callers_of_more : (shape : Shape) (log entries : List Entry) → AreCallers shape (log ++ entries)
    → AreCallers shape entries
callers_of_more shape [] entries all = all
callers_of_more shape (e ∷ log) entries all = callers_of_more shape log entries all.1

-- nobody else has an entry
pub nobody_else : (shape : Shape) (log : List Entry) (caller : ℕ) → AreCallers shape log → shape.readers < caller
    → entries_of log caller ≡ []
nobody_else shape [] caller all beyond = refl
nobody_else shape (e ∷ log) caller all beyond =
    let other : e.caller ≢ caller
    = λ is. ⊎_elim (λ writes. absurd (let writer = writes.0 in omega arith))
    (λ reads. absurd (let low = reads.0 in omega arith)) all.0.1 in
    ap (λ (b : Bool). cond b (e ∷ entries_of log caller) (entries_of log caller)) (ne_eqb e.caller caller other)
    ∙ nobody_else shape log caller all.1 beyond
