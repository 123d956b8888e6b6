-- The writer's list has each key's ticket number after one entry more, and no number is past the last one.
use Rattle.std.proofs.Common.{List, [], arith, get_or, get_or-set_other, get_or-set_same, length-set, set, ℕ, ◌++◌, ◌+◌}
use Rattle.std.proofs.Common.{◌<◌, ◌∷◌, ◌≡◌, ◌≤◌}
use Rattle.nr_model.proofs.HistoryLemmas.{numbers_count_cancels_lem}
use Rattle.nr_model.specs.Histories.{Entry, IsLegal}
use Rattle.nr_model.specs.Maps.{call_key, last_number, number_of, state_after, state_of}
use Rattle.nr_core.proofs.Frames.{numbers_more}
use Rattle.nr_core.proofs.Histories.{state_other, state_same}
use Rattle.nr_core.specs.Core.{AreNumbers}
use Rattle.nr_core.specs.Sizes.{IsShape}
use Rattle.nr_core.specs.Slots.{bound_of}
use Rattle.nr_core.specs.Story.{map_after, opening_map}
use Rattle.nr_core.specs.declared.shape.Shape.{Shape}

-- an entry that keeps its key's ticket number
pub numbers_kept : (shape : Shape) (log : List Entry) (e : Entry) (numbers : List ℕ) → call_key e.call < shape.keys
    → number_of (state_after (bound_of shape) e.call (state_of (map_after shape log) (call_key e.call)))
    ≡ number_of (state_of (map_after shape log) (call_key e.call))
    → AreNumbers shape (map_after shape log) numbers → AreNumbers shape (map_after shape (log ++ e ∷ [])) numbers
numbers_kept shape log e numbers near same = search (arith, numbers_more, e.call, state_same, state_other)

-- an entry that gives its key the next number
pub numbers_next : (shape : Shape) (log : List Entry) (e : Entry) (numbers : List ℕ) → call_key e.call < shape.keys
    → number_of (state_after (bound_of shape) e.call (state_of (map_after shape log) (call_key e.call)))
    ≡ get_or numbers (call_key e.call) 0 + 1
    → AreNumbers shape (map_after shape log) numbers
    → AreNumbers shape (map_after shape (log ++ e ∷ []))
    (set numbers (call_key e.call) (get_or numbers (call_key e.call) 0 + 1))
numbers_next shape log e numbers near next t =
    search (arith, e.call, t.each, length-set, get_or-set_same, state_same, get_or-set_other, t.agree, state_other)

pub number_within : (shape : Shape) (log : List Entry) (numbers : List ℕ) → IsShape shape
    → IsLegal (opening_map shape) log
    → AreNumbers shape (map_after shape log) numbers → (at : ℕ) → at < shape.keys → get_or numbers at 0 ≤ last_number
number_within shape log numbers fits legal t at near =
    search (arith, numbers_count_cancels_lem, shape.keys, shape.first_number, fits.number, t.agree)
