-- Histories that grow at their end.
use Rattle.std.proofs.Common.{List, [], ap, arith, length, length-set, nat_eq, refl, sym, ℕ, ◌++◌, ◌<◌, ◌∙◌, ◌∷◌, ◌≡◌}
use Rattle.std.proofs.Common.{◌≢◌}
use Rattle.std.proofs.lemmas.List.{length-replicate}
use Rattle.std.proofs.lemmas.List.Elements.{filter-append}
use Rattle.nr_model.proofs.HistoryLemmas.{state_of-next_other, state_of-next_same}
use Rattle.nr_model.proofs.LawLemmas.{legal_goes_on_lem}
use Rattle.nr_model.specs.Histories.{Entry, IsLegal, after, entries_of}
use Rattle.nr_model.specs.Maps.{PartialMap, call_key, next, reply_at, reply_to, state_after, state_of}
use Rattle.nr_model.specs.declared.calls.Call.{Call}
use Rattle.nr_core.specs.Story.{map_after, opening_map}
use Rattle.nr_core.specs.declared.shape.Shape.{Shape}
use Rattle.nr_core.specs.Slots.{bound_of}
use Rattle.nr_model.specs.declared.states.KeyState.TheVariants as key

pub of-append : (b : ℕ) (es fs : List Entry) → entries_of (es ++ fs) b ≡ entries_of es b ++ entries_of fs b
of-append b es fs = filter-append (λ e. nat_eq e.caller b) es fs

-- the map after one entry more
pub now-more : (shape : Shape) (log : List Entry) (e : Entry)
    → map_after shape (log ++ e ∷ []) ≡ next (map_after shape log) e.call
now-more shape log e = (legal_goes_on_lem (opening_map shape) log e).0

pub legal-more : (shape : Shape) (log : List Entry) (e : Entry) → IsLegal (opening_map shape) log
    → e.reply ≡ reply_to (map_after shape log) e.call → IsLegal (opening_map shape) (log ++ e ∷ [])
legal-more shape log e l same = (legal_goes_on_lem (opening_map shape) log e).1.0 (l, same)

pub length-after : (log : List Entry) (m : PartialMap) → length (after m log).states ≡ length m.states
length-after [] m = refl
length-after (e ∷ es) m =
    length-after es (next m e.call)
    ∙ length-set m.states (call_key e.call) (state_after m.bound e.call (state_of m (call_key e.call)))

pub length-now : (shape : Shape) (log : List Entry) → length (map_after shape log).states ≡ shape.keys
length-now shape log = length-after log (opening_map shape) ∙ length-replicate shape.keys (key.Hole shape.first_number)

pub bound-after : (log : List Entry) (m : PartialMap) → (after m log).bound ≡ m.bound
bound-after [] m = refl
bound-after (e ∷ es) m = bound-after es (next m e.call)

-- the states after one entry more
pub state_same : (shape : Shape) (log : List Entry) (e : Entry) → call_key e.call < shape.keys
    → state_of (map_after shape (log ++ e ∷ []))
    (call_key e.call) ≡ state_after (bound_of shape) e.call (state_of (map_after shape log) (call_key e.call))
state_same shape log e near = search (arith, e.call, now-more, state_of-next_same, length-now, bound-after)

pub state_other : (shape : Shape) (log : List Entry) (e : Entry) (j : ℕ) → j ≢ call_key e.call
    → state_of (map_after shape (log ++ e ∷ [])) j ≡ state_of (map_after shape log) j
state_other shape log e j ne =
    ap (λ m. state_of m j) (now-more shape log e) ∙ state_of-next_other (map_after shape log) j e.call (λ z. ne (sym z))

-- a reply by the key's state is the map's
pub replies_so : (shape : Shape) (log : List Entry) (call : Call)
    → reply_to (map_after shape log) call
    ≡ reply_at (bound_of shape) call (state_of (map_after shape log) (call_key call))
replies_so shape log call =
    ap (λ b. reply_at b call (state_of (map_after shape log) (call_key call))) (bound-after log (opening_map shape))
