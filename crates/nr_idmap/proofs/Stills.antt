-- What readers' entries leave: each key is as it was, but that a hole may be asked for. So names and sets agree still,
-- and the same upqueries are open.
use Rattle.std.proofs.Common.{◌≡◌, ℕ, ◌⊎◌, inl, Bool, true, cond, ◌==◌, List, [], ◌∷◌, refl, ◌∙◌, arith}
use Rattle.std.proofs.lemmas.Bool.Decides.{nat_tests}
use Rattle.std.proofs.lemmas.List.{length-set}
use Rattle.nr_model.specs.declared.calls.Call.{Call}
use Rattle.nr_model.specs.declared.calls.Reply.{Reply}
use Rattle.nr_model.specs.declared.states.KeyState.{KeyState}
use Rattle.nr_model.specs.declared.states.KeyState.TheVariants.{Hole, Asked}
use Rattle.nr_model.specs.Histories.{Entry, after, entries_of}
use Rattle.nr_model.specs.Maps.{PartialMap, call_key, key_count, next, state_after, state_of}
use Rattle.nr_model.proofs.HistoryLemmas.{state_of-next_other, state_of-next_same}
use Rattle.nr_core.specs.declared.shape.Shape.{Shape}
use Rattle.nr_board.specs.Entries.{AreCallers, IsCallers, is_reading}
use Rattle.nr_idmap.specs.Keepers.{Agrees, owed_for}
use Rattle.nr_idmap.specs.Tidy.{IsTidy, KeepsTags}

-- a state that readers left
abbrev pub IsStill : KeyState → KeyState → Type 0
IsStill was now = (now ≡ was) ⊎ ((number : ℕ) × (was ≡ Hole number) × (now ≡ Asked number))

-- what the state had, and what being asked for has, the state has now
pub by_still : (Has : KeyState → Type 0) {was now : KeyState} → Has was
    → ((number : ℕ) → was ≡ Hole number → Has (Asked number)) → IsStill was now → Has now
by_still Has had asked still = grind arith

still_on : {a b c : KeyState} → IsStill a b → IsStill b c → IsStill a c
still_on first second = grind arith

reading_still : (bound : ℕ) (call : Call) (state : KeyState) → is_reading call ≡ true
    → IsStill state (state_after bound call state)
reading_still bound call state reads = grind arith

reading_keeps : (map : PartialMap) (call : Call) (answer : Reply) → is_reading call ≡ true → KeepsTags map call answer
reading_keeps map call answer reads = grind arith

left_of : (b : Bool) (e : Entry) (log : List Entry) → cond b (e ∷ log) log ≡ [] → log ≡ []
left_of b e log none = grind (arith, nat_tests)

-- an entry that isn't the writer's reads
reads_of : (shape : Shape) (e : Entry) (log : List Entry) → IsCallers shape e → entries_of (e ∷ log) 0 ≡ []
    → is_reading e.call ≡ true
reads_of shape e log caller none = grind (arith, nat_tests)

pub others_still : (shape : Shape) (log : List Entry) (map : PartialMap) (way : ℕ) → AreCallers shape log
    → entries_of log 0 ≡ [] →
    key_count map ≡ shape.keys → IsStill (state_of map way) (state_of (after map log) way)
others_still shape [] map way callers none size = inl refl
others_still shape (e ∷ log) map way callers none size =
    let reads = reads_of shape e log callers.0 none in
    let one : IsStill (state_of map way) (state_of (next map e.call) way) = grind (
      arith,
      callers.0.0,
      state_of-next_same map e.call,
      state_of-next_other map way e.call,
      reading_still map.bound e.call (state_of map (call_key e.call)) reads,
    ) in
    still_on one
    (others_still shape log (next map e.call) way callers.1 (left_of (e.caller == 0) e (entries_of log 0) none)
    (length-set map.states (call_key e.call) (state_after map.bound e.call (state_of map (call_key e.call))) ∙ size))

pub others_tidy : (shape : Shape) (log : List Entry) (map : PartialMap) → AreCallers shape log → entries_of log 0 ≡ [] →
    key_count map ≡ shape.keys → IsTidy map log
others_tidy shape [] map callers none size = tt
others_tidy shape (e ∷ log) map callers none size = (
  omega (arith, callers.0.0, size),
  reading_keeps map e.call e.reply (reads_of shape e log callers.0 none),
  others_tidy shape log (next map e.call) callers.1 (left_of (e.caller == 0) e (entries_of log 0) none)
      (length-set map.states (call_key e.call) (state_after map.bound e.call (state_of map (call_key e.call))) ∙ size),
)

pub agrees_still : (name : ℕ) {was now : KeyState} → Agrees name was → IsStill was now → Agrees name now
agrees_still name agrees still = grind arith

pub owed_still : (way name : ℕ) {was now : KeyState} → Agrees name was → IsStill was now
    → owed_for way name now ≡ owed_for way name was
owed_still way name agrees still = grind arith
