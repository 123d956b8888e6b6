-- How many values each call of the map's writer leaves: a fill one more at most, an eviction of one that is there one
-- less, and none but a fill more than there were.
use Rattle.std.proofs.Common.{◌≡◌, ◌+◌, ◌≤◌, ◌<◌, ℕ, suc, false, List, [], ◌∷◌, length}
use Rattle.std.proofs.Common.{refl, sym, ap, ◌∙◌, arith, get_or}
use Rattle.std.specs.List.{count_by}
use Rattle.std.proofs.lemmas.Bool.Decides.{nat_tests}
use Rattle.nr_model.specs.declared.calls.Call.{Call}
use Rattle.nr_model.specs.declared.calls.Call.TheVariants.{Fill, Replace, Evict}
use Rattle.nr_model.specs.declared.calls.Reply.{Reply}
use Rattle.nr_model.specs.declared.calls.Reply.TheVariants as reply
use Rattle.nr_model.specs.declared.rows.Row.{Row}
use Rattle.nr_model.specs.declared.states.KeyState.{KeyState}
use Rattle.nr_model.specs.declared.states.KeyState.TheVariants.{Hole}
use Rattle.nr_model.specs.Histories.{is_done}
use Rattle.nr_model.specs.Maps.{evict_reply, filled_count, is_filled_key, replaced, reply_at, state_after}
use Rattle.nr_model.specs.Maps.{state_of}
use Rattle.nr_model.proofs.HistoryLemmas.{count_by-cons}
use Rattle.nr_core.specs.declared.calls.NoSlot.{NoSlot}
use Rattle.nr_board.specs.Callers.{Caller, Gains, Table, map_seen}
use Rattle.nr_board.specs.WriterAnswers.{HasNoSlot}
use Rattle.nr_idmap.specs.IdWrites.{EvictsWay}
use Rattle.nr_idmap.specs.Keepers.{IsTied, Keeper}
use Rattle.nr_map.specs.SlotBounds.{NoSlotIsRare}
use Rattle.nr_cache.specs.Values.{HasSlots, values_in}
use Rattle.nr_cache.proofs.WriterCalls.{IsWriter, called, counts, grown_keeps, weight, writes}

-- ONE KEY
at_most_one : (state : KeyState) → weight state ≤ 1
at_most_one state = grind arith

replaced_weighs : (rows : List Row) (state : KeyState) → weight (replaced rows state) ≡ weight state
replaced_weighs rows state = grind arith

-- a call that isn't done fills no key
undone_weighs : (bound : ℕ) (call : Call) (state : KeyState) → is_done (reply_at bound call state) ≡ false
    → weight (state_after bound call state) ≤ weight state
undone_weighs bound call state undone = grind (arith, nat_tests)

-- an eviction that was done took one
evicted_weighs : (bound key : ℕ) (state : KeyState) → reply.Evicted ≡ evict_reply state
    → weight (state_after bound (Evict key) state) + 1 ≡ weight state
evicted_weighs bound key state answered = grind arith

-- A CALL
pub undone_counts : {steps : ℕ} {call : Call} {answer : Reply} {old new : Caller} → IsWriter old
    → is_done answer ≡ false → Gains steps call old new answer
    → filled_count (map_seen new) ≤ filled_count (map_seen old)
undone_counts {call = call} writer undone gains =
    let calls = called writer gains in
    omega (
      arith,
      counts calls,
      undone_weighs calls.map.bound call _ (ap is_done (sym calls.answered) ∙ undone),
    )

-- no call lacks a slot where there is one for each value, each reader and one more
pub has_slot : (steps : ℕ) (call : Call) (counts : NoSlot) (old new : Keeper) → IsTied old → NoSlotIsRare
    → HasSlots (values_in old) old.writer.table → HasNoSlot steps call old.writer new.writer counts → ⊥
has_slot steps call counts old new tied law slots without =
    omega (
      arith,
      (grown_keeps (writes tied) without.grows).count,
      (law steps call counts old.writer new.writer without).1,
      ap (λ (t : Table). t.shape.slots) without.grows.table,
      without.lacks.live,
      without.lacks.all,
      slots,
    )

pub evicted_fewer : {id way : ℕ} {old new : Keeper} → IsTied old → EvictsWay id way old new
    → values_in new < values_in old
evicted_fewer {way = way} tied evicts =
    let calls = called (writes tied) evicts.evicts.0 in
    omega (arith, counts calls, evicted_weighs calls.map.bound way _ calls.answered)

pub filled_more : {steps way number : ℕ} {rows : List Row} {old new : Caller} → IsWriter old
    → Gains steps (Fill way number rows) old new reply.Done
    → filled_count (map_seen new) ≤ filled_count (map_seen old) + 1
filled_more {way = way} {number = number} {rows = rows} writer gains =
    let calls = called writer gains in
    let after = state_after calls.map.bound (Fill way number rows) (state_of calls.map way) in
    omega (arith, counts calls, at_most_one after)

pub replaced_fewer : {steps way : ℕ} {rows : List Row} {old new : Caller} → IsWriter old
    → Gains steps (Replace way rows) old new reply.Done → filled_count (map_seen new) ≤ filled_count (map_seen old)
replaced_fewer {way = way} {rows = rows} writer gains =
    let calls = called writer gains in
    omega (arith, counts calls, replaced_weighs rows (state_of calls.map way))

-- ALL KEYS
pub none_filled : (states : List KeyState)
    → ((key : ℕ) → key < length states → weight (get_or states key (Hole 0)) ≡ 0) → count_by is_filled_key states ≡ 0
none_filled [] none = refl
none_filled (state ∷ states) none =
    let rest = none_filled states (λ key near. none (suc key) (omega (arith, near))) in
    omega (arith, count_by-cons is_filled_key state states, none 0 (omega arith), rest)
