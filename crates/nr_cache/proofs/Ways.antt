-- What a call's answer and a way's name tell of the way's state: it has the rows that were put or found, a key with
-- rows isn't passed over, and a way without a name has no value.
use Rattle.std.proofs.Common.{◌≡◌, ◌<◌, ℕ, zero, suc, List, refl, sym, ap, ◌∙◌, subst, arith, None}
use Rattle.std.proofs.Common.{◌≤◌, ◌⊎◌, ◌∷◌, Some, inl, inr, Option}
use Rattle.std.proofs.lemmas.List.{get_or_past}
use Rattle.std.proofs.lemmas.Bool.{cases_eq}
use Rattle.std.proofs.lemmas.Bool.Decides.{nat_tests}
use Rattle.nr_model.specs.declared.rows.Row.{Row}
use Rattle.nr_model.specs.declared.calls.Call.{Call}
use Rattle.nr_model.specs.declared.calls.Call.TheVariants.{Evict, Fill, Find, Replace}
use Rattle.nr_model.specs.declared.calls.Reply.{Reply}
use Rattle.nr_model.specs.declared.calls.Reply.TheVariants as reply
use Rattle.nr_model.specs.declared.states.KeyState.{KeyState}
use Rattle.nr_model.specs.declared.states.KeyState.TheVariants.{Hole, Asked, Rows}
use Rattle.nr_model.specs.Maps.{call_key, evict_reply, evicted, fill_reply, filled, find_reply, replace_reply, replaced}
use Rattle.nr_model.specs.Maps.{reply_at, state_after, state_of}
use Rattle.nr_core.proofs.Histories.{length-now}
use Rattle.nr_board.specs.Callers.{Caller, map_seen, Table}
use Rattle.nr_ids.specs.Answers.{FindsId}
use Rattle.nr_ids.proofs.Calls.{clerk_looks}
use Rattle.nr_idmap.specs.Keepers.{Agrees, IsTied, Keeper, name_at, owed_at, owed_for, state_at}
use Rattle.nr_idmap.specs.Tags.{id_set_of, set_at, IdSet, set_told, tag_of}
use Rattle.nr_cache.specs.Weights.{value_at}
use Rattle.nr_cache.specs.Places.{HasNoOther, HoldsNoOther, IsGone}
use Rattle.nr_cache.proofs.WriterCalls.{Called, at_key}

-- A WAY THAT IS NAMED HAS ROWS, WHERE NO UPQUERY IS OPEN
abbrev pub HasRows : List Row → KeyState → Type 0
HasRows rows state = (n : ℕ) × (state ≡ Rows n rows)

pub named_has_rows : (way name : ℕ) (state : KeyState) → 0 < name → Agrees name state → owed_for way name state ≡ None
    → (rows : List Row) × HasRows rows state
named_has_rows way name (Hole n) real agrees none = absurd (omega (arith, real, agrees))
named_has_rows way zero (Asked n) real agrees none = absurd (omega (arith, real))
named_has_rows way (suc name) (Asked n) real agrees none = absurd (cc (none))
named_has_rows way name (Rows n rows) real agrees none = (rows, (n, refl))

-- an eviction, a find or a replacement that tells of no rows
abbrev pub PassesOver : Call → Reply → Type 0
PassesOver (Evict key) answer = answer ≡ reply.Nothing
PassesOver (Find key) answer = answer ≡ reply.Hole
PassesOver (Replace key rows) answer = answer ≡ reply.Dropped
PassesOver _ answer = ⊥

-- leaves none
leaves_none : (bound : ℕ) (call : Call) (state : KeyState) (rows : List Row)
    → PassesOver call (reply_at bound call state) → HasRows rows (state_after bound call state) → ⊥
leaves_none bound call state rows passes has = grind arith

pub not_passed_over : {call : Call} {answer : Reply} {old : Caller} {id : ℕ} (keeper : Keeper) → IsTied keeper
    → Called call answer old keeper.writer → PassesOver call answer → 0 < id → name_at keeper (call_key call) ≡ id
    → owed_at keeper (call_key call) ≡ None → ⊥
not_passed_over {call} keeper tied calls passes real named none =
    let way = call_key call in
    let had = named_has_rows way (name_at keeper way) (state_at keeper way) (omega (arith, real, named))
    (tied.agrees way) none in
    leaves_none calls.map.bound call (state_of calls.map way) had.0 (subst (PassesOver call) calls.answered passes)
    (subst (HasRows had.0) (at_key calls) had.1)

-- WHAT WAS PUT OR FOUND IS THERE
fill_has : (number : ℕ) (rows : List Row) (state : KeyState) → reply.Done ≡ fill_reply number state
    → HasRows rows (filled number rows state)
fill_has number rows (Asked n) done = (n, grind (arith, nat_tests))
fill_has number rows state done = absurd (cc (done))

replace_has : (rows : List Row) (state : KeyState) → reply.Done ≡ replace_reply state
    → HasRows rows (replaced rows state)
replace_has rows (Rows n old) done = (n, refl)
replace_has rows state done = absurd (cc (done))

find_has : (rows : List Row) (state : KeyState) → reply.Rows rows ≡ find_reply state → HasRows rows state
find_has rows state found = grind arith

module _ {way : ℕ} {rows : List Row} {old new : Caller} where
  pub filled_has : {number : ℕ} → Called (Fill way number rows) reply.Done old new
      → HasRows rows (state_of (map_seen new) way)
  filled_has {number} calls = subst (HasRows rows) (sym (at_key calls)) (fill_has number rows _ calls.answered)

  pub replaced_has : Called (Replace way rows) reply.Done old new → HasRows rows (state_of (map_seen new) way)
  replaced_has calls = subst (HasRows rows) (sym (at_key calls)) (replace_has rows _ calls.answered)

  pub found_has : Called (Find way) (reply.Rows rows) old new → HasRows rows (state_of (map_seen new) way)
  found_has calls = subst (HasRows rows) (sym (at_key calls)) (find_has rows _ calls.answered)

-- WHAT WAS EVICTED IS NOT
evicted_value : (state : KeyState) → reply.Evicted ≡ evict_reply state → id_set_of (evicted state) ≡ None
evicted_value state answered = grind arith

pub evicted_none : {way : ℕ} {old new : Caller} → Called (Evict way) reply.Evicted old new
    → set_at (map_seen new) way ≡ None
evicted_none calls = ap id_set_of (at_key calls) ∙ evicted_value _ calls.answered

-- WHICH VALUE A WAY HAS
pub below_or_past : (way ways : ℕ) → (way < ways) ⊎ (ways ≤ way)
below_or_past way ways = grind arith

-- behind the last key there is a hole
pub hole_past : (keeper : Keeper) (key : ℕ) → keeper.writer.table.shape.keys ≤ key → state_at keeper key ≡ Hole 0
hole_past keeper key past =
    let writer = keeper.writer in
    get_or_past (map_seen writer).states key (Hole 0) (omega (arith, length-now writer.table.shape writer.seen, past))

pub past_is_empty : (keeper : Keeper) (way : ℕ) → keeper.writer.table.shape.keys ≤ way → value_at keeper way ≡ None
past_is_empty keeper way past = ap id_set_of (hole_past keeper way past)

-- a way without a name has no value
unnamed_value : (name : ℕ) (state : KeyState) → Agrees name state → name ≡ 0 → id_set_of state ≡ None
unnamed_value name (Rows n rows) agrees none = absurd (omega (arith, agrees.0, none))
unnamed_value name state agrees none = refl

pub unnamed_is_empty : {keeper : Keeper} (way : ℕ) → IsTied keeper → name_at keeper way ≡ 0 → value_at keeper way ≡ None
unnamed_is_empty {keeper} way tied none =
    unnamed_value (name_at keeper way) (state_at keeper way) (tied.agrees way) none

-- the way of a value has its id's name
told_name : (name : ℕ) (rows : List Row) (set : IdSet) → (others : List Row) → rows ≡ tag_of name ∷ others
    → set_told rows ≡ Some set → name ≡ set.id
told_name name rows set others is told = cc (is, told)

value_name : (name : ℕ) (state : KeyState) (set : IdSet) → Agrees name state → id_set_of state ≡ Some set
    → name ≡ set.id
value_name name (Rows n rows) set agrees is = told_name name rows set agrees.1 agrees.2 is
value_name name state set agrees is = absurd (cc (is))

-- one with a name has its id's, where no upquery of it is open; so it has that name still where its value stayed
pub named_still : {old new : Keeper} (way id : ℕ) → IsTied old → IsTied new → owed_at old way ≡ None → 0 < id
    → name_at old way ≡ id → value_at new way ≡ value_at old way → name_at new way ≡ id
named_still {old} {new} way id tied later none real named stays =
    let name = name_at old way in
    let had = named_has_rows way name (state_at old way) (omega (arith, real, named)) (tied.agrees way) none in
    let told = subst (Agrees name) had.1.1 (tied.agrees way) in
    let set : IdSet = record { id = name; rows = told.1 } in
    value_name (name_at new way) (state_at new way) set (later.agrees way)
    (stays ∙ ap id_set_of had.1.1 ∙ ap set_told told.2)
    ∙ named

-- NAMES
-- a look at a way changes no name
pub seen_names : (way : ℕ) (old mid : Keeper) (named : Option ℕ) → IsTied old → FindsId way old.clerk mid.clerk named
    → (k : ℕ) → name_at mid k ≡ name_at old k
seen_names way old mid (Some id) tied finds k =
    clerk_looks old.clerk 1 old.clerk.number mid.clerk k tied.names.1 finds.0
seen_names way old mid None tied finds k =
    clerk_looks old.clerk 1 old.clerk.number mid.clerk k tied.names.1 finds.0

-- NO VALUE
gone_everywhere : (keeper : Keeper) → ((way : ℕ) → value_at keeper way ≡ None) → (id : ℕ) → IsGone id keeper
gone_everywhere keeper none id rows (way, has) =
    let is = sym (ap id_set_of has.1) ∙ none way in absurd (cc (is))

pub all_gone : {keeper : Keeper} (ways : ℕ) → IsTied keeper → keeper.writer.table.shape.keys ≤ ways
    → ((way : ℕ) → way < ways → name_at keeper way ≡ 0) → (id : ℕ) → IsGone id keeper
all_gone {keeper} ways tied all none =
    gone_everywhere keeper (λ way. elim (below_or_past way ways) [
      | inl low ↦ unnamed_is_empty way tied (none way low)
      | inr past ↦ past_is_empty keeper way (omega (arith, all, past))
    ])

pub no_other : {keeper : Keeper} (taken : ℕ) → IsTied keeper → HasNoOther taken keeper → HoldsNoOther taken keeper
no_other {keeper} taken tied none way other =
    let keys = ap (λ (t : Table). t.shape.keys) tied.writes.0 in
    elim (below_or_past way keeper.table.map.shape.keys) [
      | inl low ↦ unnamed_is_empty way tied (none way low other)
      | inr past ↦ past_is_empty keeper way (omega (arith, past, keys))
    ]

-- where none of all ways has a name
pub none_left : {keeper : Keeper} (nobody : ℕ) → IsTied keeper → nobody ≡ keeper.table.map.shape.keys
    → HasNoOther nobody keeper → (id : ℕ) → IsGone id keeper
none_left {keeper} nobody tied all none =
    let keys = ap (λ (t : Table). t.shape.keys) tied.writes.0 in
    gone_everywhere keeper (λ way. elim (cases_eq way nobody) [
      | inl same ↦ past_is_empty keeper way (omega (arith, same, all, keys))
      | inr other ↦ no_other nobody tied none way other
    ])
