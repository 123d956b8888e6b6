-- Each turn of a load's dataflow is one round of its base, or none, and its trigger is the one that was filled.
use Rattle.std.proofs.Common.{◌≡◌, ◌≢◌, ◌==◌, ◌%◌, ◌<◌, ℕ, ◌+◌, Bool, true, false, MatchBool, List, [], ◌∷◌, ◌++◌}
use Rattle.std.proofs.Common.{length, refl, sym, ap, ◌∙◌, arith, append-nil, Option, None, Some, Result, Ok, Err}
use Rattle.nr_model.specs.declared.batches.Delta.{Delta}
use Rattle.nr_model.specs.declared.calls.Call.TheVariants as call
use Rattle.nr_model.specs.declared.calls.Reply.{Reply}
use Rattle.nr_model.specs.declared.calls.Reply.TheVariants as reply
use Rattle.nr_model.specs.Histories.{Entry, is_done}
use Rattle.nr_core.specs.Story.{entry}
use Rattle.nr_core.specs.declared.calls.NoSlot.{NoSlot}
use Rattle.nr_board.specs.declared.answers.Evict.{Evict}
use Rattle.nr_board.specs.declared.answers.Evict.TheVariants as evict
use Rattle.nr_board.specs.declared.answers.FillFault.{FillFault}
use Rattle.nr_board.specs.declared.answers.FillFault.TheVariants as fill
use Rattle.nr_board.specs.declared.answers.UpdateFault.{UpdateFault}
use Rattle.nr_board.specs.declared.answers.UpdateFault.TheVariants as update
use Rattle.nr_board.specs.Callers.{Caller, Table}
use Rattle.nr_board.specs.WriterAnswers.{EvictsKey, UpdatesKey}
use Rattle.nr_trigger.specs.declared.post.Post.{Post}
use Rattle.nr_trigger.specs.declared.post.Upquery.{Upquery}
use Rattle.nr_serve.specs.declared.try_turns.TryTurn.TheVariants as turn
use Rattle.nr_serve.specs.Flows.{FlowSeen}
use Rattle.nr_serve.specs.Hands.{capped}
use Rattle.nr_serve.specs.Ends.{IsPast}
use Rattle.nr_serve.specs.Sources.{FailsNever}
use Rattle.nr_serve.specs.Turns.{FindsNone, Spends, SpendsOne, TurnsOrFails, kept_posts}
use Rattle.nr_load.specs.declared.flow.Turned.{Turned}
use Rattle.nr_load.specs.declared.flow.Turned.TheVariants as turned
use Rattle.nr_load.specs.Base.{FollowsBase, GivesRow, IsRound, StepsBase, applies}
use Rattle.nr_load.specs.Flowed.{Changed, IsTurn, TurnsOnce}
use Rattle.nr_load.specs.Gained.{Gained}
use Rattle.nr_load.specs.UnderWay.{upqueries_in, upqueries_of}
use Rattle.nr_load.proofs.Gaining.{tells_evict, tells_update, gained_as, gained_none, gained_then, grown, turns_gain}

-- a change whose writer gained just these entries
abbrev pub GainsChange : ℕ → Caller → Caller → Result (Unit {0}) UpdateFault → (fills key : ℕ) → List ℕ → List ℕ
    → Type 0
GainsChange keys a b answer fills key base base' =
    (gained : Gained keys a b 0 0) × Changed a.number fills key gained.entries base base' answer

pub change_evicts : (keys fills key : ℕ) (a b : Caller) (base base' : List ℕ) (answer : Evict) (done : Unit {0})
    → key < keys
    → (fills % 4 == 0) ≡ true → base' ≡ base → EvictsKey key a b answer
    → GainsChange keys a b (Ok done) fills key base base'
change_evicts keys fills key a b base base' evict.Evicted done low fourth same evicts = (
  grown 2 keys a b _ 0 0 evicts.0 (tells_evict keys a.number key _ low),
  rw fourth ((reply.Evicted, refl), same),
)
change_evicts keys fills key a b base base' evict.Nothing done low fourth same evicts = (
  grown 1 keys a b _ 0 0 evicts.0 (tells_evict keys a.number key _ low),
  rw fourth ((reply.Nothing, refl), same),
)

pub change_stays : (keys fills key : ℕ) (a b : Caller) (base base' : List ℕ) (done : Unit {0})
    → (fills % 4 == 0) ≡ false → b ≡ a → StepsBase key base base' None
    → GainsChange keys a b (Ok done) fills key base base'
change_stays keys fills key a b base base' done other same steps =
    (gained_none keys a b same, rw other (None, steps, refl))

pub change_updates : (keys bound fills key : ℕ) (a b : Caller) (base base' : List ℕ) (batch : List Delta)
    (answer : Result (Unit {0}) UpdateFault)
    → key < keys → (fills % 4 == 0) ≡ false → StepsBase key base base' (Some batch)
    → UpdatesKey bound key batch a b answer
    → ((counts : NoSlot) → answer ≢ Err (update.NoSlot counts)) → GainsChange keys a b answer fills key base base'
change_updates keys bound fills key a b base base' batch (Ok done) low other steps updates finds = (
  grown _ keys a b _ 0 0 updates.3.gains (tells_update keys a.number key batch _ low),
  rw other (Some batch, steps, refl),
)
change_updates keys bound fills key a b base base' batch (Err update.Dropped) low other steps updates finds = (
  grown _ keys a b _ 0 0 updates.0 (tells_update keys a.number key batch _ low),
  (key, batch, reply.Dropped, refl, λ same. absurd (cc)),
)
change_updates keys bound fills key a b base base' batch (Err (update.NoSlot counts)) low other steps updates finds =
    absurd (finds counts refl)
change_updates keys bound fills key a b base base' batch (Err fault) low other steps updates finds = (
  grown _ keys a b _ 0 0 updates.2 (tells_update keys a.number key batch _ low),
  (key, batch, _, refl, λ same. absurd (cc)),
)

-- a trigger that was spent is a round, with whatever follows its fill
spent_round : (old mid new : FlowSeen (List ℕ)) (key fills fills' : ℕ) (answer : Result (Unit {0}) FillFault)
    (told : Reply) (later : List Entry)
    → length old.source ≡ old.map.shape.keys → (spends : SpendsOne GivesRow key old mid answer)
    → FollowsBase old.writer.number spends.post.upquery.key (is_done told) later fills old.source fills' new.source
    → IsRound old.writer.number
    (entry old.writer.number (call.Fill spends.post.upquery.key spends.post.upquery.number spends.answers.rows) told
    ∷ later)
    fills old.source fills' new.source
spent_round old mid new key fills fills' answer told later long spends follows =
    let near : spends.post.upquery.key < length old.source = omega (arith, spends.near, spends.key_is, long) in
    record {
      key = spends.post.upquery.key;
      near = near;
      number = spends.post.upquery.number;
      answer = told;
      later = later;
      is = rw (spends.answers.gave.1 near);
      follows = follows;
    }

passed_round : (old new : FlowSeen (List ℕ)) (key fills : ℕ) (fault : FillFault)
    → length old.source ≡ old.map.shape.keys → (past : IsPast fault)
    → (spends : SpendsOne GivesRow key old new (Err fault))
    → IsRound old.writer.number (turns_gain GivesRow old new (turn.Passed key) (fault, past, spends)).entries fills
    old.source fills new.source
passed_round old new key fills (fill.NoSlot counts) long past spends = absurd past
passed_round old new key fills fault long past spends =
    spent_round old new new key fills fills _ _ [] long spends (refl, refl, spends.answers.gave.0)

passed_fits : (old new : FlowSeen (List ℕ)) (key : ℕ) (fault : FillFault) (past : IsPast fault)
    (spends : SpendsOne GivesRow key old new (Err fault))
    → upqueries_of (spends.post ∷ [])
    ≡ upqueries_in (turns_gain GivesRow old new (turn.Passed key) (fault, past, spends)).entries
passed_fits old new key (fill.NoSlot counts) past spends = absurd past
passed_fits old new key fault past spends = refl

pub turn_passes : (old new : FlowSeen (List ℕ)) (key fills : ℕ) → length old.source ≡ old.map.shape.keys
    → fills ≡ capped fills → TurnsOrFails GivesRow FailsNever old new (turn.Passed key)
    → TurnsOnce old fills new fills turned.Went
turn_passes old new key fills long small turns = record {
  count = 0;
  gained = turns_gain GivesRow old new (turn.Passed key) (turns.0, turns.1, turns.2);
  fills_are = omega (arith, small);
  turn = passed_round old new key fills turns.0 long turns.1 turns.2;
  spent = turns.2.post ∷ [];
  one = omega arith;
  spends = turns.2.spends;
  fits = passed_fits old new key turns.0 turns.1 turns.2;
  none = turns.2.none;
}

-- nothing was taken
spends_none : (old new : FlowSeen (List ℕ)) → FindsNone old new → Spends [] old.taker old.kept new.taker None
spends_none old new finds =
    rw finds.2 (record {
      same = record { queue = refl; keys = refl; map = refl; made = refl };
      gain = [];
      taken = sym (append-nil old.taker.taken);
      all = ap (λ (kept : Option Post). kept_posts kept ++ []) finds.0;
    })

pub turn_idles : (old new : FlowSeen (List ℕ)) (fills : ℕ) → fills ≡ capped fills
    → TurnsOrFails GivesRow FailsNever old new turn.Idle → TurnsOnce old fills new fills turned.Idle
turn_idles old new fills small turns = record {
  count = 0;
  gained = turns_gain GivesRow old new turn.Idle turns;
  fills_are = omega (arith, small);
  turn = (refl, refl, ap (λ (flow : FlowSeen (List ℕ)). flow.source) turns.2);
  spent = [];
  one = omega arith;
  spends = spends_none old new turns;
  fits = refl;
  none = ap (λ (flow : FlowSeen (List ℕ)). flow.kept) turns.2 ∙ turns.0;
}

-- what becomes of a key after its fill answers no upquery
stays_unanswered : (fourth : Bool) (by key : ℕ) (base base' : List ℕ) (later : List Entry)
    → MatchBool fourth (((answer : Reply) × (later ≡ entry by (call.Evict key) answer ∷ [])) × (base' ≡ base))
    ((batch : Option (List Delta)) × StepsBase key base base' batch × (later ≡ applies by key batch))
    → upqueries_in later ≡ []
stays_unanswered true by key base base' later is = ap upqueries_in is.0.1
stays_unanswered false by key base base' later (None, steps, is) = ap upqueries_in is
stays_unanswered false by key base base' later (Some batch, steps, is) = ap upqueries_in is

change_unanswered : (answer : Result (Unit {0}) UpdateFault) (by fills key : ℕ) (base base' : List ℕ)
    (later : List Entry)
    → Changed by fills key later base base' answer → upqueries_in later ≡ []
change_unanswered (Ok done) by fills key base base' later changed =
    stays_unanswered (fills % 4 == 0) by key base base' later changed
change_unanswered (Err fault) by fills key base base' later changed = ap upqueries_in changed.3

-- a turn that filled a key, and then something became of the key
module _ (old mid new : FlowSeen (List ℕ)) (key fills fills' : ℕ) (long : length old.source ≡ old.map.shape.keys)
    (spends : SpendsOne GivesRow key old mid (Ok tt)) (counted : fills' ≡ capped (fills + 1)) (map : mid.map ≡ old.map)
    (kept : (new.taker ≡ mid.taker) × (new.kept ≡ mid.kept)) where
  abbrev filled : Gained old.map.shape.keys old.writer mid.writer 0 1
  filled = turns_gain GivesRow old mid (turn.Filled key) spends

  abbrev with_change : (answer : Result (Unit {0}) UpdateFault)
      → GainsChange mid.map.shape.keys mid.writer new.writer answer fills' key mid.source new.source
      → Gained old.map.shape.keys old.writer new.writer 0 1
  with_change answer change = gained_then old.map.shape.keys old.writer mid.writer new.writer 0 1 0 0 filled
      (gained_as mid.map.shape.keys old.map.shape.keys mid.writer mid.writer new.writer
      new.writer 0 0 (ap (λ (t : Table). t.shape.keys) map) refl refl change.0)

  one_fits : (answer : Result (Unit {0}) UpdateFault)
      (change : GainsChange mid.map.shape.keys mid.writer new.writer answer fills' key mid.source new.source)
      → upqueries_of (spends.post ∷ []) ≡ upqueries_in (with_change answer change).entries
  one_fits answer change =
      ap (λ (l : List Upquery). spends.post.upquery ∷ l)
      (sym (change_unanswered answer mid.writer.number fills' key mid.source new.source change.0.entries change.1))

  spent_one : (answer : Result (Unit {0}) UpdateFault)
      (change : GainsChange mid.map.shape.keys mid.writer new.writer answer fills' key mid.source new.source)
      (what : Turned)
      → IsTurn old.writer.number (with_change answer change).entries fills old.source fills' new.source what
      → TurnsOnce old fills new fills' what
  spent_one answer change what turn = record {
    count = 1;
    gained = with_change answer change;
    fills_are = counted;
    turn = turn;
    spent = spends.post ∷ [];
    one = omega arith;
    spends = rw kept.0 spends.spends;
    fits = one_fits answer change;
    none = kept.1 ∙ spends.none;
  }

  pub turn_fills : (done : Unit {0})
      → GainsChange mid.map.shape.keys mid.writer new.writer (Ok done) fills' key mid.source new.source
      → TurnsOnce old fills new fills' turned.Went
  turn_fills done change =
      spent_one (Ok done) change turned.Went
      (spent_round old mid new key fills fills' (Ok tt) reply.Done change.0.entries long spends
      (counted, rw (filled.number, ← spends.key_is, spends.answers.gave.0) at change.1))

  pub turn_is_refused : (fault : UpdateFault)
      → GainsChange mid.map.shape.keys mid.writer new.writer (Err fault) fills' key mid.source new.source
      → TurnsOnce old fills new fills' turned.Wrong
  turn_is_refused fault change =
      spent_one (Err fault) change turned.Wrong (_, change.0.entries, refl, rw filled.number at change.1)
