-- What a call of the map's writer does: up to its entry each key is as the writer knew it, but that a hole may be asked
-- for; its key's state answers it, and no other key changes.
use Rattle.std.proofs.Common.{◌≡◌, ◌≢◌, ◌+◌, ◌<◌, ℕ, suc, Bool, cond, List, [], ◌∷◌, ◌++◌, length, get_or, inl, inr}
use Rattle.std.proofs.Common.{refl, sym, ap, ◌∙◌, subst, arith, append-nil}
use Rattle.std.specs.List.{count_by}
use Rattle.std.proofs.lemmas.Bool.{eq-eqb}
use Rattle.std.proofs.lemmas.List.{set-get_or}
use Rattle.std.proofs.lemmas.List.Sums.{sum_by-set}
use Rattle.nr_model.specs.declared.calls.Call.{Call}
use Rattle.nr_model.specs.declared.calls.Call.TheVariants.{Find}
use Rattle.nr_model.specs.declared.calls.Reply.{Reply}
use Rattle.nr_model.specs.declared.states.KeyState.{KeyState}
use Rattle.nr_model.specs.declared.states.KeyState.TheVariants.{Hole, Asked}
use Rattle.nr_model.specs.Histories.{Entry, IsLegal, after, entries_of}
use Rattle.nr_model.specs.Maps.{PartialMap, call_key, filled_count, is_filled_key, next, reply_to, state_after}
use Rattle.nr_model.specs.Maps.{state_of}
use Rattle.nr_model.proofs.HistoryLemmas.{count_by-cons, one, state_of-next_other, state_of-next_same}
use Rattle.nr_model.proofs.LawLemmas.{legal_goes_on_lem}
use Rattle.nr_core.proofs.Histories.{length-now}
use Rattle.nr_core.specs.Story.{entry, map_after}
use Rattle.nr_board.proofs.Entries.{callers_before, callers_of_more}
use Rattle.nr_board.proofs.KeySets.{none_between}
use Rattle.nr_board.specs.Callers.{Caller, Gains, Grows, KnowsOwn, Table, map_at_opening, map_seen}
use Rattle.nr_board.specs.Entries.{AreCallers}
use Rattle.nr_board.specs.Meetings.{Learns}
use Rattle.nr_idmap.proofs.Entries.{after_both}
use Rattle.nr_idmap.proofs.Stills.{IsStill, others_still}
use Rattle.nr_idmap.specs.Keepers.{IsTied, Keeper}
use Rattle.nr_idmap.specs.Tags.{id_set_of, set_at}

pub record IsWriter (caller : Caller) : Type 0 where
  pub number : caller.number ≡ 0
  pub own : KnowsOwn caller

pub writes : {keeper : Keeper} → IsTied keeper → IsWriter keeper.writer
writes tied = record { number = tied.writes.1; own = tied.sound.own }

pub writes_still : {steps : ℕ} {entries : List Entry} {old new : Caller} → IsWriter old → Grows steps entries old new
    → IsWriter new
writes_still writer grows = record { number = grows.number ∙ writer.number; own = grows.own }

-- STATES THAT READERS LEFT
-- what counts for a state, if it does not tell a hole from one that is asked for
pub still_same : {X : Type 0} {was now : KeyState} (of : KeyState → X)
    → ((number : ℕ) → of (Asked number) ≡ of (Hole number)) → IsStill was now → of now ≡ of was
still_same of asked (inl same) = ap of same
still_same of asked (inr (number, was, now)) = ap of now ∙ asked number ∙ sym (ap of was)

-- how many sets a state has
abbrev pub weight : KeyState → ℕ
weight state = one (is_filled_key state)

counts_still : (was now : List KeyState) → length now ≡ length was
    → ((key : ℕ) → IsStill (get_or was key (Hole 0)) (get_or now key (Hole 0)))
    → count_by is_filled_key now ≡ count_by is_filled_key was
counts_still [] [] same still = refl
counts_still [] (state ∷ now) same still = absurd (omega (arith, same))
counts_still (state ∷ was) [] same still = absurd (omega (arith, same))
counts_still (before ∷ was) (after ∷ now) same still =
    let rest = counts_still was now (omega (arith, same)) (λ key. still (suc key)) in
    let first : weight after ≡ weight before = still_same weight (λ number. refl) (still 0) in
    omega (
      arith,
      count_by-cons is_filled_key before was,
      count_by-cons is_filled_key after now,
      first,
      rest,
    )

-- what the writer learnt before its own entries
between_still : {steps : ℕ} (entries : List Entry) {old new : Caller} → IsWriter old
    → entries_of entries old.number ≡ entries → (grows : Grows steps entries old new) → (key : ℕ)
    → IsStill (state_of (map_seen old) key) (state_of (map_after old.table.shape (old.seen ++ grows.between)) key)
between_still {steps} entries {old} {new} writer ours grows key =
    let shape = old.table.shape in
    let none : entries_of grows.between 0 ≡ [] =
    subst (λ (n : ℕ). entries_of grows.between n ≡ []) writer.number
    (none_between steps old entries new writer.own ours grows) in
    let callers = callers_of_more shape old.seen grows.between
    (callers_before shape (old.seen ++ grows.between) entries (subst (AreCallers shape) grows.seen grows.callers)) in
    subst (λ (map : PartialMap). IsStill (state_of (map_seen old) key) (state_of map key))
    (sym (after_both old.seen grows.between (map_at_opening old.table)))
    (others_still shape grows.between (map_seen old) key callers none (length-now shape old.seen))

-- A CALL
pub record Called (call : Call) (answer : Reply) (old new : Caller) : Type 0 where
  pub map : PartialMap
  pub near : call_key call < length map.states
  pub size : length map.states ≡ length (map_seen old).states
  pub still : (key : ℕ) → IsStill (state_of (map_seen old) key) (state_of map key)
  pub answered : answer ≡ reply_to map call
  pub now : map_seen new ≡ next map call

pub called : {steps : ℕ} {call : Call} {answer : Reply} {old new : Caller} → IsWriter old
    → Gains steps call old new answer → Called call answer old new
called {steps} {call} {answer} {old} {new} writer gains =
    let shape = old.table.shape in
    let log = old.seen ++ gains.between in
    let last = entry old.number call answer in
    let goes = legal_goes_on_lem (map_at_opening old.table) log last in
    let here = callers_of_more shape log (last ∷ []) (subst (AreCallers shape) gains.seen gains.callers) in
    let ours : entries_of (last ∷ []) old.number ≡ last ∷ [] =
    ap (λ (b : Bool). cond b (last ∷ []) []) (eq-eqb old.number old.number refl) in
    record {
      map = map_after shape log;
      near = omega (arith, here.0.0, length-now shape log);
      size = length-now shape log ∙ sym (length-now shape old.seen);
      still = between_still (last ∷ []) writer ours gains;
      answered = (goes.1.1 (subst (IsLegal (map_at_opening old.table)) gains.seen gains.legal)).1;
      now = ap (λ (t : Table). after (map_at_opening t) new.seen) gains.table ∙ ap (map_after shape) gains.seen
          ∙ goes.0;
    }

module _ {call : Call} {answer : Reply} {old new : Caller} (calls : Called call answer old new) where
  pub at_key : state_of (map_seen new) (call_key call)
      ≡ state_after calls.map.bound call (state_of calls.map (call_key call))
  at_key =
      ap (λ (map : PartialMap). state_of map (call_key call)) calls.now
      ∙ state_of-next_same calls.map call calls.near

  pub other_sets : (key : ℕ) → key ≢ call_key call → set_at (map_seen new) key ≡ set_at (map_seen old) key
  other_sets key other =
      ap (λ (map : PartialMap). set_at map key) calls.now
      ∙ ap id_set_of (state_of-next_other calls.map key call (λ same. other (sym same)))
      ∙ still_same id_set_of (λ number. refl) (calls.still key)

  pub counts : filled_count (map_seen new) + weight (state_of calls.map (call_key call))
      ≡ filled_count (map_seen old) + weight (state_after calls.map.bound call (state_of calls.map (call_key call)))
  counts =
      let state = state_of calls.map (call_key call) in
      omega (
        arith,
        ap filled_count calls.now,
        counts_still (map_seen old).states calls.map.states calls.size calls.still,
        sum_by-set weight calls.map.states (call_key call) (state_after calls.map.bound call state) (Hole 0) calls.near,
      )

-- STEPS THAT LEAVE EACH SET WHERE IT IS
pub record Keeps (old new : Caller) : Type 0 where
  pub writer : IsWriter new
  pub count : filled_count (map_seen new) ≡ filled_count (map_seen old)
  pub sets : (key : ℕ) → set_at (map_seen new) key ≡ set_at (map_seen old) key

keeps : {old new : Caller} (map : PartialMap) → IsWriter new → length map.states ≡ length (map_seen old).states
    → ((key : ℕ) → IsStill (state_of (map_seen old) key) (state_of map key)) → map_seen new ≡ map → Keeps old new
keeps {old} map writer size still now = record {
  writer = writer;
  count = ap filled_count now ∙ counts_still (map_seen old).states map.states size still;
  sets = λ key. ap (λ (m : PartialMap). set_at m key) now ∙ still_same id_set_of (λ number. refl) (still key);
}

pub keeps_same : {old new : Caller} → IsWriter old → new ≡ old → Keeps old new
keeps_same {old} writer same =
    subst (λ (c : Caller). Keeps old c) (sym same) (record { writer = writer; count = refl; sets = λ key. refl })

pub keeps_then : {old mid new : Caller} → Keeps old mid → Keeps mid new → Keeps old new
keeps_then first more = record {
  writer = more.writer;
  count = more.count ∙ first.count;
  sets = λ key. more.sets key ∙ first.sets key;
}

pub find_keeps : {steps key : ℕ} {answer : Reply} {old new : Caller} → IsWriter old
    → Gains steps (Find key) old new answer → Keeps old new
find_keeps {key = key} writer gains =
    let calls = called writer gains in
    let states = ap (λ (states : List KeyState). record calls.map { states = states })
    (set-get_or calls.map.states key (Hole 0)) in
    keeps calls.map (writes_still writer gains) calls.size calls.still (calls.now ∙ states)

pub grown_keeps : {steps : ℕ} {old new : Caller} → IsWriter old → Grows steps [] old new → Keeps old new
grown_keeps {steps} {old} {new} writer grows =
    let shape = old.table.shape in
    let log = old.seen ++ grows.between in
    keeps (map_after shape log) (writes_still writer grows) (length-now shape log ∙ sym (length-now shape old.seen))
    (between_still [] writer refl grows)
    (ap (λ (t : Table). after (map_at_opening t) new.seen) grows.table
    ∙ ap (map_after shape) (grows.seen ∙ append-nil log))

-- to learn is to grow by no entry
pub learnt_keeps : {steps : ℕ} {old new : Caller} → IsWriter old → Learns steps old new → Keeps old new
learnt_keeps {steps} {old} {new} writer learns =
    let less : Caller = record new { pasts = old.pasts } in
    let grows : Grows steps [] old less =
    record {
      table = learns.table;
      number = learns.number;
      between = learns.seen.rest;
      seen = learns.seen.is ∙ sym (append-nil (old.seen ++ learns.seen.rest));
      mine = learns.mine ∙ sym (append-nil old.mine);
      legal = learns.legal;
      own = learns.own;
      callers = learns.callers;
      steps_made = learns.steps_made;
      pasts = refl;
      loaded_ahead = learns.loaded_ahead;
    } in
    let kept = grown_keeps writer grows in
    let still : IsWriter new = record { number = kept.writer.number; own = kept.writer.own } in
    record { writer = still; count = kept.count; sets = kept.sets }
