-- What each call of the map's writer on the id's way does to the tie and to the ledger.
use Rattle.std.proofs.Common.{◌≡◌, ◌≢◌, ℕ, ◌<◌, inr, List, [], ◌∷◌, refl, sym, ap, ◌∙◌, subst, arith, eq-eqb, Result}
use Rattle.std.proofs.Common.{Ok, Err, Option, Some, None}
use Rattle.std.proofs.lemmas.Bool.Decides.{nat_tests}
use Rattle.nr_model.specs.declared.rows.Row.{Row}
use Rattle.nr_model.specs.declared.batches.Delta.{Delta}
use Rattle.nr_model.specs.declared.calls.Call.{Call}
use Rattle.nr_model.specs.declared.calls.Call.TheVariants.{Fill, Update, Replace, Evict, Cancel}
use Rattle.nr_model.specs.declared.calls.Reply.{Reply}
use Rattle.nr_model.specs.declared.calls.Reply.TheVariants as reply
use Rattle.nr_model.specs.declared.states.KeyState.{KeyState}
use Rattle.nr_model.specs.declared.states.KeyState.TheVariants.{Asked}
use Rattle.nr_model.specs.Maps.{call_key, cancel_reply, cancelled, evict_reply, evicted, fill_reply, number_of}
use Rattle.nr_model.specs.Maps.{state_after, state_of}
use Rattle.nr_board.specs.declared.answers.Cancel.TheVariants as cancel
use Rattle.nr_board.specs.declared.answers.Evict.TheVariants as evict
use Rattle.nr_board.specs.declared.answers.FillFault.{FillFault}
use Rattle.nr_board.specs.declared.answers.FillFault.TheVariants as fill
use Rattle.nr_board.specs.declared.answers.ReplaceFault.{ReplaceFault}
use Rattle.nr_board.specs.declared.answers.ReplaceFault.TheVariants as replace
use Rattle.nr_board.specs.declared.answers.UpdateFault.{UpdateFault}
use Rattle.nr_board.specs.declared.answers.UpdateFault.TheVariants as update
use Rattle.nr_board.specs.Callers.{Caller, Gains, Grows, map_seen}
use Rattle.nr_board.specs.WriterAnswers.{CancelsKey, EvictsKey, FillsKey, ReplacesKey, UpdatesKey}
use Rattle.nr_ids.specs.Answers.{FindsWay, Unnames}
use Rattle.nr_ids.specs.Events.{Event, hinted, looked, name_of, touched, unnamed}
use Rattle.nr_ids.specs.Groups.{group_of_way}
use Rattle.nr_ids.specs.Tokens.{Token}
use Rattle.nr_ids.proofs.Calls.{clerk_names, grows_on}
use Rattle.nr_ids.proofs.Logs.{one_way}
use Rattle.nr_idmap.specs.declared.upqueries.Unfilled.{Unfilled}
use Rattle.nr_idmap.specs.declared.upqueries.Unfilled.TheVariants as unfilled
use Rattle.nr_idmap.specs.IdWrites.{FillsId, WasClosed, WithdrawsOwed, WornOwed}
use Rattle.nr_idmap.specs.Keepers.{Agrees, ClosesOne, IsTied, Owed, OwesSame, Sent, keeper_of, owed_at, owed_for}
use Rattle.nr_idmap.specs.Tags.{AreIdDeltas, tag_of}
use Rattle.nr_idmap.specs.Tidy.{KeepsTags}
use Rattle.nr_idmap.proofs.Entries.{Rested, Went, stayed, went}
use Rattle.nr_idmap.proofs.LedgerLaws.{owed_tells}
use Rattle.nr_idmap.proofs.Stills.{IsStill}
use Rattle.nr_idmap.proofs.Ties.{Leaves, Tagged, fill_agrees, fill_done, fill_keeps, fill_leaves, fill_puts}
use Rattle.nr_idmap.proofs.Ties.{found_leaves, found_names, mid_agrees, mid_owes, near_of, owed_asked, owed_none}
use Rattle.nr_idmap.proofs.Ties.{replace_agrees, replace_keeps, replace_owes, rested_of, retied, stays_tied}
use Rattle.nr_idmap.proofs.Ties.{update_agrees, update_owes, went_agrees, went_else, went_owes}

-- ONE STATE
pub still_asked : (n : ℕ) (now : KeyState) → IsStill (Asked n) now → now ≡ Asked n
still_asked n now still = grind arith

still_number : {was now : KeyState} → IsStill was now → number_of now ≡ number_of was
still_number still = grind arith

-- a way with a name that is asked for now was so before
was_asked : (name n : ℕ) (was now : KeyState) → 0 < name → Agrees name was → IsStill was now → now ≡ Asked n
    → was ≡ Asked n
was_asked name n was now real agrees still asked = grind arith

evict_agrees : (state : KeyState) → Agrees 0 (evicted state)
evict_agrees state = grind arith

evict_owed : (way name : ℕ) (state : KeyState) → reply.Evicted ≡ evict_reply state → owed_for way name state ≡ None
evict_owed way name state e = grind arith

evict_leaves : (state : KeyState) → reply.Nothing ≡ evict_reply state → evicted state ≡ state
evict_leaves state e = grind arith

cancel_agrees : (state : KeyState) → reply.Cancelled ≡ cancel_reply state → Agrees 0 (cancelled state)
cancel_agrees state e = grind (arith, nat_tests)

cancel_leaves : (state : KeyState) → cancel_reply state ≢ reply.Cancelled → cancelled state ≡ state
cancel_leaves state undone = grind (arith, nat_tests)

-- a cancel that was done, or found the last number, met a request
cancel_met : (state : KeyState) → cancel_reply state ≢ reply.Nothing → state ≡ Asked (number_of state)
cancel_met state met = grind arith

-- one that met none found no upquery
cancel_unowed : (way name : ℕ) (state : KeyState) → reply.Nothing ≡ cancel_reply state → owed_for way name state ≡ None
cancel_unowed way name state e = grind (arith, nat_tests)

-- what the search found shows that an upquery isn't open
pub closed_by_name : {w a : Caller} {c : Token} (c' : Token) → IsTied (keeper_of w a c) → (owed : Owed) → 0 < owed.id
    → (found : Option ℕ) → FindsWay owed.id c c' found → found ≢ Some owed.way
    → owed_at (keeper_of w a c) owed.way ≢ Some owed
closed_by_name {w} {c = c} c' tied owed real found finds other is =
    let tells = owed_tells owed.way (name_of c.seen owed.way) (state_of (map_seen w) owed.way) owed is in
    grind (arith, found_names owed.id c c' found tied.names.1 finds, one_way c.directory.plan c.seen)

-- what the clerk does there
abbrev unnaming : ℕ → Token → ℕ → List Event
unnaming way clerk hints =
    touched clerk.number (hinted (group_of_way way) hints) ∷ looked clerk.number ∷ unnamed way ∷ []

-- names after a way's name was taken
module _ {w a : Caller} {c mid new : Token} (tied : IsTied (keeper_of w a c)) (id way : ℕ)
    (finds : FindsWay id c mid (Some way)) (unnames : Unnames way mid new) where
  taken_name : (k : ℕ) → name_of new.seen k ≡ name_of (unnamed way ∷ mid.seen) k
  taken_name k = clerk_names mid (unnaming way mid unnames.hints) new k
      ((found_leaves id c mid (Some way) finds).1.number ∙ tied.names.1) unnames.grows

  taken : name_of new.seen way ≡ 0
  taken = grind (arith, nat_tests, taken_name way)

  left : (k : ℕ) → k ≢ way → name_of new.seen k ≡ name_of c.seen k
  left k other = grind (arith, nat_tests, taken_name k, found_names id c mid (Some way) tied.names.1 finds k)

-- how a fill by its way's numbers tells of the map's refusal
abbrev pub fault_told : Sent → FillFault → Unfilled
fault_told sent (fill.NoSlot counts) = unfilled.NoSlot sent counts
fault_told sent _ = unfilled.Closed

abbrev pub fill_told : {Done : Type 0} → Sent → Result Done FillFault → Result Done Unfilled
fill_told sent (Ok done) = Ok done
fill_told sent (Err why) = Err (fault_told sent why)

-- CALLS THAT LEAVE THE NAME
module _ {w a : Caller} {c c' : Token} (tied : IsTied (keeper_of w a c)) (id way : ℕ)
    (finds : FindsWay id c c' (Some way)) where
  names : (k : ℕ) → name_of c'.seen k ≡ name_of c.seen k
  names k = found_names id c c' (Some way) tied.names.1 finds k

  pub has_name : name_of c.seen way ≡ id
  has_name = sym (names way) ∙ finds.1.has

  abbrev Left : Caller → Type 0
  Left w' = Leaves (keeper_of w a c) (keeper_of w' a c')

  -- the call found no slot
  unslotted : {steps : ℕ} {w' : Caller} → Grows steps [] w w' → Left w'
  unslotted grows = stays_tied tied (stayed (rested_of tied) grows) (found_leaves id c c' (Some way) finds)

  -- the call's entry was made: what it leaves of its key must agree with the name, and owe what was owed
  module _ {w' : Caller} {call : Call} {answer : Reply} (go : Went w w' call answer) where
    abbrev name : ℕ
    name = name_of c.seen (call_key call)

    abbrev before : KeyState
    before = state_of go.mid (call_key call)

    abbrev after : KeyState
    after = state_after go.mid.bound call before

    tied_after : KeepsTags go.mid call answer → Agrees name after → IsTied (keeper_of w' a c')
    tied_after keeps agrees =
        retied tied (go.rested keeps) go.table (refl, tied.asks.1) (found_leaves id c c' (Some way) finds).1
        (went_agrees c' tied go (λ k _. names k) (rw (names (call_key call), go.at_key) agrees))

    owes_after : owed_for (call_key call) name after ≡ owed_for (call_key call) name before
        → OwesSame (keeper_of w a c) (keeper_of w' a c')
    owes_after same = went_owes c' tied go (λ k _. names k) a
        (rw (names (call_key call), go.at_key) (same ∙ mid_owes tied go (call_key call)))

    pub untouched : KeepsTags go.mid call answer → after ≡ before → Left w'
    untouched keeps stays = (
      tied_after keeps (rw stays (mid_agrees tied go (call_key call))),
      owes_after (ap (owed_for (call_key call) name) stays),
    )

  pub update_entry : {steps : ℕ} {w' : Caller} (batch : List Delta) {answer : Reply} → AreIdDeltas batch
      → Gains steps (Update way batch) w w' answer → Left w'
  update_entry batch users gains = let go = went (Update way batch) (rested_of tied) gains (near_of tied finds) in (
    tied_after go users
        (update_agrees (name_of c.seen way) go.mid.bound batch (state_of go.mid way) (rw go.bound tied.room) users
        (mid_agrees tied go way)),
    owes_after go (update_owes way (name_of c.seen way) go.mid.bound batch (state_of go.mid way)),
  )

  pub update_left : {w' : Caller} (bound : ℕ) (batch : List Delta) (r : Result (Unit {0}) UpdateFault)
      → AreIdDeltas batch → UpdatesKey bound way batch w w' r → Left w'
  update_left bound batch (Ok done) users h = update_entry batch users h.3.gains
  update_left bound batch (Err update.Dropped) users h = update_entry batch users h.0
  update_left bound batch (Err (update.NoSlot counts)) users h = unslotted h.3.grows
  update_left bound batch (Err why) users h = update_entry batch users h.2

  module _ (real : 0 < id) (rows : List Row) where
    tagged : Tagged (name_of c.seen way) (tag_of id ∷ rows)
    tagged = rw has_name (real, rows, refl)

    pub replace_entry : {steps : ℕ} {w' : Caller} {answer : Reply}
        → Gains steps (Replace way (tag_of id ∷ rows)) w w' answer → Left w'
    replace_entry {answer = answer} gains =
        let go = went (Replace way (tag_of id ∷ rows)) (rested_of tied) gains (near_of tied finds) in (
          tied_after go
              (replace_keeps c.directory.plan c.seen tied.legal go.mid (mid_agrees tied go) way (tag_of id ∷ rows)
              tagged answer)
              (replace_agrees (name_of c.seen way) (tag_of id ∷ rows) (state_of go.mid way) tagged
              (mid_agrees tied go way)),
          owes_after go (replace_owes way (name_of c.seen way) (tag_of id ∷ rows) (state_of go.mid way)),
        )

    pub replace_left : {w' : Caller} (r : Result (Unit {0}) ReplaceFault)
        → ReplacesKey way (tag_of id ∷ rows) w w' r → Left w'
    replace_left (Ok done) h = replace_entry h.gains
    replace_left (Err replace.Dropped) h = replace_entry h.0
    replace_left (Err (replace.NoSlot counts)) h = unslotted h.grows

    -- A FILL
    module _ (number : ℕ) where
      abbrev owes : Owed
      owes = record { way = way; number = number; id = id }

      abbrev fills : Call
      fills = Fill way number (tag_of id ∷ rows)

      filled : {steps : ℕ} {w' : Caller} {answer : Reply} → Gains steps fills w w' answer → Went w w' fills answer
      filled gains = went fills (rested_of tied) gains (near_of tied finds)

      pub fill_entry : {steps : ℕ} {w' : Caller} {answer : Reply} → Gains steps fills w w' answer
          → IsTied (keeper_of w' a c')
      fill_entry gains = let go = filled gains in
          tied_after go
          (fill_keeps c.directory.plan c.seen tied.legal go.mid (mid_agrees tied go) way (tag_of id ∷ rows) tagged
          number go.replied)
          (fill_agrees (name_of c.seen way) number (tag_of id ∷ rows) (state_of go.mid way) tagged
          (mid_agrees tied go way))

      -- the upquery was open, if the key is asked for with its number
      open_if : {now : KeyState} → IsStill (state_of (map_seen w) way) now → now ≡ Asked number
          → owed_at (keeper_of w a c) way ≡ Some owes
      open_if {now} still is =
          let was : state_of (map_seen w) way ≡ Asked number = was_asked (name_of c.seen way) number
          (state_of (map_seen w) way) now (rw has_name real) (tied.agrees way) still is in
          rw (was, has_name) (owed_asked way id number real)

      pub fill_closing : {steps : ℕ} {w' : Caller} → Gains steps fills w w' reply.Done
          → ClosesOne owes (keeper_of w a c) (keeper_of w' a c')
      fill_closing gains =
          let go = filled gains in
          let asked : state_of go.mid way ≡ Asked number = fill_done number (state_of go.mid way) (sym go.replied) in
          record {
            before = open_if (go.still way) asked;
            after = rw (go.at_key, fill_puts number (tag_of id ∷ rows) (state_of go.mid way) asked)
                (owed_none way (name_of c'.seen way) number (tag_of id ∷ rows));
            others = went_else c' tied go (λ k _. names k) a;
          }

      -- one that wasn't done, and found no upquery
      refused : {steps : ℕ} {w' : Caller} {answer : Reply} (why : FillFault)
          → FillsKey way number (tag_of id ∷ rows) w w' (Err why) → answer ≢ reply.Done
          → Gains steps fills w w' answer
          → IsTied (keeper_of w' a c')
          × WasClosed (λ writer writer'. (why : FillFault)
          × FillsKey way number (tag_of id ∷ rows) writer writer' (Err why)) owes (keeper_of w a c)
          (keeper_of w' a c')
      refused why h undone gains =
          let go = filled gains in let s : KeyState = state_of go.mid way in (
            fill_entry gains,
            record {
              closed = λ is. let tells = owed_tells way (name_of c.seen way) (state_of (map_seen w) way) owes is in
                  let now : s ≡ Asked number
                  = still_asked number s (subst (λ (x : KeyState). IsStill x s) tells.3 (go.still way)) in
                  undone (go.replied ∙ ap (fill_reply number) now ∙ rw (eq-eqb number number refl) refl);
              found = Some way;
              finds = finds;
              how = inr (refl, (why, h));
              owes = owes_after go
                  (ap (owed_for way (name_of c.seen way))
                  (fill_leaves number (tag_of id ∷ rows) s (λ done. undone (go.replied ∙ done))));
            },
          )

      pub fill_left : {w' : Caller} (sent : Sent)
          → sent ≡ record { table = record { map = w.table; directory = c.directory }; owed = owes }
          → (r : Result (Unit {0}) FillFault) → FillsKey way number (tag_of id ∷ rows) w w' r
          → IsTied (keeper_of w' a c') × FillsId owes rows (keeper_of w a c) (keeper_of w' a c') (fill_told sent r)
      fill_left sent is (Ok done) h =
          (fill_entry h.gains, record { finds = finds; fills = h; closes = fill_closing h.gains })
      fill_left sent is (Err fill.NotAsked) h = refused fill.NotAsked h (λ e. absurd (cc (e))) h.0
      fill_left sent is (Err fill.Already) h = refused fill.Already h (λ e. absurd (cc (e))) h.0
      fill_left sent is (Err fill.Stale) h = refused fill.Stale h (λ e. absurd (cc (e))) h.0
      fill_left {w'} sent is (Err (fill.NoSlot counts)) h =
          let stays = stayed (rested_of tied) h.grows in
          let left = unslotted h.grows in (
            left.0,
            (
              is,
              record {
                finds = finds;
                lacks = h;
                open_yet = open_if (stays.still way)
                    (fill_done number (state_of (map_seen w') way) h.lacks.would_be_done);
                owes = left.1;
              },
            ),
          )

  -- AN EVICTION AND A CANCEL THAT DO NOTHING
  pub evict_nothing : {w' : Caller} → EvictsKey way w w' evict.Nothing → Left w'
  evict_nothing h = let go = went (Evict way) (rested_of tied) h.0 (near_of tied finds) in
      untouched go tt (evict_leaves (state_of go.mid way) go.replied)

  cancelled_way : {steps : ℕ} {w' : Caller} {answer : Reply} → Gains steps (Cancel way) w w' answer
      → Went w w' (Cancel way) answer
  cancelled_way gains = went (Cancel way) (rested_of tied) gains (near_of tied finds)

  cancel_entry : {w' : Caller} {answer : Reply} → answer ≢ reply.Cancelled → Gains 1 (Cancel way) w w' answer → Left w'
  cancel_entry undone gains = let go = cancelled_way gains in
      untouched go tt (cancel_leaves (state_of go.mid way) (λ done. undone (go.replied ∙ done)))

  pub cancel_nothing : {w' : Caller} → CancelsKey way w w' cancel.Nothing
      → Left w' × ((owed : Owed) → owed_at (keeper_of w a c) way ≢ Some owed)
  cancel_nothing h = let go = cancelled_way h.0 in (
    cancel_entry (λ e. absurd (cc (e))) h.0,
    λ owed is. absurd
        (cc
        (sym (cancel_unowed way (name_of c.seen way) (state_of go.mid way) go.replied) ∙ mid_owes tied go way ∙ is)),
  )

  -- the upquery that a cancel met
  met_owed : {w' : Caller} {answer : Reply} (number : ℕ) → 0 < id → answer ≢ reply.Nothing
      → number_of (state_of (map_seen w) way) ≡ number → Went w w' (Cancel way) answer
      → owed_at (keeper_of w a c) way ≡ Some (record { way = way; number = number; id = id })
  met_owed number real met is go =
      let asked : state_of go.mid way ≡ Asked number = cancel_met (state_of go.mid way) (λ e. met (go.replied ∙ e))
      ∙ ap Asked (still_number (go.still way) ∙ is) in
      open_if real [] number (go.still way) asked

  pub cancel_worn : {w' : Caller} (number : ℕ) → 0 < id → number_of (state_of (map_seen w) way) ≡ number
      → CancelsKey way w w' cancel.Worn
      → IsTied (keeper_of w' a c')
      × WornOwed (record { way = way; number = number; id = id }) (keeper_of w a c) (keeper_of w' a c')
  cancel_worn number real is h = let kept = cancel_entry (λ e. absurd (cc (e))) h.0 in (
    kept.0,
    record {
      finds = finds;
      worn = h;
      open_yet = met_owed number real (λ e. absurd (cc (e))) is (cancelled_way h.0);
      owes = kept.1;
    },
  )

-- CALLS AFTER WHICH THE NAME IS TAKEN
module _ {w a : Caller} {c mid new : Token} (tied : IsTied (keeper_of w a c)) (id way : ℕ)
    (finds : FindsWay id c mid (Some way)) (unnames : Unnames way mid new) where
  gone : (k : ℕ) → k ≢ way → name_of new.seen k ≡ name_of c.seen k
  gone = left tied id way finds unnames

  tied_off : {w' : Caller} {call : Call} {answer : Reply} (go : Went w w' call answer) → call_key call ≡ way
      → Rested w' → Agrees 0 (state_after go.mid.bound call (state_of go.mid (call_key call)))
      → IsTied (keeper_of w' a new)
  tied_off go here rested agrees =
      let look = found_leaves id c mid (Some way) finds in
      let none = ap (name_of new.seen) here ∙ taken tied id way finds unnames in
      retied tied rested go.table (refl, tied.asks.1) (grows_on c mid new _ _ look.1 unnames.grows)
      (went_agrees new tied go (rw here gone) (rw (none, go.at_key) agrees))

  unowed : (w' : Caller) → owed_for way (name_of new.seen way) (state_of (map_seen w') way) ≡ None
  unowed w' = rw (taken tied id way finds unnames) refl

  pub evicted_way : {w' : Caller} → EvictsKey way w w' evict.Evicted → Leaves (keeper_of w a c) (keeper_of w' a new)
  evicted_way {w'} h = let go = went (Evict way) (rested_of tied) h.0 (near_of tied finds) in (
    tied_off go refl (go.rested tt) (evict_agrees (state_of go.mid way)),
    went_owes new tied go gone a
        (unowed w' ∙ sym (evict_owed way (name_of c.seen way) (state_of go.mid way) go.replied) ∙ mid_owes tied go way),
  )

  pub withdrawn_way : {w' : Caller} (number : ℕ) → 0 < id → number_of (state_of (map_seen w) way) ≡ number
      → CancelsKey way w w' cancel.Cancelled
      → IsTied (keeper_of w' a new)
      × WithdrawsOwed (record { way = way; number = number; id = id }) (keeper_of w a c) (keeper_of w' a new)
  withdrawn_way {w'} number real is h = let go = went (Cancel way) (rested_of tied) h.0 (near_of tied finds) in (
    tied_off go refl (go.rested tt) (cancel_agrees (state_of go.mid way) go.replied),
    record {
      mid = mid;
      finds = finds;
      cancels = h;
      unnames = unnames;
      closes = record {
        before = met_owed tied id way finds number real (λ e. absurd (cc (e))) is go;
        after = unowed w';
        others = went_else new tied go gone a;
      };
    },
  )
