-- Each event of a reader keeps the core state of a state, its roles and what they found.
use Rattle.std.proofs.Common.{Bool, List, [], ap, arith, cond, false, get_or, length, nat_eq, refl, set, subst, suc}
use Rattle.std.proofs.Common.{sym, true, ℕ, ⊎_elim, ◌%◌, ◌*◌, ◌++◌, ◌+◌, ◌-◌, ◌<◌, ◌^◌, ◌∙◌, ◌∷◌, ◌≡◌, ◌≤◌, ◌≢◌}
use Rattle.std.proofs.lemmas.Bool.{eqb-true, leb-true}
use Rattle.std.specs.Prelude.{None, Some, nat_le}
use lib.ListN.{get_elem?}
use mathlib.Core.Option.{some}
use Rattle.nr_model.proofs.LawLemmas.{legal_goes_on_lem}
use Rattle.nr_model.specs.Histories.{Entry, entries_of}
use Rattle.nr_model.specs.Maps.{ask_reply, find_reply, call_key, reply_at, state_of}
use Rattle.nr_model.specs.Rows.{IsRowSet}
use Rattle.nr_model.specs.declared.calls.Call.{Call}
use Rattle.nr_model.specs.declared.calls.Reply.{Reply}
use Rattle.nr_model.specs.declared.rows.Row.{Row}
use Rattle.nr_words.proofs.SetWordLemmas.{length-row_words}
use Rattle.nr_words.specs.KeyWords.{slot_of}
use Rattle.nr_words.specs.SetWords.{encode}
use Rattle.nr_core.proofs.ReaderSteps.{arrives, asks, departs, finds_again, reads}
use Rattle.nr_core.proofs.Choices.{by_cases}
use Rattle.nr_core.proofs.Guards.{guard, no_some, at_reader, at_reader_key}
use Rattle.nr_core.proofs.Histories.{replies_so}
use Rattle.nr_core.proofs.KeyWords.{names_none, names_one}
use Rattle.nr_core.proofs.ReadThrough.{shown_is}
use Rattle.nr_core.proofs.StateRoles.{IsCoreState, erased, found_quiet, no_grip, Found, after_reader, found_now}
use Rattle.nr_core.proofs.StateRoles.{one_other, same_rows, found_of, reader_of}
use Rattle.nr_core.specs.Core.{Core}
use Rattle.nr_core.specs.Machine.{moved, names_held, read_hold, arrive_hold}
use Rattle.nr_core.specs.Refusals.{if_beyond, if_holding, if_not_holding, if_unreadable, refusal}
use Rattle.nr_core.specs.Slots.{bound_of, content, departures, name_number, names_slot}
use Rattle.nr_core.specs.States.{Arrive, Ask, Depart, FindAgain, Read, State, slot_in, hold_of}
use Rattle.nr_core.specs.Steps.{ask_word}
use Rattle.nr_core.specs.Story.{answering, entry, map_after, opening_map, told, shown}
use Rattle.nr_core.specs.declared.places.Hold.{Hold}
use Rattle.nr_core.specs.declared.roles.Grip.{Grip}
use Rattle.nr_core.specs.declared.roles.Grip.TheVariants.{Nothing, On}
use Rattle.nr_model.specs.declared.states.KeyState.{KeyState}
use Rattle.nr_core.specs.declared.roles.Role.TheVariants.{Reader}
use lib.Seq.{set-get_or}
use Rattle.nr_core.specs.declared.operation.Operation.{Operation}
use Rattle.nr_core.proofs.Stepping.{core_after}
use Rattle.nr_core.specs.declared.places.Hold.TheVariants as hold
use Rattle.nr_model.specs.declared.calls.Call.TheVariants as model
use Rattle.nr_core.specs.declared.calls.Refusal.TheVariants as refuse
use Rattle.nr_model.specs.declared.calls.Reply.TheVariants as reply

is_free : (x : Grip) → if_holding (erased x) ≡ None → x ≡ Nothing
is_free Nothing e = refl
is_free (On s rows b) e = absurd (no_some (Some refuse.Holding) refuse.Holding refl e)

is_held : (x : Grip) → if_not_holding (erased x) ≡ None → (s : ℕ) × (rows : List Row) × (b : Bool) × (x ≡ On s rows b)
is_held Nothing e = absurd (no_some (Some refuse.NotHolding) refuse.NotHolding refl e)
is_held (On s rows b) e = (s, rows, b, refl)

-- an index that is not beyond the set is within its words
pub within_set : (index : ℕ) (rows : List Row) (sized : Bool)
    → if_beyond index (cond sized (Some (length rows)) None) ≡ None → index < length (encode rows)
within_set index rows true ok =
    let g = guard (nat_le index (2 * length rows)) None refuse.OutOfRange ok in
    omega (arith, leb-true index (2 * length rows) g.0, length-row_words rows)
within_set index rows false ok =
    let g = guard (nat_eq index 0) None refuse.OutOfRange ok in
    omega (arith, eqb-true index 0 g.0)

readable : (i : ℕ) (x : Grip) → if_unreadable i (erased x) ≡ None
    → (s : ℕ) × (rows : List Row) × (b : Bool) × (x ≡ On s rows b) × (i < length (encode rows))
readable i Nothing e = absurd (no_some (Some refuse.NotHolding) refuse.NotHolding refl e)
readable i (On s rows b) e = (s, rows, b, refl, within_set i rows b e)

module _ (state : State) (log : List Entry) (is_core : IsCoreState state log) (r : ℕ) (low : 0 < r)
    (high : r ≤ state.shape.readers) where
  free : if_holding (hold_of state r) ≡ None → get_elem? is_core.roles r ≡ some (Reader r Nothing)
  free ok =
      let o = reader_of is_core.fit r low high in
      o.1 ∙ ap (λ (x : Grip). some (Reader r x)) (is_free o.0 (ap if_holding (sym o.2) ∙ ok))

  holding : if_not_holding (hold_of state r) ≡ None → (s : ℕ) × (rows : List Row) × (b : Bool)
      × (get_elem? is_core.roles r ≡ some (Reader r (On s rows b))) × (hold_of state r ≡ erased (On s rows b))
  holding ok =
      let o = reader_of is_core.fit r low high in let x = is_held o.0 (ap if_not_holding (sym o.2) ∙ ok) in
      (x.0, x.1, x.2, o.1 ∙ ap (λ (y : Grip). some (Reader r y)) x.3, o.2 ∙ ap erased x.3)

  -- the reader holds what it held
  stays : state.holds ≡ set state.holds (r - 1) (hold_of state r)
  stays = sym (set-get_or state.holds (r - 1) hold.Nothing)

  quiet : (call : Call) (y : Reply) (c : ℕ) → r ≢ c → entries_of (entry r call y ∷ []) c ≡ []
  quiet call y c ne = one_other r c call y ne

  -- an event whose reply is by the state that its key shows, as each reply of the map is
  answered : (words : List ℕ) (holds : List Hold) (made : List Operation) (x : Grip) (y : Hold)
      → holds ≡ set state.holds (r - 1) y → y ≡ erased x → (call : Call) (answer : Reply)
      (replies : KeyState → Reply)
      → ((z : KeyState) → reply_at (bound_of state.shape) call z ≡ replies z) → call_key call < state.shape.keys
      → Core state.shape words (set is_core.roles r (Reader r x)) (log ++ entry r call answer ∷ [])
      → ((s : ℕ) (rows : List Row) (b : Bool) → x ≡ On s rows b → Found (log ++ entry r call answer ∷ []) r rows)
      → IsCoreState (record { shape = state.shape; words = words; holds = holds; desk = state.desk; made = made })
      (log ++ answering r call replies (shown state (call_key call)))
  answered words holds made x y holds_so is call answer replies by_map near core own =
      let shape = state.shape in
      let now : KeyState = state_of (map_after shape log) (call_key call) in
      let answer_is : answer ≡ replies now
      = ((legal_goes_on_lem (opening_map shape) log (entry r call answer)).1.1 core.legal).1
      ∙ replies_so shape log call ∙ by_map now in
      let all
      = after_reader state log is_core r low high words holds made x y holds_so is (entry r call answer ∷ []) core
      (quiet call answer) own in
      rw (shown_is state is_core.roles log is_core.core is_core.fit.writer (call_key call) near)
      (subst
      (λ (z : Reply). IsCoreState
      (record { shape = shape; words = words; holds = holds; desk = state.desk; made = made })
      (log ++ entry r call z ∷ [])) answer_is all)

pub after_arrive : (state : State) (log : List Entry) (r k : ℕ) → IsCoreState state log
    → refusal state (Arrive r k) ≡ None → IsCoreState (moved state (Arrive r k)) (log ++ told state (Arrive r k))
after_arrive state log r k is_core ok =
    let shape = state.shape in
    let at = at_reader_key shape r k _ ok in
    let w : ℕ = get_or state.words k 0 in
    let t
    = arrives shape r r k at.2 state.words is_core.roles log is_core.core
    (free state log is_core r at.0 at.1 at.3) in
    let next = moved state (Arrive r k) in
    let finish : (x : Grip) (y : Reply) → t.after ≡ Reader r x → t.entries ≡ entry r (model.Find k) y ∷ []
    → arrive_hold w ≡ erased x
    → ((s : ℕ) (rows : List Row) (b : Bool) → x ≡ On s rows b
    → Found (log ++ entry r (model.Find k) y ∷ []) r rows)
    → IsCoreState next (log ++ told state (Arrive r k))
    = λ x y role es held found. answered state log is_core r at.0 at.1 next.words next.holds next.made x
    (arrive_hold w) refl held (model.Find k) y find_reply (λ _. refl) at.2 (core_after t role es) found in
    ⊎_elim
    (λ (a : (s : ℕ) × (rows : List Row) × (name_number w ≡ suc s) × (s < shape.slots) × IsRowSet (bound_of shape) rows
    × (t.after ≡ Reader r (On s rows false))
    × (t.entries ≡ entry r (model.Find k) (reply.Rows rows) ∷ [])).
    let n = names_one w a.0 a.2 in
    finish (On a.0 a.1 false) (reply.Rows a.1) a.5 a.6
    (ap (λ v. cond v (hold.On (slot_of w) None) hold.Nothing) n.0 ∙ ap (λ (s : ℕ). hold.On s None) n.1)
    (λ s rows b is. rw (sym (same_rows a.0 s a.1 rows false b is)) (found_now log r k a.1)))
    (λ (a : (name_number w ≡ 0) × (t.after ≡ Reader r Nothing)
    × (t.entries ≡ entry r (model.Find k) reply.Hole ∷ [])).
    finish Nothing reply.Hole a.1 a.2 (ap (λ v. cond v (hold.On (slot_of w) None) hold.Nothing) (names_none w a.0))
    (λ s rows b is. absurd (no_grip s rows b is)))
    t.told

pub after_ask : (state : State) (log : List Entry) (r k : ℕ) → IsCoreState state log → refusal state (Ask r k) ≡ None
    → IsCoreState (moved state (Ask r k)) (log ++ told state (Ask r k))
after_ask state log r k is_core ok =
    let shape = state.shape in
    let at = at_reader_key shape r k _ ok in
    let there = free state log is_core r at.0 at.1 at.3 in
    let t = asks shape r r k at.2 state.words is_core.roles log is_core.core there in
    let next = moved state (Ask r k) in
    let o = reader_of is_core.fit r at.0 at.1 in
    answered state log is_core r at.0 at.1 next.words next.holds next.made Nothing (hold_of state r)
    (stays state log is_core r at.0 at.1)
    (o.2 ∙ ap erased (is_free o.0 (ap if_holding (sym o.2) ∙ at.3)))
    (model.Ask k) (ask_word (get_or state.words k 0)) ask_reply (λ _. refl) at.2 (core_after t t.told.0 t.told.1)
    (λ s rows b is. absurd (no_grip s rows b is))

pub after_find_again : (state : State) (log : List Entry) (r k : ℕ) → IsCoreState state log
    → refusal state (FindAgain r k) ≡ None
    → IsCoreState (moved state (FindAgain r k)) (log ++ told state (FindAgain r k))
after_find_again state log r k is_core ok =
    let shape = state.shape in
    let at = at_reader_key shape r k _ ok in
    let x = holding state log is_core r at.0 at.1 at.3 in
    let s = x.0 in
    let m = x.1 in
    let b = x.2 in
    let grip = On s m b in
    let t = finds_again shape r r s m b k at.2 state.words is_core.roles log is_core.core x.3 in
    let w : ℕ = get_or state.words k 0 in
    let next = moved state (FindAgain r k) in
    let e = entry r (model.Find k) (reply.Rows m) in
    let same = stays state log is_core r at.0 at.1 in
    subst
    (λ (h : Hold). IsCoreState next
    (log ++ cond (names_held h w) (answering r (model.Find k) find_reply (shown state k)) [])) (sym x.4)
    (by_cases
    (λ names. (t.entries ≡ cond {A = List Entry} names (e ∷ []) [])
    → IsCoreState next (log ++ cond names (answering r (model.Find k) find_reply (shown state k)) []))
    (names_slot s w)
    (λ _ es. answered state log is_core r at.0 at.1 next.words next.holds next.made grip (hold_of state r) same x.4
    (model.Find k) (reply.Rows m) find_reply (λ _. refl) at.2 (core_after t t.told.0 es)
    (λ s' rows b' is. rw (sym (same_rows s s' m rows b b' is)) (found_now log r k m)))
    (λ _ es. after_reader state log is_core r at.0 at.1 next.words next.holds next.made grip (hold_of state r) same x.4
    [] (core_after t t.told.0 es) (λ _ _. refl)
    (λ s' rows b' is. rw (sym (same_rows s s' m rows b b' is))
    (found_quiet log [] r m refl (found_of state log is_core r at.0 s m b x.3))))
    t.told.1)

pub after_depart : (state : State) (log : List Entry) (r : ℕ) → IsCoreState state log → refusal state (Depart r) ≡ None
    → IsCoreState (moved state (Depart r)) (log ++ told state (Depart r))
after_depart state log r is_core ok =
    let shape = state.shape in
    let words = state.words in
    let at = at_reader shape r _ ok in
    let x = holding state log is_core r at.0 at.1 at.2 in
    let t = departs shape r r x.0 x.1 x.2 words is_core.roles log is_core.core x.3 in
    let next = moved state (Depart r) in
    after_reader state log is_core r at.0 at.1 next.words next.holds next.made Nothing hold.Nothing refl refl []
    (subst
    (λ (u : ℕ). Core shape (set words (departures shape u) ((get_or words (departures shape u) 0 + 1) % 2 ^ 64))
    (set is_core.roles r (Reader r Nothing)) (log ++ []))
    (sym (ap slot_in x.4)) (core_after t t.told.0 t.told.1))
    (λ _ _. refl) (λ s rows b is. absurd (no_grip s rows b is))

pub after_read : (state : State) (log : List Entry) (r p : ℕ) → IsCoreState state log → refusal state (Read r p) ≡ None
    → IsCoreState (moved state (Read r p)) (log ++ told state (Read r p))
after_read state log r p is_core ok =
    let shape = state.shape in
    let words = state.words in
    let at = at_reader shape r _ ok in
    let o = reader_of is_core.fit r at.0 at.1 in
    let x = readable p o.0 (ap (if_unreadable p) (sym o.2) ∙ at.2) in
    let s = x.0 in
    let m = x.1 in
    let b = x.2 in
    let there = o.1 ∙ ap (λ (y : Grip). some (Reader r y)) x.3 in
    let held : hold_of state r ≡ erased (On s m b) = o.2 ∙ ap erased x.3 in
    let b' : Bool = cond (nat_eq p 0) true b in
    let t = reads shape r r s m b p x.4 words is_core.roles log is_core.core there in
    let w : ℕ = get_or words (content shape s p) 0 in
    let known = ap (hold.On s)
    (by_cases
    (λ v. (v ≡ true → p ≡ 0)
    → cond v (Some w) (cond b (Some (length m)) None) ≡ cond (cond v true b) (Some (length m)) None)
    (nat_eq p 0)
    (λ _ zero_so. ap (λ (n : ℕ). Some n) (t.told.0 ∙ ap (λ (n : ℕ). get_or (encode m) n 0) (zero_so refl)))
    (λ _ _. refl) (eqb-true p 0)) in
    let next = moved state (Read r p) in
    let after : Hold → Hold = λ h. read_hold p (get_or words (content shape (slot_in h) p) 0) h in
    after_reader state log is_core r at.0 at.1 next.words next.holds next.made (On s m b') (after (hold_of state r))
    refl (ap after held ∙ known) [] (subst
    (λ (u : ℕ). Core shape (set words (content shape u p) (get_or words (content shape u p) 0))
    (set is_core.roles r (Reader r (On s m b'))) (log ++ []))
    (sym (ap slot_in held)) (core_after t t.told.1 t.told.2))
    (λ _ _. refl)
    (λ t rows a is. rw (sym (same_rows s t m rows b' a is))
    (found_quiet log [] r m refl (found_of state log is_core r at.0 s m b there)))
