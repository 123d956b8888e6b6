-- How a reader comes to hold a set, step by step.
use Rattle.std.proofs.Common.{◌≡◌, ◌≢◌, ℕ, suc, ◌+◌, ◌-◌, ◌<◌, inl, inr, Bool, true, false, cond, eq-eqb, List, [], ◌∷◌}
use Rattle.std.proofs.Common.{◌++◌, append_assoc, append-nil, refl, ap, sym, subst, arith, ◌∙◌}
use Rattle.std.specs.Prelude.{Option, Some, None}
use Rattle.nr_model.specs.Histories.{Entry, IsLegal}
use Rattle.nr_model.specs.declared.calls.Call.{Call}
use Rattle.nr_model.specs.declared.calls.Call.TheVariants as model
use Rattle.nr_model.specs.declared.calls.Reply.{Reply}
use Rattle.nr_model.specs.declared.calls.Reply.TheVariants as reply
use Rattle.nr_core.specs.Slots.{name_number}
use Rattle.nr_core.specs.Story.{entry}
use Rattle.nr_words.specs.KeyWords.{is_filled, slot_of}
use Rattle.nr_core.specs.declared.roles.Role.{Role}
use Rattle.nr_core.specs.declared.shape.Shape.{Shape}
use Rattle.std.proofs.lemmas.Bool.{lt-ltb}
use Rattle.nr_core.specs.Marks.{Marks, OfKey, acted, with_loads, with_look}
use Rattle.nr_core.specs.Puts.{put_number}
use Rattle.nr_board.proofs.ReaderSeats.{filled_name}
use Rattle.nr_board.proofs.Tokens.{MapSeat, grows_both}
use Rattle.nr_board.specs.declared.holds.Held.{Held}
use Rattle.nr_board.specs.Callers.{Caller, Gains, Grows, Rests, Table, map_at_opening, token}
use Rattle.nr_board.specs.Entries.{AreCallers}
use Rattle.nr_board.specs.Holds.{HoldsAfter, HoldsOn, IsAnswered, MovesTo, NamesOther, SaysSlot, TakesSteps}
use Rattle.nr_board.specs.Holds.{finds_by_word, last_named, looked, looks_at}
use Rattle.nr_board.specs.Plays.{Holds, IsIdle}
use Rattle.nr_board.specs.Seats.{IdlesAt}
use Rattle.nr_board.specs.Views.{caller_number, grip_of}
use Rattle.nr_board.specs.WordPlays.{HasWord, let_go}

-- steps that add nothing, and then others
pub rests_grows : {m n sum : ℕ} {a b : Caller} {entries : List Entry} {c : Caller} → sum ≡ m + n → Rests m a b
    → Grows n entries b c → Grows sum entries a c
rests_grows {entries = entries} {c = c} is first then = record {
  table = then.table ∙ first.table;
  number = then.number ∙ first.number;
  between = then.between;
  seen = then.seen ∙ ap (λ (l : List Entry). (l ++ then.between) ++ entries) first.seen;
  mine = then.mine ∙ ap (λ (l : List Entry). l ++ entries) first.mine;
  legal = subst (λ (t : Table). IsLegal (map_at_opening t) c.seen) first.table then.legal;
  own = then.own;
  callers = subst (λ (t : Table). AreCallers t.shape c.seen) first.table then.callers;
  steps_made = omega (arith, first.steps_made, then.steps_made);
  pasts = then.pasts ∙ first.pasts;
  loaded_ahead = then.loaded_ahead ∙ first.loaded_ahead;
}

module _ (m n sum : ℕ) (a b c : Caller) (call : Call) (answer : Reply) (is : sum ≡ m + n) where
  pub rests_gains : Rests m a b → Gains n call b c answer → Gains sum call a c answer
  rests_gains first then =
      rests_grows {sum = sum} is first
      (subst (λ (caller : ℕ). Grows n (entry caller call answer ∷ []) b c) first.number then)

  pub grows_gains : Grows m [] a b → Gains n call b c answer → Gains sum call a c answer
  grows_gains first then =
      grows_both {sum = sum} is first
      (subst (λ (caller : ℕ). Grows n (entry caller call answer ∷ []) b c) first.number then)

-- an answer comes after steps that were no entry
module _ (table : Table) (key m n sum : ℕ) (marks : Marks) (old mid new : MapSeat) (is : sum ≡ m + n) where
  answered_so : ((answer : Reply) → Gains n (model.Find key) (token mid) (token new) answer
      → Gains sum (model.Find key) (token old) (token new) answer)
      → (answer : Option Held) → IsAnswered table key n marks mid new answer
      → IsAnswered table key sum marks old new answer
  answered_so gains (Some held) so = record { held_as = so.held_as; gains = gains _ so.gains; marks_are = so.marks_are }
  answered_so gains None so = record { idles = so.idles; gains = gains _ so.gains; marks_are = so.marks_are }

  pub answered_later : (answer : Option Held) → Grows m [] (token old) (token mid)
      → IsAnswered table key n marks mid new answer → IsAnswered table key sum marks old new answer
  answered_later answer grows =
      answered_so (λ a. grows_gains m n sum (token old) (token mid) (token new) (model.Find key) a is grows) answer

  pub answered_rested : (answer : Option Held) → Rests m (token old) (token mid)
      → IsAnswered table key n marks mid new answer → IsAnswered table key sum marks old new answer
  answered_rested answer rests =
      answered_so (λ a. rests_gains m n sum (token old) (token mid) (token new) (model.Find key) a is rests) answer

-- who holds nothing lets nothing go
pub idle_marks : (role : Role) (marks : Marks) → IsIdle role → let_go (grip_of role) marks ≡ marks
idle_marks role marks idle = ap (λ (r : Role). let_go (grip_of r) marks) idle

pub held_marks : (shape : Shape) (role : Role) (marks : Marks) → Holds shape role
    → let_go (grip_of role) marks ≡ acted marks marks.put
held_marks shape role marks holds = ap (λ (r : Role). let_go (grip_of r) marks) holds.is

-- the steps of a find by a word that one announcement answered, or two, or an arrival
pub takes_one : (slot : ℕ) (answer : Option Held) → SaysSlot slot answer
    → TakesSteps true answer (suc slot ∷ last_named slot answer ∷ []) (1 + 3)
takes_one slot (Some held) says = inl (slot, refl, says, refl)
takes_one slot None says = inr (inl (slot, refl, refl))

pub takes_two : (first slot : ℕ) → first ≢ slot → (answer : Option Held) → SaysSlot slot answer
    → TakesSteps true answer (suc first ∷ suc slot ∷ last_named slot answer ∷ []) (3 + 3)
takes_two first slot apart (Some held) says = inr (inl (first, slot, refl, apart, says, refl))
takes_two first slot apart None says = inr (inr (inl (first, slot, refl, apart, refl)))

takes_all : (first second third : ℕ) → first ≢ second → second ≢ third
    → (answer : Option Held) (named : List ℕ) (steps : ℕ) → TakesSteps false answer named steps
    → TakesSteps true answer (suc first ∷ suc second ∷ suc third ∷ []) (3 + (3 + steps))
takes_all first second third apart other (Some held) named steps is =
    inr (inr (first, second, third, refl, apart, other, is.1, omega (arith, is.2)))
takes_all first second third apart other None named steps is =
    inr (inr (inr (first, second, third, refl, apart, other, omega (arith, is.1))))

none_named : (answer : Option Held) (named : List ℕ) (steps : ℕ) → TakesSteps false answer named steps → named ≡ []
none_named (Some held) named steps is = is.0
none_named None named steps is = is.0

-- looks one after the other
pub looked_on : (marks : Marks) (key name : ℕ) (named : List ℕ)
    → looked (with_look marks key name) key named ≡ looked marks key (name ∷ named)
looked_on marks key name named =
    ap (with_loads marks) (append_assoc marks.loads (OfKey key name ∷ []) (looks_at key named))

looked_none : (marks : Marks) (key : ℕ) (named : List ℕ) → named ≡ [] → looked marks key named ≡ marks
looked_none marks key named none = ap (looked marks key) none ∙ ap (with_loads marks) (append-nil marks.loads)

-- a try failed, after which nothing is held
module _ (table : Table) (key word newer : ℕ) (before mid : MapSeat)
    (first : NamesOther table key word newer before mid) where
  abbrev marks : Marks
  marks = let_go (grip_of before.me.0.role) before.me.0.marks

  named_is : name_number newer ≡ suc (slot_of newer)
  named_is = filled_name newer first.filled

  apart : slot_of word ≢ slot_of newer
  apart same = let yes = eq-eqb (name_number newer) (suc (slot_of word)) (named_is ∙ ap suc (sym same)) in
      let no = first.other in
      absurd (cc)

  marks_mid : let_go (grip_of mid.me.0.role) mid.me.0.marks ≡ with_look marks key (suc (slot_of newer))
  marks_mid =
      idle_marks mid.me.0.role mid.me.0.marks first.announces.idle ∙ first.marks_are ∙ ap (with_look marks key) named_is

  pub tries_on : (after : MapSeat) (answer : Option Held)
      → ((one : ℕ) → one ≢ slot_of newer → HoldsOn 3 (suc one ∷ suc (slot_of newer) ∷ []) table key mid after answer)
      → HoldsOn 1 (suc (slot_of word) ∷ []) table key before after answer
  tries_on after answer holds =
      let told = holds (slot_of word) apart in
      let n : ℕ = told.steps in
      let named = suc (slot_of newer) ∷ told.named in
      record {
        steps = 2 + n;
        named = named;
        takes = rw (sym (let same : 3 + n ≡ 1 + (2 + n) = omega arith in same)) told.takes;
        answered =
            answered_later table key 2 n (2 + n) (looked marks key named) before mid after refl answer first.grows
            (rw (sym (ap (λ (m : Marks). looked m key told.named) marks_mid
            ∙ looked_on marks key (suc (slot_of newer)) told.named))
            told.answered);
      }

  pub then_arrives : (idle last : MapSeat) (answer : Option Held) → Rests 1 (token mid) (token idle)
      → idle.me.0.marks ≡ let_go (grip_of mid.me.0.role) mid.me.0.marks
      → HoldsAfter 0 false table key idle.me.0.marks idle last answer → (one : ℕ) → one ≢ slot_of word
      → HoldsOn 3 (suc one ∷ suc (slot_of word) ∷ []) table key before last answer
  then_arrives idle last answer rests cleared arrives one other =
      let n : ℕ = arrives.steps in
      let named = suc (slot_of newer) ∷ [] in
      let marks_now
      = looked_none idle.me.0.marks key arrives.named (none_named answer arrives.named n arrives.takes) ∙ cleared
      ∙ marks_mid in
      let told
      = answered_rested table key 1 (n + 0) (1 + n) (looked marks key named) mid idle last (omega arith) answer
      rests
      (rw marks_now at arrives.answered) in
      record {
        steps = 3 + n;
        named = named;
        takes = takes_all one (slot_of word) (slot_of newer) other apart answer arrives.named n arrives.takes;
        answered =
            answered_later table key 2 (1 + n) (3 + n) (looked marks key named) before mid last (omega arith) answer
            first.grows told;
      }

-- a reader whose number is that finds by its word where it has one
pub finds_so : (own : ℕ) (seat : MapSeat) → caller_number seat.me.0.role ≡ suc own → own < seat.me.0.announcers
    → finds_by_word (token seat) ≡ true
finds_so own seat number within =
    lt-ltb (caller_number seat.me.0.role - 1) seat.me.0.announcers (omega (arith, number, within))

-- a reader that holds by its word looked at a hole, and clears its word and finds anew
pub moves_anew : (table : Table) (key word own : ℕ) → is_filled word ≡ false
    → (before mid after : MapSeat) (answer : Option Held) → Holds table.shape before.me.0.role → HasWord own mid.me.0
    → Rests 1 (token before) (token mid) → mid.me.0.marks ≡ let_go (grip_of before.me.0.role) before.me.0.marks
    → HoldsAfter 0 (finds_by_word (token mid)) table key mid.me.0.marks mid after answer
    → MovesTo table key word before after answer
moves_anew table key word own empty before mid after answer holds has rests cleared told =
    let marks : Marks = acted before.me.0.marks before.me.0.marks.put in
    let here : mid.me.0.marks ≡ marks = cleared ∙ held_marks table.shape before.me.0.role before.me.0.marks holds in
    let n : ℕ = told.steps in
    let named = told.named in
    record {
      steps = n;
      named = named;
      takes = rw empty (rw (finds_so own mid has.number has.within) at told.takes);
      answered =
          rw empty
          (answered_rested table key 1 (n + 0) (n + 2 - 1) (looked marks key named) before mid after (omega arith)
          answer rests
          (subst (λ (m : Marks). IsAnswered table key (n + 0) (looked m key named) mid after answer) here
          told.answered));
    }

-- one that looked at a slot goes on by its word
pub moves_on : (table : Table) (key word : ℕ) → is_filled word ≡ true → (before after : MapSeat) (answer : Option Held)
    → Holds table.shape before.me.0.role → HoldsOn 1 (suc (slot_of word) ∷ []) table key before after answer
    → MovesTo table key word before after answer
moves_on table key word full before after answer holds told = let n : ℕ = told.steps in let named = told.named in
    let named_is = filled_name word full in
    record {
      steps = 1 + n;
      named = named;
      takes = rw (named_is, full) told.takes;
      answered =
          rw full (rw (held_marks table.shape before.me.0.role before.me.0.marks holds) at (rw ((let same : n ≡ 1 + n +
          0 - 1 = omega arith in same)) at told.answered));
    }

-- a reader that holds nothing looked, and found a hole, or goes on by its word
pub holds_first : (table : Table) (key word : ℕ) → is_filled word ≡ true
    → (before mid after : MapSeat) (answer : Option Held) → IsIdle mid.me.0.role → Grows 1 [] (token before) (token mid)
    → mid.me.0.marks ≡ with_look before.me.0.marks key (name_number word)
    → HoldsOn 1 (suc (slot_of word) ∷ []) table key mid after answer
    → HoldsAfter 0 true table key before.me.0.marks before after answer
holds_first table key word full before mid after answer idle grows marks told =
    let n : ℕ = told.steps in
    let named = suc (slot_of word) ∷ told.named in
    let named_is = filled_name word full in
    let marks_mid
    = idle_marks mid.me.0.role mid.me.0.marks idle ∙ marks ∙ ap (with_look before.me.0.marks key) named_is in
    record {
      steps = 1 + n;
      named = named;
      takes = told.takes;
      answered =
          answered_later table key 1 n (1 + n + 0) (looked before.me.0.marks key named) before mid after (omega arith)
          answer grows
          (rw (sym (ap (λ (m : Marks). looked m key told.named) marks_mid
          ∙ looked_on before.me.0.marks key (suc (slot_of word)) told.named))
          told.answered);
    }

-- or it found a hole at its first look
pub finds_none : (table : Table) (key word : ℕ) → is_filled word ≡ false → (before after : MapSeat)
    → IdlesAt table after → Gains 1 (model.Find key) (token before) (token after) reply.Hole
    → after.me.0.marks ≡ acted (with_look before.me.0.marks key (name_number word)) (put_number after.me.0.seen key)
    → HoldsAfter 0 true table key before.me.0.marks before after None
finds_none table key word empty before after idles gains marks =
    let none : name_number word ≡ 0 = ap (λ (b : Bool). cond b (slot_of word + 1) 0) empty in
    record {
      steps = 1;
      named = 0 ∷ [];
      takes = inl (refl, refl);
      answered = record {
        idles = idles;
        gains = gains;
        marks_are = marks
            ∙ ap (λ (n : ℕ). acted (with_look before.me.0.marks key n) (put_number after.me.0.seen key)) none;
      };
    }
