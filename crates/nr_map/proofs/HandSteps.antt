-- How a hand that keeps its hold finds a key, after it asked in vain, or loaded another key's word, or had nothing to
-- go on from.
use Rattle.std.proofs.Common.{◌≡◌, ℕ, suc, ◌+◌, ◌-◌, ◌<◌, Option, Some, None, cond, eq-eqb, inl, inr, ◌≢◌, refl, ap}
use Rattle.std.proofs.Common.{◌∙◌, sym, subst, arith, append_assoc, Bool, true, false, List, [], ◌∷◌, ◌++◌}
use Rattle.std.specs.Prelude.{◌↔◌, IsSome, nat_lt}
use Rattle.nr_core.proofs.Choices.{by_cases}
use Rattle.nr_words.specs.KeyWords.{slot_of}
use Rattle.nr_model.specs.Histories.{Entry}
use Rattle.nr_model.specs.declared.calls.Call.TheVariants as model
use Rattle.nr_model.specs.declared.calls.Reply.{Reply}
use Rattle.nr_core.specs.Slots.{name_number, names_slot}
use Rattle.nr_core.specs.declared.roles.Grip.{Grip}
use Rattle.nr_core.specs.declared.roles.Grip.TheVariants.{Nothing}
use Rattle.nr_core.specs.declared.roles.Role.{Role}
use Rattle.nr_core.specs.declared.roles.Role.TheVariants.{Reader}
use Rattle.nr_core.specs.Marks.{LoggedLoad, Marks, OfKey, acted, gripped, with_loads, with_look}
use Rattle.nr_core.specs.MarkSteps.{found_again}
use Rattle.nr_core.specs.Puts.{put_number}
use Rattle.nr_board.proofs.Holding.{grows_gains, rests_gains}
use Rattle.nr_board.proofs.ReaderSeats.{held_says}
use Rattle.nr_board.proofs.Tokens.{MapSeat}
use Rattle.nr_board.specs.Ahead.{after_look}
use Rattle.nr_board.specs.Callers.{Caller, Gains, Grows, Rests, Table, token}
use Rattle.nr_board.specs.Holds.{FindsHoleAfter, FindsRowsAfter, HeldAs, HeldIn, HoldsWhatItSays, finds_by_word}
use Rattle.nr_board.specs.Holds.{looks_at, slot_in}
use Rattle.nr_board.specs.declared.board.Own.{Own}
use Rattle.nr_board.specs.declared.holds.Held.{Held}
use Rattle.nr_board.specs.Meetings.{HasPut}
use Rattle.nr_board.specs.Plays.{holding}
use Rattle.nr_board.specs.Views.{caller_number, grip_of, is_sized, rows_held, slot_held}
use Rattle.nr_map.specs.declared.hand.Kept.{Kept}
use Rattle.nr_map.specs.Pins.{HoldsSlot, Pins}
use Rattle.nr_map.specs.Hands.{AskedBefore, AsksInVain, BegunIn, Handed, IsHand, KeepsByHand, MovesByHand, PinsByHand}
use Rattle.nr_map.specs.Hands.{HoldsThen, TakesIn, departed, goes_on, handed, late_by, looks_first, reply_of}
use Rattle.nr_map.specs.Hands.{steps_to_depart}

-- a hold takes a step at least
some_takes : (answer by_word : Bool) (named : List ℕ) (says steps : ℕ) → TakesIn answer by_word named says steps
    → 0 < steps
some_takes answer by_word named says steps takes = grind arith

-- a find by a hand, by its answer: the looks at the key that named those came before
record Finds (answer : Bool) (before : List ℕ) (more key : ℕ) (old new : Handed) : Type 0 where
  steps : ℕ
  named : List ℕ
  takes : TakesIn answer (finds_by_word old.reader) named new.reader.says steps
  looks : new.reader.marks.loads ≡ old.reader.marks.loads ++ looks_at key (before ++ named)
  gains : Gains (steps + more) (model.Find key) old.reader new.reader (reply_of answer new.rows)
  holds : HoldsThen answer key old new

module _ (key : ℕ) (old new : Handed) where
  keeps_anew : (answer : Bool) (begun : ℕ) (before : List ℕ) (finds : Finds answer before begun key old new)
      → BegunIn key old finds.named begun before
      → (old.key ≡ Some key → AskedBefore key old new) → KeepsByHand key old new answer
  keeps_anew true begun before so begins own =
      let none : begun + 0 ≡ begun = omega arith in
      let finds : FindsRowsAfter before (begun + 0) key new.rows old.reader new.reader
      = record {
        steps = so.steps;
        named = so.named;
        says = new.reader.says;
        holds_in = so.takes;
        looks = so.looks;
        gains = rw none so.gains;
      } in
      inr (own, (begun, before, finds, begins, so.holds, refl))
  keeps_anew false begun before so begins own =
      let finds : FindsHoleAfter before begun key old.reader new.reader
      = record { steps = so.steps; named = so.named; finds_in = so.takes; looks = so.looks; gains = so.gains } in
      (own, (begun, before, finds, begins, so.holds))

  pinned : (answer : Bool) → PinsByHand key old new answer → Finds answer [] (steps_to_depart old.key) key old new
  pinned true (so, holds, says) =
      let takes = subst (λ (n : ℕ). HeldIn (finds_by_word old.reader) so.named n so.steps) (sym says) so.holds_in in
      record { steps = so.steps; named = so.named; takes = takes; looks = so.looks; gains = so.gains; holds = holds }
  pinned false (so, holds) =
      let takes = so.finds_in in
      record { steps = so.steps; named = so.named; takes = takes; looks = so.looks; gains = so.gains; holds = holds }

-- the loads before others are of no account
loads_over : (held : Option ℕ) (marks : Marks) (loads more : List LoggedLoad) (put : ℕ)
    → acted (with_loads (departed held (with_loads marks loads)) more) put
    ≡ acted (with_loads (departed held marks) more) put
loads_over held marks loads more put = grind arith

-- whether the hand looks before it lets anything go
looks_own : (key : ℕ) (held : Option ℕ) (says : ℕ) → held ≡ Some key → looks_first key held says ≡ true
looks_own key held says is = rw is (rw (eq-eqb key key refl) refl)

looks_loud : (key other : ℕ) (held : Option ℕ) (says : ℕ) → held ≡ Some other → 0 < says
    → looks_first key held says ≡ true
looks_loud key other held says is loud = grind arith

looks_not : (key other : ℕ) (held : Option ℕ) (says : ℕ) → held ≡ Some other → other ≢ key → says ≡ 0
    → looks_first key held says ≡ false
looks_not key other held says is apart silent = grind arith

-- a look by a hand that holds a set, after which it goes on
module _ (key word : ℕ) (old asked new : Handed) (looks : looks_first key old.key old.reader.says ≡ true)
    (table : asked.reader.table ≡ old.reader.table) (number : asked.reader.number ≡ old.reader.number)
    (says : asked.reader.says ≡ old.reader.says)
    (key_is : asked.key ≡ old.key) (marks : asked.reader.marks ≡ with_look old.reader.marks key (name_number word))
    (grown : (answer : Reply) (m sum : ℕ) → sum ≡ 1 + m → Gains m (model.Find key) asked.reader new.reader answer
    → Gains sum (model.Find key) old.reader new.reader answer) where
  same_words : finds_by_word asked.reader ≡ finds_by_word old.reader
  same_words = λ j. nat_lt (number j - 1) (table j).announcers

  marks_still : (loads : List LoggedLoad) (put : ℕ)
      → acted (with_loads (departed asked.key asked.reader.marks) loads) put
      ≡ acted (with_loads (departed old.key old.reader.marks) loads) put
  marks_still loads put = rw (key_is, marks) (loads_over old.key old.reader.marks _ loads put)

  still : (answer : Bool) → HoldsThen answer key asked new → HoldsThen answer key old new
  still true so =
      assumption
      (so, rw table at so.row_set, so.marks ∙ marks_still new.reader.marks.loads (put_number new.reader.seen key))
  still false so =
      assumption (so, so.marks ∙ marks_still new.reader.marks.loads (put_number new.reader.seen key))

  loads_on : (named : List ℕ) → new.reader.marks.loads ≡ asked.reader.marks.loads ++ looks_at key named
      → new.reader.marks.loads ≡ old.reader.marks.loads ++ looks_at key (name_number word ∷ named)
  loads_on named is =
      is ∙ ap (λ (m : Marks). m.loads ++ looks_at key named) marks
      ∙ append_assoc old.reader.marks.loads (OfKey key (name_number word) ∷ []) (looks_at key named)

  -- the look's word, where the hand goes on to its slot, and where it doesn't
  goes_so : goes_on asked.reader.says word ≡ true → (0 < old.reader.says) × (name_number word ≡ suc (slot_of word))
  goes_so goes = grind arith

  stays_so : goes_on asked.reader.says word ≡ false → 0 < old.reader.says → name_number word ≡ 0
  stays_so stays loud = grind arith

  module _ (answer : Bool) (moves : MovesByHand key word asked new answer) where
    -- the look is the find's first where the hand goes on
    first_look : (goes : Bool) → cond {A = List ℕ} goes [] (name_number word ∷ [])
        ++ (cond {A = List ℕ} goes (name_number word ∷ []) [] ++ moves.1)
        ≡ name_number word ∷ moves.1
    first_look true = refl
    first_look false = refl

    found : (goes : Bool) → goes_on asked.reader.says word ≡ goes
        → Finds answer (cond goes [] (name_number word ∷ [])) (cond goes 0 2) key old new
    found goes is = record {
      steps = moves.0;
      named = cond goes (name_number word ∷ []) [] ++ moves.1;
      takes = rw (← same_words, ← is) moves.2;
      looks =
          loads_on moves.1 moves.5
          ∙ ap (λ (named : List ℕ). old.reader.marks.loads ++ looks_at key named) (sym (first_look goes));
      gains =
          grown (reply_of answer new.rows) (moves.0 + late_by asked.reader.says word - 1) (moves.0 + cond goes 0 2)
          (omega (
            arith,
            some_takes answer _ _ _ moves.0 moves.2,
            ap (λ (b : Bool). cond {A = ℕ} b 0 2) is,
          )) moves.3;
      holds = still answer moves.4;
    }

    pub moved_anew : (old.key ≡ Some key → AskedBefore key old new) → KeepsByHand key old new answer
    unfolding found
    moved_anew own =
        by_cases (λ (b : Bool). goes_on asked.reader.says word ≡ b → KeepsByHand key old new answer)
        (goes_on asked.reader.says word)
        (λ _ goes. let so = goes_so goes in
        keeps_anew key old new answer 0 [] (found true goes)
        (inr (inr (looks, so.0, slot_of word, moves.1, ap (λ (n : ℕ). n ∷ moves.1) so.1, refl, refl))) own)
        (λ _ stays.
        keeps_anew key old new answer 2 (name_number word ∷ []) (found false stays)
        (inr (inl (looks, name_number word, stays_so stays, refl, refl))) own)
        refl

-- a hand that asked in vain goes on
module _ {key : ℕ} (word : ℕ) {old asked : Handed} (new : Handed) (vain : AsksInVain key old asked)
    (held : old.key ≡ Some key) (marks : asked.reader.marks ≡ with_look old.reader.marks key (name_number word)) where
  asked_before : (more : ℕ) (entries : List Entry) (named : List ℕ) → Grows more entries asked.reader new.reader
      → new.reader.marks.loads ≡ asked.reader.marks.loads ++ looks_at key named → AskedBefore key old new
  asked_before more entries named grows loads = (
    asked,
    vain,
    record {
      rest = grows.between ++ entries;
      is = grows.seen ∙ append_assoc asked.reader.seen grows.between entries;
    },
    (looks_at key named, loads),
  )

  went_on : (answer : Reply) (m sum : ℕ) → sum ≡ 1 + m → Gains m (model.Find key) asked.reader new.reader answer
      → Gains sum (model.Find key) old.reader new.reader answer
  went_on answer m sum is gains =
      grows_gains 1 m sum old.reader asked.reader new.reader (model.Find key) answer is vain.grows gains

  pub asked_anew : (answer : Bool) → MovesByHand key word asked new answer → KeepsByHand key old new answer
  asked_anew answer so =
      moved_anew key word old asked new (looks_own key old.key old.reader.says held) vain.grows.table vain.grows.number
      vain.says vain.key_is marks went_on answer so (λ _. asked_before _ _ so.1 so.3 so.5)

-- so does one that holds by its word another key's set, and looked ahead
module _ {key : ℕ} (word : ℕ) {other : ℕ} (old ahead new : Handed) (held : old.key ≡ Some other) (apart : other ≢ key)
    (loud : 0 < old.reader.says) (look : ahead.reader ≡ after_look key (name_number word) old.reader)
    (key_is : ahead.key ≡ old.key) where
  rests : Rests 1 old.reader ahead.reader
  rests = rw look assumption

  gains_on : (answer : Reply) (m sum : ℕ) → sum ≡ 1 + m → Gains m (model.Find key) ahead.reader new.reader answer
      → Gains sum (model.Find key) old.reader new.reader answer
  gains_on answer m sum is gains =
      rests_gains 1 m sum old.reader ahead.reader new.reader (model.Find key) answer is rests gains

  pub looked_anew : (answer : Bool) → MovesByHand key word ahead new answer → KeepsByHand key old new answer
  looked_anew answer moves =
      moved_anew key word old ahead new (looks_loud key other old.key old.reader.says held loud) rests.table
      rests.number (ap (λ (c : Caller). c.says) look) key_is (ap (λ (c : Caller). c.marks) look) gains_on answer
      moves (λ own. absurd (apart (cc)))

-- a hand that holds nothing, or another key's set by the count, pins the key without a look
module _ (key : ℕ) (old new : Handed) (apart : old.key ≢ Some key)
    (looks : looks_first key old.key old.reader.says ≡ false) where
  pub pinned_anew : (answer : Bool) → PinsByHand key old new answer → KeepsByHand key old new answer
  pinned_anew answer pins =
      keeps_anew key old new answer (steps_to_depart old.key) [] (pinned key old new answer pins)
      (inl (looks, refl, refl)) (λ own. absurd (apart own))

pub pinned_none : (key : ℕ) (old new : Handed) (answer : Bool) → old.key ≡ None → PinsByHand key old new answer
    → KeepsByHand key old new answer
pinned_none key old new answer none =
    pinned_anew key old new (λ own. absurd (cc)) (rw none refl) answer

pub pinned_other : (key other : ℕ) (old new : Handed) (answer : Bool) → old.key ≡ Some other → other ≢ key
    → old.reader.says ≡ 0 → PinsByHand key old new answer → KeepsByHand key old new answer
pinned_other key other old new answer held apart silent =
    pinned_anew key old new (λ own. absurd (apart (cc)))
    (looks_not key other old.key old.reader.says held apart silent) answer

-- what it held by the count it lets go, after the look
pub pinned_late : (key word : ℕ) (old new : Handed) (answer : Bool) → IsSome old.key → old.reader.says ≡ 0
    → PinsByHand key old new answer → MovesByHand key word old new answer
pinned_late key word old new answer held silent pins =
    let finds = pinned key old new answer pins in
    let stays : goes_on old.reader.says word ≡ false = rw silent refl in
    let one : steps_to_depart old.key ≡ 1 = grind arith in
    let late : late_by old.reader.says word ≡ 2 = rw stays refl in (
      finds.steps,
      finds.named,
      rw stays finds.takes,
      rw
          (let steps : finds.steps + late_by old.reader.says word - 1 ≡ finds.steps + steps_to_depart old.key
          = omega arith in steps)
          finds.gains,
      finds.holds,
      finds.looks,
    )

-- what a look and a load tell of the hand, whose seat they are made by
module _ {key : ℕ} (before after : MapSeat) (held : Option Kept) (role : after.me.0.role ≡ before.me.0.role)
    (says : after.me.0.says ≡ before.me.0.says) where
  pub looked_in_vain : (slot word : ℕ) → (token before).holds ≡ Some slot → names_slot slot word ≡ false
      → Grows 1 [] (token before) (token after)
      → (names_slot slot word ≡ true) ↔ HasPut key before.me.0.marks.put (token after)
      → after.me.0.marks ≡ found_again (names_slot slot word) (with_look before.me.0.marks key (name_number word))
      → AsksInVain key (handed before held) (handed after held)
      × (after.me.0.marks ≡ with_look before.me.0.marks key (name_number word))
  looked_in_vain slot word grips gone grows exact marks =
      let is = rw gone at marks in (
        record {
          grows = grows;
          other = λ has. absurd (let yes = exact.1 has in let is_not = gone in cc);
          key_is = refl;
          rows = ap rows_held role;
          holds = ap (λ (r : Role). gripped (grip_of r)) role;
          says = says;
          marks = record {
            named = name_number word;
            exact = (
              (λ no. absurd (cc)),
              (λ named. sym gone
                  ∙ eq-eqb (name_number word) (suc slot) (named ∙ ap (λ (o : Option ℕ). suc (slot_in o)) grips)),
            );
            marks = is;
          };
        },
        is,
      )

-- a seat that holds a set holds its slot
pub holds_slot : (table : Table) (held : Held) (seat : MapSeat) → HeldAs table held seat → HoldsSlot (token seat)
holds_slot table held seat so = let role = so.holds.holds.is in record {
  slot = slot_held seat.me.0.role;
  is = ap (λ (r : Role). gripped (grip_of r)) role;
  inside = subst (λ (t : Table). slot_held seat.me.0.role < t.shape.slots) (sym so.holds.own) so.holds.holds.inside;
  said = λ loud. held_says table held seat so loud ∙ ap (λ (r : Role). suc (slot_in (gripped (grip_of r)))) role;
}

-- what a pin or a hand holds by its word is the slot that this says
pub pin_says : (own : Own) (held : Held) (seat : MapSeat) → Pins seat own held → HoldsWhatItSays (token seat)
pin_says own held seat pins = held_says (token seat).table held seat pins.holds

pub hand_says : (own : Own) (held : Option Kept) (seat : MapSeat) → IsHand seat own held → HoldsWhatItSays (token seat)
hand_says own None seat is = λ loud. absurd (omega (arith, loud, is.1.silent))
hand_says own (Some kept) seat is = pin_says own kept.set seat is

-- a hand's seat is a reader's, whatever it holds
pub hand_role : (own : Own) (held : Option Kept) (seat : MapSeat) → IsHand seat own held
    → (grip : Grip) × (seat.me.0.role ≡ Reader (caller_number seat.me.0.role) grip)
hand_role own None seat is = (Nothing, is.1.idle)
hand_role own (Some kept) seat is = let role : Role = seat.me.0.role in
    (grip_of (holding role (is_sized (grip_of role))), is.holds.holds.holds.is)
