-- What a hold comes to: for a reader that held nothing, for a hand that let go what it held, and for one that reads the
-- rows then.
use Rattle.std.proofs.Common.{◌≡◌, ℕ, ◌+◌, ◌-◌, ◌*◌, ◌<◌, Option, Some, None, ⊎_elim, inl, inr, refl, ap, ◌∙◌, sym}
use Rattle.std.proofs.Common.{subst, arith, true, List, length, Ok, Err, le-ltb, lt-ltb}
use Rattle.nr_words.specs.KeyWords.{is_filled}
use Rattle.nr_model.specs.declared.rows.Row.{Row}
use Rattle.nr_model.specs.Rows.{IsRowSet}
use Rattle.nr_core.specs.declared.roles.Role.{Role}
use Rattle.nr_core.specs.Marks.{Marks, gripped}
use Rattle.nr_board.proofs.Holding.{rests_gains}
use Rattle.nr_board.proofs.Tokens.{MapSeat, grows_rests}
use Rattle.nr_board.specs.Callers.{Caller, Rests, Table, token}
use Rattle.nr_board.specs.Holds.{FindsRows, HoldsAfter, MovesTo, finds_by_word}
use Rattle.nr_board.specs.Views.{grip_of, rows_held}
use Rattle.nr_board.specs.declared.answers.Found.TheVariants as found
use Rattle.nr_board.specs.declared.board.Own.{Own}
use Rattle.nr_board.specs.declared.holds.Held.{Held}
use Rattle.nr_map.specs.declared.hand.Kept.{Kept}
use Rattle.nr_map.specs.Answers.{FindsByCounts}
use Rattle.nr_map.specs.Pins.{HoldsSlot, Pins, PinsKey}
use Rattle.nr_map.specs.Hands.{HoldsAnew, CopiesHeld, FindsAndReads, FindsHeld, FindsKept, Handed, HoldsKey}
use Rattle.nr_map.specs.Hands.{KeepsByHand, LetsGo, MovesByHand, PinsByHand, departed, goes_on, handed, steps_to_depart}
use Rattle.nr_map.proofs.HandSteps.{holds_slot}

-- a reader that found a hole comes back
pub pins_hole : {table : Table} {key : ℕ} {reader back : Caller} {old new : MapSeat} → token old ≡ reader
    → back ≡ token new → HoldsAfter 0 (finds_by_word (token old)) table key old.me.0.marks old new None
    → PinsKey key reader (Err back)
pins_hole is came holds =
    rw (← is, came) (
      record {
        steps = holds.steps;
        named = holds.named;
        finds_in = holds.takes;
        looks = ap (λ (m : Marks). m.loads) holds.answered.marks_are;
        gains = holds.answered.gains;
      },
      holds.answered.marks_are,
      ap (λ (r : Role). gripped (grip_of r)) holds.answered.idles.idle,
      holds.answered.idles.silent,
    )

-- a hold of a key's set, by the seats before and after it
module _ {table : Table} {key : ℕ} {old new : MapSeat} {held : Held}
    (holds : HoldsAfter 0 (finds_by_word (token old)) table key old.me.0.marks old new (Some held)) where
  holds_its_slot : HoldsSlot (token new)
  holds_its_slot = holds_slot table held new holds.answered.held_as

  -- a reader's pin
  pub pins_key : {reader : Caller} → token old ≡ reader
      → PinsKey key reader (Ok (record { reader = token new; rows = rows_held new.me.0.role }))
  pins_key is =
      rw (← is) (
        record {
          steps = holds.steps;
          named = holds.named;
          says = held.says;
          holds_in = holds.takes;
          looks = ap (λ (m : Marks). m.loads) holds.answered.marks_are;
          gains = holds.answered.gains;
        },
        holds.answered.marks_are,
        holds_its_slot,
        holds.answered.held_as.says,
      )

  -- a hand's, which let go what it held
  module _ {first between : Handed} (lets : LetsGo first between) (is : between.reader ≡ token old) where
    departed_loads : (held : Option ℕ) (marks : Marks) → (departed held marks).loads ≡ marks.loads
    departed_loads held marks = grind arith

    rests : Rests (steps_to_depart first.key) first.reader (token old)
    rests = subst (Rests (steps_to_depart first.key) first.reader) is lets.rests

    marks_between : old.me.0.marks ≡ departed first.key first.reader.marks
    marks_between = ap (λ (c : Caller). c.marks) (sym is) ∙ lets.marks

    finds : FindsRows (steps_to_depart first.key) key (rows_held new.me.0.role) first.reader (token new)
    finds = record {
      steps = holds.steps;
      named = holds.named;
      says = held.says;
      holds_in = rw (← rests.number, ← rests.table) holds.takes;
      looks = rw (holds.answered.marks_are, marks_between, departed_loads) refl;
      gains =
          rests_gains (steps_to_depart first.key) (holds.steps + 0) (holds.steps + steps_to_depart first.key) _ _ _ _ _
          (omega arith) rests holds.answered.gains;
    }

    pub pins_by_hand : (kept : Kept) → kept.key ≡ key → PinsByHand key first (handed new (Some kept)) true
    unfolding finds
    pins_by_hand kept same = (
      finds,
      record {
        key_is = ap Some same;
        row_set =
            subst (λ (t : Table). IsRowSet t.shape.rows (rows_held new.me.0.role))
            (sym holds.answered.held_as.holds.own ∙ finds.gains.table) holds.answered.held_as.holds.holds.row_set;
        holds = holds_its_slot;
        marks = rw (← marks_between, holds.answered.marks_are) refl;
      },
      holds.answered.held_as.says,
    )

-- a hand that holds by its word went on to a key's set
pub moves_by_hand : {table : Table} {key word : ℕ} {own : Own} {old new : MapSeat} (was kept : Kept) {held : Held}
    → Pins old own was.set → 0 < was.set.says → kept.key ≡ key → MovesTo table key word old new (Some held)
    → MovesByHand key word (handed old (Some was)) (handed new (Some kept)) true
moves_by_hand {table} {key} {word} {own} {old} {new} was kept {held} pins loud same moves =
    let so = moves.answered in
    let by : finds_by_word (token old) ≡ true
    = lt-ltb ((token old).number - 1) (token old).table.announcers
    (omega (arith, pins.reader.number, pins.holds.worded loud)) in
    let goes : goes_on old.me.0.says word ≡ is_filled word
    = rw (lt-ltb 0 old.me.0.says (omega (arith, pins.holds.says, loud))) refl in (
      moves.steps,
      moves.named,
      rw (by, goes, so.held_as.says) moves.takes,
      rw goes so.gains,
      record {
        key_is = ap Some same;
        row_set =
            subst (λ (t : Table). IsRowSet t.shape.rows (rows_held new.me.0.role))
            (sym so.held_as.holds.own ∙ so.gains.table) so.held_as.holds.holds.row_set;
        holds = holds_slot table held new so.held_as;
        marks = rw so.marks_are refl;
      },
      ap (λ (m : Marks). m.loads) so.marks_are,
    )

-- a hand that keeps its hold read on, of what it holds
module _ {key : ℕ} {old mid new : Handed} {more : ℕ} (copies : CopiesHeld more mid new) where
  still_holds : HoldsKey key old mid → HoldsKey key old new
  still_holds so = record {
    key_is = copies.key_is ∙ so.key_is;
    row_set = rw copies.rows so.row_set;
    holds = record {
      slot = so.holds.slot;
      is = copies.holds ∙ so.holds.is;
      inside = rw copies.rests.table so.holds.inside;
      said = λ loud. copies.says ∙ so.holds.said (omega (arith, loud, copies.says));
    };
    marks = rw (copies.marks, copies.rests.seen) so.marks;
  }

  pub reads_on : (read sum : ℕ) → sum ≡ read + more → FindsAndReads read key old mid → FindsAndReads sum key old new
  reads_on read sum is keeps = ⊎_elim
      (λ again. inl
      (record {
        held = again.held;
        gains = grows_rests (read + 1) more (sum + 1) _ _ _ _ (omega (arith, is)) again.gains copies.rests;
        put = rw (copies.rests.table, copies.rests.seen) again.put;
        key_is = copies.key_is ∙ again.key_is;
        rows = copies.rows ∙ again.rows;
        holds = copies.holds ∙ again.holds;
        says = copies.says ∙ again.says;
        marks = rw copies.marks again.marks;
      }))
      (λ anew. let so = anew.1 in let f = so.2 in inr (
        (λ own.
            let asked = anew.0 own in (
              asked.0,
              asked.1,
              record { rest = asked.2.rest; is = copies.rests.seen ∙ asked.2.is },
              (asked.3.0, ap (λ (m : Marks). m.loads) copies.marks ∙ asked.3.1),
            )),
        (
          so.0,
          so.1,
          record {
            steps = f.steps;
            named = f.named;
            says = f.says;
            holds_in = f.holds_in;
            looks = ap (λ (m : Marks). m.loads) copies.marks ∙ f.looks;
            gains =
                rw copies.rows
                (grows_rests (f.steps + (so.0 + read)) more (f.steps + (so.0 + sum)) _ _ _ _ (omega (arith, is)) f.gains
                copies.rests);
          },
          so.3,
          still_holds so.4,
          copies.says ∙ so.5,
        ),
      ))
      keeps

-- it read all rows that it holds
module _ {Room : Type 0} (shows : Room → List Row → Type 0) (key : ℕ) (old mid new : Handed) (before room : Room)
    (copies : CopiesHeld (2 * length mid.rows) mid new) (shown : shows room mid.rows) where
  pub finds_kept : KeepsByHand key old mid true → FindsKept shows key old before new room found.Rows
  finds_kept keeps = ⊎_elim
      (λ again. let same : mid.rows ≡ old.rows = sym copies.rows ∙ again.rows in inl (
        subst (λ (l : List Row). FindsHeld (2 * length l + 1) key old new) same again,
        subst (shows room) same shown,
        refl,
      ))
      (λ anew. inr (
        anew.0,
        (
          subst (λ (l : List Row). HoldsAnew (2 * length l) key old new) (sym copies.rows) anew.1,
          rw copies.rows shown,
        ),
      ))
      (reads_on copies 0 (2 * length mid.rows) (omega arith) keeps)

-- where no reader has a word, finds take the steps of the counted way
pub finds_by_counts_lem : FindsByCounts
finds_by_counts_lem more key rows old new none =
    let by_count = le-ltb (old.number - 1) old.table.announcers (omega (arith, none)) in (
      (λ finds. let two = (rw by_count at finds.holds_in).2 in rw two at finds.gains),
      (λ finds. let one = (rw by_count at finds.finds_in).1 in rw one at finds.gains),
    )
