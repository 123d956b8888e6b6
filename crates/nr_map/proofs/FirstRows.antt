-- Finds that read the first rows of a set: as many as a list takes, which are put over its first ones; or the first,
-- which may be a tag, and those behind it. The reader lets the set go then, or it is a hand that keeps it.
use Rattle.std.proofs.lemmas.Grind.{common_steps}
use Rattle.std.proofs.Common.{◌≡◌, ◌∙◌, ℕ, ◌+◌, ◌-◌, ◌*◌, ◌<◌, ◌≤◌, List, length, drop, set, ap, refl, arith, get_or}
use Rattle.std.proofs.Common.{suc, Some, [], ◌∷◌, sym, subst, true, ◌↔◌, IsTrue, nat_eq, min, slice_get, eqb-true}
use Rattle.std.proofs.Common.{eq-eqb}
use Rattle.nr_model.specs.declared.rows.Row.{Row}
use Rattle.nr_model.proofs.RefillLemmas.{put_one}
use Rattle.nr_board.proofs.Tokens.{rests_both, rests_none, MapSeat, grows_rests}
use Rattle.nr_map.specs.FirstRows.{ArePutOver, FindsFirst, FindsTaggedFirst, put_first}
use Rattle.nr_map.specs.Hands.{CopiesHeld, Handed, KeepsByHand, FindsAndReads}
use Rattle.nr_map.specs.Tagged.{KeepsTagged, FindsTagged, FindsTaggedKept, IsTagged}
use Rattle.nr_map.specs.declared.tagged.Tagged.TheVariants as tagged
use Rattle.nr_map.proofs.Pinning.{reads_on}
use Rattle.std.proofs.lemmas.Option.{get_or_from_slice_get}
use Rattle.nr_model.specs.Rows.{IsRowSet}
use Rattle.nr_core.specs.Marks.{Marks, acted}
use Rattle.nr_board.specs.Callers.{Rests, Table, token}
use Rattle.nr_board.specs.Holds.{FindsRows, HoldsAfter, finds_by_word}
use Rattle.nr_board.specs.Views.{rows_held}
use Rattle.nr_board.specs.declared.holds.Held.{Held}

-- one row more
pub put_next : (rows before cells : List Row) (place : ℕ) (row : Row) → get_or rows place row ≡ row
    → place < length rows → place < length cells → ArePutOver rows before place cells
    → ArePutOver rows before (place + 1) (set cells place row)
put_next rows before cells place row read within room is = grind (arith, common_steps, put_one)

-- as many as there are, or as there is room for
pub put_whole : (rows before cells : List Row) (put : ℕ) → put ≡ min (length before) (length rows)
    → ArePutOver rows before put cells → cells ≡ put_first rows before
put_whole rows before cells put is over = grind (arith, common_steps)

copies_both : (one two sum : ℕ) (first mid new : Handed) → sum ≡ one + two → CopiesHeld one first mid
    → CopiesHeld two mid new → CopiesHeld sum first new
copies_both one two sum first mid new is once then = record {
  key_is = then.key_is ∙ once.key_is;
  rows = then.rows ∙ once.rows;
  rests = rests_both one two sum first.reader mid.reader new.reader is once.rests then.rests;
  holds = then.holds ∙ once.holds;
  says = then.says ∙ once.says;
  marks = then.marks ∙ once.marks;
}

-- so many of the rows that a hand holds, from one on, are over the first cells
pub record CopiedSoFar (from : ℕ) (first : Handed) (before : List Row) (put : ℕ) (hand : Handed)
    (cells : List Row) : Type 0 where
  pub over : ArePutOver (drop from first.rows) before put cells
  pub reads : CopiesHeld (2 * put) first hand

-- at first none are
pub copied_none : (from : ℕ) (first : Handed) (before : List Row) (put : ℕ) → put ≡ 0
    → CopiedSoFar from first before put first before
copied_none from first before put is = rw is (record { over = refl; reads = assumption (rests_none first.reader) })

pub copied_on : {from : ℕ} {first hand next : Handed} {before cells after : List Row} {put : ℕ} (more : ℕ)
    → CopiedSoFar from first before put hand cells
    → ((old : List Row) → ArePutOver (drop from hand.rows) old put cells
    → ArePutOver (drop from hand.rows) old more after) → put ≤ more → CopiesHeld (2 * (more - put)) hand next
    → CopiedSoFar from first before more next after
copied_on {first = first} {hand = hand} {next = next} {before = before} {put = put} more had puts up reads = record {
  over = (rw had.reads.rows at (puts before)) had.over;
  reads = copies_both (2 * put) (2 * (more - put)) (2 * more) first hand next (omega (arith, up)) had.reads reads;
}

-- a find that reads as many rows as there is room for
pub found_first : (key : ℕ) (old mid new : Handed) (before cells : List Row) (count : ℕ)
    → KeepsByHand key old mid true → CopiesHeld (2 * min (length before) (length mid.rows - 0)) mid new
    → cells ≡ put_first (drop 0 mid.rows) before → count ≡ length new.rows
    → FindsFirst key old before new cells (Some count)
found_first key old mid new before cells count keeps copies put told =
    let long : length new.rows ≡ length mid.rows = ap (λ (l : List Row). length l) copies.rows in (
      reads_on copies 0 (2 * min (length before) (length new.rows)) (omega (arith, long)) keeps,
      rw copies.rows put,
      told,
    )

pub found_behind : (tag : Row) (key : ℕ) (old mid new : Handed) (before cells : List Row) (count : ℕ)
    → KeepsTagged tag key old mid tagged.Rows → CopiesHeld (2 * min (length before) (length mid.rows - 1)) mid new
    → cells ≡ put_first (drop 1 mid.rows) before → count ≡ length new.rows
    → FindsTaggedFirst tag key old before new cells (count - 1) tagged.Rows
found_behind tag key old mid new before cells count ((rows, is), keeps) copies put told =
    let long : length mid.rows ≡ suc (length rows) = ap (λ (l : List Row). length l) is in
    let as_long : length new.rows ≡ length mid.rows = ap (λ (l : List Row). length l) copies.rows in (
      rows,
      copies.rows ∙ is,
      reads_on copies 2 (2 + 2 * min (length before) (length rows)) (omega (arith, long)) keeps,
      rw is at put,
      omega (arith, told, long, as_long),
    )

-- A TAG

-- a set whose first row has the tag's first number begins with the tag where it has the second one, too
pub begins : (rows : List Row) (first tag : Row) → slice_get rows 0 ≡ Some first → first.a ≡ tag.a
    → IsTrue (nat_eq first.b tag.b) ↔ IsTagged tag rows
begins [] first tag is same = absurd (cc)
begins (row ∷ rows) first tag is same = (
  (λ also. (rows, λ j. (row_is ∙ (λ i. record { a = same i; b = eqb-true first.b tag.b also i })) j ∷ rows)),
  (λ (rest, set). eq-eqb first.b tag.b
      (ap (λ (r : Row). r.b) (sym row_is ∙ ap (λ (l : List Row). get_or l 0 first) set))),
)
  where
    row_is : row ≡ first
    row_is = get_or_from_slice_get (row ∷ rows) 0 first first is

-- between the hold and the release it reads the first row
module _ {table : Table} {key : ℕ} {old found : MapSeat} (read left last : MapSeat) {held : Held}
    (own : (token old).table ≡ table)
    (holds : HoldsAfter 0 (finds_by_word (token old)) table key old.me.0.marks old found (Some held))
    (first : Rests (2 * min 1 (length (rows_held found.me.0.role))) (token found) (token read))
    (kept : read.me.0.marks ≡ found.me.0.marks) (release : Rests 1 (token left) (token last))
    (acts : last.me.0.marks ≡ acted left.me.0.marks left.me.0.marks.put) where
  finds_rows : (more sum : ℕ) → sum ≡ more + 1 → left.me.0.marks ≡ found.me.0.marks
      → Rests more (token found) (token left) → FindsRows sum key (rows_held found.me.0.role) (token old) (token last)
  finds_rows more sum is still rests = record {
    steps = holds.steps;
    named = holds.named;
    says = held.says;
    holds_in = holds.takes;
    looks = ap (λ (m : Marks). m.loads) (acts ∙ ap (λ (m : Marks). acted m m.put) (still ∙ holds.answered.marks_are));
    gains = grows_rests (holds.steps + 0) sum (holds.steps + sum) (token old) _ (token found) (token last) (omega arith)
        holds.answered.gains (rests_both more 1 sum (token found) (token left) (token last) is rests release);
  }

  -- the tag's set: then those behind it
  pub has_tag : {Room : Type 0} (shows : Room → List Row → Type 0) (tag : Row) (copied : MapSeat) (before after : Room)
      → IsTagged tag (rows_held found.me.0.role)
      → rows_held read.me.0.role ≡ rows_held found.me.0.role → shows after (drop 1 (rows_held read.me.0.role))
      → Rests (2 * (length (rows_held read.me.0.role) - 1)) (token read) (token copied)
      → copied.me.0.marks ≡ read.me.0.marks → left ≡ copied
      → FindsTagged shows tag key (token old) before (token last) after tagged.Rows
  has_tag shows tag copied before after (rows, set) same shown others marks is = (
    rows,
    subst (λ (l : List Row). FindsRows (2 * length (tag ∷ rows) + 1) key l (token old) (token last)) set
        (finds_rows (2 * length (tag ∷ rows)) (2 * length (tag ∷ rows) + 1) refl
        (ap (λ (s : MapSeat). s.me.0.marks) is ∙ marks ∙ kept)
        (subst (λ (s : MapSeat). Rests (2 * length (tag ∷ rows)) (token found) (token s)) (sym is)
        (rests_both _ _ (2 * length (tag ∷ rows)) (token found) (token read) (token copied) steps first others))),
    rw (same, set) at shown,
    subst (IsRowSet (token old).table.shape.rows) set
        (subst (λ (t : Table). IsRowSet t.shape.rows (rows_held found.me.0.role)) (sym own)
        holds.answered.held_as.holds.holds.row_set),
  )
    where
      length_is : length (rows_held found.me.0.role) ≡ suc (length rows)
      length_is = ap (λ (l : List Row). length l) set

      length_read : length (rows_held read.me.0.role) ≡ suc (length rows)
      length_read = ap (λ (l : List Row). length l) (same ∙ set)

      steps : 2 * length (tag ∷ rows)
          ≡ 2 * min 1 (length (rows_held found.me.0.role)) + 2 * (length (rows_held read.me.0.role) - 1)
      steps = omega (arith, length_is, length_read)

  -- another set: nothing more
  pub has_no_tag : {Room : Type 0} (shows : Room → List Row → Type 0) (tag : Row) (before after : Room)
      → (IsTagged tag (rows_held found.me.0.role) → ⊥) → left ≡ read → after ≡ before
      → FindsTagged shows tag key (token old) before (token last) after tagged.Other
  has_no_tag shows tag before after other is stays =
      let some = min 1 (length (rows_held found.me.0.role)) in (
        rows_held found.me.0.role,
        finds_rows (2 * some) (2 * some + 1) refl (ap (λ (s : MapSeat). s.me.0.marks) is ∙ kept)
            (subst (λ (s : MapSeat). Rests (2 * some) (token found) (token s)) (sym is) first),
        (λ rows set. other (rows, set)),
        stays,
      )

-- A HAND THAT KEEPS ITS HOLD

-- the first row was read, of which it tells
module _ (tag : Row) (key : ℕ) (old mid new : Handed) (keeps : KeepsByHand key old mid true)
    (copies : CopiesHeld (2 * min 1 (length mid.rows)) mid new) where
  pub kept_tagged : IsTagged tag mid.rows → KeepsTagged tag key old new tagged.Rows
  kept_tagged (rows, is) =
      let long : length mid.rows ≡ suc (length rows) = ap (λ (l : List Row). length l) is in (
        (rows, copies.rows ∙ is),
        reads_on copies 0 2 (omega (arith, long)) keeps,
      )

  pub kept_other : (IsTagged tag mid.rows → ⊥) → KeepsTagged tag key old new tagged.Other
  kept_other other = (
    (λ has. other (has.0, sym copies.rows ∙ has.1)),
    subst (λ (l : List Row). FindsAndReads (2 * min 1 (length l)) key old new) (sym copies.rows)
        (reads_on copies 0 (2 * min 1 (length mid.rows)) (omega arith) keeps),
  )

-- and those behind it
pub read_behind : {Room : Type 0} (shows : Room → List Row → Type 0) (tag : Row) (key : ℕ) (old mid new : Handed)
    (before room : Room) → KeepsTagged tag key old mid tagged.Rows
    → CopiesHeld (2 * (length mid.rows - 1)) mid new → shows room (drop 1 mid.rows)
    → FindsTaggedKept shows tag key old before new room tagged.Rows
read_behind shows tag key old mid new before room ((rows, is), keeps) copies shown =
    let long : length mid.rows ≡ suc (length rows) = ap (λ (l : List Row). length l) is in (
      rows,
      copies.rows ∙ is,
      reads_on copies 2 (2 * length (tag ∷ rows)) (omega (arith, long)) keeps,
      rw is at shown,
    )
