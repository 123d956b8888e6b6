-- Finds by a hand that holds nothing, as those of its reader.
use Rattle.std.proofs.Common.{◌≡◌, ℕ, ◌+◌, arith, ap, subst, ◌∙◌}
use Rattle.nr_core.specs.Marks.{Marks, with_loads}
use Rattle.nr_core.specs.Puts.{put_number}
use Rattle.nr_board.specs.Callers.{Caller}
use Rattle.nr_board.specs.declared.answers.Found.{Found}
use Rattle.nr_map.specs.Answers.{FindsIn, acts_of, marks_found}
use Rattle.nr_map.specs.Hands.{FindsAndLetsGo, Handed}
use Rattle.nr_c.specs.declared.rows.NrRows.{NrRows}
use Rattle.nr_c.specs.Codes.{found_code}
use Rattle.nr_c.specs.Hands.{HoldsNone}
use Rattle.nr_c.specs.Live.{FindsByCode}
use Rattle.nr_c.specs.RowCells.{ShowsSet}

-- a find's acts are those that its answer tells
acts_found : (answer : Found) (marks : Marks) (put : ℕ)
    → (marks_found answer marks put).acts ≡ marks.acts + acts_of answer
acts_found answer marks put = grind arith

module _ (key : ℕ) (old new : Handed) (before after : NrRows) (answer : Found)
    (finds : FindsAndLetsGo ShowsSet key old before new after answer) where
  pub still_idle : HoldsNone new
  still_idle = ap (λ (h : Handed). h.key) finds.rests

  pub finds_by_code : (code : ℕ) → code ≡ found_code answer → HoldsNone old
      → FindsByCode key before after old.reader new.reader code
  finds_by_code code is none = let same = finds.was_idle none in (
    answer,
    is,
    subst (λ (r : Caller). FindsIn ShowsSet key r before new.reader after answer) same finds.finds,
    finds.holds,
    ap (λ (m : Marks). m.acts) finds.marks
        ∙ acts_found answer (with_loads finds.reader.marks new.reader.marks.loads) (put_number new.reader.seen key)
        ∙ ap (λ (r : Caller). r.marks.acts + acts_of answer) same,
  )
