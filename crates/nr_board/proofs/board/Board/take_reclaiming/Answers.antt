use Rattle.std.proofs.Common.{Bool, List, ap, arith, false, inl, inr, length, refl, slice_index_or, subst, sym, ℕ, ◌*◌}
use Rattle.std.proofs.Common.{◌+◌, ◌∙◌, ◌≡◌}
use Rattle.nr_model.specs.Rows.{IsRowSet}
use Rattle.nr_model.specs.declared.rows.Row.{Row}
use Rattle.nr_core.specs.declared.shape.Shape.{Shape}
use Rattle.nr_core.specs.SlotLists.{SlotLists}
use Rattle.nr_core.specs.Marks.{Marks, set_in}
use Rattle.nr_board.proofs.Searching.{takes_fresh}
use Rattle.nr_board.proofs.Waiting.{takes_later}
use Rattle.nr_board.specs.Recalls.{later, waited}
use Rattle.nr_board.specs.WriterSeats.{MapSeat, TakesSlot}
use Rattle.nr_board.proofs.board.Board.take_reclaiming.Goals as goal

-- no step later
at_once : (seat : MapSeat) → seat ≡ later 0 seat
at_once seat = λ j. record seat { me = (record seat.me.0 { steps = same j }, seat.me.1) }
  where
    same : seat.me.0.steps ≡ seat.me.0.steps + 0
    same = omega arith

pub returns-in-Some-clause-takes : goal.returns-in-Some-clause-takes
returns-in-Some-clause-takes g c =
    let map = c.args.self.now in
    let lists = c.args.lists.now in
    let seat = c.args.seat.now in
    let fresh = c.in-Some.ensures in (
      0,
      subst
          (λ (p : Shape × MapSeat). TakesSlot map g.G.BegunCall.call c.args.rows.now p.1 lists seat
          c.take_fresh.new.self
          c.in-Some.slot p.0.first_count)
          (λ j. (sym c.shape.ensures j, at_once seat j))
          (takes_fresh map g.G.BegunCall.call c.args.rows.now lists c.take_fresh.new.self seat c.in-Some.slot
          c.requires.settles fresh.0 fresh.1 fresh.2),
      (inl fresh.0, refl, refl),
    )

pub returns-then-is_reaped-clause-takes : goal.returns-then-is_reaped-clause-takes
returns-then-is_reaped-clause-takes g c =
    let map = c.args.self.now in
    let lists = c.args.lists.now in
    let seat = c.args.seat.now in
    let taken = c.in_ok-taken.taken in
    let took
    = subst
    (λ (s : SlotLists). TakesSlot map g.G.BegunCall.call c.args.rows.now seat s c.take_retired.new.seat
    c.take_retired.new.lists taken.slot taken.departures)
    c.in_default.ensures.1 c.in_ok-taken.ensures.takes in (
      0,
      rw (sym (at_once seat)) took,
      (
        inr
            (ap (λ (flags : List Bool). slice_index_or flags taken.slot false) (sym took.reaped)
            ∙ sym c.is_reaped.ensures
            ∙ c.if-is_reaped.true),
        refl,
        refl,
      ),
    )

pub returns-clause-takes : goal.returns-clause-takes
returns-clause-takes g c =
    let map = c.args.self.now in
    let lists = c.args.lists.now in
    let seat = c.args.seat.now in
    let taken = c.in_ok-taken.taken in
    let mid = c.take_retired.new.seat in
    let took
    = subst
    (λ (s : SlotLists). TakesSlot map g.G.BegunCall.call c.args.rows.now seat s mid c.take_retired.new.lists
    taken.slot taken.departures)
    c.in_default.ensures.1 c.in_ok-taken.ensures.takes in
    let had = ap (λ (marks : Marks). set_in marks taken.slot) took.marks in
    let steps : ℕ = 2 * length (set_in seat.me.0.marks taken.slot) + 1 in (
      steps,
      takes_later map g.G.BegunCall.call c.args.rows.now taken.slot taken.departures lists c.take_retired.new.lists seat
          mid c.recall_set.new.seat steps took c.recall_set.ensures.own
          (c.recall_set.ensures.waits ∙ ap (λ (set : List Row). waited (2 * length set + 1) mid.me.0) had),
      (
        c.in_default.ensures.0,
        ap (λ (flags : List Bool). slice_index_or flags taken.slot false) (sym took.reaped) ∙ sym c.is_reaped.ensures
            ∙ c.if-is_reaped.false,
        refl,
        subst (λ (set : List Row). g.R.RowRoom.shows c.recall_set.new.rows set) had c.recall_set.ensures.rows,
        subst (λ (set : List Row). IsRowSet map.shape.rows set) had c.recall_set.ensures.row_set,
      ),
    )
