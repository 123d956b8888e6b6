-- The writer's seat as the source of the rows that were put into a slot last.
use Rattle.std.specs.Prelude.{◌≡◌, ℕ, ◌+◌, ◌*◌}
use Rattle.std.proofs.Common.{◌∙◌, refl, arith}
use Rattle.nr_board.specs.declared.recalls.Recalled.{Recalled}
use Rattle.nr_board.specs.Recalls.{waited}
use Rattle.nr_board.specs.Views.{view_of}

-- that many rows were read by the same seat
pub record GaveRecalled (first : Recalled) (count : ℕ) (last : Recalled) : Type 0 where
  pub name : last.seat.ghost_name ≡ first.seat.ghost_name
  pub board : last.board.now ≡ first.board.now
  pub slot : last.slot ≡ first.slot
  pub own : last.seat.now.table_id ≡ first.seat.now.table_id
  pub waits : view_of last.seat.now ≡ waited (2 * count) (view_of first.seat.now)

pub gives_none : (source : Recalled) → GaveRecalled source 0 source
gives_none source = record {
  name = refl;
  board = refl;
  slot = refl;
  own = refl;
  waits = λ j. record (view_of source.seat.now) { steps = none j };
}
  where
    none : (view_of source.seat.now).steps ≡ (view_of source.seat.now).steps + 2 * 0
    none = omega arith

pub gives_more : (first mid last : Recalled) (count : ℕ) → GaveRecalled first count mid → GaveRecalled mid 1 last
    → GaveRecalled first (count + 1) last
gives_more first mid last count a b = record {
  name = b.name ∙ a.name;
  board = b.board ∙ a.board;
  slot = b.slot ∙ a.slot;
  own = b.own ∙ a.own;
  waits = b.waits ∙ (λ j. waited (2 * 1) (a.waits j)) ∙ (λ j. record (view_of first.seat.now) { steps = sum j });
}
  where
    sum : (view_of first.seat.now).steps + 2 * count + 2 * 1 ≡ (view_of first.seat.now).steps + 2 * (count + 1)
    sum = omega arith
