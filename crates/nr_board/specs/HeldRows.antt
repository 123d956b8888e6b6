-- A reader's seat as the source of the rows that it holds.
use Rattle.std.specs.Prelude.{◌≡◌, ℕ, ◌+◌, ◌*◌}
use Rattle.std.proofs.Common.{◌∙◌, refl, arith}
use Rattle.nr_board.specs.declared.held_rows.HeldRows.{HeldRows}
use Rattle.nr_board.specs.Callers.{Rests, token}
use Rattle.nr_board.specs.Views.{rows_held, view_of}

-- that many rows were read by the same seat
pub record Gave {FROM : ℕ} (first : HeldRows FROM) (count : ℕ) (last : HeldRows FROM) : Type 0 where
  pub name : last.seat.ghost_name ≡ first.seat.ghost_name
  pub board : last.board.now ≡ first.board.now
  pub begin : last.begin ≡ first.begin
  pub rows : rows_held (view_of last.seat.now).role ≡ rows_held (view_of first.seat.now).role
  pub hold : (token last.seat.now).holds ≡ (token first.seat.now).holds
  pub marks : (view_of last.seat.now).marks ≡ (view_of first.seat.now).marks
  pub says : (view_of last.seat.now).says ≡ (view_of first.seat.now).says
  pub rests : Rests (2 * count) (token first.seat.now) (token last.seat.now)

pub gives_none : {FROM : ℕ} (source : HeldRows FROM) → Gave source 0 source
gives_none source = record {
  name = refl;
  board = refl;
  begin = refl;
  rows = refl;
  hold = refl;
  marks = refl;
  says = refl;
  rests = record {
    table = refl;
    number = refl;
    seen = refl;
    mine = refl;
    steps_made = omega arith;
    pasts = refl;
    loaded_ahead = refl;
  };
}

pub gives_more : {FROM : ℕ} (first mid last : HeldRows FROM) (count : ℕ) → Gave first count mid → Gave mid 1 last
    → Gave first (count + 1) last
gives_more first mid last count a b = record {
  name = b.name ∙ a.name;
  board = b.board ∙ a.board;
  begin = b.begin ∙ a.begin;
  rows = b.rows ∙ a.rows;
  hold = b.hold ∙ a.hold;
  marks = b.marks ∙ a.marks;
  says = b.says ∙ a.says;
  rests = record {
    table = b.rests.table ∙ a.rests.table;
    number = b.rests.number ∙ a.rests.number;
    seen = b.rests.seen ∙ a.rests.seen;
    mine = b.rests.mine ∙ a.rests.mine;
    steps_made = b.rests.steps_made ∙ omega (arith, a.rests.steps_made);
    pasts = b.rests.pasts ∙ a.rests.pasts;
    loaded_ahead = b.rests.loaded_ahead ∙ a.rests.loaded_ahead;
  };
}
