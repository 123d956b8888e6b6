use Rattle.std.proofs.Common.{ap, arith, subst, sym, ℕ, ◌<◌, ◌∙◌}
use Rattle.nr_core.specs.Given.{IsGivenCall}
use Rattle.nr_core.specs.States.{key_of}
use Rattle.nr_core.specs.declared.shape.Shape.{Shape}
use Rattle.nr_board.proofs.WriterSeats.{looked_seat}
use Rattle.nr_board.proofs.BoardPlaces.{key_in, key_near, same_id, stands}
use Rattle.nr_board.proofs.WriterSteps.{looks_so}
use Rattle.nr_core.specs.declared.places.Place.{Place}
use Rattle.nr_board.specs.Announcing.{heard_at}
use Rattle.nr_board.proofs.board.Board.look.Goals as goal
use Rattle.nr_core.specs.Slots.{bound_of}

pub load-requires : goal.load-requires
load-requires g c =
    let shared = c.self.inside.table.shared in
    let board = stands c.self.view_is c.self.invariant in
    let seat = c.args.seat.now in
    let writer = c.requires.writer in
    let call = g.G.BegunCall.call in
    let near : key_of call < shared.key.shape.keys
    = omega (arith, c.requires.call, key_near board c.requires.key) in
    let given : IsGivenCall (bound_of shared.key.shape) call
    = subst (λ (s : Shape). IsGivenCall (bound_of s) call) (sym board.key_is) c.requires.given in
    let n : ℕ = shared.table_id.slots in (
      same_id writer.writes.own c.self.view_is,
      key_in board c.requires.key,
      rw c.requires.call
          (looks_so shared.key.shape n seat.id seat.me writer.desk call writer.writes.role writer.place given near),
    )

pub returns : goal.returns
returns g c = let before = c.args.seat.now in let told = c.load.ensures.2 in record {
  leads = λ desk is. looked_seat c.args.self.now before c.load.new.seat c.load.ensures.0 c.requires.writer.writes.own
      desk g.G.BegunCall.call c.load.result (told desk is);
  marks = (told c.requires.writer.desk c.requires.writer.writes.role).marks.0;
  heard =
      (told c.requires.writer.desk c.requires.writer.writes.role).heard
      ∙ ap (λ (p : Place). heard_at p before.me.0.heard) c.requires.writer.place;
}
