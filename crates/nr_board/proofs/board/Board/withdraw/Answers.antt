use Rattle.std.proofs.Common.{ap, false, refl, subst, ℕ, ◌+◌, ◌∙◌, ◌≡◌}
use Rattle.nr_words.specs.KeyWords.{hole_word}
use Rattle.nr_core.specs.States.{number_at}
use Rattle.nr_core.specs.declared.places.Place.TheVariants.{Withdrawing}
use Rattle.nr_board.proofs.WriterSeats.{desk_at, goes_on}
use Rattle.nr_board.proofs.BoardPlaces.{key_in, same_id, stands}
use Rattle.nr_board.proofs.WriterSteps.{goes_so}
use Rattle.nr_board.specs.Plays.{RoomAt}
use Rattle.nr_board.proofs.board.Board.withdraw.Goals as goal

pub swap-requires : goal.swap-requires
swap-requires c =
    let shared = c.self.inside.table.shared in
    let board = stands c.self.view_is c.self.invariant in
    let seat = c.args.seat.now in
    let withdrawing = c.requires in
    let at = record withdrawing.desk { place = Withdrawing c.args.key } in
    let room = subst (RoomAt c.args.self.now.shape withdrawing.desk) withdrawing.place withdrawing.writes.room.place in
    let word_is : hole_word c.args.next false ≡ hole_word (number_at withdrawing.desk c.args.key + 1) false
    = ap (λ (n : ℕ). hole_word n false) withdrawing.number_is in (
      same_id withdrawing.writes.own c.self.view_is,
      key_in board room.0,
      rw (c.hole_word-hole.ensures.word ∙ word_is) (goes_so shared.key.shape shared.table_id.slots seat.id seat.me at
          (desk_at seat.me.0.role withdrawing.desk (Withdrawing c.args.key) withdrawing.writes.role
          withdrawing.place)
          refl tt tt),
    )

pub returns : goal.returns
returns c = (c.swap.result, goes_on c.swap.ensures.0 c.requires.writes.own c.swap.ensures.2)
