use Rattle.std.proofs.Common.{ap, arith, subst, sym, ℕ, ◌+◌, ◌<◌, ◌∙◌, ◌≡◌, refl, get_or}
use Rattle.nr_core.specs.Slots.{content, bound_of, slot_room}
use Rattle.nr_core.specs.declared.shape.Shape.{Shape}
use Rattle.nr_board.proofs.BoardPlaces.{content_in, same_id, stands}
use Rattle.nr_board.specs.Callers.{Table}
use Rattle.nr_board.proofs.board.Board.recall.Goals as goal
use lib.Seq.{set-get_or}
use mathlib.Core.Option.{none}
use Rattle.atomic_table.specs.Table.{Allows, Me, keeps, step}
use Rattle.nr_core.specs.Roles.{is_writer}
use Rattle.nr_core.proofs.WordPlaces.{content_inside}
use Rattle.nr_board.proofs.Lift.{content_no_count}
use Rattle.nr_core.specs.Marks.{set_in}
use Rattle.nr_board.proofs.Notes.{logs_on}
use Rattle.nr_board.proofs.Rows.{length-encode}
use Rattle.nr_board.specs.Notes.{has_noted}
use Rattle.nr_board.specs.Recalls.{IsWordOf, has_recalled}
use Rattle.nr_board.specs.Rule.{Kept}
use Rattle.nr_board.specs.Views.{View}

-- the writer reads the set that was put into a slot last: the words spell it, until the writer's next set is put there
recalls_so : (shape : Shape) (slots id : ℕ) (me : Me (Unit {0}) View) (place : ℕ)
    → Allows (Kept shape) slots id me place (λ word. word) (has_recalled (step slots place 0 0 none) me)
recalls_so shape slots id me place state kept homes at bounded =
    let view = me.0 in let next = has_noted view in let fits = kept.fits id view at in
    let rests = logs_on shape state id view kept at next.steps next.marks.loads next.loaded_ahead in
    let found : ℕ = get_or state.words place 0 in (
      next,
      keeps,
      tt,
      rw (set-get_or state.words place 0) rests,
      record {
        step = refl;
        finds = λ desk slot index is near untouched there.
            let mine = rw is at (kept.marked.each id view at) in
            let size = fits.sized (let one : is_writer view.role ≡ 1 = ap is_writer is in omega arith) in
            subst
            (λ (s : Shape). slot < s.slots → place ≡ content s slot index
            → IsWordOf (bound_of s) (set_in view.marks slot) index found)
            (sym size)
            (λ low place_is. let spelled = mine.sets slot low untouched in (
              spelled.0,
              λ short.
                  let room : index < slot_room shape
                  = omega (arith, short, length-encode (set_in view.marks slot), spelled.0.1) in
                  ap (λ (p : ℕ). get_or state.words p 0) place_is
                  ∙ sym
                  (kept.counts_words.same (content shape slot index) (content_inside shape slot index low room)
                  (content_no_count shape slot index room))
                  ∙ spelled.1 index short,
            )) near there;
      },
    )

pub load-requires : goal.load-requires
load-requires c =
    let shared = c.self.inside.table.shared in
    let board = stands c.self.view_is c.self.invariant in
    let seat = c.args.seat.now in
    let recalls = c.requires.recalls in (
      same_id recalls.own c.self.view_is,
      content_in board c.args.slot recalls.inside c.content.result c.args.index c.content.ensures c.requires.index,
      recalls_so shared.key.shape shared.table_id.slots seat.id seat.me (c.content.result + c.args.index),
    )

pub returns-clause-word : goal.returns-clause-word
returns-clause-word c =
    let seat = c.args.seat.now in
    let recalls = c.requires.recalls in
    let told = c.load.ensures.2 in
    let slot : ℕ = c.args.slot in
    let index : ℕ = c.args.index in
    let size = ap (λ (t : Table). t.shape) recalls.own in
    let place : c.content.result + index ≡ content c.args.self.now.shape slot index
    = omega (arith, c.content.ensures) in
    rw (sym size)
    (told.finds recalls.desk slot index recalls.role (subst (λ (s : Shape). slot < s.slots) (sym size) recalls.inside)
    recalls.untouched (place ∙ ap (λ (s : Shape). content s slot index) (sym size)))
