use Rattle.std.proofs.Common.{ap, arith, subst, sym, ◌∙◌, List, [], get_or, set, ℕ, ◌<◌, ◌≡◌}
use Rattle.atomic_table.specs.declared.shared.Seat.{Seat}
use Rattle.nr_core.specs.declared.shape.Shape.{Shape}
use Rattle.nr_board.proofs.Gathering.{heard_numbers, hears_seat}
use Rattle.nr_board.specs.Callers.{Table}
use Rattle.nr_board.specs.Learning.{has_heard}
use Rattle.nr_board.specs.Views.{View}
use Rattle.nr_board.proofs.board.Board.hear_note.Goals as goal
use lib.Seq.{set-get_or, set-set, set_comm}
use Rattle.atomic_table.proofs.Lists.{set_else}
use Rattle.nr_core.proofs.Sums.{here_after}
use Rattle.nr_core.specs.declared.roles.Role.TheVariants.{Note}
use Rattle.nr_board.proofs.Learning.{can_learn}
use Rattle.nr_board.proofs.Notes.{takes_so}
use Rattle.nr_board.specs.Notes.{IsCaller, spent, told_by_note}
use Rattle.nr_board.specs.Rule.{Kept}
use Rattle.nr_board.specs.TwoSeats.{CanTakeIn}

-- it is told what the note tells, and at once learns the history
hears_so : (shape : Shape) (id : ℕ) (view : View) (other : ℕ) (note : View) → 0 < shape.keys → IsCaller view.role
    → note.role ≡ Note → CanTakeIn (Kept shape) id view other note spent (has_heard view note)
hears_so shape id view other note near call is state kept at there apart =
    let told = told_by_note view note in
    let rest = set state.views other spent in
    let before : ¬ (id ≡ other) = λ e. apart (sym e) in
    let taken = takes_so shape id view view.steps other note is state kept at apart there in
    let at_taken = set_else (set state.views id told) other id spent before ∙ here_after state.views id view told at in
    let learnt
    = can_learn shape id (told, []) 0 near call
    (record { words = state.words; homes = state.homes; views = set (set state.views id told) other spent })
    taken at_taken in
    let views : set (set (set state.views id told) other spent) id learnt.0 ≡ set rest id learnt.0
    = ap (λ (l : List View). set l id learnt.0) (set_comm state.views id other told spent before)
    ∙ set-set rest id told learnt.0 in (
      learnt.0,
      subst (λ (p : List ℕ × List View). Kept shape (record { words = p.0; homes = state.homes; views = p.1 }))
          (λ j. (set-get_or state.words 0 0 j, views j)) learnt.1,
      (get_or state.words 0 0, learnt.2),
    )

pub take_in-requires : goal.take_in-requires
take_in-requires c =
    let shared = c.self.inside.table.shared in
    let seat = c.args.seat.now in
    let note = c.note.inside.seat in
    let is = c.note.view_is in
    let here = sym (ap (λ (t : Table). t.id) c.self.view_is) in
    record {
      own = (
        ap (λ (t : Table). t.id) c.requires.own.0 ∙ here,
        ap (λ (s : Seat (Unit {0}) View). s.table_id) is ∙ c.requires.own.1 ∙ here,
      );
      can =
          hears_so shared.key.shape seat.id seat.me.0 note.id note.me.0
          (omega (arith, ap (λ (s : Shape). s.keys) c.self.invariant.0)) c.requires.caller
          (ap (λ (s : Seat (Unit {0}) View). s.me.0.role) is ∙ c.requires.note.0);
    }

pub returns : goal.returns
returns c = let seat = c.args.seat.now in let new = c.take_in.new.seat in let own = c.take_in.ensures.own.0 in
    let heard
    = subst (λ (s : Seat (Unit {0}) View). has_heard seat.me.0 s.me.0 new.me.0) c.note.view_is
    c.take_in.ensures.told in
    let told = hears_seat seat c.args.note new own heard in record {
      hears = told.0;
      readers = told.1;
      numbers = λ desk is. heard_numbers c.args.self.now seat new c.args.note.me.0 c.requires.own.0 told.0.learns told.1
          desk is;
      role = (own, heard.1.role);
      says = heard.1.says;
    }
