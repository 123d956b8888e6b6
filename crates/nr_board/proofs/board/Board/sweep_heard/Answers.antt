use Rattle.std.proofs.Common.{arith, ap, false, inr, subst, sym, true, ℕ, ◌<◌, ◌∙◌, ◌≡◌}
use Rattle.nr_board.specs.Callers.{Table}
use Rattle.nr_board.specs.Reaping.{SweepsFor}
use Rattle.nr_board.specs.Views.{View}
use Rattle.nr_board.specs.WordLoads.{WordsTell}
use Rattle.nr_board.specs.declared.reaping.Sweep.TheVariants as sweep
use Rattle.nr_board.proofs.board.Board.sweep_heard.Goals.{in-Held, in_default}
use Rattle.nr_board.proofs.board.Board.sweep_heard.Goals as goal

pub returns-clause-sweeps : goal.returns-clause-sweeps
returns-clause-sweeps c = let lists = c.args.lists.now in let before = c.args.seat.now in
    let some_words : 0 < before.me.0.announcers
    = omega (
      arith,
      c.announcers.ensures.value,
      c.if-announcers-eq0.false,
      ap (λ (t : Table). t.announcers) c.requires.rests.writes.own,
    ) in
    let loads : c.args.self.now.announcers ≡ before.me.0.announcers
    = ap (λ (t : Table). t.announcers) (sym c.requires.rests.writes.own) in
    let scan = c.scan_at_rest.ensures.hears in let heard = c.scan_at_rest.new.seat.me.0.heard in
    let held : SweepsFor lists before c.sweep-first.new.seat sweep.Held = elim c.match-matches.branch [
      | in-Held w ↦ w.in-Held.ensures.sweeps
      | in_default w ↦ absurd (let clash : true ≡ false = sym c.if-not-matches.false ∙ w.matches-is in cc)
    ] in
    let slots : c.sweep-first.new.seat.me.0.shape.slots ≡ before.me.0.shape.slots
    = ap (λ (v : View). v.shape.slots) held.3 in
    inr (
      some_words,
      c.sweep-first.new.seat,
      c.scan_at_rest.new.seat,
      held,
      scan.0,
      subst (λ (p : ℕ × ℕ). WordsTell p.0 lists.retired p.1 scan.0 heard) (λ j. (loads j, slots j)) scan.1,
      scan.2,
      c.sweep.ensures.sweeps,
    )
