use Rattle.std.proofs.Common.{arith, subst, sym, Bool, List, ℕ, ◌+◌, ◌∙◌, ◌≡◌}
use Rattle.nr_board.proofs.WholeScans.{SearchScans, scan_begins, scan_goes, search_flagged}
use Rattle.nr_board.proofs.board.Board.scan_words.Goals as goal

pub loop-own-init : goal.loop-own-init
loop-own-init c =
    let none = c.clear_retired.ensures in
    scan_begins c.args.self.now c.args.lists.now c.args.seat.now c.clear_retired.new.self c.requires.search none.none
    (none.wide ∙ c.requires.flagged.wide) (none.others c.requires.flagged.others)

pub loop-own-preserved : goal.loop-own-preserved
loop-own-preserved c = let told = c.scan_on-word.ensures in let own : ℕ = c.loop-own.own in
    subst
    (λ (flags : List Bool). SearchScans c.args.self.now c.args.lists.now c.args.seat.now c.scan_on-word.new.seat flags
    (own + 1))
    (sym c.announce.ensures.flags)
    (scan_goes c.scan_on-word.result c.loop-own.invariant told.own told.hears)

pub returns-clause-flagged : goal.returns-clause-flagged
returns-clause-flagged c = let own : ℕ = c.loop-own.own in let map = c.args.self.now in
    let all : own ≡ map.announcers
    = omega (arith, c.loop-own-test.false, c.loop-own.auto.own-end, c.announcers-own-end.ensures.value) in
    search_flagged c.requires.some_words c.requires.search
    (subst (λ (n : ℕ). SearchScans map c.args.lists.now c.args.seat.now c.loop-own.seat c.loop-own.flags n) all
    c.loop-own.invariant)
