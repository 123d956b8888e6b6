use Rattle.std.proofs.Common.{arith, subst, ℕ, ◌∙◌, ◌≡◌}
use Rattle.nr_board.proofs.WholeScans.{RestingScan, resting_flagged, resting_scan_at, resting_scan_begins}
use Rattle.nr_board.proofs.WholeScans.{resting_scan_goes, resting_scan_hears}
use Rattle.nr_board.proofs.board.Board.scan_at_rest.Goals as goal

pub loop-reader-init : goal.loop-reader-init
loop-reader-init c =
    let none = c.clear_retired.ensures in
    resting_scan_begins c.args.self.now c.args.lists.now c.args.seat.now c.clear_retired.new.self none.none
    (none.wide ∙ c.requires.flagged.wide) (none.others c.requires.flagged.others)

pub scan-said-requires : goal.scan-said-requires
scan-said-requires c =
    resting_scan_at c.requires.rests c.loop-reader.invariant _
    (omega (arith, c.loop-reader-test.true, c.loop-reader.auto.reader-end, c.announcers-reader-end.ensures.value))

pub loop-reader-preserved : goal.loop-reader-preserved
loop-reader-preserved c = let told = c.scan-said.ensures in
    rw c.announce.ensures.flags (resting_scan_goes c.requires.rests c.loop-reader.invariant c.scan-said.result
    told.own told.hears)

pub returns : goal.returns
returns c = let own : ℕ = c.loop-reader.reader in let map = c.args.self.now in
    let all : own ≡ map.announcers
    = omega
    (arith, c.loop-reader-test.false, c.loop-reader.auto.reader-end, c.announcers-reader-end.ensures.value) in
    let scan
    = subst (λ (n : ℕ). RestingScan map c.args.lists.now c.args.seat.now c.loop-reader.seat c.loop-reader.flags n) all
    c.loop-reader.invariant in
    record {
      own = scan.goes.own_table;
      hears = resting_scan_hears c.requires.rests c.requires.some_words scan;
      flagged = resting_flagged c.requires.rests c.requires.some_words scan;
    }
