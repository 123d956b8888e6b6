use Rattle.std.proofs.Common.{sym, ◌∙◌}
use Rattle.nr_board.proofs.RetiredSearch.{lacks_so, takes_first, takes_second}
use Rattle.nr_board.proofs.board.Board.search_retired.Goals as goal

pub returns-in-Some-clause-searches : goal.returns-in-Some-clause-searches
returns-in-Some-clause-searches c =
    λ call rows settles full. takes_first settles full c.requires.some_words c.requires.waits c.in-Some.ensures

pub returns-in-Some-pass-clause-searches : goal.returns-in-Some-pass-clause-searches
returns-in-Some-pass-clause-searches c =
    let first = c.in_default.ensures in
    let scan = c.scan_words.ensures in
    λ call rows settles full. takes_second settles full c.requires.some_words c.requires.waits c.scan_words.new.flags
    c.pass.new.seat c.scan_words.new.seat first.1 scan.own scan.few
    (rw (sym first.0) scan.scans)
    (rw (sym first.0) scan.flagged)
    (rw (sym first.0) c.in-Some-pass.ensures)

pub returns-clause-searches : goal.returns-clause-searches
returns-clause-searches c =
    let first = c.in_default.ensures in
    let scan = c.scan_words.ensures in
    let second = c.in_default-pass.ensures in
    λ call rows settles full. rw c.counts.ensures (rw (second.0 ∙ first.0)
    (lacks_so settles full c.requires.some_words c.requires.waits c.scan_words.new.flags c.pass.new.seat
    c.scan_words.new.seat first.1 scan.own scan.few
    (rw (sym first.0) scan.scans)
    (rw (sym first.0) scan.flagged)
    {last = c.pass-2.new.seat}
    (rw (sym first.0) second.1)
    c.give_up.ensures.own c.give_up.ensures.ends))

pub returns-clause-flagged : goal.returns-clause-flagged
returns-clause-flagged c =
    let first = c.in_default.ensures in
    let second = c.in_default-pass.ensures.1 in
    let search = second.search.search in
    let gave = c.give_up.ensures.ends search.desk search.call search.rows search.role search.place in
    rw (gave.heard ∙ second.polls.heard) (rw (sym first.0)
    c.scan_words.ensures.flagged)
