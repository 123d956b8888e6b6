use Rattle.std.proofs.Common.{rules}
use Rattle.nr_ids.specs.Tokens.{token}
use Rattle.nr_ids.proofs.Calls.{second_is}
use Rattle.nr_ids.proofs.Through.{found_first, scanned_both}
use Rattle.nr_ids.proofs.directory.Directory.scan.Goals as goal

pub returns-in-Some-clause-scans : goal.returns-in-Some-clause-scans
returns-in-Some-clause-scans c =
    found_first c.args.id c.group_of.result c.in-Some.way (token c.args.seat.now) (token c.scan_group.new.seat)
    (search rules) c.in-Some.ensures.scans

pub returns-in-None-clause-scans : goal.returns-in-None-clause-scans
returns-in-None-clause-scans c =
    let old = token c.args.seat.now in
    let second = second_is c.args.id old c.requires.caller.own c.plan-plan.ensures.value c.second_of.ensures.value in
    scanned_both c.args.id c.group_of.result c.second_of.result old (token c.scan_group.new.seat)
    (token c.scan_group-in-None.new.seat) (cc) second c.in-None.ensures.scans c.requires.id
    c.scan_group-in-None.result c.scan_group-in-None.ensures.scans
