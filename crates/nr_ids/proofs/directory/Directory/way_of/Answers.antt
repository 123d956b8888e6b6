use Rattle.nr_ids.proofs.Admitting.{scanned_clerk}
use Rattle.nr_ids.proofs.directory.Directory.way_of.Goals as goal

pub invariant_of-clerk : goal.invariant_of-clerk
invariant_of-clerk c =
    scanned_clerk c.args.id c.scan.result c.clerk.invariant c.scan.ensures.caller c.scan.ensures.scans
