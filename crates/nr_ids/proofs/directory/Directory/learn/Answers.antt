use Rattle.std.proofs.Common.{refl, arith}
use Rattle.nr_ids.proofs.Seats.{grows_by, looks_at_name, stands}
use Rattle.nr_ids.proofs.directory.Directory.learn.Goals as goal

pub load-requires : goal.load-requires
load-requires c =
    let about = stands c.self.view_is c.self.invariant in
    let sizes = about.sizes in
    looks_at_name about c.requires.caller 0 (omega arith)

pub returns-clause-grows : goal.returns-clause-grows
returns-clause-grows c = grows_by c.args.seat.now c.load.new.seat _ c.load.ensures.0 c.load.ensures.2.0 refl
