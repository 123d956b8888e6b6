use Rattle.std.proofs.Common.{refl}
use Rattle.nr_ids.proofs.Seats.{grows_by, looks_at_name, stands}
use Rattle.nr_ids.proofs.directory.Directory.look.Goals as goal

pub load-requires : goal.load-requires
load-requires c =
    looks_at_name (stands c.self.view_is c.self.invariant) c.requires.caller c.args.way c.requires.way

pub returns-clause-grows : goal.returns-clause-grows
returns-clause-grows c = grows_by c.args.seat.now c.load.new.seat _ c.load.ensures.0 c.load.ensures.2.0 refl
