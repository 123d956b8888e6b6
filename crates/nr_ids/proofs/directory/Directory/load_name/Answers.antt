use Rattle.std.proofs.Common.{arith, refl}
use Rattle.nr_ids.proofs.Seats.{grows_by, loads_word, stands}
use Rattle.nr_ids.proofs.directory.Directory.load_name.Goals as goal

pub load-requires : goal.load-requires
load-requires c =
    loads_word (stands c.self.view_is c.self.invariant) c.requires.caller c.args.way (omega (arith, c.requires.way))

pub returns-clause-grows : goal.returns-clause-grows
returns-clause-grows c = grows_by c.args.seat.now c.load.new.seat _ c.load.ensures.0 c.load.ensures.2.0 refl
