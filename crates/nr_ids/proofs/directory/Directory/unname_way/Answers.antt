use Rattle.std.proofs.Common.{sym}
use Rattle.nr_ids.proofs.Seats.{grows_by, stands, unnames_way}
use Rattle.nr_ids.proofs.directory.Directory.unname_way.Goals as goal

pub store-requires : goal.store-requires
store-requires c =
    unnames_way (stands c.self.view_is c.self.invariant) c.requires.clerk c.requires.number c.args.way c.requires.way

pub returns-clause-grows : goal.returns-clause-grows
returns-clause-grows c =
    grows_by c.args.seat.now c.store.new.seat _ c.store.ensures.0 c.store.ensures.2 (sym c.requires.number)
