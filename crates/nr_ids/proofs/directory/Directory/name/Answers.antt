use Rattle.std.proofs.Common.{sym}
use Rattle.nr_ids.proofs.Seats.{grows_by, names_way, stands}
use Rattle.nr_ids.proofs.directory.Directory.name.Goals as goal

pub store-requires : goal.store-requires
store-requires c =
    names_way (stands c.self.view_is c.self.invariant) c.requires.clerk c.requires.number c.args.way c.args.id
    c.requires.may

pub returns-clause-grows : goal.returns-clause-grows
returns-clause-grows c =
    grows_by c.args.seat.now c.store.new.seat _ c.store.ensures.0 c.store.ensures.2 (sym c.requires.number)
