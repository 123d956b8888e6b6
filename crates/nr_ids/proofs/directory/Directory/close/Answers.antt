use Rattle.std.proofs.Common.{rules, sym}
use Rattle.nr_ids.proofs.Seats.{clears_group, grows_by, stands, sits_on}
use Rattle.nr_ids.proofs.directory.Directory.close.Goals as goal

pub store-requires : goal.store-requires
store-requires c =
    clears_group (stands c.self.view_is c.self.invariant) c.requires.clerk c.requires.number c.args.group
    c.turn_place-place.result c.args.was c.requires.group c.turn_place-place.ensures.value c.requires.was
    c.requires.open_claim

pub returns-clause-clerk : goal.returns-clause-clerk
returns-clause-clerk c = sits_on c.requires.clerk c.store.ensures.0 (c.store.ensures.2 c.args.group (search rules))

pub returns-clause-grows : goal.returns-clause-grows
returns-clause-grows c =
    grows_by c.args.seat.now c.store.new.seat _ c.store.ensures.0 (c.store.ensures.2 c.args.group (search rules))
    (sym c.requires.number)
