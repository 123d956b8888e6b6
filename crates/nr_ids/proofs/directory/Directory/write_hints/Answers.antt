use Rattle.std.proofs.Common.{rules, refl}
use Rattle.nr_ids.proofs.Seats.{grows_by, stands, writes_group, sits_on}
use Rattle.nr_ids.proofs.directory.Directory.write_hints.Goals as goal

pub store-requires : goal.store-requires
store-requires c =
    writes_group (stands c.self.view_is c.self.invariant) c.requires.clerk c.requires.number c.args.group
    c.hints_place-place.result c.args.hints c.requires.group c.hints_place-place.ensures.value c.requires.keeps

pub returns-clause-clerk : goal.returns-clause-clerk
returns-clause-clerk c = sits_on c.requires.clerk c.store.ensures.0 (c.store.ensures.2 c.args.group (search rules))

pub returns-clause-grows : goal.returns-clause-grows
returns-clause-grows c =
    grows_by c.args.seat.now c.store.new.seat _ c.store.ensures.0
    (c.store.ensures.2 c.args.group (search rules)) refl
