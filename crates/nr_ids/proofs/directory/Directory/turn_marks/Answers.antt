use Rattle.std.proofs.Common.{rules, refl}
use Rattle.nr_ids.proofs.Seats.{grows_by, stands, turns_group, sits_on}
use Rattle.nr_ids.proofs.directory.Directory.turn_marks.Goals as goal

pub fetch_xor-requires : goal.fetch_xor-requires
fetch_xor-requires c =
    turns_group (stands c.self.view_is c.self.invariant) c.requires.clerk c.requires.number c.args.group
    c.marks_place-place.result c.args.bits c.requires.group c.marks_place-place.ensures.value c.requires.set

pub returns-clause-clerk : goal.returns-clause-clerk
returns-clause-clerk c =
    sits_on c.requires.clerk c.fetch_xor.ensures.0 (c.fetch_xor.ensures.2 c.args.group (search rules))

pub returns-clause-turns : goal.returns-clause-turns
returns-clause-turns c =
    grows_by c.args.seat.now c.fetch_xor.new.seat _ c.fetch_xor.ensures.0
    (c.fetch_xor.ensures.2 c.args.group (search rules)) refl
