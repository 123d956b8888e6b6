use Rattle.std.proofs.Common.{rules, ◌*◌, ◌^◌, ◌%◌, refl}
use Rattle.nr_ids.proofs.MarkBits.{shifted_bit}
use Rattle.nr_ids.proofs.Seats.{grows_by, marks_way, stands}
use Rattle.nr_ids.proofs.directory.Directory.set_mark.Goals as goal

pub fetch_or-requires : goal.fetch_or-requires
fetch_or-requires c =
    marks_way (stands c.self.view_is c.self.invariant) c.requires.caller c.args.way
    c.marks_place-place.result (1 * 2 ^ (c.args.way % 8) % 2 ^ 64) c.requires.way c.marks_place-place.ensures.value
    (shifted_bit c.args.way)

pub returns-clause-grows : goal.returns-clause-grows
returns-clause-grows c =
    grows_by c.args.seat.now c.fetch_or.new.seat _ c.fetch_or.ensures.0
    (c.fetch_or.ensures.2 c.args.way (search rules) (shifted_bit c.args.way)) refl
