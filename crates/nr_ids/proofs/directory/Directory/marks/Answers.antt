use Rattle.std.proofs.Common.{rules, refl}
use Rattle.nr_ids.specs.Events.{loaded, touched}
use Rattle.nr_ids.proofs.Seats.{grows_by, loads_word, stands}
use Rattle.nr_ids.proofs.directory.Directory.marks.Goals as goal

pub load-requires : goal.load-requires
load-requires c =
    loads_word (stands c.self.view_is c.self.invariant) c.requires.caller c.marks_place-place.result
    c.marks_place-place.ensures.inside

pub returns-clause-loads : goal.returns-clause-loads
returns-clause-loads c =
    let grows
    = grows_by c.args.seat.now c.load.new.seat (touched c.args.seat.now.me.0.number (loaded c.marks_place-place.result))
    c.load.ensures.0 c.load.ensures.2.0 refl in search rules
