use Rattle.std.proofs.Common.{ap, arith, sym, ◌∙◌}
use Rattle.nr_ids.specs.Tokens.{Opened}
use Rattle.nr_ids.proofs.Steps.{joins_so}
use Rattle.nr_ids.proofs.directory.Directory.take_note.Goals as goal

pub join_seat-requires : goal.join_seat-requires
join_seat-requires c =
    let about = c.self.invariant in
    let here = sym (ap (λ (d : Opened). d.id) c.self.view_is) in
    let seat = c.args.seat.now in
    let note = c.args.note in (
      c.requires.own.0 ∙ here,
      c.requires.own.1 ∙ here,
      c.requires.note.1,
      omega arith,
      joins_so c.self.inside.table.shared.key seat.id seat.me.0 note.id note.me.0,
    )
