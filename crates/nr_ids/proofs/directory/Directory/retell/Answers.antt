use Rattle.std.proofs.Common.{ap, arith, sym, ◌∙◌}
use Rattle.nr_ids.specs.Tokens.{Opened}
use Rattle.nr_ids.proofs.Steps.{retells_so}
use Rattle.nr_ids.proofs.directory.Directory.retell.Goals as goal

pub split_seat-requires : goal.split_seat-requires
split_seat-requires c = let about = c.self.invariant in (
  c.requires ∙ sym (ap (λ (d : Opened). d.id) c.self.view_is),
  omega arith,
  retells_so c.self.inside.table.shared.key c.args.seat.now.id c.args.seat.now.me.0,
)
