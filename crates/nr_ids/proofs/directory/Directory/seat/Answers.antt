use Rattle.nr_ids.proofs.Seats.{stands, own_table}
use Rattle.std.proofs.Common.{arith}
use Rattle.nr_ids.proofs.Steps.{seats_so}
use Rattle.nr_ids.proofs.directory.Directory.seat.Goals as goal

pub split_seat-requires : goal.split_seat-requires
split_seat-requires c = let about = c.self.invariant in (
  own_table (stands c.self.view_is about) c.requires.clerk,
  omega arith,
  seats_so c.self.inside.table.shared.key c.args.seat.now.id c.args.seat.now.me.0 c.requires.clerk.calls
      c.requires.number,
)
