use Rattle.std.proofs.Common.{arith}
use Rattle.nr_load.proofs.Gathering.{accounts, balanced}
use Rattle.nr_load.proofs.load.account.Goals as goal

pub returns : goal.returns
returns c =
    let told = c.tally.ensures in
    let each = rw c.as_mut_slice.ensures.value at told.readers in
    let sums
    = balanced c.args.writer c.tally.new.writer c.args.readers.items c.tally.new.readers c.args.sends c.args.fills
    c.tally.result told.balances told.writer each c.requires.sends
    c.requires.fills c.requires.cancels (omega (arith, c.ranges.sends.fits)) in
    record {
      account =
          accounts c.entries_are_callers.ensures c.args.map.now c.args.writer c.tally.new.writer c.args.readers.items
          c.tally.new.readers c.tally.result c.requires.writer.0 told.tally told.writer each;
      fills = sums.0;
      balance = sums.1;
    }
