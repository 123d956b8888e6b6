use Rattle.std.proofs.Common.{◌≡◌, ◌∙◌, get_or, sym, arith}
use Rattle.nr_load.proofs.Gathering.{stays_then, balances, tallies}
use Rattle.nr_load.proofs.tally.tally.Goals as goal

pub returns : goal.returns
returns c =
    let one = c.gather_all.ensures in let counted = c.count_asked-asked.ensures in let two = c.gather_all-2.ensures in
    let table : c.args.map.now ≡ c.args.writer.now.table = sym c.requires.own in
    let tally
    = tallies c.rounds_tell_all.ensures c.entries_are_callers.ensures c.calls_stay.ensures c.args.writer.now
    c.gather_all.new.writer c.count_asked-asked.new.writer c.gather_all-2.new.writer
    c.args.readers.now c.gather_all.new.readers c.gather_all-2.new.readers c.count_asked-asked.result
    one counted two c.requires.writer
    (rw table at c.requires.order)
    (rw table at c.requires.some) in
    record {
      tally = tally;
      balances = balances c.sends_of_all_keys.ensures _ _ _ tally;
      writer =
          stays_then _ c.count_asked-asked.new.writer _ (stays_then _ c.gather_all.new.writer _ one.stays counted.stays)
          two.stays;
      readers = (
        two.count ∙ one.count,
        λ at other low. stays_then _ (get_or c.gather_all.new.readers at other) _ (one.each at other low).stays
            (two.each at other (omega (arith, low, one.count))).stays,
      );
    }
