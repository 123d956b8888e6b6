use Rattle.std.proofs.Common.{◌≡◌, ◌∙◌, sym, ap, arith}
use Rattle.nr_core.specs.Sums.{below}
use Rattle.nr_board.specs.Callers.{Table}
use Rattle.nr_load.proofs.Gathering.{all_keys, asked_small, counts_on, pending_at, learns_sound, learns_stays}
use Rattle.nr_load.proofs.Gathering.{stays_then}
use Rattle.nr_load.proofs.tally.count_asked.Goals as goal

pub loop-key-preserved : goal.loop-key-preserved
loop-key-preserved c =
    let i = c.loop-key.invariant in let states = c.state.ensures in
    record {
      stays = stays_then _ c.loop-key.writer _ i.stays (learns_stays 1 _ _ states.learns);
      sound = λ before. learns_sound 1 _ _ states.learns;
      few = omega (arith, i.few, c.one_if_asked-asked.ensures, asked_small c.state.result);
      exact =
          counts_on c.beginnings_meet.ensures c.args.writer.now c.loop-key.writer c.state.new.writer c.loop-key.key
          c.loop-key.asked c.one_if_asked-asked.result c.state.result i.stays i.exact states
          c.one_if_asked-asked.ensures;
    }

pub returns : goal.returns
returns c =
    let i = c.loop-key.invariant in
    let end : c.loop-key.key ≡ c.args.map.now.shape.keys
    = omega (arith, c.loop-key-test.false, c.loop-key.auto.key-end, c.keys-key-end.ensures) in
    let keys : c.loop-key.key ≡ c.args.writer.now.table.shape.keys
    = end ∙ ap (λ (t : Table). t.shape.keys) (sym c.requires) in
    record {
      stays = i.stays;
      sound = i.sound;
      exact = λ same. i.exact same ∙ ap (below (pending_at c.args.writer.now)) keys ∙ all_keys c.args.writer.now;
    }
