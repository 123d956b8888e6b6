use Rattle.std.proofs.Common.{◌≡◌, ◌≤◌, length, replicate}
use Rattle.nr_load.proofs.Working.{Begins}
use Rattle.nr_load.proofs.gets.make_gets.Given as goal

abbrev pub invariant-loop-made : goal.invariant-loop-made
invariant-loop-made g l = record {
  map : l.client.map ≡ l.fn.client.map;
  queue : l.client.queue ≡ l.fn.client.queue;
  opened : l.client.opened ≡ l.fn.client.opened;
  keys : l.draws.keys ≡ l.fn.draws.keys;
  lobby : l.guest.lobby ≡ l.fn.lobby;
  few : l.answered ≤ l.made;
  long : length l.known.items ≡ l.fn.draws.keys;
  begun : Begins 1000000 l.fn.draws.keys l.made l.fn.draws.generator l.answered (replicate l.fn.draws.keys 0)
      l.fn.client.hands l.known.items l.client.hands l.draws.generator;
}
