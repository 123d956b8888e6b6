use Rattle.std.proofs.Common.{List, ℕ, length, subst, sym, take}
use Rattle.nr_core.specs.Slots.{layout}
use Rattle.nr_board.specs.Callers.{Table, token}
use Rattle.nr_map.specs.LoadsAhead.{LoadsOfSets}
use Rattle.nr_map.proofs.Loading.{ahead_count}
use Rattle.nr_map.proofs.reader_map.ReaderMap.load_for.Goals as goal

pub returns-clause-loads : goal.returns-clause-loads
returns-clause-loads c =
    let old = token c.args.seat.now in
    let named = token c.load_keys.new.seat in
    let new = token c.load_sets.new.seat in
    let keys : List ℕ = c.args.keys.now in
    let words : List ℕ = take (length keys) c.load_keys.new.words in
    let sets : LoadsOfSets (layout old.table.shape) words named new
    = subst (λ (t : Table). LoadsOfSets (layout t.shape) words named new) (sym c.requires.own)
    c.load_sets.ensures.loads in record {
      words = words;
      named = named;
      of_keys = c.load_keys.ensures.loads;
      of_sets = sets;
      steps_made =
          ahead_count (layout old.table.shape) keys words old named new c.load_keys.ensures.loads sets;
    }
