use Rattle.nr_cache.proofs.laws.theorem.Goals as goal

pub returns : goal.returns
returns g c = record {
  one = λ history put given store run. (c.stores_in_order.ensures history put given store run).one;
  ends = λ history put given store number run.
      let order = c.stores_in_order.ensures history put given store run in (order.once number, order.each number);
  fresh = c.holds_fresh.ensures;
  out = c.each_value_comes_out_once.ensures;
  later = c.finds_nothing_older.ensures;
  within = λ old new counts counted. counted.within;
}
