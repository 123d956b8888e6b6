use Rattle.std.proofs.Common.{◌≡◌, Some, rules, sym, ◌∙◌}
use Rattle.std.proofs.lemmas.List.Elements.{All-pop}
use Rattle.nr_idmap.specs.Keepers.{IdCaller, id_table_of}
use Rattle.nr_cache.proofs.Opening.{opened_brings_none, opened_has_slots, opened_has_row, opened_is_within}
use Rattle.nr_cache.proofs.Opening.{opened_has_ways, opened_owes_none, opened_weighs_none}
use Rattle.nr_cache.proofs.store.Store.open.Goals as goal

pub invariant_of-store : goal.invariant_of-store
invariant_of-store c =
    let opens = rw c.of_ids.ensures.value at c.in-Ok.ensures.ok in
    let its = All-pop (λ (r : IdCaller). id_table_of r ≡ c.in-Ok.map) c.in-Ok.readers.items c.pop.new.self.items
    (Some c.in-Some.asker) c.in-Some.ensures.items opens.own in (
      its.1 ∙ sym opens.writes,
      opened_owes_none opens,
      opened_has_slots c.args.shape.now opens,
      opened_has_row c.args.shape.now opens,
      opened_brings_none opens,
      search rules,
      opened_is_within opens _,
      rw c.in-Ok-open-3.ensures (opened_weighs_none c.args.shape.now.weight c.ways.result c.in-Ok.writer),
      opened_has_ways c.args.shape.now opens
          (λ bad. let is = c.is_bad.ensures.1 bad in absurd (cc (is, c.if-is_bad.false))),
    )
