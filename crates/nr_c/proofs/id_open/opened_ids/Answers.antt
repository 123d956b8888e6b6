use Rattle.std.proofs.Common.{rules, ◌≡◌, ◌∙◌, subst, sym, All}
use Rattle.nr_idmap.specs.Keepers.{IdTable, id_table_of}
use Rattle.nr_c.specs.Ledgers.{AreOf, Entries}
use Rattle.nr_c.proofs.LedgerLemmas.{none_is_of_any}
use Rattle.nr_c.proofs.id_open.opened_ids.Goals as goal

pub invariant_of-side-clause-owed : goal.invariant_of-side-clause-owed
invariant_of-side-clause-owed c =
    let table = c.in_ok-map-2.map.value in
    subst (λ (kept : Entries). AreOf table kept) (sym c.in-Ok.ensures)
    (none_is_of_any table c.args.number c.ways.result)

pub invariant_of-side-clause-spares : goal.invariant_of-side-clause-spares
invariant_of-side-clause-spares c =
    let opens = c.in_ok-map.ensures.ok in
    let own : c.in_ok-map.writer.table ≡ c.in_ok-map-2.map.value = search rules in
    subst (λ (table : IdTable). All (λ reader. id_table_of reader ≡ table) c.in_ok-map.spare.items)
    (sym opens.writes ∙ own) opens.own
