use Rattle.std.proofs.Common.{arith, inl, refl, subst, sym, ◌∙◌}
use Rattle.nr_c.specs.Ledgers.{AreOf, Entries}
use Rattle.nr_c.proofs.LedgerLemmas.{kept_is_of}
use Rattle.nr_c.proofs.KeptUpqueries.{turns}
use Rattle.nr_c.proofs.id_upqueries.nr_admit.Goals as goal

pub returns-in-Ok : goal.returns-in-Ok
returns-in-Ok c = let keeps = c.keep_new.ensures in
    rw (← c.is_live.ensures.same, c.side-side.ensures.value) (turns (omega arith) (refl, refl, refl) (inl (record {
      code_is = refl;
      upquery = c.in-Ok.opened;
      admits = c.in-Ok.ensures.admits.1;
      numbers = keeps.numbers;
      count = keeps.count;
      map = keeps.map;
      keeps = keeps.keeps;
    })))

pub invariant_of-side-clause-owed : goal.invariant_of-side-clause-owed
invariant_of-side-clause-owed c =
    let side = c.side-side.result.now in
    subst (λ (kept : Entries). AreOf side.map.value kept) (sym c.keep_new.ensures.keeps)
    (kept_is_of side.map.value c.in-Ok.opened side.ledger (c.in-Ok.ensures.admits.0 ∙ c.deref.ensures) side.owed)
