use Rattle.std.proofs.Common.{subst, ap, ◌∙◌}
use Rattle.nr_idmap.specs.IdNotes.{HearsIdNote, with_steps_of_split}
use Rattle.nr_idmap.specs.Keepers.{IdCaller}
use Rattle.nr_idserve.proofs.applied.IdApplied.wait.Goals as goal

pub returns-in-Some-look-clause-hears : goal.returns-in-Some-look-clause-hears
returns-in-Some-look-clause-hears g c =
    let told = c.in-Some-look.ensures.told in
    let same = told.2 ∙ ap with_steps_of_split c.loop.invariant.0 in (
      told.0,
      c.in-Some-look.note,
      told.1,
      subst (λ (reader : IdCaller). HearsIdNote c.in-Some-look.note reader c.hear.new.reader) same c.hear.ensures.hears,
    )
