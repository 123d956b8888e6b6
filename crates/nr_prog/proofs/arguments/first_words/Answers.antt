use Rattle.std.proofs.Common.{sym, ◌∙◌}
use Rattle.std.proofs.lemmas.Bool.{eqb-true}
use Rattle.std.specs.Vec.Iter.{into_iter_items}
use Rattle.nr_prog.specs.declared.arguments.TheConstants.{ROOM}
use Rattle.nr_prog.proofs.WordLemmas.{full_room}
use Rattle.nr_prog.proofs.arguments.first_words.Goals as goal

pub returns-then-is_full : goal.returns-then-is_full
returns-then-is_full c =
    full_room c.loop-word.words.items (into_iter_items c.loop-word.args) (into_iter_items c.args.args) ROOM
    (eqb-true _ _ (sym c.is_full.ensures.value ∙ c.if-is_full.true)) c.loop-word.invariant.0
