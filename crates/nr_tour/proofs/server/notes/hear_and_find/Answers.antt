use Rattle.std.proofs.Common.{◌<◌, ap, arith, subst}
use Rattle.nr_board.specs.Callers.{Table}
use Rattle.nr_map.specs.Written.{FindsAfter, answered}
use Rattle.nr_tour.proofs.HeardNotes.{finds_after}
use Rattle.nr_tour.proofs.server.notes.hear_and_find.Goals as goal

pub returns : goal.returns
returns c = let reader = c.args.reader in let own = c.requires.own.0 in
    let near : 0 < reader.table.shape.keys = omega (arith, c.requires.key, ap (λ (t : Table). t.shape.keys) own) in
    record {
      written =
          subst (λ (t : Table). FindsAfter t 0 c.args.note.seen (answered c.find-found.result c.find-found.new.rows))
          own
          (finds_after c.finds_what_it_heard.ensures reader c.hear.new.reader c.find-found.new.reader c.args.note
          c.hear.ensures.hears near
          c.find-found.result _ _ c.find-found.ensures.finds);
    }
