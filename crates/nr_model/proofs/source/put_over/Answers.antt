use Rattle.std.proofs.Common.{◌≡◌, ◌∙◌, ◌<◌, List, length, set, get_or, ap, arith}
use Rattle.std.proofs.lemmas.Option.{get_or_from_slice_get}
use Rattle.nr_model.specs.declared.rows.Row.{Row}
use Rattle.nr_model.proofs.RefillLemmas.{put_one}
use Rattle.nr_model.proofs.source.put_over.Goals as goal

pub loop-place-preserved : goal.loop-place-preserved
loop-place-preserved g c =
    let so_far = c.loop-place.invariant in let place = c.loop-place.place in let row : Row = c.give-given.result in
    let rows : List Row = g.S.RowSource.rows c.args.source.now in
    let within : place < length rows = omega (arith, c.loop-place-test.true, c.requires.count) in
    let given : get_or rows place row ≡ row
    = get_or_from_slice_get rows place row row (rw (← so_far.1) c.give-given.ensures.row) in (
      ap (λ l. set l place row) so_far.0
          ∙ put_one rows c.args.cells.now place row given within
          (omega (arith, c.loop-place-test.true, c.requires.room)),
      c.give-given.ensures.rows ∙ so_far.1,
      c.give-given.ensures.ready,
      g.met.S.RowSource.gave_more _ _ _ place so_far.3 c.give-given.ensures.gave,
    )
