use Rattle.std.proofs.Common.{◌≡◌, ◌∙◌, ◌<◌, ◌+◌, ℕ, List, ap, arith, get_or, length, min, set, subst}
use Rattle.std.proofs.lemmas.Option.{get_or_from_slice_get}
use Rattle.nr_map.specs.FirstRows.{ArePutOver}
use Rattle.nr_model.specs.declared.rows.Row.{Row}
use Rattle.nr_model.proofs.RefillLemmas.{put_one}
use Rattle.nr_c.proofs.rows.put_rows.Goals as goal

pub loop-place-preserved : goal.loop-place-preserved
loop-place-preserved g c =
    let so_far = c.loop-place.invariant in
    let place : ℕ = c.loop-place.place in let row : Row = c.give-given.result in
    let rows : List Row = g.S.RowSource.rows c.args.source.now in
    let old : List Row = c.args.cells.now in
    let low = c.loop-place-test.true in
    let within : place < length rows = omega (arith, low, c.requires.count) in
    let given : get_or rows place row ≡ row
    = get_or_from_slice_get rows place row row (rw (← so_far.1) c.give-given.ensures.row) in
    let here : min place c.args.count ≡ place = omega (arith, low) in
    let next : place + 1 ≡ min (place + 1) c.args.count = omega (arith, low) in
    let put = subst (λ (n : ℕ). ArePutOver rows old n c.loop-place.cells) here so_far.0 in
    let gave = subst (λ (n : ℕ). g.S.RowSource.gave c.args.source.now n c.loop-place.source) here so_far.3 in (
      subst (λ (n : ℕ). ArePutOver rows old n (set c.loop-place.cells place row)) next
          (ap (λ (l : List Row). set l place row) put
          ∙ put_one rows old place row given within (omega (arith, low, c.requires.room))),
      c.give-given.ensures.rows ∙ so_far.1,
      subst (λ (n : ℕ). g.S.RowSource.is_ready c.give-given.new.self n) next c.give-given.ensures.ready,
      subst (λ (n : ℕ). g.S.RowSource.gave c.args.source.now n c.give-given.new.self) next
          (g.met.S.RowSource.gave_more _ _ _ place gave c.give-given.ensures.gave),
    )
