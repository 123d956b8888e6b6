use Rattle.std.proofs.Common.{◌≡◌, ◌+◌, ◌∙◌, arith, drop, set, subst, sym, ℕ, min, get_or-drop, length-drop}
use Rattle.std.proofs.lemmas.Option.{get_or_from_slice_get}
use Rattle.nr_map.specs.FirstRows.{ArePutOver}
use Rattle.nr_map.proofs.FirstRows.{put_next}
use Rattle.nr_map.proofs.hand.Hand.copy_where.Goals as goal

pub returns-clause-cells : goal.returns-clause-cells
returns-clause-cells c before is =
    let from : ℕ = c.args.from in
    let rows = drop from c.args.self.now.rows in
    let place : ℕ = c.args.place in
    let here : min place c.args.count ≡ place = omega (arith, c.if-place-count.false) in
    let next : min (place + 1) c.args.count ≡ place + 1 = omega (arith, c.if-place-count.false) in
    subst (λ (n : ℕ). ArePutOver rows before n (set c.args.cells.now place c.row-row.result)) (sym next)
    (put_next rows before c.args.cells.now place c.row-row.result
    (get_or-drop from c.args.self.now.rows place c.row-row.result
    ∙ get_or_from_slice_get c.args.self.now.rows (from + place) c.row-row.result c.row-row.result c.row-row.ensures.row)
    (omega (arith, c.if-place-count.false, c.requires.rows, length-drop from c.args.self.now.rows))
    (omega (arith, c.if-place-count.false, c.requires.room))
    (subst (λ (n : ℕ). ArePutOver rows before n c.args.cells.now) here is))
