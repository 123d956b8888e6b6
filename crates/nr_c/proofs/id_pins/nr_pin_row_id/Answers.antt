use Rattle.std.proofs.Common.{List, ap, arith, inr, refl, ◌∙◌}
use Rattle.nr_model.specs.declared.rows.Row.{Row}
use Rattle.nr_c.specs.IdPins.{row_told}
use Rattle.nr_c.proofs.id_pins.nr_pin_row_id.Goals as goal

pub returns : goal.returns
returns c =
    let told = c.tell_first.ensures
    ∙ ap (λ (rows : List Row). row_told c.args.row.now c.pin-found.result rows) c.rows.ensures.rows in
    rw (← c.is_live.ensures.same, c.side-side.ensures.value) (inr (inr (
      omega arith,
      inr (
        c.of_found_id.result,
        (
          (refl, c.heard.ensures),
          (c.pin-found.result, c.of_found_id.ensures, (c.if-holds.ensures.none, c.pin-found.ensures.pins, told)),
        ),
      ),
    )))
