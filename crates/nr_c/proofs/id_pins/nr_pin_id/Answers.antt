use Rattle.std.proofs.Common.{List, ap, arith, inr, refl, ◌∙◌}
use Rattle.nr_model.specs.declared.rows.Row.{Row}
use Rattle.nr_c.specs.IdPins.{count_told}
use Rattle.nr_c.proofs.id_pins.nr_pin_id.Goals as goal

pub returns : goal.returns
returns c =
    let told = c.tell_count.ensures
    ∙ ap (λ (rows : List Row). count_told c.args.count.now c.pin-found.result rows) c.rows.ensures.rows in
    rw (← c.is_live.ensures.same, c.side-side.ensures.value) (inr (inr (
      omega arith,
      inr (
        c.of_found_id.result,
        (
          (refl, c.heard.ensures),
          (c.pin-found.result, c.of_found_id.ensures, (c.if-holds.ensures.none, c.pin-found.ensures.pins, told)),
        ),
      ),
    )))
