use Rattle.std.proofs.Common.{ℕ, zero, suc, ◌≡◌, ◌≢◌, List, ◌∷◌, Some, take, slice_get, ap, arith, refl, sym, ◌∙◌}
use Rattle.std.proofs.Common.{◌+◌, subst}
use Rattle.std.proofs.lemmas.Option.{same_Some}
use Rattle.nr_model.specs.declared.rows.Row.{Row}
use Rattle.nr_cache.specs.declared.given.GivenValue.{GivenValue}
use Rattle.nr_cache.specs.GivenValues.{ShowsValue}
use Rattle.nr_cache.proofs.given.GivenValueRowRoom.refill.Goals as goal
use Rattle.nr_cache.proofs.given.GivenValueRowRoom.refill.Goals.{else-place-eq0+else-place-eq1}
use Rattle.nr_cache.proofs.given.GivenValueRowRoom.refill.Goals.{else-place-eq0+then-place-eq1, then-place-eq0}

-- A value shows the rows that were put into it so far, and then with one more.
shows_tag : (given : GivenValue) (rows : List Row) (place : ℕ) (row : Row) → slice_get rows place ≡ Some row
    → place ≡ 0 → ShowsValue (record given { id = row.b }) (take (suc place) rows)
shows_tag given (tag ∷ rows) zero row got is = ap (λ (it : Row). it.b) (sym (same_Some tag row got))
shows_tag given rows place row got is = absurd (cc (got, is))

shows_value : (given : GivenValue) (rows : List Row) (place : ℕ) (row : Row) → slice_get rows place ≡ Some row
    → place ≡ 1 → ShowsValue given (take place rows)
    → ShowsValue (record given { stamp = row.a; value = row.b }) (take (suc place) rows)
shows_value given (tag ∷ other ∷ rows) (suc zero) row got is shown =
    let is : row ≡ other = sym (same_Some other row got) in
    (shown, ap (λ (it : Row). it.a) is, ap (λ (it : Row). it.b) is)
shows_value given rows place row got is shown = absurd (cc (got, is))

shows_still : (given : GivenValue) (rows : List Row) (place : ℕ) (row : Row) → slice_get rows place ≡ Some row
    → place ≢ 0 → place ≢ 1 → ShowsValue given (take place rows) → ShowsValue given (take (suc place) rows)
shows_still given rows zero row got not0 not1 shown = absurd (not0 refl)
shows_still given rows (suc zero) row got not0 not1 shown = absurd (not1 refl)
shows_still given (tag ∷ other ∷ rows) (suc (suc place)) row got not0 not1 shown = shown
shows_still given rows (suc (suc place)) row got not0 not1 shown = absurd (cc (got))

pub loop-place-preserved : goal.loop-place-preserved
loop-place-preserved g c =
    let (shown, same, ready, gave) = c.loop-place.invariant in
    let place = c.loop-place.place in
    let rows : List Row = g.S.RowSource.rows c.args.source.now in
    let row : Row = c.give-row.result in
    let got : slice_get rows place ≡ Some row = rw (← same) c.give-row.ensures.row in
    let more : ShowsValue c.if-place-eq0.self (take (suc place) rows)
    = elim c.if-place-eq0.branch [
      | then-place-eq0 w ↦
          rw w.self-is (shows_tag c.loop-place.self rows place row got w.if-place-eq0.true)
      | else-place-eq0+then-place-eq1 w ↦
          rw w.self-is (shows_value c.loop-place.self rows place row got w.if-place-eq1.true shown)
      | else-place-eq0+else-place-eq1 w ↦
          rw w.self-is
          (shows_still c.loop-place.self rows place row got w.if-place-eq0.false w.if-place-eq1.false shown)
    ] in
    let next : suc place ≡ place + 1 = omega arith in (
      subst (λ (count : ℕ). ShowsValue c.if-place-eq0.self (take count rows)) next more,
      c.give-row.ensures.rows ∙ same,
      c.give-row.ensures.ready,
      g.met.S.RowSource.gave_more _ _ _ place gave c.give-row.ensures.gave,
    )
