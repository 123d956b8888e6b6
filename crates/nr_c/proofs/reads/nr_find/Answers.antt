use Rattle.std.proofs.Common.{inr, refl}
use Rattle.nr_c.proofs.IdleFinds.{finds_by_code, still_idle}
use Rattle.nr_c.proofs.reads.nr_find.Goals as goal

pub returns : goal.returns
returns c =
    let hand = c.side-side.result.now.hand in let finds = c.find.ensures.finds in let none = c.if-holds.ensures.none in
    let idle = still_idle c.args.key hand c.find.new.self c.args.rows.now c.find.new.rows c.find.result finds in
    let found = finds_by_code c.args.key hand c.find.new.self c.args.rows.now c.find.new.rows c.find.result finds _
    c.of_found-answer.ensures none in
    rw (← c.is_live.ensures.same, c.side-side.ensures.value)
    (inr (inr (
      c.if-not-has_key.ensures.has,
      inr (c.of_found-answer.result, ((refl, c.heard.ensures), (none, idle, found))),
    )))
