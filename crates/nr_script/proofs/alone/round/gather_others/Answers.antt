use Rattle.std.proofs.Common.{◌≡◌, ◌≢◌, ◌<◌, length, arith, sym, ap, ◌∙◌, subst}
use Rattle.std.proofs.lemmas.List.{set-get_or}
use Rattle.std.proofs.Math.Seq.{map-set_same}
use Rattle.nr_script.specs.Hands.{still}
use Rattle.nr_script.specs.Rounds.{GathersHand}
use Rattle.nr_script.proofs.Rounds.{first_still, gather_sound, learns_stays, one_more, same_still, skipped, stays_then}
use Rattle.nr_script.proofs.Rounds.{tables_on}
use Rattle.nr_script.proofs.alone.round.gather_others.Goals as goal
use Rattle.nr_script.proofs.alone.round.gather_others.Goals.{then-at-first, else-at-first}

pub gather_one-requires : goal.gather_one-requires
gather_one-requires c =
    let i = c.loop-at.invariant in
    let low : c.loop-at.at < length c.loop-at.hands = omega arith in
    record {
      own = (
        i.stays.only.table ∙ c.requires.own,
        tables_on c.args.map.now c.args.hands.now c.loop-at.hands i.same c.requires.hands c.loop-at.at
            c.index-hands-at.result low,
      );
    }

pub loop-at-preserved : goal.loop-at-preserved
loop-at-preserved c =
    let i = c.loop-at.invariant in
    let w = c.loop-at.writer in
    let hands = c.loop-at.hands in
    let at = c.loop-at.at in
    let log = c.args.writer.now.seen in
    let low : at < length hands = omega arith in
    elim c.if-at-first.branch [
      | then-at-first b ↦
          let w' = b.gather_one.new.writer in let s = c.index-hands-at.result in let s' = b.gather_one.new.hand in
          let g : GathersHand w s w' s'
          = subst (λ x. GathersHand w x w' s') (sym c.index-hands-at.is) b.gather_one.ensures in
          let apart : at ≢ c.args.first = b.if-at-first.true in
          rw (b.writer-is, b.hands-is) (record {
            stays = stays_then c.args.writer.now w w' i.stays (learns_stays 2 w w' g.gathers.of_reader.learns);
            sound = gather_sound w _ w' _ g.gathers;
            same = map-set_same still hands at s' s (same_still w s w' s' g ∙ ap still c.index-hands-at.is) ∙ i.same;
            first = first_still log w w' s s' hands at low i.stays.seen g c.args.first apart i.first;
            done = one_more log w w' s s' hands at low i.stays.seen g i.done;
          })
      | else-at-first b ↦
          let is : at ≡ c.args.first = b.if-at-first.false in
          let done = skipped log w hands at c.args.first is i.first i.done in
          rw (b.writer-is, b.hands-is, set-get_or hands at c.index-hands-at.result) (assumption done)
    ]
