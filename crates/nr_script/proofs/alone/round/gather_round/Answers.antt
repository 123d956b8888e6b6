use Rattle.std.proofs.Common.{set, sym, ap, ◌∙◌, subst}
use Rattle.std.proofs.lemmas.List.{get_or-set_same}
use Rattle.std.proofs.Math.Seq.{map-set_same}
use Rattle.nr_map.specs.Hands.{Handed}
use Rattle.nr_script.specs.Hands.{still}
use Rattle.nr_script.specs.Rounds.{GathersHand, IsShown}
use Rattle.nr_script.proofs.Rounds.{gather_sound, round_over, same_still, shown_now, starts_same, tables_on}
use Rattle.nr_script.proofs.alone.round.gather_round.Goals as goal

pub gather_others-requires : goal.gather_others-requires
gather_others-requires c =
    let w = c.args.writer.now in
    let s = c.index-hands-first.result in
    let w1 = c.gather_one.new.writer in
    let s1 = c.gather_one.new.hand in
    let hands = c.args.hands.now in
    let g : GathersHand w s w1 s1
    = subst (λ (x : Handed). GathersHand w x w1 s1) (sym c.index-hands-first.is) c.gather_one.ensures in
    record {
      own = g.gathers.of_reader.learns.table ∙ c.requires.own;
      hands =
          tables_on c.args.map.now hands (set hands c.args.first s1)
          (map-set_same still hands c.args.first s1 s (same_still w s w1 s1 g ∙ ap still c.index-hands-first.is))
          c.requires.hands;
      sound = gather_sound w _ w1 _ g.gathers;
      first = λ other. subst (λ (x : Handed). IsShown w1.seen w1 x)
          (sym (get_or-set_same hands c.args.first s1 other c.requires.first))
          (shown_now w1.seen w s w1 s1 g (starts_same w1.seen));
    }

pub returns : goal.returns
returns c =
    let w = c.args.writer.now in
    let s = c.index-hands-first.result in
    let w1 = c.gather_one.new.writer in
    let s1 = c.gather_one.new.hand in
    let hands = c.args.hands.now in
    let g : GathersHand w s w1 s1
    = subst (λ (x : Handed). GathersHand w x w1 s1) (sym c.index-hands-first.is) c.gather_one.ensures in
    round_over w hands c.args.first w1 s s1 c.gather_others.new.writer c.gather_others.new.hands c.requires.first
    c.index-hands-first.is g c.gather_others.ensures
