use Rattle.std.proofs.Common.{◌≢◌, ℕ, arith, inl, inr, subst}
use Rattle.std.proofs.lemmas.Bool.{cases_eq}
use Rattle.nr_cache.specs.Stamps.{IsStale, stamp_at}
use Rattle.nr_cache.proofs.Looking.{no_look, then_around}
use Rattle.nr_cache.proofs.stamps.stale_way.Goals as goal

pub returns-then-bound-eq0-clause-looks : goal.returns-then-bound-eq0-clause-looks
returns-then-bound-eq0-clause-looks c = no_look c.args.writer.now

pub loop-way-init : goal.loop-way-init
loop-way-init c = record {
  own = c.requires.own;
  looks = no_look c.args.writer.now;
  none = λ other low high differs stale. absurd (omega (arith, low, high));
}

pub returns-then-goes_first-clause-looks : goal.returns-then-goes_first-clause-looks
returns-then-goes_first-clause-looks c = then_around c.loop-way.invariant.looks c.goes_first.ensures.looks

pub loop-way-preserved : goal.loop-way-preserved
loop-way-preserved c = record {
  own = c.goes_first.ensures.own;
  looks = then_around c.loop-way.invariant.looks c.goes_first.ensures.looks;
  none = λ other low high differs stale. elim (cases_eq other c.loop-way.way) [
    | inl same ↦
        let is =
        c.goes_first.ensures.stale.1
        (subst (λ (way : ℕ). (way ≢ c.args.newcomer)
        × IsStale c.args.bound (stamp_at c.goes_first.new.writer way)) same (differs, stale)) in
        absurd (cc (is, c.if-goes_first.false))
    | inr before ↦
        c.loop-way.invariant.none other low (omega (arith, high, before)) differs
        (subst (λ (stamp : ℕ). IsStale c.args.bound stamp) (c.goes_first.ensures.same other) stale)
  ];
}
