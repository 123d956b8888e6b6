use Rattle.std.proofs.Common.{◌≡◌, ◌≤◌, ◌∙◌, ℕ, ap, arith, below_more, refl}
use Rattle.nr_board.specs.Callers.{Table}
use Rattle.nr_idmap.specs.Keepers.{IdTable, name_at}
use Rattle.nr_cache.specs.Places as places
use Rattle.nr_cache.proofs.Ways.{all_gone}
use Rattle.nr_cache.proofs.Quiets.{each_quiet, quiet_fewer}
use Rattle.nr_cache.proofs.Weighing.{lightens_same, lightens_then}
use Rattle.nr_cache.proofs.clearing.take_all.Goals as goal

pub loop-way-init : goal.loop-way-init
loop-way-init c = record {
  own = c.requires.own;
  owes = c.requires.owes;
  values = c.requires.values;
  only = c.requires.only;
  lightens = lightens_same c.args.writer.now c.args.writer.now (λ way. refl);
  takes = places.NoneTaken c.args.writer.now;
  none = λ other low. absurd (omega arith);
}

-- one way more
pub loop-way-preserved : goal.loop-way-preserved
loop-way-preserved c =
    let before = c.loop-way.invariant in
    let step = c.take_at.ensures in
    record {
      own = step.own;
      owes = step.owes;
      values = step.values;
      only = step.only;
      lightens = lightens_then before.lightens step.lightens;
      takes = places.OneMoreTaken c.loop-way.way c.args.writer.now c.loop-way.writer c.take_at.new.writer before.takes
          step.takes;
      none = below_more (λ (other : ℕ). name_at c.take_at.new.writer other ≡ 0) c.loop-way.way
          (λ other low. step.others other (before.none other low)) step.none;
    }

pub returns-clause-gone : goal.returns-clause-gone
returns-clause-gone c =
    let keys =
    ap (λ (t : Table). t.shape.keys)
    (c.is_tied-2.ensures.writes.0 ∙ ap (λ (t : IdTable). t.map) c.loop-way.invariant.own) in
    let all : c.loop-way.writer.writer.table.shape.keys ≤ c.loop-way.way = omega (arith, keys) in
    all_gone c.loop-way.way c.is_tied-2.ensures all c.loop-way.invariant.none

pub returns-clause-fewer : goal.returns-clause-fewer
returns-clause-fewer c = quiet_fewer c.loop-way.writer c.is_tied.ensures (each_quiet c.loop-way.invariant.takes)
