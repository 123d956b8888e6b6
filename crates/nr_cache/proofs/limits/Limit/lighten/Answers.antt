use Rattle.std.proofs.Common.{arith, refl, ◌∙◌}
use Rattle.nr_cache.specs.Places as places
use Rattle.nr_cache.specs.Weights.{stock_of}
use Rattle.nr_cache.proofs.Weighing.{fits_alone}
use Rattle.nr_cache.proofs.limits.Limit.lighten.Goals as goal

pub too_heavy-init : goal.too_heavy-init
too_heavy-init c = record {
  own = c.requires.own;
  owes = λ way. refl;
  values = c.requires.values;
  only = c.requires.only;
  hand = c.requires.hand;
  most = refl;
  lightens = places.NoneGoes (stock_of c.args.writer.now c.args.self.now.weights c.args.self.now.hand);
  mine = refl;
  fewer = omega arith;
  asker = refl;
  same = refl;
}

pub let_one_go-requires-clause-some : goal.let_one_go-requires-clause-some
let_one_go-requires-clause-some c none =
    let so_far = c.too_heavy.invariant in
    let is =
    c.fits.ensures.1
    (fits_alone c.args.way c.args.weight c.too_heavy.self.weights c.too_heavy.writer so_far.only
    (omega (arith, so_far.most, c.requires.light)) none) in
    absurd (cc (is, c.too_heavy-test.true))

pub too_heavy-preserved : goal.too_heavy-preserved
too_heavy-preserved c =
    let so_far = c.too_heavy.invariant in
    let step = c.let_one_go.ensures in
    record {
      own = step.own;
      owes = λ way. step.owes way ∙ so_far.owes way;
      values = step.values;
      only = step.only;
      hand = step.hand;
      most = step.goes.lightens.most ∙ so_far.most;
      lightens = places.OneMoreGoes
          (stock_of c.args.writer.now c.args.self.now.weights c.args.self.now.hand)
          (stock_of c.too_heavy.writer c.too_heavy.self.weights c.too_heavy.self.hand)
          (stock_of c.let_one_go.new.writer c.let_one_go.new.self.weights c.let_one_go.new.self.hand) so_far.lightens
          (λ fits. let is = c.fits.ensures.1 fits in absurd (cc (is, c.too_heavy-test.true))) step.goes;
      mine = step.mine ∙ so_far.mine;
      fewer = omega (arith, step.fewer, so_far.fewer);
      asker = step.asker ∙ so_far.asker;
      same = step.same ∙ so_far.same;
    }
