use Rattle.std.proofs.Common.{◌∙◌, ℕ, Some, None, ap, arith, inl, inr, refl}
use Rattle.nr_cache.specs.Weights.{stock_of, weighs_at}
use Rattle.nr_cache.proofs.Weighing.{comes_is, comes_only, filled_comes, lightens_same}
use Rattle.nr_cache.proofs.Gone.{is_gone}
use Rattle.nr_cache.proofs.Placing.{admitted_id}
use Rattle.nr_cache.proofs.Quiets.{admits_quiet, quiet_fewer}
use Rattle.nr_cache.proofs.values.enter.Goals as goal

pub returns-then-not-claim-clause-enters : goal.returns-then-not-claim-clause-enters
returns-then-not-claim-clause-enters g c = (
  record {
    why = inl (c.if-not-claim.ensures.claims, refl);
    gone = is_gone c.unnamed_is_absent.ensures c.is_tied.ensures c.requires.absent;
    lightens = lightens_same c.args.writer.now c.args.writer.now (λ way. refl);
    hand = refl;
  },
  refl,
)

pub keep-requires-clause-within : goal.keep-requires-clause-within
keep-requires-clause-within g c =
    let late = c.admit-admitted.new.writer in
    let admits = admits_quiet c.args.id c.args.writer.now late (Some c.in-Some.upquery) c.in-Some.ensures.admits in
    omega (arith, quiet_fewer late c.is_tied.ensures admits, c.requires.within)

pub returns-in_default-clause-within : goal.returns-in_default-clause-within
returns-in_default-clause-within g c =
    let late = c.admit-admitted.new.writer in
    let admits = admits_quiet c.args.id c.args.writer.now late None c.in_default.ensures.admits in
    omega (arith, quiet_fewer late c.is_tied.ensures admits, c.requires.within)

pub returns-in_default-clause-enters : goal.returns-in_default-clause-enters
returns-in_default-clause-enters g c = (
  record {
    why = inr (c.if-not-claim.ensures.claims, c.in_default.ensures.admits);
    gone = is_gone c.unnamed_is_absent.ensures c.is_tied-2.ensures c.in_default.ensures.none.1;
    lightens = c.admit-admitted.ensures.lightens;
    hand = refl;
  },
  refl,
)

pub returns-clause-enters : goal.returns-clause-enters
returns-clause-enters g c =
    let late = c.admit-admitted.new.writer in
    let roomy = c.keep.new.self in
    let admits = c.in-Some.ensures.admits in
    let its = admitted_id c.args.id c.args.writer.now late c.in-Some.upquery admits in
    record {
      claims = c.if-not-claim.ensures.claims;
      late = stock_of late c.admit-admitted.new.weights c.args.limit.now.hand;
      sent = c.in-Some.upquery;
      admits = admits;
      lightens = c.admit-admitted.ensures.lightens;
      roomy = stock_of c.keep.new.writer roomy.weights roomy.hand;
      keeps = c.keep.ensures.keeps;
      fills = c.fill-given.ensures.fills;
      has = comes_is (filled_comes c.keep.new.writer c.fill-given.new.writer c.is_tied-3.ensures its
          c.fill-given.ensures.fills.fills.published.gains);
      weighs = c.set.ensures ∙ ap (λ (w : ℕ). weighs_at w c.args.weight roomy.weights) c.way-way.ensures;
      stays = (c.fill-given.ensures.asker, refl, refl);
    }

pub returns-clause-only : goal.returns-clause-only
returns-clause-only g c =
    rw (c.set.ensures, c.way-way.ensures)
    (comes_only c.args.weight c.keep.new.self.weights
    (filled_comes c.keep.new.writer c.fill-given.new.writer c.is_tied-3.ensures refl
    c.fill-given.ensures.fills.fills.published.gains)
    c.keep.ensures.only)
