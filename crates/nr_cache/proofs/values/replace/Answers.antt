use Rattle.std.proofs.Common.{◌∙◌, ap, arith, refl, sym, subst}
use Rattle.nr_board.specs.Callers.{Table}
use Rattle.nr_idmap.specs.Keepers.{IdTable}
use Rattle.nr_cache.specs.Values.{HasSlots}
use Rattle.nr_cache.specs.Weights.{stock_of}
use Rattle.nr_cache.proofs.Looking.{brings_one}
use Rattle.nr_cache.proofs.Weighing.{comes_is, comes_only, replaced_comes}
use Rattle.nr_cache.proofs.Filled.{replaced_fewer}
use Rattle.nr_cache.proofs.Gone.{found_none}
use Rattle.nr_cache.proofs.Placing.{not_refused}
use Rattle.nr_cache.proofs.Ways.{named_still}
use Rattle.nr_cache.proofs.WriterCalls.{writes}
use Rattle.nr_cache.proofs.values.replace.Goals as goal

pub unreachable-requires : goal.unreachable-requires
unreachable-requires g c =
    let (real, was) = c.requires.named in
    let named =
    named_still c.args.way c.args.id c.is_tied.ensures c.is_tied-2.ensures (c.requires.owes c.args.way) real was
    c.lighten.ensures.mine in
    let does = rw c.in-Err-Absent.field-0-is at c.in-Err-Absent.ensures.replaces in
    found_none c.is_tied-2.ensures does.0 c.args.way named

pub unreachable-requires-in-Err-Refused : goal.unreachable-requires-in-Err-Refused
unreachable-requires-in-Err-Refused g c =
    let lighter = c.lighten.ensures in
    not_refused g.R.RowRoom.shows c.args.id c.args.limit.now.capacity c.args.row c.lighten.new.writer c.args.had.now
    c.replace_reclaiming.new.writer c.replace_reclaiming.new.had c.in-Err-Refused._fault c.no_slot_is_rare.ensures
    (subst (λ (t : Table). HasSlots c.args.limit.now.capacity t)
    (sym (c.is_tied-2.ensures.writes.0 ∙ ap (λ (t : IdTable). t.map) lighter.own)) c.requires.slots)
    (omega (arith, lighter.fewer, c.requires.within)) c.is_tied-2.ensures c.is_tied-in-Err-Refused.ensures
    (λ way. c.replace_reclaiming.ensures.owes way ∙ lighter.owes way ∙ c.requires.owes way) c.requires.named.0
    (rw c.in-Err-Refused.field-0-is at c.in-Err-Refused.ensures.replaces)

pub returns-clause-values : goal.returns-clause-values
returns-clause-values g c =
    brings_one c.in-Ok.ensures.replaces.2.published.gains (c.args.id, c.args.row.a, c.args.row.b, refl)
    c.lighten.ensures.values

pub returns-clause-owes : goal.returns-clause-owes
returns-clause-owes g c way =
    c.replace_reclaiming.ensures.owes way ∙ c.lighten.ensures.owes way ∙ c.requires.owes way

pub returns-clause-only : goal.returns-clause-only
returns-clause-only g c =
    let (real, was) = c.requires.named in
    let replaces = c.in-Ok.ensures.replaces in
    let named =
    named_still c.args.way c.args.id c.is_tied.ensures c.is_tied-2.ensures (c.requires.owes c.args.way) real was
    c.lighten.ensures.mine in
    rw c.set.ensures
    (comes_only c.args.weight c.lighten.new.self.weights
    (replaced_comes c.args.way c.lighten.new.writer c.replace_reclaiming.new.writer c.is_tied-2.ensures real named
    replaces.1 replaces.2.published.gains)
    c.lighten.ensures.only)

pub returns-clause-replaces : goal.returns-clause-replaces
returns-clause-replaces g c =
    let (real, was) = c.requires.named in
    let lighter = c.lighten.ensures in
    let replaces = c.in-Ok.ensures.replaces in
    let named =
    named_still c.args.way c.args.id c.is_tied.ensures c.is_tied-2.ensures (c.requires.owes c.args.way) real was
    lighter.mine in
    let comes =
    replaced_comes c.args.way c.lighten.new.writer c.replace_reclaiming.new.writer c.is_tied-2.ensures real named
    replaces.1 replaces.2.published.gains in
    record {
      roomy = stock_of c.lighten.new.writer c.lighten.new.self.weights c.lighten.new.self.hand;
      lightens = lighter.lightens;
      fits = lighter.fits;
      replaces = replaces;
      has = comes_is comes;
      weighs = c.set.ensures;
      still = (c.replace_reclaiming.ensures.asker ∙ lighter.asker, refl);
    }

pub returns-clause-within : goal.returns-clause-within
returns-clause-within g c =
    let fewer = replaced_fewer (writes c.is_tied-2.ensures) c.in-Ok.ensures.replaces.2.published.gains in
    omega (arith, fewer, c.lighten.ensures.fewer, c.requires.within)
