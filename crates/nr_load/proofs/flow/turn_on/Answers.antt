use Rattle.std.proofs.Common.{List, length, refl, sym, ap, ◌∙◌}
use Rattle.std.proofs.lemmas.Bool.{true≢false}
use Rattle.nr_board.specs.Callers.{Table}
use Rattle.nr_load.proofs.Finding.{rounds_long}
use Rattle.nr_load.proofs.Turning.{so_far_more, so_far_none, turns_end}
use Rattle.nr_load.proofs.flow.turn_on.Goals as goal

pub turn_once-turned-requires-clause-base : goal.turn_once-turned-requires-clause-base
turn_once-turned-requires-clause-base g c =
    let so_far = c.loop.invariant in let ready = c.ready.ensures in
    ap (λ (base : List _). length base) ready.only.source
    ∙ rounds_long _ _ _ _ _ _ so_far.far.rounds ∙ ap (λ (t : Table). t.shape.keys) (sym (ready.only.map ∙ so_far.map))

pub turn_once-turned-requires-clause-room : goal.turn_once-turned-requires-clause-room
turn_once-turned-requires-clause-room g c =
    rw (c.ready.ensures.only.map, c.loop.invariant.map) c.requires.room

pub loop-init : goal.loop-init
loop-init g c = record {
  map = refl;
  none = c.requires.none.0;
  near = rw c.requires.none.1 tt;
  far = so_far_none c.args.flow.now c.args.under_way.now.posts c.requires.base c.requires.none.1;
  lobby = c.guest-guest.ensures.lobby ∙ c.lobby-lobby.ensures;
}

pub loop-preserved : goal.loop-preserved
loop-preserved g c =
    let so_far = c.loop.invariant in let ready = c.ready.ensures in let turned = c.turn_once-turned in
    record {
      map = turned.ensures.places.0 ∙ ready.only.map ∙ so_far.map;
      none = turned.ensures.turns.none;
      near = rw (turned.ensures.places.0, ready.only.map) ready.near;
      far =
          so_far_more c.args.flow.now c.loop.flow c.ready.new.flow turned.new.flow c.loop.under_way c.ready.new.self
          turned.result c.loop.fills turned.new.fills so_far.map so_far.far ready turned.ensures.turns
          (λ wrong. true≢false (sym (c.is_last.ensures.wrong wrong) ∙ c.if-is_last.false));
      lobby = c.is_closed_as-is_closed.ensures.looks.later.lobby ∙ so_far.lobby;
    }

pub returns-then-is_last : goal.returns-then-is_last
returns-then-is_last g c =
    let so_far = c.loop.invariant in let turned = c.turn_once-turned in
    turns_end c.args.flow.now c.loop.flow c.ready.new.flow turned.new.flow c.loop.under_way c.ready.new.self
    turned.result c.loop.fills turned.new.fills so_far.map so_far.far c.ready.ensures turned.ensures.turns
    c.fault_of.result c.fault_of.ensures (c.is_last.ensures.idle c.if-is_last.true)
