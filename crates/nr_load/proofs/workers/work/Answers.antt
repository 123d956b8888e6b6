use Rattle.std.proofs.Common.{◌≡◌, ◌<◌, length, sym, subst, ap, ◌∙◌, arith, replicate}
use Rattle.std.specs.Prelude.{drop}
use Rattle.nr_board.specs.Callers.{Caller, Table}
use Rattle.nr_serve.specs.declared.hands.Hands.{Hands}
use Rattle.nr_serve.specs.Clients.{since}
use Rattle.nr_serve.specs.Tickets.{sent}
use Rattle.nr_load.specs.Drawn.{stream_of}
use Rattle.nr_load.specs.Gained.{Gained}
use Rattle.nr_load.specs.Works.{Works, of_gets}
use Rattle.nr_load.proofs.Working.{works_few}
use Rattle.nr_load.proofs.Gaining.{since_gained}
use Rattle.nr_load.proofs.workers.work.Goals as goal

pub returns-clause-serves : goal.returns-clause-serves
returns-clause-serves g c =
    let load = c.make_gets-guest in
    let old = c.of_service-client.result.hands in
    let new = load.new.client.hands in
    let table : c.args.shared.now.service.map ≡ c.args.reader.table = sym c.requires.own in
    let keys : c.open-draws.result.keys ≡ c.args.reader.table.shape.keys
    = c.open-draws.ensures.keys ∙ c.keys.ensures ∙ ap (λ (t : Table). t.shape.keys) (c.map.ensures ∙ table) in
    let stream : c.open-draws.result.generator ≡ stream_of c.args.shared.now.plan.seed c.args.reader.number
    = c.open-draws.ensures.generator ∙ ap (stream_of c.args.shared.now.plan.seed) c.number.ensures.number in
    let works : Works 1000000 c.args.reader.table.shape.keys load.result.0.made
    (replicate c.args.reader.table.shape.keys 0)
    (stream_of c.args.shared.now.plan.seed c.args.reader.number) old load.new.draws.generator new load.result.0.answered
    (of_gets load.result.0.fault) =
    rw (← keys, ← stream) load.ensures.works in
    let some : 0 < c.args.reader.table.shape.keys
    = rw table at c.args.shared.now.keys.0 in
    let first : old.reader ≡ c.args.reader = ap (λ (hands : Hands). hands.reader) c.of_service-client.ensures.hands in
    let few = works_few 1000000 _ load.result.0.made _ _ _ _ old new _ some works in
    let gained : Gained c.args.reader.table.shape.keys c.args.reader new.reader few.count 0
    = subst (λ (r : Caller). Gained c.args.reader.table.shape.keys r new.reader few.count 0) first few.gained in
    let opened : load.new.client.opened.reader ≡ c.args.reader
    = ap (λ (hands : Hands). hands.reader) (load.ensures.places.2 ∙ c.of_service-client.ensures.opened) ∙ first in
    let counted : length (sent (since load.new.client.opened new)) ≡ few.count
    = ap (λ (r : Caller). length (sent (drop (length r.mine) new.reader.mine))) opened
    ∙ since_gained _ c.args.reader new.reader few.count 0 gained in
    let sends : c.sends-sends.result ≡ few.count
    = omega (arith, c.sends-sends.ensures, counted, few.low, load.ensures.few.0, c.args.shared.now.gets) in
    record {
      works =
          record {
            old = old;
            new = new;
            begins = first;
            empty = ap (λ (hands : Hands). hands.kept) c.of_service-client.ensures.hands;
            ends = sym c.end-reader.ensures.reader;
            generator = load.new.draws.generator;
            works = works;
          };
      gained = rw (c.end-reader.ensures.reader, sends) gained;
      few = omega (arith, sends, few.low, load.ensures.few.0);
      made = load.ensures.few.0;
      answered = omega (arith, load.ensures.few.0, load.ensures.few.1);
      all = load.ensures.all;
    }
