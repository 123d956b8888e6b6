use Rattle.std.proofs.Common.{◌≡◌, List, [], length, ap, ◌∙◌, arith}
use Rattle.nr_ids.specs.Groups.{ways}
use Rattle.nr_ids.specs.Tokens.{Opened, Token}
use Rattle.nr_map.specs.Opened.{IsOpened, words_of_large}
use Rattle.nr_idmap.specs.IdOpenings.{pairs_from, shape_of}
use Rattle.nr_board.specs.Callers.{Caller}
use Rattle.nr_idmap.specs.Keepers.{IdCaller}
use Rattle.nr_idmap.proofs.Opening.{opened_tied, others_own, pairs_count, pairs_own, rest_count}
use Rattle.nr_idmap.proofs.id_map.IdMap.open.Goals as goal

new_clerk : (c : goal.After-new) → (c.pair_readers.new.clerk.number ≡ 0) × (c.pair_readers.new.clerk.seen ≡ [])
new_clerk c = let fresh = c.in-Ok-open.ensures.ok.1 in let kept = c.pair_readers.ensures.clerk in
    (kept.0 ∙ ap (λ (t : Token). t.number) fresh, kept.1 ∙ ap (λ (t : Token). t.seen) fresh)

opened : (c : goal.After-new)
    → IsOpened (shape_of c.args.shape.now) (words_of_large (shape_of c.args.shape.now)) c.in-Ok.map c.in-Ok.writer
    c.in-Ok.readers.items
opened c =
    rw c.of_map.ensures.value at c.in-Ok.ensures.ok

pub invariant_of-writer : goal.invariant_of-writer
invariant_of-writer c =
    opened_tied (shape_of c.args.shape.now) (words_of_large (shape_of c.args.shape.now)) c.in-Ok.map c.in-Ok.writer
    c.in-Some.asker c.in-Ok.readers.items
    c.pop.new.self.items (opened c) c.in-Some.ensures.items c.pair_readers.new.clerk (new_clerk c)
    (ap (λ (d : Opened). ways d.plan) c.pair_readers.ensures.own ∙ ap ways c.in-Ok-open.ensures.ok.0) (omega arith)

pub returns-clause-ok : goal.returns-clause-ok
returns-clause-ok c =
    let directory : Opened = c.in-Ok-open.directory in let rest = c.pop.new.self.items in
    let pairs : c.in-Ok-pair_readers.paired.items ≡ pairs_from directory 0 rest = c.in-Ok-pair_readers.ensures.readers
    ∙ ap (λ (t : Token). pairs_from directory t.made rest) c.in-Ok-open.ensures.ok.1 in record {
      plan = c.in-Ok-open.ensures.ok.0;
      mapped = c.in-Ok.readers.items;
      opened = opened c;
      others = rest;
      asks = c.in-Some.ensures.items;
      reads = pairs;
      count = omega (
        arith,
        ap (λ (l : List IdCaller). length l) pairs,
        pairs_count directory 0 rest,
        rest_count (shape_of c.args.shape.now) (words_of_large (shape_of c.args.shape.now))
            c.in-Ok.map c.in-Ok.writer c.in-Some.asker c.in-Ok.readers.items rest (opened c) c.in-Some.ensures.items,
      );
      own = rw pairs
          (pairs_own c.in-Ok.map directory 0 rest
          (others_own c.in-Ok.map c.in-Ok.readers.items rest c.in-Some.asker c.in-Some.ensures.items (opened c).own));
      writes = (let table = ap (λ (w : Caller). w.table) (opened c).writes in
          λ i. record { map = table i; directory = c.pair_readers.ensures.own i });
      clerk = new_clerk c;
    }
