use Rattle.std.proofs.Common.{◌<◌, ◌∙◌, length, arith, refl, subst, sym}
use Rattle.nr_map.specs.declared.wanted.Wanted.{Wanted}
use Rattle.nr_map.specs.FindsEach.{FindsWanted}
use Rattle.nr_map.proofs.FindsEach.{Listed, all_made, as_wanted, none_made, one_more}
use Rattle.nr_map.proofs.reader_map.ReaderMap.find_group.Goals as goal

pub find_wanted-requires-clause-key : goal.find_wanted-requires-clause-key
find_wanted-requires-clause-key g c =
    let at = c.loop-one.one-index in
    let one = c.one-item.result in
    let keys = c.loop-one.group in
    let low : at < length keys = omega arith in
    let was
    = as_wanted g.R.RowRoom.shows c.loop-one.invariant.ready c.args.group.now at c.loop-one.reader keys
    c.loop-one.invariant.begun one low c.one-item.is in
    subst (λ (w : Wanted _). w.key < c.args.self.now.shape.keys) (sym was ∙ c.one-item.is)
    (c.requires.keys at one (omega arith))

pub loop-one-init : goal.loop-one-init
loop-one-init g c = record {
  own = c.load_group.ensures.own;
  ready = c.load_group.new.reader;
  loads = c.load_group.ensures.loads;
  begun = none_made (Listed g.R.RowRoom.shows) c.load_group.new.reader c.args.group.now;
}

pub loop-one-preserved : goal.loop-one-preserved
loop-one-preserved g c =
    let had = c.loop-one.invariant in
    let at = c.loop-one.one-index in
    let one = c.one-item.result in
    let keys = c.loop-one.group in
    let low : at < length keys = omega arith in record {
      own = c.find_wanted.ensures.own;
      ready = had.ready;
      loads = had.loads;
      begun =
          one_more g.R.RowRoom.shows had.ready c.args.group.now at c.loop-one.reader keys had.begun one low
          c.one-item.is c.find_wanted.new.reader c.find_wanted.new.one
          (subst
          (λ (w : Wanted _). FindsWanted g.R.RowRoom.shows c.loop-one.reader w c.find_wanted.new.reader
          c.find_wanted.new.one)
          (sym c.one-item.is) c.find_wanted.ensures.finds);
    }

pub returns-clause-finds : goal.returns-clause-finds
returns-clause-finds g c =
    let had = c.loop-one.invariant in record {
      ready = had.ready;
      loads = had.loads;
      finds =
          all_made (Listed g.R.RowRoom.shows) had.ready c.args.group.now c.loop-one.one-index c.loop-one.reader
          c.loop-one.group had.begun (omega arith) refl;
    }
