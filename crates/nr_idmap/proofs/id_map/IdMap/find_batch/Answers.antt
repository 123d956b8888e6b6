use Rattle.std.proofs.Common.{◌<◌, ℕ, List, Option, arith, length, take}
use Rattle.std.proofs.lemmas.List.{length-map, length-take-le}
use Rattle.std.proofs.lemmas.List.Elements.{All-map, All-take}
use Rattle.nr_idmap.specs.declared.finds.NamedWay.{NamedWay}
use Rattle.nr_idmap.specs.declared.wanted.WantedId.{WantedId}
use Rattle.nr_idmap.specs.IdWalks.{IsNear}
use Rattle.nr_idmap.proofs.id_map.IdMap.find_batch.Goals as goal

pub look_up-requires-clause-ids : goal.look_up-requires-clause-ids
look_up-requires-clause-ids g c = rw c.copy_ids.ensures
    (All-map (λ (id : ℕ). 0 < id) (λ (one : WantedId g.row.R.Denot). one.id) c.args.wanted.now c.requires.ids)

pub find_in_ways-requires-clause-near : goal.find_in_ways-requires-clause-near
find_in_ways-requires-clause-near g c =
    All-take (IsNear c.args.self.now.map.shape.keys) (length c.args.wanted.now) c.look_up.new.ways
    c.look_up.ensures.near

pub find_in_ways-requires-clause-as_many : goal.find_in_ways-requires-clause-as_many
find_in_ways-requires-clause-as_many g c =
    length-take-le (length c.args.wanted.now) c.look_up.new.ways (omega (arith, c.requires.few))

pub returns-clause-finds : goal.returns-clause-finds
returns-clause-finds g c =
    let wanted : List (WantedId g.row.R.Denot) = c.args.wanted.now in
    let ways : List (Option NamedWay) = c.look_up.new.ways in
    record {
      ready = c.look_up.new.self;
      ways = take (length wanted) ways;
      looks = rw (c.copy_ids.ensures, length-map wanted (λ (one : WantedId g.row.R.Denot). one.id))
          at c.look_up.ensures.looks;
      finds = c.find_in_ways.ensures.finds;
    }
