use Rattle.std.proofs.Common.{◌≡◌, ℕ, ◌<◌, ◌∙◌, List, [], ◌∷◌, ◌++◌, Option, ap, get_or, length, take, subst, arith}
use Rattle.std.proofs.Common.{sym}
use Rattle.std.proofs.lemmas.List.{length-set, map-append, take_more, take_more_set}
use Rattle.std.proofs.lemmas.List.Elements.{All-set, All-take}
use Rattle.nr_ids.specs.declared.plan.Plan.{Plan}
use Rattle.nr_ids.specs.Groups.{ways}
use Rattle.nr_idmap.specs.declared.finds.NamedWay.{NamedWay}
use Rattle.nr_idmap.specs.IdLoads.{key_named, keys_named}
use Rattle.nr_idmap.specs.IdWalks.{IsNear}
use Rattle.nr_idmap.specs.Keepers.{IdTable}
use Rattle.nr_idmap.proofs.LookUps.{keys_inside, one_more_looked}
use Rattle.nr_idmap.proofs.id_map.IdMap.look_up_all.Goals as goal

pub loop-place-preserved : goal.loop-place-preserved
loop-place-preserved c =
    let place = c.loop-place.place in
    let ids : List ℕ = c.args.ids.now in
    let id : ℕ = get_or ids place 0 in
    let ways : List (Option NamedWay) = c.loop-place.ways in
    let keys : List ℕ = c.loop-place.keys in
    let found : Option NamedWay = c.look_up-at.result in
    let key : ℕ = c.key_of.result in
    let key_is : key ≡ key_named found = c.key_of.ensures in
    let low : place < length ids = omega (arith, c.loop-place-test.true) in let had = c.loop-place.invariant in
    let far : place < length ways = omega (arith, low, c.requires.few, had.long) in
    let deep : place < length keys = omega (arith, low, c.requires.few, had.as_long) in
    let ways_more = take_more_set ways place found far in record {
      own = c.look_up-at.ensures.own;
      looks = rw (take_more ids place 0 low, ways_more)
          (one_more_looked (take place ids) (take place ways) id found c.args.reader.now c.loop-place.reader
          c.look_up-at.new.ids had.looks c.look_up-at.ensures.looks);
      near = All-set (IsNear c.args.self.now.map.shape.keys) ways place found
          c.look_up-at.ensures.inside had.near;
      keys =
          take_more_set keys place key deep
          ∙ (λ j. had.keys j ++ key_is j ∷ [])
          ∙ sym (map-append key_named (take place ways) (found ∷ []))
          ∙ ap keys_named (sym ways_more);
      long = length-set ways place found ∙ had.long;
      as_long = length-set keys place key ∙ had.as_long;
    }

pub returns-clause-inside : goal.returns-clause-inside
returns-clause-inside c =
    let now = c.args.self.now in
    let size : ways now.directory.plan ≡ now.map.shape.keys
    = subst (λ (t : IdTable). ways t.directory.plan ≡ t.map.shape.keys) c.self.view_is c.self.invariant.0 in
    let groups : c.plan.result.now.groups ≡ now.directory.plan.groups
    = ap (λ (p : Plan). p.groups) c.plan.ensures.value
    ∙ ap (λ (t : IdTable). t.directory.plan.groups) c.self.view_is in
    let some : 0 < now.map.shape.keys = omega (arith, c.plan.ensures.sizes.0, groups, size) in
    keys_inside now.map.shape.keys (take (length c.args.ids.now) c.loop-place.ways) some
    (All-take (IsNear now.map.shape.keys) (length c.args.ids.now) c.loop-place.ways c.loop-place.invariant.near)
