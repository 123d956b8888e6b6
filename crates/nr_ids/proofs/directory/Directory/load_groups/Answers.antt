use Rattle.std.proofs.Common.{rules, ◌≡◌, ℕ, List, [], ◌∷◌, ◌++◌, get_or, refl, take}
use Rattle.std.proofs.lemmas.List.{take_more}
use Rattle.nr_ids.specs.declared.plan.Plan.{Plan}
use Rattle.nr_ids.specs.Groups.{group_of}
use Rattle.nr_ids.specs.Marks.{LoadsGroup, LoadsGroups, group_loads, loads_of_group}
use Rattle.nr_ids.specs.Tokens.{Token, token}
use Rattle.nr_ids.proofs.Calls.{grows_on}
use Rattle.nr_ids.proofs.directory.Directory.load_groups.Goals as goal

group_loads-snoc : (plan : Plan) (by : ℕ) (ids : List ℕ) (id : ℕ)
    → group_loads plan by (ids ++ id ∷ []) ≡ loads_of_group plan by (group_of plan id) ++ group_loads plan by ids
group_loads-snoc plan by [] id = refl
group_loads-snoc plan by (first ∷ ids) id = rw (group_loads-snoc plan by ids id)

one_more_loaded : (ids : List ℕ) (id : ℕ) (old mid new : Token) → LoadsGroups ids old mid
    → LoadsGroup (group_of mid.directory.plan id) mid new → LoadsGroups (ids ++ id ∷ []) old new
one_more_loaded ids id old mid new loads more =
    let plan = old.directory.plan in
    let by = old.number in
    rw (group_loads-snoc plan by ids id)
    (grows_on old mid new _ (loads_of_group plan by (group_of plan id)) loads
    (rw (← loads.number, ← loads.directory) more))

pub loop-id-preserved : goal.loop-id-preserved
loop-id-preserved c =
    let at = c.loop-id.id-index in
    let ids : List ℕ = c.args.ids.now in
    let id : ℕ = get_or ids at 0 in
    let old = token c.args.seat.now in let mid = token c.loop-id.seat in let new = token c.load_group.new.seat in
    let group : LoadsGroup (group_of mid.directory.plan id) mid new = search rules in
    record {
      sits = c.load_group.ensures.caller;
      loads =
          rw (take_more ids at 0 c.loop-id-test.true)
          (one_more_loaded (take at ids) id old mid new c.loop-id.invariant.loads group);
    }
