use Rattle.std.proofs.Common.{◌≢◌, ℕ, ◌+◌, ◌-◌, ◌*◌, ◌/◌, ◌%◌, ◌^◌, ◌<◌, arith}
use Rattle.std.proofs.Math.Nat.{mod-lt, mod-eq_of_lt, mod-eq-sub-mod}
use Rattle.nr_ids.specs.declared.plan.Plan.{Plan}
use Rattle.nr_ids.specs.Groups.{group_of, mixed, second_of}
use Rattle.nr_ids.specs.Laws.{SecondIsAnother}
use Rattle.nr_ids.proofs.laws.second_is_another.Goals as goal

-- a number below 2^32, scaled
scaled : (low count : ℕ) → low < 2 ^ 32 → 0 < count → low * count / 2 ^ 32 < count
scaled low count below some = grind arith

-- so much further on, and on from the first behind the last
further : (at more count : ℕ) → at < count → more + 1 < count → (at + 1 + more) % count ≢ at
further at more count inside few same = grind (arith, mod-eq-sub-mod, mod-eq_of_lt)

mixed_low : (key id : ℕ) → mixed key id < 2 ^ 64
unfolding mixed
mixed_low key id = mod-lt _ (omega arith)

group_low : (plan : Plan) (id : ℕ) → 0 < plan.groups → group_of plan id < plan.groups
unfolding group_of
group_low plan id some =
    let low = mixed_low plan.key id in
    scaled (mixed plan.key id / 4294967296) plan.groups (omega arith) some

second_is_another : SecondIsAnother
unfolding second_of
second_is_another plan id is two =
    let low : mixed plan.key id % 4294967296 < 4294967296 = omega arith in
    let more : ℕ = mixed plan.key id % 4294967296 * (plan.groups - 1) / 4294967296 in
    let few : more < plan.groups - 1 = scaled (mixed plan.key id % 4294967296) (plan.groups - 1) low (omega arith) in
    further (group_of plan id) more plan.groups (group_low plan id is.0) (omega arith)

pub returns : goal.returns
returns c = second_is_another
