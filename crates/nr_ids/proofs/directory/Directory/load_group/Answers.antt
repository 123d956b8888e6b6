use Rattle.std.proofs.Common.{rules, ℕ, ◌*◌, [], ◌∷◌}
use Rattle.nr_ids.specs.Events.{loaded, touched}
use Rattle.nr_ids.specs.Groups.{group_of}
use Rattle.nr_ids.specs.Rule.{hints_place}
use Rattle.nr_ids.specs.Tokens.{Grows, token}
use Rattle.nr_ids.proofs.Calls.{grows_on}
use Rattle.nr_ids.proofs.directory.Directory.load_group.Goals as goal

pub returns-clause-loads : goal.returns-clause-loads
returns-clause-loads c =
    let old = token c.args.seat.now in let mid = token c.load_hints.new.seat in let new = token c.load_name.new.seat in
    let plan = old.directory.plan in
    let group : ℕ = group_of plan c.args.id in
    let hints : Grows (touched old.number (loaded (hints_place plan group)) ∷ []) old mid = search rules in
    let name : Grows (touched old.number (loaded (8 * group)) ∷ []) mid new = search rules in
    let both = grows_on old mid new _ _ hints name in search rules
