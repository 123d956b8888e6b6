use Rattle.std.proofs.Common.{◌≡◌, rules, ℕ, [], ◌∷◌, refl, subst}
use Rattle.nr_ids.specs.Events.{cleared, looked, looks}
use Rattle.nr_ids.specs.Looking.{group_for}
use Rattle.nr_ids.specs.Tokens.{Grows, Token, token}
use Rattle.nr_ids.proofs.Admitting.{looked_clerk, still_clerk}
use Rattle.nr_ids.proofs.Calls.{grows_on}
use Rattle.nr_ids.proofs.directory.Directory.clear.Goals as goal

pub returns-clause-answer : goal.returns-clause-answer
returns-clause-answer c =
    let old = token c.clerk.inside.seat in
    let mid = token c.look_at_turn-turn.new.seat in
    let new = token c.close.new.seat in
    let id = c.args.id in
    let group : c.group_of-group.result ≡ group_for old id = search rules in
    subst (λ (t : Token). Grows (cleared (group_for t id) ∷ looks 1 t.number) t new) c.clerk.view_is
    (subst (λ (g : ℕ). Grows (cleared g ∷ looks 1 old.number) old new) group
    (grows_on old mid new (looked old.number ∷ []) (cleared c.group_of-group.result ∷ [])
    c.look_at_turn-turn.ensures.grows c.close.ensures.grows))

pub invariant_of-clerk : goal.invariant_of-clerk
invariant_of-clerk c = let turn = c.look_at_turn-turn.ensures in looked_clerk 1 c.clerk.invariant turn.caller turn.grows

pub invariant_of-clerk-2 : goal.invariant_of-clerk-2
invariant_of-clerk-2 c = let turn = c.look_at_turn-turn.ensures in
    still_clerk (looked_clerk 1 c.clerk.invariant turn.caller turn.grows)
    c.close.ensures.clerk c.close.ensures.grows (λ _. refl) (λ _. refl)
