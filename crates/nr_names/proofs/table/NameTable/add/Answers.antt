use Rattle.std.proofs.Common.{◌≡◌, string_bytes}
use Rattle.std.proofs.lemmas.Result.{IfOk-at_ok}
use Rattle.nr_names.proofs.OneMore.{IsNew-from_adds, IsKept-push}
use Rattle.nr_names.proofs.table.NameTable.add.Goals as goal

-- both copies have the name's bytes, so the list and the map gain the same name
pub invariant_of-self-2 : goal.invariant_of-self-2
invariant_of-self-2 c =
    let key_is = IfOk-at_ok (λ s. string_bytes s ≡ c.args.name.now) c.in_ok-key.was c.from_str.ensures.ok in
    let text_is = IfOk-at_ok (λ s. string_bytes s ≡ c.args.name.now) c.in_ok-text.was c.from_str-2.ensures.ok in
    let new = IsNew-from_adds _ _ _ (rw (← c.self.view_is) at c.requires.adds) in
    let next = rw (← c.self.view_is) at c.requires.next in
    rw (c.push_reserved.ensures.items, c.push_reserved.ensures.capacity)
    (IsKept-push _ _ _ c.in_ok-key.key c.in_ok-text.text _ c.self.invariant new next key_is text_is
    c.in_ok-insert.ensures.updates)

pub returns-clause-sound : goal.returns-clause-sound
returns-clause-sound c = (invariant_of-self-2 c).sound
