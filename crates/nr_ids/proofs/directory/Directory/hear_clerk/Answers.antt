use Rattle.std.proofs.Common.{◌≡◌, rules, ◌∙◌}
use Rattle.nr_ids.specs.Looking.{HintsNames}
use Rattle.nr_ids.specs.Tokens.{token}
use Rattle.nr_ids.proofs.Admitting.{clerk_so, looks_of_names}
use Rattle.nr_ids.proofs.directory.Directory.hear_clerk.Goals as goal

pub invariant_of-clerk : goal.invariant_of-clerk
invariant_of-clerk c =
    let took = c.take_note.new.seat in
    let names : HintsNames (token took) = search rules in
    let number : (token took).number ≡ 0 = search rules in
    let grows = c.learn.ensures.grows in
    clerk_so c.learn.ensures.caller (grows.number ∙ number) (looks_of_names 1 number grows names)
