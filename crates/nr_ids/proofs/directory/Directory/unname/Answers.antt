use Rattle.std.proofs.Common.{subst, ◌∙◌}
use Rattle.nr_ids.specs.Answers.{Unnames}
use Rattle.nr_ids.specs.Tokens.{Token, token}
use Rattle.nr_ids.proofs.Admitting.{clerk_so, unhinted, unnamed_of_names}
use Rattle.nr_ids.proofs.directory.Directory.unname.Goals as goal

pub invariant_of-clerk : goal.invariant_of-clerk
invariant_of-clerk c =
    let was = c.clerk.invariant in
    let takes = c.unname_way.ensures.grows in
    let hint = c.hint.ensures.hints in
    clerk_so c.hint.ensures.clerk ((unhinted was.1 takes hint).number ∙ was.1)
    (unnamed_of_names was.1 takes hint was.2)

pub returns-clause-answer : goal.returns-clause-answer
returns-clause-answer c =
    let was = c.clerk.invariant in
    let hint = c.hint.ensures.hints in
    subst (λ (t : Token). Unnames c.args.way t (token c.hint.new.seat)) c.clerk.view_is
    (record {
      hints = hint.hints;
      grows = unhinted was.1 c.unname_way.ensures.grows hint;
      unhinted = hint.set;
    })
