use Rattle.std.proofs.Common.{ℕ, arith, ap, ◌≡◌, ◌*◌, ◌∙◌}
use Rattle.std.specs.Prelude.{replicate}
use Rattle.nr_ids.specs.Rule.{total}
use Rattle.nr_ids.proofs.Seats.{opens_so}
use Rattle.nr_ids.proofs.directory.Directory.lay.Goals as goal

pub of_words-requires : goal.of_words-requires
of_words-requires c = let size : 11 * c.args.plan.groups ≡ total c.args.plan = omega arith in
    opens_so c.args.plan _ c.requires
    (c.deref.ensures.value ∙ c.in_ok-words.ensures.items_if_clones_equal (λ y same. same)
    ∙ ap (λ (n : ℕ). replicate n 0) size)
