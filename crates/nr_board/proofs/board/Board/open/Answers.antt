use Rattle.std.proofs.Common.{ap, arith, length, ◌∙◌}
use Rattle.nr_board.proofs.Opens.{opens_so, words_stand}
use Rattle.nr_board.specs.declared.board.Plan.{Plan}
use Rattle.nr_board.proofs.board.Board.open.Goals as goal

pub of_words-requires : goal.of_words-requires
of_words-requires c =
    rw (c.deref.ensures.value ∙ c.in_ok-words.ensures.words)
    (opens_so c.args.plan c.requires.sizes c.in_ok-words.ensures.count)

pub invariant_of-result : goal.invariant_of-result
invariant_of-result c = let opened = c.in_ok-table.ensures in (
  ap (λ (p : Plan). p.shape) opened.5,
  opened.0 ∙ ap length (c.deref.ensures.value ∙ c.in_ok-words.ensures.words) ∙ words_stand c.args.plan c.requires.sizes,
  c.requires.keys,
  omega arith,
  c.requires.sizes,
  c.requires.few,
)
