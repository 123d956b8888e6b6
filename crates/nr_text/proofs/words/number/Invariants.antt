use Rattle.std.proofs.Common.{◌≡◌, ◌<◌, ◌^◌, drop}
use Rattle.nr_text.specs.Grammar.{number_on}
use Rattle.nr_text.proofs.words.number.Given as goal

abbrev pub invariant-loop-digit : goal.invariant-loop-digit
invariant-loop-digit l = (number_on l.n (drop l.digit-index l.word) ≡ number_on 0 l.word) × (l.n < 10 ^ l.digit-index)
