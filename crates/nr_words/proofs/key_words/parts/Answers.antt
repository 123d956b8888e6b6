use Rattle.std.proofs.Common.{◌∙◌, ap}
use Rattle.nr_words.specs.KeyWords.{key_word}
use Rattle.nr_words.proofs.KeyWordLemmas.{parts_by_masks, key_word-parts_of}
use Rattle.nr_words.proofs.key_words.parts.Goals as goal

pub returns-clause-parts : goal.returns-clause-parts
returns-clause-parts c = parts_by_masks c.args.word

pub returns-clause-comes_back : goal.returns-clause-comes_back
returns-clause-comes_back c = ap key_word (parts_by_masks c.args.word) ∙ key_word-parts_of c.args.word
