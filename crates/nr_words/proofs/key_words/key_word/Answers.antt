use Rattle.std.proofs.Common.{◌≡◌, ◌∙◌, ap}
use Rattle.nr_words.proofs.KeyWordLemmas.{or_of_fields, from_bool_below, parts_of-key_word}
use Rattle.std.specs.Int.{from_bool}
use Rattle.nr_words.specs.KeyWords.{parts_of}
use Rattle.nr_words.proofs.key_words.key_word.Goals as goal

pub returns-clause-word : goal.returns-clause-word
returns-clause-word c =
    let slot : c.from.result ≡ c.args.parts.slot = c.from.ensures in
    let filled : c.from-2.result ≡ from_bool c.args.parts.filled = c.from-2.ensures in
    let ask : c.from-3.result ≡ from_bool c.args.parts.ask = c.from-3.ensures in
    rw (slot, filled, ask)
    (or_of_fields _ _ _ _ (from_bool_below c.args.parts.ask) (from_bool_below c.args.parts.filled) c.requires.slot
    c.requires.arrivals)

pub returns-clause-comes_back : goal.returns-clause-comes_back
returns-clause-comes_back c =
    ap parts_of (returns-clause-word c) ∙ parts_of-key_word c.args.parts c.requires.slot c.requires.arrivals
