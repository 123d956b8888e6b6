use Rattle.std.proofs.Common.{◌≡◌, ◌∙◌, ◌+◌, ◌*◌, ◌<◌, ◌∷◌, ◌++◌, List, length, take, drop, set, ap, arith, take_all}
use Rattle.std.proofs.lemmas.List.{length-set}
use Rattle.nr_model.specs.declared.rows.Row.{Row}
use Rattle.nr_model.specs.Padded.{padded}
use Rattle.nr_words.specs.SetWords.{row_words, encode, decode}
use Rattle.nr_words.proofs.SetWordLemmas.{length-row_words, decode-encode}
use Rattle.nr_words.proofs.WrittenWords.{first_written, written_more, tail_written}
use Rattle.nr_words.proofs.set_words.encode.Goals as goal

pub loop-place-init : goal.loop-place-init
loop-place-init c = first_written c.args.words.now (length c.as_slice-rows.result.now) (omega arith)

pub loop-place-preserved : goal.loop-place-preserved
loop-place-preserved c =
    let rows = c.as_slice-rows.result.now in
    let same : length rows ≡ length c.args.set.now = ap length c.as_slice-rows.ensures.value in
    let fits : 2 * c.loop-place.place + 2 < length (set c.args.words.now 0 (length rows))
    = omega (arith, length-set c.args.words.now 0 (length rows)) in
    written_more c.loop-place.words (set c.args.words.now 0 (length rows)) rows c.loop-place.place
    c.loop-place-test.true fits c.loop-place.invariant

pub returns-clause-new : goal.returns-clause-new
returns-clause-new c =
    let rows = c.as_slice-rows.result.now in
    let rest = drop (2 * c.loop-place.place + 1) (set c.args.words.now 0 (length rows)) in
    let all : take c.loop-place.place rows ≡ rows = take_all c.loop-place.place rows (omega arith) in
    let long : length (encode rows) ≡ 2 * length rows + 1 = omega (arith, length-row_words rows) in
    let wide : length c.loop-place.words ≡ length c.args.words.now
    = omega (arith, c.loop-place.auto.words, length-set c.args.words.now 0 (length rows)) in
    let written = c.loop-place.invariant ∙ ap (λ (some : List Row). (length rows ∷ row_words some) ++ rest) all in
    let whole
    = tail_written c.loop-place.words (encode rows) rest c.fill.new.self (2 * length rows + 1) written long
    (c.fill.ensures.after (λ word same. same)) in
    whole ∙ (λ i. padded (wide i) 0 (encode (c.as_slice-rows.ensures.value i)))

pub returns-clause-comes_back : goal.returns-clause-comes_back
returns-clause-comes_back c =
    ap decode (returns-clause-new c) ∙ decode-encode c.args.set.now _ c.as_slice-rows.ensures.row_set.0
