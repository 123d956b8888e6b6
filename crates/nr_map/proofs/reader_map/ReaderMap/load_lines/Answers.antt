use Rattle.std.proofs.Common.{◌≡◌, ◌-◌, ◌<◌, ◌∙◌, ℕ, List, arith, get_or, length, sym, take}
use Rattle.std.proofs.lemmas.List.{length-take-le, take_more}
use Rattle.nr_map.specs.LoadsAhead.{begin_of, more_of}
use Rattle.nr_map.proofs.Loading.{lines_more}
use Rattle.nr_map.proofs.reader_map.ReaderMap.load_lines.Goals as goal

pub loop-place-preserved : goal.loop-place-preserved
loop-place-preserved c =
    let had = c.loop-place.invariant in
    let place = c.loop-place.place in
    let sizes = c.args.sizes in
    let words : List ℕ = c.args.words.now in
    let counts : List ℕ = c.args.counts.now in
    let word = get_or words place 0 in
    let count = get_or counts place 0 in
    let low : place < length words = c.loop-place-test.true in
    let far : place < length counts = omega (arith, low, c.requires.few) in
    let span = c.span_named-span.result in
    let first = c.span_named-span.ensures.first in
    let last = c.span_named-span.ensures.last in
    let more : span.last - begin_of sizes word ≡ more_of sizes word = omega (arith, last) in
    record {
      loads =
          rw (take_more words place 0 low, take_more counts place 0 far)
          (lines_more sizes (take place words) (take place counts) word count
          (length-take-le place words (omega (arith, low)) ∙ sym (length-take-le place counts (omega (arith, far))))
          had.loads (rw (first, more) at c.load_rest.ensures.loads));
      stays = (c.load_rest.ensures.stays.0 ∙ had.stays.0, c.load_rest.ensures.stays.1 ∙ had.stays.1);
    }
