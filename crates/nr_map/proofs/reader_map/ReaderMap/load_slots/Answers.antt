use Rattle.std.proofs.Common.{◌≡◌, ◌-◌, ◌<◌, ◌∙◌, ℕ, List, arith, get_or, length}
use Rattle.std.proofs.lemmas.List.{length-set, take_more, take_more_set}
use Rattle.nr_map.specs.LoadsAhead.{begin_of, more_of}
use Rattle.nr_map.proofs.Loading.{sets_more}
use Rattle.nr_map.proofs.reader_map.ReaderMap.load_slots.Goals as goal

pub loop-place-preserved : goal.loop-place-preserved
loop-place-preserved c =
    let had = c.loop-place.invariant in
    let place = c.loop-place.place in
    let sizes = c.args.sizes in
    let words : List ℕ = c.args.words.now in
    let counts : List ℕ = c.loop-place.counts in
    let word = get_or words place 0 in
    let count = c.load_slot.result in
    let low : place < length words = c.loop-place-test.true in
    let far : place < length counts = omega (arith, low, c.requires.few, had.room) in
    let span = c.span_named-span.result in
    let first = c.span_named-span.ensures.first in
    let last = c.span_named-span.ensures.last in
    let more : span.last - begin_of sizes word ≡ more_of sizes word = omega (arith, last) in
    record {
      loads =
          rw (take_more words place 0 low, take_more_set counts place count far)
          (sets_more sizes word count had.loads (rw (first, more) at c.load_slot.ensures.loads));
      stays = (c.load_slot.ensures.stays.0 ∙ had.stays.0, c.load_slot.ensures.stays.1 ∙ had.stays.1);
      room = length-set counts place count ∙ had.room;
    }
