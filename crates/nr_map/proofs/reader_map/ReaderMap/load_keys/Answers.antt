use Rattle.std.proofs.Common.{◌≡◌, ◌<◌, ◌∙◌, ℕ, List, arith, get_or, length, refl, take}
use Rattle.std.proofs.lemmas.List.{length-set, take_all, take_more, take_more_set}
use Rattle.nr_board.specs.Callers.{token}
use Rattle.nr_map.proofs.Loading.{keys_more, keys_none}
use Rattle.nr_map.proofs.reader_map.ReaderMap.load_keys.Goals as goal

pub loop-place-init : goal.loop-place-init
loop-place-init c =
    record { loads = keys_none (token c.args.seat.now); stays = (refl, refl); room = omega arith }

pub loop-place-preserved : goal.loop-place-preserved
loop-place-preserved c =
    let had = c.loop-place.invariant in
    let place = c.loop-place.place in
    let keys : List ℕ = c.args.keys.now in
    let words : List ℕ = c.loop-place.words in
    let word = c.load_key.result in
    let low : place < length keys = c.loop-place-test.true in
    let far : place < length words = omega (arith, low, c.requires.few, had.room) in
    record {
      loads =
          rw (take_more keys place 0 low, take_more_set words place word far)
          (keys_more (get_or keys place 0) word had.loads c.load_key.ensures.step);
      stays = (c.load_key.ensures.role ∙ had.stays.0, c.load_key.ensures.says ∙ had.stays.1);
      room = length-set words place word ∙ had.room;
    }

pub returns-clause-loads : goal.returns-clause-loads
returns-clause-loads c =
    let place = c.loop-place.place in
    let keys : List ℕ = c.args.keys.now in
    let all : place ≡ length keys = omega (arith, c.loop-place-test.false, c.loop-place.auto.place-end) in
    let whole : take place keys ≡ keys = take_all place keys (omega (arith, all)) in
    rw (whole, all) at c.loop-place.invariant.loads
