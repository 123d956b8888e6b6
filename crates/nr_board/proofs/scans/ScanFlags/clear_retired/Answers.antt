use Rattle.std.proofs.Common.{ap, arith, get_or, length, subst, ℕ, ◌<◌, ◌≡◌}
use Rattle.nr_core.specs.States.{no_retired}
use Rattle.nr_core.specs.declared.places.Retired.{Retired}
use Rattle.nr_board.proofs.PollNotes.{at_get}
use Rattle.nr_board.proofs.ScannedWords.{ClearedTo, cleared_more, none_flagged}
use Rattle.nr_board.proofs.scans.ScanFlags.clear_retired.Goals as goal

pub clear-requires : goal.clear-requires
clear-requires c = let retired = c.args.lists.now.retired in let place : ℕ = c.loop-place.place in
    let low : place < length retired = omega (arith, c.loop-place-test.true, c.retired_len-place-end.ensures) in
    let near = c.requires place (get_or retired place no_retired) (at_get retired place low) in
    let wide = c.loop-place.invariant.wide in omega (arith, near, ap (λ (e : Retired). e.slot) c.retired_at.ensures)

pub loop-place-preserved : goal.loop-place-preserved
loop-place-preserved c =
    let retired = c.args.lists.now.retired in
    let before = c.args.self.now in
    let flags = c.loop-place.self in
    let place : ℕ = c.loop-place.place in
    let low : place < length retired = omega (arith, c.loop-place-test.true, c.retired_len-place-end.ensures) in
    let here = at_get retired place low in
    rw c.clear.ensures (rw c.retired_at.ensures
    (cleared_more retired before flags place (get_or retired place no_retired) c.loop-place.invariant here
    (c.requires place (get_or retired place no_retired) here)))

pub returns-clause-none : goal.returns-clause-none
returns-clause-none c = let retired = c.args.lists.now.retired in
    let all : c.loop-place.place ≡ length retired
    = omega (arith, c.loop-place-test.false, c.loop-place.auto.place-end, c.retired_len-place-end.ensures) in
    none_flagged retired c.args.self.now c.loop-place.self
    (subst (ClearedTo retired c.args.self.now c.loop-place.self) all c.loop-place.invariant)
