use Rattle.std.proofs.Common.{ap, arith, length, refl, subst, sym, ℕ, ◌∙◌, ◌≡◌}
use Rattle.std.specs.Prelude.{remove}
use Rattle.nr_core.specs.SlotLists.{SlotLists}
use Rattle.nr_board.proofs.Passes.{entry_inside, pass_takes, passed_by, passed_more, passed_none, tries_at}
use Rattle.nr_board.proofs.Flagging.{flag_is}
use Rattle.nr_board.proofs.PollNotes.{stands_at}
use Rattle.nr_board.specs.Passes.{PassedTo}
use Rattle.nr_board.proofs.board.Board.pass.Goals.{then-not-is_flagged+else-same_count, else-not-is_flagged}
use Rattle.nr_board.proofs.board.Board.pass.Goals as goal

pub loop-place-init : goal.loop-place-init
loop-place-init c = (refl, passed_none c.requires.search c.requires.knows)

pub is_flagged-requires : goal.is_flagged-requires
is_flagged-requires c =
    let so_far = c.loop-place.invariant in
    let here
    = stands_at so_far.0 c.retired_at-entry.ensures c.loop-place-test.true c.retired_len-place-end.ensures in
    omega (arith, entry_inside so_far.1 here, c.requires.flagged.wide)

pub try_slot-departures-requires : goal.try_slot-departures-requires
try_slot-departures-requires c =
    let so_far = c.loop-place.invariant in
    let here
    = stands_at so_far.0 c.retired_at-entry.ensures c.loop-place-test.true c.retired_len-place-end.ensures in
    let flag = flag_is c.args.self.now _ _ c.args.flags.now c.requires.flagged _ in
    tries_at so_far.1 here (sym flag ∙ sym c.is_flagged.ensures ∙ c.if-not-is_flagged.true)

pub returns-then-same_count : goal.returns-then-same_count
returns-then-same_count c =
    let place : ℕ = c.loop-place.place in
    let so_far = c.loop-place.invariant in
    let here
    = stands_at so_far.0 c.retired_at-entry.ensures c.loop-place-test.true c.retired_len-place-end.ensures in
    let tried = c.try_slot-departures in
    let flag = flag_is c.args.self.now _ _ c.args.flags.now c.requires.flagged _ in
    pass_takes so_far.1 here (sym flag ∙ sym c.is_flagged.ensures ∙ c.if-not-is_flagged.true) tried.result
    tried.new.seat tried.ensures.own tried.ensures.tries (sym c.same_count.ensures ∙ c.if-same_count.true) refl refl
    (c.take_retired.ensures ∙ ap (λ (s : SlotLists). record s { retired = remove s.retired place }) so_far.0)

pub loop-place-preserved : goal.loop-place-preserved
loop-place-preserved c =
    let so_far = c.loop-place.invariant in
    let flag = flag_is c.args.self.now _ _ c.args.flags.now c.requires.flagged _ in
    let here
    = stands_at so_far.0 c.retired_at-entry.ensures c.loop-place-test.true c.retired_len-place-end.ensures in (
      so_far.0,
      elim c.if-not-is_flagged.branch [
        | then-not-is_flagged+else-same_count w ↦ let tried = w.try_slot-departures in
            rw w.seat-is (passed_more so_far.1 here (sym flag ∙ sym c.is_flagged.ensures ∙ w.if-not-is_flagged.true)
            tried.result tried.new.seat tried.ensures.own tried.ensures.tries
            (sym w.same_count.ensures ∙ w.if-same_count.false))
        | else-not-is_flagged w ↦
            rw w.seat-is (passed_by so_far.1 here (sym flag ∙ sym c.is_flagged.ensures ∙ w.if-not-is_flagged.false))
      ],
    )

pub returns : goal.returns
returns c = let lists = c.args.lists.now in let so_far = c.loop-place.invariant in
    let all : c.loop-place.place ≡ length lists.retired
    = omega (arith, c.loop-place-test.false, c.loop-place.auto.place-end, c.retired_len-place-end.ensures) in
    (so_far.0, subst (PassedTo c.args.self.now lists c.args.seat.now c.loop-place.seat) all so_far.1)
