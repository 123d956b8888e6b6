use Rattle.std.proofs.Common.{ap, arith, inl, length, subst, sym, ℕ, ◌∙◌, ◌≡◌, ◌∷◌}
use Rattle.std.specs.Prelude.{remove}
use lib.ListN.{get_elem?}
use Rattle.nr_core.specs.SlotLists.{SlotLists, all_taken}
use Rattle.nr_core.specs.declared.calls.NoSlot.{NoSlot}
use Rattle.nr_core.specs.declared.places.Retired.{Retired}
use Rattle.nr_board.proofs.PollNotes.{StandsAt, stands_at}
use Rattle.nr_board.proofs.Searching.{lacks_slot, searched_more, searched_none, takes_at}
use Rattle.nr_board.specs.WriterSeats.{LacksSlot}
use Rattle.nr_board.proofs.board.Board.poll_retired.Goals as goal

-- a list with its oldest one has it at place 0
module _ {lists rest : SlotLists} {oldest : Retired}
    (is : lists ≡ record rest { retired = oldest ∷ rest.retired }) where
  stands_first : StandsAt lists.retired 0 oldest
  stands_first = record { is = ap (λ (s : SlotLists). get_elem? s.retired 0) is }

  rest_is : record lists { retired = remove lists.retired 0 } ≡ rest
  rest_is = ap (λ (s : SlotLists). record s { retired = remove s.retired 0 }) is

pub returns-then-same_count : goal.returns-then-same_count
returns-then-same_count g c =
    rw (sym (rest_is c.in-Some.ensures))
    (takes_at (searched_none c.requires.settles c.requires.none_fresh) (stands_first c.in-Some.ensures)
    c.poll-first.ensures c.requires.counted c.requires.none_fresh
    (sym c.same_count.ensures ∙ c.if-same_count.true))

pub loop-place-init : goal.loop-place-init
loop-place-init g c = (
  c.put_back.ensures ∙ sym c.in-Some.ensures,
  searched_more (searched_none c.requires.settles c.requires.none_fresh) (stands_first c.in-Some.ensures)
      c.poll-first.ensures (sym c.same_count.ensures ∙ c.if-same_count.false),
)

pub returns-then-same_count-2 : goal.returns-then-same_count-2
returns-then-same_count-2 g c =
    let place : ℕ = c.loop-place.place in
    let so_far = c.loop-place.invariant in
    let here
    = stands_at so_far.0 c.retired_at-entry.ensures c.loop-place-test.true
    (c.retired_len-place-end.ensures
    ∙ ap (λ (s : SlotLists). length s.retired) (c.put_back.ensures ∙ sym c.in-Some.ensures)) in
    rw (c.take_retired.ensures ∙ ap (λ (s : SlotLists). record s { retired = remove s.retired place }) so_far.0)
    (takes_at so_far.1 here c.poll-departures.ensures c.requires.counted c.requires.none_fresh
    (sym c.same_count-in-loop-place.ensures ∙ c.if-same_count-2.true))

pub loop-place-preserved : goal.loop-place-preserved
loop-place-preserved g c =
    let so_far = c.loop-place.invariant in
    let here
    = stands_at so_far.0 c.retired_at-entry.ensures c.loop-place-test.true
    (c.retired_len-place-end.ensures
    ∙ ap (λ (s : SlotLists). length s.retired) (c.put_back.ensures ∙ sym c.in-Some.ensures)) in (
      so_far.0,
      searched_more so_far.1 here c.poll-departures.ensures
          (sym c.same_count-in-loop-place.ensures ∙ c.if-same_count-2.false),
    )

-- there is none where all were polled
pub returns-in_default : goal.returns-in_default
returns-in_default g c =
    let map = c.args.self.now in
    let call = g.G.BegunCall.call in
    let lists = c.args.lists.now in
    let seat = c.args.seat.now in
    subst (λ (p : NoSlot × SlotLists). LacksSlot map call seat lists seat p.1 p.0)
    (λ j. (sym (c.counts.ensures ∙ ap all_taken c.in_default.ensures.1) j, sym c.in_default.ensures.1 j))
    (lacks_slot (searched_none c.requires.settles c.requires.none_fresh) (inl c.requires.counted)
    (sym (ap length c.in_default.ensures.0)))

pub returns : goal.returns
returns g c =
    let map = c.args.self.now in
    let call = g.G.BegunCall.call in
    let lists = c.args.lists.now in
    let place : ℕ = c.loop-place.place in
    let so_far = c.loop-place.invariant in
    let all : place ≡ length lists.retired
    = omega (
      arith,
      ap (λ (s : SlotLists). length s.retired) c.in-Some.ensures,
      c.loop-place-test.false,
      c.loop-place.auto.place-end,
      c.retired_len-place-end.ensures,
      ap (λ (s : SlotLists). length s.retired) (c.put_back.ensures ∙ sym c.in-Some.ensures),
    ) in
    subst (λ (p : NoSlot × SlotLists). LacksSlot map call c.args.seat.now lists c.loop-place.seat p.1 p.0)
    (λ j. (sym (c.counts-2.ensures ∙ ap all_taken so_far.0) j, sym so_far.0 j))
    (lacks_slot so_far.1 (inl c.requires.counted) all)
