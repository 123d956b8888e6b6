-- Where a call finds no slot: each that it finds kept back is kept back by another reader, so it polls few, and a map
-- with a slot more than keys and readers has one to give; and the exact place.
use Rattle.std.proofs.Common.{◌≡◌, ℕ, ◌+◌, ◌≤◌, List, [], ◌∷◌, ◌++◌, get_or, inl, inr, ⊎_elim, length, refl, ap, ◌∙◌}
use Rattle.std.proofs.Common.{arith}
use Rattle.std.proofs.lemmas.List.Sums.{count_by-le-length}
use Rattle.nr_model.specs.Histories.{Entry}
use Rattle.nr_model.specs.Maps.{filled_count, is_filled_key}
use Rattle.nr_core.proofs.ExactPlace.{done_by_marks_lem, no_slot_by_marks_lem}
use Rattle.nr_core.specs.Exact.{TookFromLists}
use Rattle.nr_core.proofs.Histories.{length-now}
use Rattle.nr_core.proofs.PutNumbers.{count_grows, count_more}
use Rattle.nr_core.specs.declared.shape.Shape.{Shape}
use Rattle.nr_core.specs.Puts.{put_count}
use Rattle.nr_core.specs.SlotLists.{SlotLists}
use Rattle.nr_core.specs.Story.{entry, map_after}
use Rattle.nr_model.specs.declared.calls.Call.{Call}
use Rattle.nr_model.specs.declared.calls.Reply.TheVariants as reply
use Rattle.nr_model.specs.declared.rows.Row.{Row}
use Rattle.nr_board.specs.WriterAnswers.{Publishes}
use Rattle.nr_board.specs.Callers.{Caller, Table}
use Rattle.nr_map.specs.ExactPlaces.{DoneMeansFewerInUse, NoSlotMeansAllInUse}
use Rattle.nr_map.specs.SlotBounds.{NoSlotIsRare}
use Rattle.nr_board.specs.Meetings.{desk_seen}

-- no more keys are filled than there are
pub few_filled : (shape : Shape) (log : List Entry) → filled_count (map_after shape log) ≤ shape.keys
few_filled shape log =
    let keys = length-now shape log in
    let filled = count_by-le-length is_filled_key (map_after shape log).states in
    omega arith

pub no_slot_is_rare_lem : NoSlotIsRare
no_slot_is_rare_lem steps call counts old new without =
    let lacks = without.lacks in
    let table = without.grows.table in
    let few = lacks.few in
    let many = lacks.many in
    let held = lacks.held in
    let all = lacks.all in
    let live = lacks.live in
    let filled = few_filled new.table.shape new.seen in
    let retired = ap (λ (s : SlotLists). length s.retired) without.slots in
    let keys = ap (λ (t : Table). t.shape.keys) table in
    let slots = ap (λ (t : Table). t.shape.slots) table in
    let readers = ap (λ (t : Table). t.shape.readers) table in
    (omega arith, omega arith, λ enough. absurd (omega arith))

pub no_slot_lem : NoSlotMeansAllInUse
no_slot_lem steps call counts old new after readers all known counted without learnt gathered =
    let lists = gathered.lists in
    let table : after.table ≡ old.table = learnt.table ∙ without.grows.table in
    let full : after.table.shape.slots ≤ after.fresh = rw (learnt.table, learnt.fresh) without.lacks.full in
    let taken_all : filled_count (map_after after.table.shape after.seen) + length after.retired ≡ after.fresh
    = lists.slots (λ slot. refl) in
    no_slot_by_marks_lem after.table.shape (desk_seen after) after.marks after.seen old.pasts readers
    (rw table all) known (rw (table, learnt.marks) (without.noted counted))
    (rw (learnt.retired, learnt.marks)
    (without.lacks.polled (ap (λ (t : Table). t.announcers) without.grows.table ∙ counted)))
    lists gathered.current (let room = lists.room in omega arith)

-- the number of the set that a call put is none of those before the call
takes_so : (steps : ℕ) (old : Caller) (call : Call) (rows : List Row) (new : Caller) → Publishes steps call rows old new
    → TookFromLists old.table.shape (desk_seen old) new.marks old.seen
takes_so steps old call rows new published = ⊎_elim (λ fresh. inl fresh.0)
    (λ again. let grows = published.gains in
    let all : put_count new.seen ≡ put_count ((old.seen ++ grows.between) ++ entry old.number call reply.Done ∷ [])
    = ap put_count grows.seen in
    let there : get_or new.marks.puts again.2.slot 0 ≡ published.number = rw again.4 published.put in
    inr (
      again.1,
      again.2,
      again.3,
      omega (
        arith,
        count_more (old.seen ++ grows.between) (entry old.number call reply.Done),
        count_grows old.seen grows.between,
        published.count,
      ),
    ))
    published.took

pub done_lem : DoneMeansFewerInUse
done_lem steps call rows old new after readers gathered published learnt current =
    done_by_marks_lem old.table.shape (desk_seen old) after.retired old.marks after.marks old.seen readers
    gathered.lists (λ slot. refl) gathered.current current
    (rw learnt.marks (takes_so steps old call rows new published))
