-- The exact place of a no-slot, for a caller that has all tokens in one hand and gathers every reader after each call.
use Rattle.std.proofs.Common.{List, [], ap, arith, get_or, subst, sym, ℕ, ⊎_elim, ◌<◌, ◌∙◌, ◌≡◌, ◌≤◌}
use lib.ListN.{get_elem?}
use mathlib.Core.Option.{some}
use Rattle.nr_core.proofs.Sums.{at_snoc}
use Rattle.nr_core.specs.declared.roles.Grip.{Grip}
use Rattle.nr_core.specs.declared.places.Retired.{Retired}
use Rattle.nr_core.specs.declared.shape.Shape.{Shape}
use Rattle.nr_core.specs.Puts.{put_count}
use Rattle.nr_core.specs.Marks.{Marks, Past, past}
use Rattle.nr_core.specs.PollNotes.{Missed, Noted}
use Rattle.nr_core.specs.Pasts.{AllKnown, Compared, Current, Refreshed}
use Rattle.nr_core.specs.Exact.{pins}
use Rattle.nr_core.specs.MarkLaws.{DoneByMarks, NoSlotByMarks}
use Rattle.nr_core.proofs.Tidy.{strays_by_history}
use Rattle.nr_core.proofs.Strays.{Still, all_strays, one_not_stray, strays_most}

-- the polls of a call, from its look on
pub noted_none : (shape : Shape) (known : List Past) → Noted shape known []
noted_none shape known = search arith

pub noted_more : (shape : Shape) (known polls : List Past) (slot : ℕ) (now : List Past) → Noted shape known polls
    → Missed shape known polls slot now → Noted shape known now
noted_more shape known polls slot now noted missed = record {
  newer = λ at place poll old e there same. ⊎_elim
      (λ (z : get_elem? polls at ≡ some poll). noted.newer at place poll old z there same)
      (λ (z : missed.note ≡ poll). subst (λ (b : Past). old.count ≤ b.count) z
      (missed.newer place old there (same ∙ ap (λ (b : Past). b.reader) (sym z))))
      (at_snoc polls missed.note poll at (ap (λ l. get_elem? l at) (sym missed.more) ∙ e));
  range = λ at poll e. ⊎_elim (λ (z : get_elem? polls at ≡ some poll). noted.range at poll z)
      (λ (z : missed.note ≡ poll). subst (λ (b : Past). (0 < b.reader) × (b.reader ≤ shape.readers)) z missed.range)
      (at_snoc polls missed.note poll at (ap (λ l. get_elem? l at) (sym missed.more) ∙ e));
}

-- Where every reader was gathered before the call and again after it, with no act in between, a no-slot comes only
-- where the filled keys and the strays are all slots.
pub no_slot_by_marks_lem : NoSlotByMarks
no_slot_by_marks_lem shape desk marks log known readers all before noted held lists current sum =
    let still : Still marks.polls readers
    = λ i poll e.
    let range = noted.range i poll e in
    let c = all poll.reader range.0 range.1 in
    let b = before c.0 c.1 c.2 in
    (c.0, c.1, c.2, c.3, noted.newer i b.0 poll c.1 e b.1 c.3) in
    let h = strays_by_history desk marks shape log (pins readers) lists in
    omega (arith, all_strays desk.retired marks (put_count log) readers lists.tidy current held still)

-- A fill or an update that is done comes only where they are fewer.
pub done_by_marks_lem : DoneByMarks
done_by_marks_lem shape desk after marks now log readers lists free before current took =
    let sum = lists.slots free in
    let room = lists.room in
    let h = strays_by_history desk marks shape log (pins readers) lists in
    ⊎_elim
    (λ (l : desk.fresh < shape.slots).
    let a = strays_most desk.retired marks (put_count log) readers lists.tidy before in omega arith)
    (λ (t : (at : ℕ) × (entry : Retired) × (get_elem? desk.retired at ≡ some entry)
    × (put_count log ≤ get_or now.puts entry.slot 0)).
    let a
    = one_not_stray desk.retired marks (put_count log) readers lists.tidy before after now t.0 t.1 current t.2
    t.3 in
    omega arith)
    took

-- The writer learnt how the readers are that it was told of, one of them as it was then; then that reader was told what
-- the writer had learnt, and compared: so the writer knows the reader as it is, and compared it with its lists.
pub gathered_is_known : (retired : List Retired) (marks : Marks) (told news heard : List Past) (reader : ℕ)
    (grip : Grip) (mine : Marks) (at : ℕ)
    → get_elem? told at ≡ some (past reader grip mine) → Refreshed retired marks told news → AllKnown heard news
    → Compared reader grip mine heard
    → (get_elem? news at ≡ some (past reader grip mine)) × Current retired marks (past reader grip mine)
gathered_is_known retired marks told news heard reader grip mine at is fresh hears compared =
    let n = fresh.newer at (past reader grip mine) is in
    let p : Past = n.0 in
    let cur = fresh.current at p n.1 in
    let h = hears at p n.1 in
    let e = compared h.0 p h.1 n.2 in
    let le = e.0 in let le' = n.3 in let count : p.count ≡ mine.acts = omega arith in let f = e.1 (sym count) in
    let same : p ≡ past reader grip mine
    = λ i. record { reader = n.2 i; count = count i; slot = sym f.0 i; put = sym f.1 i } in
    (n.1 ∙ ap some same, subst (Current retired marks) same cur)
