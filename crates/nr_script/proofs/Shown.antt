-- What the hands show of the state: their pins, the slots that are in use, and how the state goes on by a call.
use Rattle.std.proofs.Common.{◌≡◌, ℕ, ◌∙◌, List, ◌++◌, Option, None, Some, Ok, IsSome, option_map, is_some, refl, sym}
use Rattle.std.proofs.Common.{ap, subst, ◌<◌, suc, zero, ◌+◌, [], ◌∷◌, true, false, length, map, get_or, arith, eq-eqb}
use Rattle.std.proofs.Common.{ne_eqb, ◌≢◌, cond, ◌==◌, ◌&&◌, set}
use Rattle.std.specs.List.{range_with_len}
use mathlib.Core.Option.{some, some-injective, some-ne-none}
use lib.ListN.{get_elem?}
use Rattle.nr_model.specs.declared.calls.Call.TheVariants as model
use Rattle.nr_model.specs.declared.calls.Reply.TheVariants as reply
use Rattle.nr_model.specs.declared.rows.Row.{Row}
use Rattle.nr_model.specs.Histories.{after, entries_of, Entry, is_done}
use Rattle.nr_model.specs.Maps.{state_of, filled_count, call_key, next, reply_to}
use Rattle.nr_model.specs.Strays.{keyed, strays}
use Rattle.nr_model.specs.declared.calls.Call.{Call}
use Rattle.nr_model.specs.declared.calls.Reply.{Reply}
use Rattle.nr_model.specs.Laws.{LegalGoesOn}
use Rattle.nr_core.specs.Puts.{put_number, put_count, puts_set}
use Rattle.nr_core.specs.Story.{map_after, entry}
use Rattle.nr_core.proofs.ListPlaces.{at_maps, at_unmap, before, inside}
use Rattle.nr_core.specs.Exact.{filled_puts, pinned_put, pins, put_numbers}
use Rattle.nr_core.specs.MarkLaws.{slots_in_use, PutGoesOn}
use Rattle.nr_core.specs.Marks.{Past}
use Rattle.nr_core.specs.Pasts.{AllCurrent, AllKnown, AllReaders, Current}
use Rattle.nr_core.specs.declared.shape.Shape.{Shape}
use Rattle.nr_board.specs.Callers.{Caller, Gains, Rests, map_at_opening, Table}
use Rattle.nr_board.specs.Kinds.{kind_of}
use Rattle.nr_board.specs.Meetings.{HasPut}
use Rattle.nr_map.specs.Hands.{AsksInVain, CopiesHeld, FindsHeld, Handed, held_for, taken_for}
use Rattle.nr_script.specs.Answers as answers
use Rattle.nr_script.specs.MapState.{Pin, is_full, pinned_puts, put_of, MapState, after_call, answer_call}
use Rattle.nr_script.specs.MapState.{put_count_after, puts_after}
use Rattle.nr_script.specs.Hands.{Calls, FindsAgain, KeepsPin, ShowsPin, pin_for, pin_of, HandHoldsItsPin, HoldsItsPin}
use Rattle.nr_script.specs.Hands.{how_of}
use Rattle.nr_script.specs.Alone.{IsAlone, IsKnown, log_of, shown_after}

-- PINS
same_pin : (a b : Handed) → a.key ≡ b.key → a.rows ≡ b.rows → a.reader.marks.put ≡ b.reader.marks.put
    → pin_of a ≡ pin_of b
same_pin a b key rows put =
    λ j. option_map (λ (k : ℕ). let pin : Pin = record { key = k; rows = rows j; put = put j } in pin) (key j)

pin_kept : (steps : ℕ) (old new : Handed) → CopiesHeld steps old new → KeepsPin old new
pin_kept steps old new reads = (same_pin new old reads.key_is reads.rows (λ j. (reads.marks j).put), reads.holds)

has_pin : (hand : Handed) (held : Option ℕ) → IsSome held
    → (pin : Pin) × (pin_for hand held ≡ Some pin) × (pin.rows ≡ hand.rows) × (pin.put ≡ hand.reader.marks.put)
has_pin hand None there = absurd (cc)
has_pin hand (Some key) there =
    (record { key = key; rows = hand.rows; put = hand.reader.marks.put }, refl, refl, refl)

pub shows_pin : (steps : ℕ) (old new : Handed) (rows : List Row) → IsSome old.key → CopiesHeld steps old new
    → rows ≡ old.rows → ShowsPin old new (Ok (answers.Reply (reply.Rows rows)))
shows_pin steps old new rows there reads copied = let held = has_pin old old.key there in (
  held.0,
  held.1,
  ap (λ (l : List Row). answers.Reply (reply.Rows l)) (copied ∙ sym held.2),
  steps,
  reads.rests,
  pin_kept steps old new reads,
)

-- a find, and then steps that read what it found
finds_and_reads : (steps key : ℕ) (old mid new : Caller) (rows : List Row)
    → Gains 1 (model.Find key) old mid (reply.Rows rows) → Rests steps mid new
    → Calls old.seen (model.Find key) old new (reply.Rows rows)
finds_and_reads steps key old mid new rows finds rests = record {
  quiet = refl;
  table = rests.table ∙ finds.table;
  number = rests.number ∙ finds.number;
  before = old.seen ++ finds.between;
  met = record { rest = finds.between; is = refl };
  seen = rests.seen ∙ finds.seen;
  mine = rests.mine ∙ finds.mine;
  own = (λ j. entries_of (rests.seen j) (rests.number j)) ∙ finds.own ∙ sym rests.mine;
}

still_put : (steps key put : ℕ) (mid new : Caller) → Rests steps mid new → HasPut key put mid → HasPut key put new
still_put steps key put mid new rests has = (
  (λ j. kind_of (state_of (after (map_at_opening (rests.table j)) (rests.seen j)) key)) ∙ has.0,
  ap (λ log. put_number log key) rests.seen ∙ has.1,
)

-- a hand is taken for one of another key while it finds that key again
module _ (key pinned : ℕ) (old asked : Handed) (was : old.key ≡ Some pinned) where
  abbrev back : Handed
  back = held_for pinned asked

  own_key : asked.key ≡ taken_for key old.key → back.key ≡ old.key
  own_key is = ap (taken_for pinned) (is ∙ ap (taken_for key) was) ∙ sym was

  pub asks_in_vain : AsksInVain key (held_for key old) asked → FindsAgain key old back (Ok answers.Other)
  asks_in_vain vain = let held = has_pin old old.key (ap is_some was) in (
    held.0,
    held.1,
    vain.grows,
    (λ has. vain.other (subst (λ (put : ℕ). HasPut key put asked.reader) held.3 has)),
    (same_pin back old (own_key vain.key_is) vain.rows (λ j. (vain.marks.marks j).put), vain.holds),
  )

  pub finds_again : (steps : ℕ) (new : Handed) (rows : List Row) → FindsHeld 1 key (held_for key old) asked
      → CopiesHeld steps back new → rows ≡ back.rows → FindsAgain key old new (Ok (answers.Reply (reply.Rows rows)))
  finds_again steps new rows finds reads copied =
      let held = has_pin old old.key (ap is_some was) in
      let same = copied ∙ finds.rows in (
        held.0,
        held.1,
        ap reply.Rows (same ∙ sym held.2),
        subst (λ (l : List Row). Calls old.reader.seen (model.Find key) old.reader new.reader (reply.Rows l)) (sym same)
            (finds_and_reads steps key old.reader asked.reader new.reader old.rows finds.gains reads.rests),
        subst (λ (put : ℕ). HasPut key put new.reader) (sym held.3)
            (still_put steps key old.reader.marks.put asked.reader new.reader reads.rests finds.put),
        (
          same_pin new old (reads.key_is ∙ own_key finds.key_is) (reads.rows ∙ finds.rows)
              (λ j. ((reads.marks ∙ finds.marks.marks) j).put),
          reads.holds ∙ finds.holds,
        ),
      )

-- SLOTS IN USE
some_put : (slot : Option ℕ) (put : ℕ) → IsSome slot → Some put ≡ option_map (λ (s : ℕ). put) slot
some_put None put there = absurd (cc)
some_put (Some s) put there = refl

pin_same : (s : Handed) (key : Option ℕ) → HoldsItsPin (pin_for s key) s.reader.holds
    → put_of (pin_for s key) ≡ pinned_put (how_of s)
pin_same s None fits = ap (λ (o : Option ℕ). option_map (λ (slot : ℕ). s.reader.marks.put) o) (sym fits)
pin_same s (Some key) fits = some_put s.reader.holds s.reader.marks.put fits

pub pins_same : (hands : List Handed)
    → ((at : ℕ) (other : Handed) → at < length hands → HandHoldsItsPin (get_or hands at other))
    → pinned_puts (map pin_of hands) ≡ pins (map how_of hands)
pins_same [] fits = refl
pins_same (s ∷ hands) fits =
    rw (pin_same s s.key (fits 0 s (omega arith)), pins_same hands (λ at other low. fits (suc at) other (omega arith)))

or_is : (l : List Handed) (i : ℕ) (a d : Handed) → get_elem? l i ≡ some a → get_or l i d ≡ a
or_is [] i a d e = absurd (some-ne-none a (sym e))
or_is (x ∷ xs) zero a d e = some-injective x a e
or_is (x ∷ xs) (suc i) a d e = or_is xs i a d e

module _ (table : Table) (w : Caller) (hands : List Handed) (alone : IsAlone table w hands) where
  abbrev pub readers : List Past
  readers = map how_of hands

  pub all_readers : AllReaders table.shape.readers readers
  all_readers zero low high = absurd (omega arith)
  all_readers (suc at) low high =
      let size = alone.stands.count in
      let there = before hands at (omega (arith, size)) in (
        at,
        how_of there.0,
        at_maps how_of hands at there.0 there.1,
        ap (λ (s : Handed). s.reader.number) (sym (or_is hands at there.0 there.0 there.1))
            ∙ (alone.places at there.0 (inside hands at there.0 there.1)).number,
      )

  known_at : (at : ℕ) (one : Past) → get_elem? readers at ≡ some one
      → (s : Handed) × IsKnown (log_of w hands) w s × (how_of s ≡ one)
  known_at at one is =
      let here = at_unmap how_of hands at one is in (
        here.0,
        subst (λ (s : Handed). IsKnown (log_of w hands) w s) (or_is hands at here.0 here.0 here.1)
            (alone.known at here.0 (inside hands at here.0 here.1)),
        here.2,
      )

  pub all_known : AllKnown w.pasts readers
  all_known at one is = let k = known_at at one is in (k.1.place, k.1.known ∙ ap some k.2)

  pub all_current : AllCurrent w.retired w.marks readers
  all_current at one is =
      let k = known_at at one is in
      subst (λ (p : Past). Current w.retired w.marks p) k.2 k.1.current

  -- the state's count of slots in use
  pub in_use_is : (log : List Entry)
      → filled_count (map_after table.shape log)
      + strays (keyed (map_after table.shape log).states (put_numbers table.shape log))
      (pinned_puts (map pin_of hands))
      ≡ slots_in_use table.shape log readers
  in_use_is log =
      ap (λ (l : List ℕ). filled_count (map_after table.shape log) + strays (filled_puts table.shape log) l)
      (pins_same hands (λ at other low. (alone.places at other low).fits))

  pub full : (log : List Entry) → slots_in_use table.shape log readers ≡ table.shape.slots
      → is_full (shown_after table log hands) ≡ true
  full log all = eq-eqb _ _ (in_use_is log ∙ all)

  pub not_full : (log : List Entry) → slots_in_use table.shape log readers < table.shape.slots
      → is_full (shown_after table log hands) ≡ false
  not_full log less = ne_eqb _ _ (λ e. let same = sym (in_use_is log) ∙ e in omega arith)

-- A CALL
-- a number in a range is changed at its place
range_past : (g : ℕ → ℕ) (v key a n : ℕ) → key < a
    → map (λ k. cond (key == k) v (g k)) (range_with_len a n) ≡ map g (range_with_len a n)
range_past g v key a zero low = refl
range_past g v key a (suc n) low =
    let apart : key ≢ a = omega arith in
    rw (ne_eqb key a apart, range_past g v key (a + 1) n (omega arith))

range_set : (g : ℕ → ℕ) (v key a n i : ℕ) → key ≡ a + i
    → map (λ k. cond (key == k) v (g k)) (range_with_len a n) ≡ set (map g (range_with_len a n)) i v
range_set g v key a zero i is = refl
range_set g v key a (suc n) zero is =
    let same : key ≡ a = omega arith in
    rw (eq-eqb key a same, range_past g v key (a + 1) n (omega arith))
range_set g v key a (suc n) (suc i) is =
    let apart : key ≢ a = omega arith in
    rw (ne_eqb key a apart, range_set g v key (a + 1) n i (omega arith))

pub quiet_count : PutGoesOn → (log : List Entry) (e : Entry) → is_done e.reply ≡ false
    → put_count (log ++ e ∷ []) ≡ put_count log
quiet_count law log e quiet =
    let none : puts_set e ≡ 0 = ap (λ b. cond {A = ℕ} b 1 0) quiet in
    omega (arith, (law log e 0).0)

pub quiet_number : PutGoesOn → (log : List Entry) (e : Entry) (key : ℕ) → is_done e.reply ≡ false
    → put_number (log ++ e ∷ []) key ≡ put_number log key
quiet_number law log e key quiet =
    (law log e key).1 ∙ ap (λ b. cond (b && (call_key e.call == key)) (put_count log) (put_number log key)) quiet

puts_done : PutGoesOn → (shape : Shape) (log : List Entry) (n : ℕ) (call : Call)
    → put_numbers shape (log ++ entry n call reply.Done ∷ [])
    ≡ set (put_numbers shape log) (call_key call) (put_count log)
puts_done law shape log n call =
    ap (λ (f : ℕ → ℕ). map f (range_with_len 0 shape.keys)) (λ j key. (law log (entry n call reply.Done) key).1 j)
    ∙ range_set (put_number log) (put_count log) (call_key call) 0 shape.keys (call_key call) (omega arith)

pub puts_quiet : PutGoesOn → (shape : Shape) (log : List Entry) (e : Entry) → is_done e.reply ≡ false
    → put_numbers shape (log ++ e ∷ []) ≡ put_numbers shape log
puts_quiet law shape log e quiet =
    ap (λ (f : ℕ → ℕ). map f (range_with_len 0 shape.keys)) (λ j key. quiet_number law log e key quiet j)

module _ (puts : PutGoesOn) (table : Table) (log : List Entry) (n : ℕ) (call : Call) (hands : List Handed) where
  abbrev state : MapState
  state = shown_after table log hands

  puts_are : (r : Reply) → put_numbers table.shape (log ++ entry n call r ∷ []) ≡ puts_after r (call_key call) state
  puts_are reply.Done = puts_done puts table.shape log n call
  puts_are r = puts_quiet puts table.shape log (entry n call r) refl

  count_is : (r : Reply) → put_count (log ++ entry n call r ∷ []) ≡ put_count_after r state
  count_is reply.Done = (puts log (entry n call reply.Done) 0).0
  count_is r = quiet_count puts log (entry n call r) refl

  -- the map's reply to the call
  abbrev pub reply_here : Reply
  reply_here = reply_to (map_after table.shape log) call

  pub goes_on : LegalGoesOn → shown_after table (log ++ entry n call reply_here ∷ []) hands ≡ after_call state call
  goes_on law =
      let maps : map_after table.shape (log ++ entry n call reply_here ∷ []) ≡ next (map_after table.shape log) call
      = (law (map_at_opening table) log (entry n call reply_here)).0 in
      λ j. record state { map = maps j; puts = puts_are reply_here j; put_count = count_is reply_here j }

-- the call's answer is the map's reply, where no slot is needed or one is left
pub answered : (state : MapState) (call : Call) → (is_done (reply_to state.map call) && is_full state) ≡ false
    → answer_call state call ≡ (Ok (answers.Reply (reply_to state.map call)), after_call state call)
answered state call none = rw none

pub lacking : (state : MapState) (call : Call) → (is_done (reply_to state.map call) && is_full state) ≡ true
    → answer_call state call ≡ (Ok answers.NoSlot, state)
lacking state call none = rw none
