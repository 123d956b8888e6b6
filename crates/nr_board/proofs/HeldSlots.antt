-- Slots that are polled in vain: the polls of a list, one for each, and one more at a time.
use Rattle.std.proofs.Common.{◌≡◌, ◌≢◌, ℕ, zero, suc, ◌+◌, List, [], ◌∷◌, ◌++◌, Bool, true, false, length, take, drop}
use Rattle.std.proofs.Common.{get_or, refl, sym, ap, ◌∙◌, arith, append-nil, append_assoc, length-take-le, take-suc}
use Rattle.std.proofs.Common.{◌<◌, ◌≤◌, ⊎_elim, subst, length-append}
use Rattle.std.proofs.lemmas.List.{take-append-drop}
use mathlib.Core.Option.{some}
use lib.ListN.{get_elem?, length-map}
use Rattle.nr_core.specs.States.{no_retired}
use mathlib.Core.List.{map-append}
use Rattle.nr_core.proofs.Choices.{either}
use Rattle.nr_core.specs.declared.places.Retired.{Retired}
use Rattle.nr_core.specs.Marks.{OfSlot, LoggedLoad, Marks, Past, with_poll, with_polls, with_scan}
use Rattle.nr_board.proofs.Keepers.{at_behind, at_end, held_noted, held_within, once_more, starts_itself}
use Rattle.nr_board.proofs.PollNotes.{StandsAt, there_is, is_retired}
use Rattle.nr_board.proofs.OneView.{at_more}
use Rattle.nr_core.proofs.ListPlaces.{at_left, inside, at_last, before as before_at}
use Rattle.nr_board.specs.SlotLists.{held_polls, not_passed}
use Rattle.std.specs.Prelude.{Some}
use Rattle.nr_core.proofs.Different.{few_of}
use Rattle.nr_core.proofs.Sums.{only-is, only-same, some_term, term_le, total-append}
use Rattle.nr_core.specs.declared.shape.Shape.{Shape}
use Rattle.nr_core.specs.MarkSteps.{NotedNowhereElse, ProbeTells}
use Rattle.nr_core.specs.PollNotes.{Missed}
use Rattle.nr_core.specs.Roles.{retirements}
use Rattle.nr_core.specs.Sums.{only, total}
use Rattle.nr_board.proofs.Tokens.{grows_both, grows_from, grows_none}
use Rattle.nr_board.specs.Callers.{Grows, IsSound, token}
use Rattle.nr_board.specs.HeldSlots.{FindsFree, HeldTo, InVain}
use Rattle.nr_board.specs.Plays.{NotesTell}
use Rattle.nr_board.specs.Polls.{HeldThen}
use Rattle.nr_board.specs.Views.{View}
use Rattle.nr_board.specs.WriterSeats.{MapSeat}

abbrev held_poll : Retired → LoggedLoad
held_poll entry = OfSlot entry.slot false

-- one slot more
pub held_next : (retired : List Retired) (entry : Retired)
    → held_polls (retired ++ entry ∷ []) ≡ held_polls retired ++ OfSlot entry.slot false ∷ []
held_next retired entry = map-append held_poll retired (entry ∷ [])

pub held_many : (retired : List Retired) → length (held_polls retired) ≡ length retired
held_many retired = length-map retired held_poll

-- SLOTS THAT ARE NOT PASSED BY

pub passed_both : (passes : ℕ → Bool) (retired more : List Retired)
    → not_passed passes (retired ++ more) ≡ not_passed passes retired ++ not_passed passes more
passed_both passes [] more = refl
passed_both passes (entry ∷ retired) more = grind (arith, passed_both passes retired more)

pub none_passed : (passes : ℕ → Bool) (retired : List Retired) → ((slot : ℕ) → passes slot ≡ false)
    → not_passed passes retired ≡ retired
none_passed passes [] none = refl
none_passed passes (entry ∷ retired) none = grind (arith, none_passed passes retired none, none entry.slot)

-- THOSE BEFORE A PLACE OF THE LIST

module _ (passes : ℕ → Bool) {retired : List Retired} {place : ℕ} {entry : Retired}
    (here : StandsAt retired place entry) where
  up_to_here : not_passed passes (take (place + 1) retired)
      ≡ not_passed passes (take place retired) ++ not_passed passes (entry ∷ [])
  up_to_here =
      let more : place + 1 ≡ suc place = omega arith in
      ap (λ (n : ℕ). not_passed passes (take n retired)) more
      ∙ ap (not_passed passes) (take-suc retired place no_retired (inside retired place entry here.is))
      ∙ passed_both passes (take place retired) (get_or retired place no_retired ∷ [])
      ∙ ap (λ (e : Retired). not_passed passes (take place retired) ++ not_passed passes (e ∷ []))
      (sym (there_is retired place entry here.is))

  pub up_to_passed : passes entry.slot ≡ true
      → not_passed passes (take (place + 1) retired) ≡ not_passed passes (take place retired)
  up_to_passed gone = up_to_here ∙ rw gone (append-nil (not_passed passes (take place retired)))

  pub up_to_polled : passes entry.slot ≡ false
      → not_passed passes (take (place + 1) retired) ≡ not_passed passes (take place retired) ++ entry ∷ []
  up_to_polled stays = up_to_here ∙ rw stays refl

  -- and those behind it
  pub split_here : passes entry.slot ≡ false
      → not_passed passes retired
      ≡ not_passed passes (take place retired) ++ entry ∷ not_passed passes (drop (place + 1) retired)
  split_here stays =
      let behind = not_passed passes (drop (place + 1) retired) in
      ap (not_passed passes) (sym (take-append-drop (place + 1) retired))
      ∙ passed_both passes (take (place + 1) retired) (drop (place + 1) retired)
      ∙ ap (λ (l : List Retired). l ++ behind) (up_to_polled stays)
      ∙ append_assoc (not_passed passes (take place retired)) (entry ∷ []) behind

-- each that isn't passed by is one of them
pub polled_there : (passes : ℕ → Bool) {retired : List Retired} {at : ℕ} {entry : Retired}
    → StandsAt retired at entry → passes entry.slot ≡ false
    → (place : ℕ) × (get_elem? (not_passed passes retired) place ≡ some entry)
polled_there passes {retired = retired} {at = at} {entry = entry} here stays =
    let earlier = not_passed passes (take at retired) in
    let later = not_passed passes (drop (at + 1) retired) in (
      length earlier + 0,
      ap (λ (l : List Retired). get_elem? l (length earlier + 0)) (split_here passes here stays)
          ∙ at_behind earlier (entry ∷ later) 0,
    )

-- each of them stands in the list, and isn't passed by
abbrev StandsIn : (ℕ → Bool) → List Retired → Retired → Type 0
StandsIn passes retired entry = (place : ℕ) × (get_elem? retired place ≡ some entry) × (passes entry.slot ≡ false)

pub polled_at : (passes : ℕ → Bool) (retired : List Retired) (at : ℕ) (entry : Retired)
    → get_elem? (not_passed passes retired) at ≡ some entry → StandsIn passes retired entry
polled_at passes [] at entry there = absurd (cc)
polled_at passes (x ∷ retired) at entry there =
    let behind : (n : ℕ) → get_elem? (not_passed passes retired) n ≡ some entry → StandsIn passes (x ∷ retired) entry
    = λ n is. let r = polled_at passes retired n entry is in (suc r.0, r.1, r.2) in
    either (passes x.slot) (λ gone. behind at (rw gone at there)) (λ stays. first stays behind at (rw stays at there))
  where
    first : passes x.slot ≡ false
        → ((n : ℕ) → get_elem? (not_passed passes retired) n ≡ some entry → StandsIn passes (x ∷ retired) entry)
        → (n : ℕ) → get_elem? (x ∷ not_passed passes retired) n ≡ some entry → StandsIn passes (x ∷ retired) entry
    first stays behind zero is = (zero, is, (cc))
    first stays behind (suc n) is = behind n is

-- none of those before a place is the one there, where the slots of the list are different
pub polled_before : (passes : ℕ → Bool) {retired : List Retired} {place : ℕ} {entry : Retired}
    → StandsAt retired place entry
    → ((one other : ℕ) (a b : Retired) → get_elem? retired one ≡ some a → get_elem? retired other ≡ some b
    → a.slot ≡ b.slot → one ≡ other)
    → (at : ℕ) (other : Retired) → get_elem? (not_passed passes (take place retired)) at ≡ some other
    → other.slot ≢ entry.slot
polled_before passes {retired = retired} {place = place} {entry = entry} here apart at other there same =
    let first = take place retired in
    let (earlier, at_first, _) = polled_at passes first at other there in
    let at_it
    = ap (λ (l : List Retired). get_elem? l earlier) (sym (take-append-drop place retired))
    ∙ at_left first (drop place retired) earlier other at_first in
    absurd
    (omega (
      arith,
      apart earlier place other entry at_it here.is same,
      inside first earlier other at_first,
      length-take-le place retired (let low = inside retired place entry here.is in omega arith),
    ))

-- ONE MORE AT A TIME

-- before the first none is polled
pub held_none : (view : View) → HeldTo [] view view
held_none view = record {
  notes = [];
  each = record {
    held = record { many = refl; slots = λ at entry there. absurd (cc); different = λ reader. omega arith };
    range = λ at note there. absurd (cc);
  };
  elsewhere = λ at note there. absurd (cc);
  marks = λ j. with_scan view.marks (sym (append-nil view.marks.polls) j) (sym (append-nil view.marks.loads) j);
}

module _ {slots : List Retired} {old mid : View} (so_far : HeldTo slots old mid) where
  abbrev notes : List Past
  notes = so_far.notes

  -- no more of them are held than there are readers
  pub held_few : length slots ≤ old.shape.readers
  held_few =
      let each = so_far.each in
      omega (
        arith,
        few_of (λ (note : Past). note.reader) notes old.shape.readers each.held.different each.range,
        each.held.many,
      )

  -- each note is of one of them
  pub held_at : (at : ℕ) (note : Past) → get_elem? notes at ≡ some note
      → (entry : Retired) × (get_elem? slots at ≡ some entry) × (note.slot ≡ Some entry.slot)
  held_at at note there =
      let held = so_far.each.held in
      let (entry, here) = before_at slots at (omega (arith, inside notes at note there, held.many)) in
      let its = held.slots at entry here in (entry, here, (cc))

  polls_are : mid.marks.polls ≡ old.marks.polls ++ notes
  polls_are = ap (λ (m : Marks). m.polls) so_far.marks

  module _ (entry : Retired) where
    loads_with : (free : Bool)
        → (old.marks.loads ++ held_polls slots) ++ OfSlot entry.slot free ∷ []
        ≡ old.marks.loads ++ (held_polls slots ++ OfSlot entry.slot free ∷ [])
    loads_with free = append_assoc old.marks.loads (held_polls slots) (OfSlot entry.slot free ∷ [])

    -- the loads with a poll that finds the slot free
    pub held_free : {now : Marks} → now ≡ with_poll mid.marks entry.slot true
        → now
        ≡ with_scan old.marks (old.marks.polls ++ notes)
        (old.marks.loads ++ (held_polls slots ++ OfSlot entry.slot true ∷ []))
    held_free is =
        is ∙ ap (λ (m : Marks). with_poll m entry.slot true) so_far.marks
        ∙ ap (with_scan old.marks (old.marks.polls ++ notes)) (loads_with true)

    -- a poll that finds the slot held, which is none of them
    module _ (next : View) (shape : Shape) (sized : shape.readers ≡ old.shape.readers)
        (fresh : (at : ℕ) (other : Retired) → get_elem? slots at ≡ some other → other.slot ≢ entry.slot)
        (told : ProbeTells false shape entry.slot mid.marks next.marks) where
      abbrev note : Past
      note = told.0

      -- its reader was noted at none of the others
      another : (at : ℕ) (other : Past) → get_elem? notes at ≡ some other → other.reader ≢ note.reader
      another at other there same =
          let (polled, here, on) = held_at at other there in
          let behind = at_behind old.marks.polls notes at in
          let as_here = told.5 (length old.marks.polls + at) other (rw polls_are (behind ∙ there)) same in
          fresh at polled here (cc)

      pub held_on : HeldTo (slots ++ entry ∷ []) old next
      held_on = let held = so_far.each.held in record {
        notes = notes ++ note ∷ [];
        each = record {
          held = record {
            many = omega (arith, length-append notes (note ∷ []), length-append slots (entry ∷ []), held.many);
            slots = λ at e there. ⊎_elim
                (λ (was : get_elem? slots at ≡ some e).
                let its = held.slots at e was in (its.0, at_left notes (note ∷ []) at its.0 its.1, its.2))
                (λ (new : (at ≡ length slots) × (entry ≡ e)). (
                  note,
                  at_end notes note at (omega (arith, new.0, held.many)),
                  told.2 ∙ ap (λ (x : Retired). Some x.slot) new.1,
                ))
                (at_last slots entry e at there);
            different = once_more notes note held.different another;
          };
          range = at_more {P = λ _ n. (0 < n.reader) × (n.reader ≤ old.shape.readers)} notes note
              (λ _. (told.3, (let high = told.4 in omega arith))) so_far.each.range;
        };
        elsewhere = at_more {P = λ _ n. NotedNowhereElse old.marks.polls n} notes note
            (λ _ n poll is. told.5 n poll (rw polls_are (at_left old.marks.polls notes n poll is))) so_far.elsewhere;
        marks =
            told.1
            ∙ ap (λ (m : Marks). with_polls (with_poll m entry.slot false) (m.polls ++ note ∷ [])) so_far.marks
            ∙ (λ j. with_scan old.marks (append_assoc old.marks.polls notes (note ∷ []) j)
            ((loads_with false ∙ ap (λ l. old.marks.loads ++ l) (sym (held_next slots entry))) j));
      }

-- what a poll tells a search of a counted map where the slot is held, it tells a reap
pub misses_probe : (shape : Shape) (known : List Past) (marks now : Marks) (slot : ℕ)
    → now ≡ with_polls (with_poll marks slot false) now.polls → Missed shape known marks.polls slot now.polls
    → ProbeTells false shape slot marks now
misses_probe shape known marks now slot is missed =
    let note = missed.note in
    let count = λ (p : Past). only note.reader p.reader in
    let once = subst (λ (l : List Past). total count l ≤ 1) missed.more (missed.different note.reader) in (
      note,
      is ∙ ap (with_polls (with_poll marks slot false)) missed.more,
      missed.holds,
      missed.range.0,
      missed.range.1,
      λ at poll there same. absurd
          (omega (
            arith,
            once,
            total-append count marks.polls (note ∷ []),
            term_le count marks.polls at poll there,
            ap (only note.reader) same,
            only-same note.reader,
          )),
    )

-- POLLS OF A SEARCH

pub vain_none : {seat : MapSeat} → IsSound (token seat) → InVain [] seat seat
unfolding held_none
vain_none {seat = seat} knows = record {
  held = held_none seat.me.0;
  holders = λ at slot note there. absurd (cc);
  grows = grows_none knows;
  heard = refl;
}

module _ {slots : List Retired} {before mid next : MapSeat} (so_far : InVain slots before mid) (entry : Retired)
    (grows : Grows 1 [] (token mid) (token next)) (heard : next.me.0.heard ≡ mid.me.0.heard) where
  pub vain_on : (shape : Shape) → shape.readers ≡ before.me.0.shape.readers
      → ((at : ℕ) (other : Retired) → get_elem? slots at ≡ some other → other.slot ≢ entry.slot)
      → NotesTell next.me.0.seen mid.me.0.marks.polls next.me.0.marks.polls
      → ProbeTells false shape entry.slot mid.me.0.marks next.me.0.marks
      → InVain (slots ++ entry ∷ []) before next
  unfolding held_on
  vain_on shape sized fresh tells told =
      let grown = grows_both (length-append slots (entry ∷ [])) so_far.grows grows in record {
        held = held_on so_far.held entry next.me.0 shape sized fresh told;
        holders = λ at slot. at_more {P = λ _ n. n.slot ≡ Some slot → HeldThen before.me.0.seen next.me.0.seen slot n}
            so_far.held.notes told.0
            (λ _. held_noted before.me.0.seen next.me.0.seen mid.me.0.marks.polls next.me.0.marks.polls slot told.0
            (grows_from grown) tells (ap (λ (m : Marks). m.polls) told.1))
            (λ i n was on. held_within starts_itself (grows_from grows) (so_far.holders i slot n was on)) at;
        grows = grown;
        heard = heard ∙ so_far.heard;
      }

  pub vain_free : next.me.0.marks ≡ with_poll mid.me.0.marks entry.slot true
      → FindsFree (held_polls slots ++ OfSlot entry.slot true ∷ []) before next
  vain_free is =
      let loads = held_polls slots ++ OfSlot entry.slot true ∷ [] in
      let marks_are = held_free so_far.held entry is in
      let many : length loads ≡ length slots + 1
      = omega (arith, length-append (held_polls slots) (OfSlot entry.slot true ∷ []), held_many slots) in
      record {
        few = omega (arith, many, held_few so_far.held);
        grows = grows_both many so_far.grows grows;
        marks = (cc);
        heard = heard ∙ so_far.heard;
      }

-- where all that aren't passed by were polled, each note is of one of them, and each of them has one
module _ (passes : ℕ → Bool) (retired : List Retired) {before now : MapSeat}
    (vain : InVain (not_passed passes retired) before now) where
  pub note_kept : (at : ℕ) (note : Past) → get_elem? vain.held.notes at ≡ some note
      → (slot : ℕ) × (0 < retirements slot retired) × HeldThen before.me.0.seen now.me.0.seen slot note
  note_kept at note there = let (entry, here, on) = held_at vain.held at note there in
      let polled = polled_at passes retired at entry here in
      (entry.slot, is_retired retired polled.0 entry polled.1, vain.holders at entry.slot note there on)

  pub slot_kept : (slot : ℕ) → 0 < retirements slot retired → passes slot ≡ false
      → (at : ℕ) × (note : Past) × (get_elem? vain.held.notes at ≡ some note)
      × HeldThen before.me.0.seen now.me.0.seen slot note
  slot_kept slot waits stays =
      let (at, entry, there, term) = some_term (λ (x : Retired). only slot x.slot) retired waits in
      let is = only-is slot entry.slot term in
      let polled = polled_there passes (record { is = there }) (ap passes is ∙ stays) in
      let note = vain.held.each.held.slots polled.0 entry polled.1 in
      (polled.0, note.0, note.1, vain.holders polled.0 slot note.0 note.1 (note.2 ∙ ap Some is))
