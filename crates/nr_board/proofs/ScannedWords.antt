-- What a load of a reader's own word does in a scan: which retired slots have a flag then, and which were heard.
use Rattle.std.proofs.Common.{◌≡◌, ◌≢◌, ℕ, suc, zero, ◌+◌, ◌-◌, ◌<◌, ◌≤◌, ◌⊎◌, ⊎_elim, inl, inr, List, [], ◌∷◌, ◌++◌}
use Rattle.std.proofs.Common.{Bool, true, false, length, get_or, set, nat_eq, eq-eqb, ne_eqb, get_or-set_other}
use Rattle.std.proofs.Common.{get_or-set_same, length-set, refl, sym, ap, ◌∙◌, subst, arith, length-append}
use Rattle.std.proofs.lemmas.Bool.{eqb-true, le-ltb, ltb-true}
use Rattle.std.specs.Prelude.{nat_lt, Some, None, ◌||◌}
use mathlib.Core.Logic.{dite}
use mathlib.Core.Option.{some, some-injective}
use native.Mathlib.Decide.{ℕ_discrete}
use lib.ListN.{get_elem?}
use Rattle.nr_core.proofs.Choices.{by_cases}
use Rattle.nr_core.proofs.Guards.{both}
use Rattle.nr_core.proofs.Sums.{at_snoc, only-is, some_term}
use Rattle.nr_core.specs.Roles.{retirements}
use Rattle.nr_core.specs.Sums.{only, total}
use Rattle.nr_core.specs.declared.places.Retired.{Retired}
use Rattle.nr_core.specs.declared.roles.Desk.{Desk}
use Rattle.nr_core.proofs.ListPlaces.{inside, at_left}
use Rattle.nr_core.specs.Marks.{LoggedLoad, OfWord, Past}
use Rattle.nr_board.proofs.Keepers.{at_end, once_more}
use Rattle.nr_board.proofs.PollNotes.{is_retired}
use Rattle.nr_board.proofs.WordLoads.{heard_of_at, loads_length, unsaid_few, unsaid_more}
use Rattle.nr_board.specs.Flags.{OthersFlagged}
use Rattle.nr_board.specs.Scans.{heard_before}
use Rattle.nr_board.specs.SearchPlays.{NotesKeeper, Scanned, keeps_unheard, scan_base}
use Rattle.nr_board.specs.Views.{View}
use Rattle.nr_board.specs.WordLoads.{loads_of, unsaid, word_load}
use Rattle.nr_board.specs.WholeScans.{FlaggedIn, FlagsTell, KeepBack, KeepsOne, NoneFlagged, SaidBehind, ScannedTo}
use Rattle.nr_board.specs.WholeScans.{announced, is_flagged, misses}

-- FLAGS

flag_there : (flags : List Bool) (slot : ℕ) → slot < length flags → is_flagged (set flags slot true) slot ≡ true
flag_there flags slot low = get_or-set_same flags slot true true low

pub flag_elsewhere : (flags : List Bool) (mine slot : ℕ) → slot ≢ mine
    → is_flagged (set flags mine true) slot ≡ is_flagged flags slot
flag_elsewhere flags mine slot apart = get_or-set_other flags mine slot true true apart

-- a flag that stands is set once more
flag_stays : (flags : List Bool) (mine slot : ℕ) → is_flagged flags slot ≡ true
    → is_flagged (set flags mine true) slot ≡ true
flag_stays [] mine slot is = is
flag_stays (x ∷ flags) zero zero is = refl
flag_stays (x ∷ flags) zero (suc slot) is = is
flag_stays (x ∷ flags) (suc mine) zero is = is
flag_stays (x ∷ flags) (suc mine) (suc slot) is = flag_stays flags mine slot is

-- as many retired slots are flagged as before, where the slot isn't retired or was flagged
misses_same : (retired : List Retired) (flags : List Bool) (mine : ℕ)
    → (retirements mine retired ≡ 0) ⊎ (is_flagged flags mine ≡ true)
    → total (misses (set flags mine true)) retired ≡ total (misses flags) retired
misses_same [] flags mine none = refl
misses_same (entry ∷ retired) flags mine none =
    grind
    (arith, misses_same retired flags mine, flag_stays flags mine entry.slot, flag_elsewhere flags mine entry.slot)

-- one more is, where it was not and is retired once
misses_more : (retired : List Retired) (flags : List Bool) (mine : ℕ) → retirements mine retired ≡ 1
    → mine < length flags → is_flagged flags mine ≡ false
    → total (misses (set flags mine true)) retired ≡ total (misses flags) retired + 1
misses_more [] flags mine once low unset = absurd (omega arith)
misses_more (entry ∷ retired) flags mine once low unset =
    grind (
      arith,
      misses_more retired flags mine,
      misses_same retired flags mine,
      flag_there flags mine low,
      flag_elsewhere flags mine entry.slot,
    )

-- where none is flagged none is missed
pub misses_none : (retired : List Retired) (flags : List Bool)
    → ((at : ℕ) (entry : Retired) → get_elem? retired at ≡ some entry → is_flagged flags entry.slot ≡ false)
    → total (misses flags) retired ≡ 0
misses_none [] flags none = refl
misses_none (entry ∷ retired) flags none =
    grind (arith, misses_none retired flags (λ at e there. none (suc at) e there), none 0 entry refl)

-- ONE WORD

pub more_flags : (found : ℕ) (flags : List Bool) (slot : ℕ) → is_flagged flags slot ≡ true
    → is_flagged (announced found flags) slot ≡ true
more_flags found flags slot is = grind (arith, flag_stays flags (found - 1) slot is)

-- a slot has its flag, or the word says it
flag_now : (found : ℕ) (flags : List Bool) (slot : ℕ) → slot < length flags
    → is_flagged (announced found flags) slot ≡ (is_flagged flags slot || nat_eq found (suc slot))
flag_now found flags slot low = grind (arith, flag_there flags slot low, flag_elsewhere flags (found - 1) slot)

pub flags_more : (retired : List Retired) (flags : List Bool) (words : List ℕ) (found : ℕ)
    → ((slot : ℕ) → 0 < retirements slot retired → slot < length flags) → FlagsTell retired flags words
    → FlagsTell retired (announced found flags) (words ++ found ∷ [])
flags_more retired flags words found inside tell slot waits =
    flag_now found flags slot (inside slot waits) ∙ ap (λ (b : Bool). b || nat_eq found (suc slot)) (tell slot waits)
    ∙ sym (unsaid_more slot found words)

-- a load of a reader's word by a search
module _ (desk : Desk) (before now next : View) (flags : List Bool) (own found : ℕ)
    (once : (slot : ℕ) → retirements slot desk.retired ≤ 1)
    (inside : (slot : ℕ) → 0 < retirements slot desk.retired → slot < now.shape.slots)
    (wide : length flags ≡ now.shape.slots)
    (so_far : ScannedTo desk.retired before now flags own) (told : Scanned desk own found now next) where
  abbrev said_now : List Bool
  said_now = announced found flags

  abbrev notes : List Past
  notes = scan_base own now.marks.polls

  abbrev keep : KeepBack desk.retired flags own before.marks.loads now.marks.loads notes
  keep = so_far.keep

  abbrev Kept : List Past → Type 0
  Kept = KeepBack desk.retired said_now (own + 1) before.marks.loads next.marks.loads

  abbrev words : List ℕ
  words = so_far.loaded.words.words

  -- of a retired slot the readers before this one were heard as far as their words don't say it
  before_is : (slot : ℕ) → 0 < retirements slot desk.retired
      → heard_before own (get_or now.heard slot 0) ≡ unsaid slot words
  before_is slot waits = let each = so_far.loaded.words.each in let few = unsaid_few slot words in
      dite (ℕ_discrete own 0) (λ e. rw (eq-eqb own 0 e) (omega arith))
      (λ ne. let low : slot < before.shape.slots
      = let same = ap (λ (v : View). v.shape.slots) so_far.loaded.rest in omega (arith, inside slot waits) in
      rw (ne_eqb own 0 ne)
      (ap (λ (l : List ℕ). get_or l slot 0) (so_far.loaded.words.tell (omega arith))
      ∙ heard_of_at desk.retired words before.shape.slots slot
      ∙ grind arith))

  -- the loads so far
  many_loads : length now.marks.loads ≡ length before.marks.loads + own
  many_loads =
      ap length so_far.loaded.words.loads_are
      ∙ omega (
        arith,
        length-append before.marks.loads (loads_of 0 words),
        loads_length 0 words,
        so_far.loaded.words.each,
      )

  more_loads : next.marks.loads ≡ now.marks.loads ++ word_load own found ∷ []
  more_loads = ap (λ (v : View). v.marks.loads) told.same

  -- what a word said before it said still
  said_on : (slot : ℕ) (note : Past) → SaidBehind before.marks.loads now.marks.loads slot note
      → SaidBehind before.marks.loads next.marks.loads slot note
  said_on slot note said = (
    said.0,
    ap (λ (l : List LoggedLoad). get_elem? l (length before.marks.loads + said.0)) more_loads
        ∙ at_left now.marks.loads (word_load own found ∷ []) (length before.marks.loads + said.0)
        (OfWord note.reader (suc slot)) said.1,
  )

  flagged_on : (slot : ℕ) → FlaggedIn desk.retired flags slot → FlaggedIn desk.retired said_now slot
  flagged_on slot flagged = (flagged.0, more_flags found flags slot flagged.1)

  -- a flagged slot had its flag before, unless the word says it
  flagged_before : (slot : ℕ) → FlaggedIn desk.retired said_now slot
      → FlaggedIn desk.retired flags slot ⊎ (found ≡ suc slot)
  flagged_before slot flagged =
      let now_is = flag_now found flags slot (omega (arith, inside slot flagged.0)) in let is = flagged.1 in
      dite (ℕ_discrete found (suc slot)) inr (λ ne. inl (flagged.0, grind arith))

  each_on : (at : ℕ) (note : Past) → get_elem? notes at ≡ some note
      → (slot : ℕ) × FlaggedIn desk.retired said_now slot
      × KeepsOne (own + 1) before.marks.loads next.marks.loads slot note
  each_on at note there =
      let (slot, flagged, keeps) = keep.each at note there in (
        slot,
        flagged_on slot flagged,
        record {
          made = keeps.made;
          few = let few = keeps.few in omega arith;
          holds = keeps.holds;
          said = said_on slot note keeps.said;
        },
      )

  abbrev keeps_it : Bool
  keeps_it = keeps_unheard desk own found now.heard

  -- a word that keeps no slot from being heard says none that is retired, or one that has a flag
  kept_by_none : (slot : ℕ) → found ≡ suc slot → keeps_it ≡ false
      → (retirements slot desk.retired ≡ 0) ⊎ (is_flagged flags slot ≡ true)
  kept_by_none slot says lets =
      let tell = so_far.loaded.flags_tell slot in let is = before_is slot in
      let few = unsaid_few slot words in let each = so_far.loaded.words.each in
      let mine : found - 1 ≡ slot = omega arith in grind arith

  kept_same : keeps_it ≡ false → Kept notes
  kept_same lets = record {
    many = keep.many ∙ dite (ℕ_discrete found 0) (λ e. rw (eq-eqb found 0 e) refl)
        (λ ne. rw (ne_eqb found 0 ne)
        (sym (misses_same desk.retired flags (found - 1) (kept_by_none (found - 1) (omega arith) lets))));
    apart = keep.apart;
    each = each_on;
    slots = λ slot flagged.
        let was : is_flagged flags slot ≡ true
        = grind (arith, flagged.0, flagged_before slot flagged, kept_by_none slot, lets) in
        let (at, note, there, said) = keep.slots slot (flagged.0, was) in (at, note, there, said_on slot note said);
  }

  kept_one : keeps_it ≡ true → (note : Past) → note.reader ≡ suc own
      → (note.slot ≡ None) ⊎ (note.slot ≡ Some (found - 1)) → Kept (notes ++ note ∷ [])
  kept_one keeps note reader slot_is =
      let parts = both (nat_lt 0 found) _ keeps in
      let rest = both (nat_lt 0 (retirements (found - 1) desk.retired)) _ parts.1 in
      let loud = ltb-true 0 found parts.0 in
      let waits = ltb-true 0 (retirements (found - 1) desk.retired) rest.0 in
      let all = eqb-true (heard_before own (get_or now.heard (found - 1) 0)) own rest.1 in
      let low : found - 1 < length flags = omega (arith, inside (found - 1) waits) in
      let unset : is_flagged flags (found - 1) ≡ false
      = so_far.loaded.flags_tell (found - 1) waits
      ∙ le-ltb (unsaid (found - 1) words) (length words)
      (let each = so_far.loaded.words.each in omega (arith, before_is (found - 1) waits)) in
      let says : found ≡ suc (found - 1) = omega arith in
      let said : SaidBehind before.marks.loads next.marks.loads (found - 1) note
      = (
        own,
        ap (λ (l : List LoggedLoad). get_elem? l (length before.marks.loads + own)) more_loads
            ∙ at_end now.marks.loads (word_load own found) (length before.marks.loads + own) (sym many_loads)
            ∙ (λ j. some (OfWord (sym reader j) (says j))),
      ) in
      let flagged : is_flagged said_now (found - 1) ≡ true
      = rw (ne_eqb found 0 (λ e. omega arith)) (flag_there flags (found - 1) low) in
      record {
        many = length-append notes (note ∷ []) ∙ ap (λ (n : ℕ). n + 1) keep.many
            ∙ rw (ne_eqb found 0 (λ e. omega arith))
            (sym (misses_more desk.retired flags (found - 1) (let most = once (found - 1) in omega arith) low unset));
        apart = once_more notes note keep.apart
            (λ at old there same. let keeps = (keep.each at old there).2 in
            absurd (let few = keeps.few in omega arith));
        each = λ at other there. ⊎_elim (λ (old : get_elem? notes at ≡ some other). each_on at other old)
            (λ (new : note ≡ other). subst
            (λ (n : Past). (slot : ℕ) × FlaggedIn desk.retired said_now slot
            × KeepsOne (own + 1) before.marks.loads next.marks.loads slot n)
            new (
              found - 1,
              (waits, flagged),
              record { made = omega arith; few = omega arith; holds = slot_is; said = said },
            ))
            (at_snoc notes note other at there);
        slots = λ slot is. ⊎_elim
            (λ (was : FlaggedIn desk.retired flags slot).
            let (at, old, there, said_it) = keep.slots slot was in
            (at, old, at_left notes (note ∷ []) at old there, said_on slot old said_it))
            (λ (e : found ≡ suc slot). (
              length notes,
              note,
              at_end notes note (length notes) refl,
              subst (λ (s : ℕ). SaidBehind before.marks.loads next.marks.loads s note) (omega arith) said,
            ))
            (flagged_before slot is);
      }

  pub keep_so : Kept (scan_base (own + 1) next.marks.polls)
  keep_so = rw (ne_eqb (own + 1) 0 (λ e. omega arith))
      (by_cases (λ b. NotesKeeper b own found notes next.marks.polls → Kept next.marks.polls) keeps_it
      (λ keeps noted. subst Kept (sym noted.1) (kept_one keeps noted.0 noted.2 noted.3))
      (λ lets noted. subst Kept (sym noted) (kept_same lets)) told.keeper)

pub announced_wide : (found : ℕ) (flags : List Bool) → length (announced found flags) ≡ length flags
announced_wide found flags = grind (arith, length-set flags (found - 1) true)

-- THE FLAGS BEFORE THE FIRST WORD

-- the first retired slots have no flag any more
pub record ClearedTo (retired : List Retired) (before flags : List Bool) (place : ℕ) : Type 0 where
  pub wide : length flags ≡ length before
  pub clear : (at : ℕ) (entry : Retired) → at < place → get_elem? retired at ≡ some entry
      → is_flagged flags entry.slot ≡ false
  pub others : OthersFlagged retired before → OthersFlagged retired flags

pub cleared_more : (retired : List Retired) (before flags : List Bool) (place : ℕ) (entry : Retired)
    → ClearedTo retired before flags place → get_elem? retired place ≡ some entry → entry.slot < length before
    → ClearedTo retired before (set flags entry.slot false) (place + 1)
cleared_more retired before flags place entry so_far here low = record {
  wide = length-set flags entry.slot false ∙ so_far.wide;
  clear = λ at other near there. dite (ℕ_discrete other.slot entry.slot)
      (λ e. rw e (get_or-set_same flags entry.slot false true (let wide = so_far.wide in omega arith)))
      (λ ne. get_or-set_other flags entry.slot other.slot false true ne
      ∙ so_far.clear at other (dite (ℕ_discrete at place)
      (λ e. absurd
      (ne
      (ap (λ (r : Retired). r.slot)
      (some-injective other entry (sym there ∙ ap (get_elem? retired) e ∙ here)))))
      (λ other_place. omega arith))
      there);
  others = λ flagged slot none. get_or-set_other flags entry.slot slot false true
      (λ e.
      let waits = is_retired retired place entry here in
      let same = ap (λ (s : ℕ). retirements s retired) e in
      absurd (omega arith))
      ∙ so_far.others flagged slot none;
}

pub none_flagged : (retired : List Retired) (before flags : List Bool) → ClearedTo retired before flags (length retired)
    → NoneFlagged retired flags
none_flagged retired before flags cleared slot waits =
    let t = some_term (λ (x : Retired). only slot x.slot) retired waits in
    rw (sym (only-is slot t.1.slot t.3)) (cleared.clear t.0 t.1 (inside retired t.0 t.1 t.2) t.2)
