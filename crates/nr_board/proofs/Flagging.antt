-- The writer's flags go along with what it hears: with a scan, with a set that it puts, and with a slot that it
-- retires.
use Rattle.std.proofs.Common.{◌≡◌, ◌≢◌, ℕ, suc, zero, ◌<◌, ⊎_elim, List, [], ◌∷◌, ◌++◌, Bool, true, false, set, get_or}
use Rattle.std.proofs.Common.{get_or-set_other, length-set, refl, sym, ap, ◌∙◌, arith}
use Rattle.std.proofs.lemmas.Bool.{false≢true}
use Rattle.std.specs.Prelude.{nat_lt}
use mathlib.Core.Logic.{dite}
use native.Mathlib.Decide.{ℕ_discrete}
use Rattle.nr_core.proofs.Sums.{only-other, total-append, total-remove}
use Rattle.nr_core.specs.Roles.{retirements}
use Rattle.nr_core.specs.SlotLists.{SlotLists}
use Rattle.nr_core.specs.Sums.{only}
use Rattle.nr_core.specs.declared.places.Retired.{Retired}
use Rattle.nr_board.proofs.Heard.{zero_at}
use Rattle.nr_board.proofs.ScannedWords.{flag_elsewhere}
use Rattle.nr_core.specs.Marks.{LoggedLoad}
use Rattle.nr_board.specs.Callers.{Table}
use Rattle.nr_board.specs.Flags.{Flagged, IsFlagged}
use Rattle.nr_board.specs.SlotLists.{TookBySearch, heard_all, not_passed}
use Rattle.nr_board.specs.WholeScans.{is_flagged}

module _ (table : Table) (retired : List Retired) (heard : List ℕ) (flags : List Bool)
    (flagged : Flagged table retired heard flags) where
  pub flag_is : (slot : ℕ) → is_flagged flags slot ≡ nat_lt (get_or heard slot 0) table.announcers
  flag_is slot = grind arith

  -- the slots without a flag are just those of which all readers were heard
  pub flags_are : (slots : List Retired) → not_passed (is_flagged flags) slots ≡ heard_all table.announcers heard slots
  flags_are slots = λ j. not_passed (λ slot. flag_is slot j) slots

-- SETS THAT ARE PUT

pub flag_set : (flags : List Bool) (slot : ℕ) → is_flagged (set flags slot true) slot ≡ true
flag_set [] slot = refl
flag_set (flag ∷ flags) zero = refl
flag_set (flag ∷ flags) (suc slot) = flag_set flags slot

-- of the slot into which a set was put nothing is heard
pub flags_put : (table : Table) (retired last : List Retired) (scanned heard : List ℕ) (flags : List Bool) (mine : ℕ)
    → IsFlagged table retired scanned flags → heard ≡ set scanned mine 0
    → ((slot : ℕ) → slot ≢ mine → retirements slot last ≡ 0 → retirements slot retired ≡ 0)
    → IsFlagged table last heard (set flags mine true)
flags_put table retired last scanned heard flags mine flagged is fewer some_words =
    let before = flagged some_words in
    let count : (slot : ℕ) → get_or heard slot 0 ≡ get_or (set scanned mine 0) slot 0
    = λ slot. ap (λ (l : List ℕ). get_or l slot 0) is in
    record {
      wide = length-set flags mine true ∙ before.wide;
      whole = λ slot unset. dite (ℕ_discrete slot mine)
          (λ e. absurd (false≢true (sym unset ∙ ap (is_flagged (set flags mine true)) e ∙ flag_set flags mine)))
          (λ ne.
          let was = before.whole slot (sym (flag_elsewhere flags mine slot ne) ∙ unset) in
          let same = get_or-set_other scanned mine slot 0 0 ne in
          omega (arith, count slot));
      stuck = λ slot set_now. dite (ℕ_discrete slot mine)
          (λ e. let none = ap (get_or_at (set scanned mine 0)) e ∙ zero_at scanned mine in omega (arith, count slot))
          (λ ne.
          let was = before.stuck slot (sym (flag_elsewhere flags mine slot ne) ∙ set_now) in
          let same = get_or-set_other scanned mine slot 0 0 ne in
          omega (arith, count slot));
      others = λ slot none. dite (ℕ_discrete slot mine)
          (λ e. ap (is_flagged (set flags mine true)) e ∙ flag_set flags mine)
          (λ ne. flag_elsewhere flags mine slot ne ∙ before.others slot (fewer slot ne none));
    }
  where
    get_or_at : List ℕ → ℕ → ℕ
    get_or_at l slot = get_or l slot 0

-- what was retired when a slot was taken is retired still, but for that slot
pub fewer_retired : (table : Table) (heard scanned : List ℕ) (loads : List LoggedLoad) (mine steps : ℕ)
    (lists mid : SlotLists) (more : List Retired)
    → TookBySearch table heard scanned loads mine steps lists mid
    → (slot : ℕ) → slot ≢ mine → retirements slot (mid.retired ++ more) ≡ 0 → retirements slot lists.retired ≡ 0
fewer_retired table heard scanned loads mine steps lists mid more took slot ne none =
    let both = total-append (λ (entry : Retired). only slot entry.slot) mid.retired more in
    ⊎_elim
    (λ (fresh : _). let same = ap (retirements slot) fresh.4 in omega arith)
    (λ (polled : _).
    let gone = total-remove (λ (entry : Retired). only slot entry.slot) lists.retired polled.1 polled.2 polled.3 in
    let other = only-other slot polled.2.slot (λ e. ne (sym e ∙ polled.4)) in
    let left = ap (retirements slot) polled.7 in
    omega arith)
    took

-- a slot that is retired was flagged
pub flags_retire : (table : Table) (retired last : List Retired) (heard now : List ℕ) (flags : List Bool)
    → IsFlagged table retired heard flags → now ≡ heard
    → ((slot : ℕ) → retirements slot last ≡ 0 → retirements slot retired ≡ 0) → IsFlagged table last now flags
flags_retire table retired last heard now flags flagged is fewer some_words =
    let before = flagged some_words in
    rw is
    (record {
      wide = before.wide;
      whole = before.whole;
      stuck = before.stuck;
      others = λ slot none. before.others slot (fewer slot none);
    })

-- what a flag tells, where readers have words or not
pub unheard_is : (table : Table) (retired : List Retired) (heard : List ℕ) (flags : List Bool)
    → IsFlagged table retired heard flags → (slot : ℕ) (told : Bool) → (table.announcers ≡ 0 → told ≡ false)
    → (0 < table.announcers → told ≡ is_flagged flags slot) → told ≡ nat_lt (get_or heard slot 0) table.announcers
unheard_is table retired heard flags flagged slot told none some_words = grind arith
