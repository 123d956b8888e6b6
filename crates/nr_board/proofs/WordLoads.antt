-- What a whole scan tells, load by load: after each load what was heard is what the words so far tell.
use Rattle.std.proofs.Common.{◌≡◌, ◌≢◌, ℕ, suc, zero, ◌+◌, ◌<◌, ◌≤◌, List, [], ◌∷◌, ◌++◌, cond, length, get_or}
use Rattle.std.proofs.Common.{nat_eq, refl, sym, ap, ◌∙◌, arith, append_assoc, append-nil, length-append}
use Rattle.std.proofs.lemmas.Bool.{lt-ltb}
use Rattle.std.proofs.lemmas.List.{nil_from_length}
use Rattle.std.specs.Prelude.{nat_lt, ◌||◌}
use mathlib.Core.Logic.{dite}
use native.Mathlib.Decide.{ℕ_discrete}
use Rattle.nr_core.specs.declared.places.Retired.{Retired}
use Rattle.nr_core.specs.declared.roles.Desk.{Desk}
use Rattle.nr_core.specs.Marks.{Marks, Past, LoggedLoad, with_polls, with_scan}
use Rattle.nr_board.specs.Scans.{heard_from, heard_now}
use Rattle.nr_board.specs.WordLoads.{WordsSoFar, WordsTell, heard_by, heard_of, loads_of, unsaid, word_load}

-- LOADS

pub loads_length : (own : ℕ) (words : List ℕ) → length (loads_of own words) ≡ length words
loads_length own [] = refl
loads_length own (word ∷ words) = let rest = loads_length (suc own) words in omega arith

pub loads_more : (own found : ℕ) (words : List ℕ)
    → loads_of own (words ++ found ∷ []) ≡ loads_of own words ++ word_load (own + length words) found ∷ []
loads_more own found [] = let same : own ≡ own + 0 = omega arith in ap (λ (n : ℕ). word_load n found ∷ []) same
loads_more own found (word ∷ words) = let same : suc own + length words ≡ own + length (word ∷ words) = omega arith in
    ap (λ (l : List LoggedLoad). word_load own word ∷ l)
    (loads_more (suc own) found words ∙ ap (λ (n : ℕ). loads_of (suc own) words ++ word_load n found ∷ []) same)

-- a search that loads no word
pub no_loads : (marks : Marks) (polls : List Past) → with_polls marks polls ≡ with_scan marks polls (marks.loads ++ [])
no_loads marks polls = λ j. record marks { polls = polls; loads = sym (append-nil marks.loads) j }

-- WORDS THAT DON'T SAY A SLOT

pub unsaid_few : (slot : ℕ) (words : List ℕ) → unsaid slot words ≤ length words
unsaid_few slot [] = omega arith
unsaid_few slot (word ∷ words) = grind (arith, unsaid_few slot words)

-- what a word says, those behind it can't take back
unsaid_stays : (slot : ℕ) (words more : List ℕ) → unsaid slot words < length words
    → unsaid slot (words ++ more) ≡ unsaid slot words
unsaid_stays slot [] more low = absurd (omega arith)
unsaid_stays slot (word ∷ words) more low = grind (arith, unsaid_stays slot words more)

unsaid_on : (slot found : ℕ) (words : List ℕ) → unsaid slot words ≡ length words
    → unsaid slot (words ++ found ∷ []) ≡ cond {A = ℕ} (nat_eq found (suc slot)) (length words) (suc (length words))
unsaid_on slot found [] all = refl
unsaid_on slot found (word ∷ words) all = grind (arith, unsaid_on slot found words, unsaid_few slot words)

-- a slot is said by these words and one more where it was said before, or that one says it
pub unsaid_more : (slot found : ℕ) (words : List ℕ)
    → nat_lt (unsaid slot (words ++ found ∷ [])) (length (words ++ found ∷ []))
    ≡ (nat_lt (unsaid slot words) (length words) || nat_eq found (suc slot))
unsaid_more slot found [] = grind arith
unsaid_more slot found (word ∷ words) = grind (arith, unsaid_more slot found words)

-- ONE LOAD

module _ (desk : Desk) (found : ℕ) where
  -- the first load hears all slots anew
  first_now : (slot count : ℕ) → heard_now desk 0 found slot count ≡ heard_of desk.retired (found ∷ []) slot
  first_now slot count = grind arith

  pub first_from : (heard : List ℕ) (slot more : ℕ)
      → heard_from desk 0 found heard slot more ≡ heard_by desk.retired (found ∷ []) slot more
  first_from heard slot zero = refl
  first_from heard slot (suc more) = λ j. first_now slot (get_or heard slot 0) j ∷ first_from heard (suc slot) more j

  module _ (own : ℕ) (words : List ℕ) (each : length words ≡ own) (later : 0 < own) where
    -- a later one goes on where the words so far heard of all readers before
    next_now : (slot count : ℕ) → count ≡ heard_of desk.retired words slot
        → heard_now desk own found slot count ≡ heard_of desk.retired (words ++ found ∷ []) slot
    next_now slot count is =
        grind
        (arith, unsaid_on slot found words, unsaid_stays slot words (found ∷ []), unsaid_few slot words)

    pub next_from : (heard : List ℕ) (slot more : ℕ)
        → ((at : ℕ) → slot ≤ at → at < slot + more → get_or heard at 0 ≡ heard_of desk.retired words at)
        → heard_from desk own found heard slot more ≡ heard_by desk.retired (words ++ found ∷ []) slot more
    next_from heard slot zero so = refl
    next_from heard slot (suc more)
        so = λ j. next_now slot (get_or heard slot 0) (so slot (omega arith) (omega arith)) j
        ∷ next_from heard (suc slot) more (λ at low high. so at (omega arith) (omega arith)) j

-- what was heard of a slot
heard_by_at : (retired : List Retired) (words : List ℕ) (slot more at : ℕ)
    → get_or (heard_by retired words slot more) at 0 ≡ cond (nat_lt at more) (heard_of retired words (slot + at)) 0
heard_by_at retired words slot zero at = grind arith
heard_by_at retired words slot (suc more) zero = let same : slot ≡ slot + 0 = omega arith in grind arith
heard_by_at retired words slot (suc more) (suc at) = let same : suc slot + at ≡ slot + suc at = omega arith in
    rw (sym same) (grind (arith, heard_by_at retired words (suc slot) more at))

pub heard_of_at : (retired : List Retired) (words : List ℕ) (slots at : ℕ)
    → get_or (heard_by retired words 0 slots) at 0 ≡ cond (nat_lt at slots) (heard_of retired words at) 0
heard_of_at retired words slots at =
    let same : 0 + at ≡ at = omega arith in rw same at (heard_by_at retired words 0 slots at)

-- THE SCAN

unfoldable pub words_begin : (retired : List Retired) (slots : ℕ) (loads : List LoggedLoad) (heard : List ℕ)
    → WordsSoFar 0 retired slots loads loads heard
words_begin retired slots loads heard =
    record { words = []; each = refl; loads_are = sym (append-nil loads); tell = λ later. absurd (omega arith) }

unfoldable pub words_more : (desk : Desk) (own found slots : ℕ) (before now next : List LoggedLoad)
    (heard after : List ℕ)
    → WordsSoFar own desk.retired slots before now heard
    → next ≡ now ++ word_load own found ∷ [] → after ≡ heard_from desk own found heard 0 slots
    → WordsSoFar (own + 1) desk.retired slots before next after
words_more desk own found slots before now next heard after so_far loads told = record {
  words = so_far.words ++ found ∷ [];
  each = let both = length-append so_far.words (found ∷ []) in let each = so_far.each in omega arith;
  loads_are =
      loads ∙ ap (λ (l : List LoggedLoad). l ++ word_load own found ∷ []) so_far.loads_are
      ∙ append_assoc before (loads_of 0 so_far.words) (word_load own found ∷ [])
      ∙ ap (λ (l : List LoggedLoad). before ++ l)
      (ap (λ (n : ℕ). loads_of 0 so_far.words ++ word_load n found ∷ []) place
      ∙ sym (loads_more 0 found so_far.words));
  tell = λ _. told ∙ dite (ℕ_discrete own 0) begins goes_on;
}
  where
    place : own ≡ 0 + length so_far.words
    place = let each = so_far.each in omega arith

    begins : own ≡ 0
        → heard_from desk own found heard 0 slots ≡ heard_by desk.retired (so_far.words ++ found ∷ []) 0 slots
    begins e = ap (λ (n : ℕ). heard_from desk n found heard 0 slots) e ∙ first_from desk found heard 0 slots
        ∙ ap (λ (l : List ℕ). heard_by desk.retired (l ++ found ∷ []) 0 slots)
        (sym (nil_from_length so_far.words (so_far.each ∙ e)))

    goes_on : own ≢ 0
        → heard_from desk own found heard 0 slots ≡ heard_by desk.retired (so_far.words ++ found ∷ []) 0 slots
    goes_on ne = next_from desk found own so_far.words so_far.each (omega arith) heard 0 slots
        (λ at low high. ap (λ (l : List ℕ). get_or l at 0) (so_far.tell (omega arith))
        ∙ heard_of_at desk.retired so_far.words slots at ∙ rw (lt-ltb at slots (omega arith)) refl)

-- all words were loaded
pub words_told : (readers : ℕ) (retired : List Retired) (slots : ℕ) (before now : List LoggedLoad) (heard : List ℕ)
    → 0 < readers → WordsSoFar readers retired slots before now heard
    → (loads : List LoggedLoad) × WordsTell readers retired slots loads heard × (now ≡ before ++ loads)
words_told readers retired slots before now heard some_words so_far = (
  loads_of 0 so_far.words,
  record { words = so_far.words; each = so_far.each; loads_are = refl; tell = so_far.tell some_words },
  so_far.loads_are,
)

-- that many loads
pub words_many : {readers slots : ℕ} {retired : List Retired} {loads : List LoggedLoad} {heard : List ℕ}
    → WordsTell readers retired slots loads heard → length loads ≡ readers
words_many told = ap length told.loads_are ∙ loads_length 0 told.words ∙ told.each
