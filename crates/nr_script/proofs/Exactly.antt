-- The history is exactly that of the calls that were made; so the writer's list has each key's ticket number after it,
-- as readers' calls change none.
use Rattle.std.proofs.Common.{◌≡◌, ◌≢◌, ◌<◌, ◌≤◌, ℕ, suc, ◌+◌, List, [], ◌∷◌, ◌++◌, cond, ◌==◌, length, map, take, drop}
use Rattle.std.proofs.Common.{get_or, refl, sym, ap, ◌∙◌, subst, arith, eq-eqb, ne_eqb, Bool, true, false, ⊎_elim}
use Rattle.std.proofs.lemmas.List.{append-nil, append_cancel_left, get_or-map, length-map, take-append-drop}
use Rattle.std.proofs.lemmas.List.Elements.{filter-append}
use Rattle.std.proofs.lemmas.List.Sums.{sum_by-cons, sum_by-append}
use Rattle.std.proofs.Math.Seq.{take-append_seam}
use Rattle.std.specs.List.{count_by}
use Rattle.std.specs.Prelude.{◌&&◌}
use mathlib.Core.Logic.{dite}
use native.Mathlib.Decide.{ℕ_discrete}
use Rattle.nr_model.specs.Histories.{Entry, entries_of, IsLegal, cancels, cancels_key, is_cancelled}
use Rattle.nr_model.specs.Laws.{LegalBegins, NumbersCountCancels}
use Rattle.nr_model.specs.declared.calls.Call.{Call}
use Rattle.nr_model.specs.declared.calls.Reply.{Reply}
use Rattle.nr_model.specs.Maps.{number_of, state_of}
use Rattle.nr_core.specs.declared.shape.Shape.{Shape}
use Rattle.nr_core.specs.Story.{map_after}
use Rattle.nr_board.specs.Callers.{Caller, Table, map_at_opening, map_seen}
use Rattle.nr_board.proofs.Entries.{callers_before, callers_of_more}
use Rattle.nr_board.specs.Rule.{StartsWith}
use Rattle.nr_board.specs.Entries.{AreCallers, is_reading}
use Rattle.nr_map.specs.Rounds.{EntriesAreCallers}
use Rattle.nr_map.specs.Hands.{Handed, idle}
use Rattle.nr_script.specs.Hands.{caller_in, mine_of}
use Rattle.nr_script.specs.Rounds.{IsSoundWriter}
use Rattle.nr_script.specs.Alone.{HasJust, IsHand, calls_of, log_of, made, one_each, IsAlone}

pub entries_own : (entry : Entry) (log : List Entry) (caller : ℕ) → entry.caller ≡ caller
    → entries_of (entry ∷ log) caller ≡ entry ∷ entries_of log caller
entries_own entry log caller is = rw (eq-eqb entry.caller caller is)

pub entries_other : (entry : Entry) (log : List Entry) (caller : ℕ) → entry.caller ≢ caller
    → entries_of (entry ∷ log) caller ≡ entries_of log caller
entries_other entry log caller isnt = rw (ne_eqb entry.caller caller isnt)

abbrev head_or : Entry → List Entry → Entry
head_or d [] = d
head_or d (x ∷ xs) = x

none_at_all : (xs : List Entry) → ((c : ℕ) → entries_of xs c ≡ []) → xs ≡ []
none_at_all [] none = refl
none_at_all (x ∷ xs) none =
    let some_there : x ∷ entries_of xs x.caller ≡ [] = sym (entries_own x xs x.caller refl) ∙ none x.caller in
    absurd (cc)

same_entry : (x e : Entry) (xs : List Entry) → entries_of (x ∷ xs) x.caller ≡ entries_of (e ∷ []) x.caller → x ≡ e
same_entry x e xs same = dite (ℕ_discrete e.caller x.caller)
    (λ is. ap (head_or x) (sym (entries_own x xs x.caller refl) ∙ same ∙ entries_own e [] x.caller is))
    (λ isnt.
    let some_there : x ∷ entries_of xs x.caller ≡ []
    = sym (entries_own x xs x.caller refl) ∙ same ∙ entries_other e [] x.caller isnt in
    absurd (cc))

-- the entries of one caller tell a history of at most one entry
pub rest_is : (rest es : List Entry) → length es ≤ 1 → ((c : ℕ) → entries_of rest c ≡ entries_of es c) → rest ≡ es
rest_is rest [] few same = none_at_all rest same
rest_is [] (e ∷ []) few same =
    let some_there : e ∷ [] ≡ [] = sym (entries_own e [] e.caller refl) ∙ sym (same e.caller) in
    absurd (cc)
rest_is (x ∷ xs) (e ∷ []) few same =
    let is : x ≡ e = same_entry x e xs (same x.caller) in
    let none : (c : ℕ) → entries_of xs c ≡ [] = λ c.
    append_cancel_left (entries_of (x ∷ []) c) (entries_of xs c) []
    (sym (filter-append (λ (k : Entry). k.caller == c) (x ∷ []) xs) ∙ same c
    ∙ ap (λ (k : Entry). entries_of (k ∷ []) c) (sym is) ∙ sym (append-nil (entries_of (x ∷ []) c))) in
    ap (λ (l : List Entry). x ∷ l) (none_at_all xs none) ∙ ap (λ (k : Entry). k ∷ []) is
rest_is rest (e ∷ f ∷ es) few same = absurd (omega arith)

-- a history that has exactly the calls, and one that has also those that were made since
pub exact_step : (log later es : List Entry) → length es ≤ 1 → StartsWith later log → (before now : ℕ → List Entry)
    → ((c : ℕ) → entries_of log c ≡ before c) → ((c : ℕ) → entries_of later c ≡ now c)
    → ((c : ℕ) → now c ≡ before c ++ entries_of es c) → later ≡ log ++ es
exact_step log later es few goes before now was is grown =
    let same : (c : ℕ) → entries_of goes.rest c ≡ entries_of es c = λ c.
    append_cancel_left (entries_of log c) (entries_of goes.rest c) (entries_of es c)
    (sym (filter-append (λ (k : Entry). k.caller == c) log goes.rest)
    ∙ ap (λ (l : List Entry). entries_of l c) (sym goes.is) ∙ is c ∙ grown c
    ∙ ap (λ (l : List Entry). l ++ entries_of es c) (sym (was c))) in
    goes.is ∙ ap (λ (l : List Entry). log ++ l) (rest_is goes.rest es few same)

count_all : (xs : List Entry) → count_by one_each xs ≡ length xs
count_all [] = refl
count_all (x ∷ xs) = omega (arith, sum_by-cons (λ (y : Entry). cond (one_each y) 1 0) x xs, count_all xs)

-- the calls of the caller at a place
pub calls_at : (mine : List Entry) (hands : List Handed) (at : ℕ) (other : Handed) → at < length hands
    → calls_of mine (map mine_of hands) (suc at) ≡ mine_of (get_or hands at other)
calls_at mine hands at other low = get_or-map mine_of hands at other [] low

next : (at : ℕ) → suc at ≡ at + 1
next at = omega arith

-- a history with exactly the calls that were made is as long as they are many
pub as_many : EntriesAreCallers → LegalBegins
    → (table : Table) (w : Caller) (hands : List Handed) (log : List Entry) → w.table ≡ table → w.number ≡ 0
    → length hands ≡ table.shape.readers
    → ((at : ℕ) (other : Handed) → at < length hands → IsHand table at (get_or hands at other))
    → IsSoundWriter w → StartsWith w.seen log → HasJust log w hands → length log ≡ made w hands
as_many entries begins table w hands log own zero_is count places sound goes just =
    let size : length (map caller_in hands) ≡ length hands = length-map hands caller_in in
    let inside : (at : ℕ) → at < length (map caller_in hands) → at < length hands
    = λ at low. omega (arith, size, low) in
    sym (count_all log) ∙
    entries (record w { seen = log }) (map caller_in hands) one_each (record {
      number = zero_is;
      own = ap (entries_of log) zero_is ∙ just 0;
      legal =
          begins (map_at_opening w.table) log goes.rest
          (rw goes.is at sound.legal);
      callers =
          callers_before w.table.shape log goes.rest
          (rw goes.is at sound.callers);
      count = size ∙ count ∙ ap (λ (t : Table). t.shape.readers) (sym own);
      numbers = λ at other low.
          ap (λ (r : Caller). r.number) (get_or-map caller_in hands at (idle other) other (inside at low))
          ∙ (places at (idle other) (inside at low)).number ∙ next at;
      each = λ at other low.
          subst (λ (r : Caller). entries_of log r.number ≡ r.mine)
          (sym (get_or-map caller_in hands at (idle other) other (inside at low)))
          (ap (entries_of log) (places at (idle other) (inside at low)).number ∙ just (suc at)
          ∙ calls_at w.mine hands at (idle other) (inside at low));
    })

-- so it is the one that the invariant names
pub log_is : EntriesAreCallers → LegalBegins
    → (table : Table) (w : Caller) (hands : List Handed) (log : List Entry) → w.table ≡ table → w.number ≡ 0
    → length hands ≡ table.shape.readers
    → ((at : ℕ) (other : Handed) → at < length hands → IsHand table at (get_or hands at other))
    → IsSoundWriter w → StartsWith w.seen log → HasJust log w hands → log_of w hands ≡ log
log_is entries begins table w hands log own zero_is count places sound goes just =
    ap (λ (n : ℕ). take n w.seen)
    (sym (as_many entries begins table w hands log own zero_is count places sound goes just))
    ∙ ap (λ (l : List Entry). take (length log) l) goes.is ∙ take-append_seam log goes.rest

pub log_begins : (w : Caller) (hands : List Handed) → StartsWith w.seen (log_of w hands)
log_begins w hands = record { rest = drop (made w hands) w.seen; is = sym (take-append-drop (made w hands) w.seen) }

-- TICKET NUMBERS
abbrev cancels_it : ℕ → Entry → Bool
cancels_it key e = cancels_key key e.call && is_cancelled e.reply

one_more : (key : ℕ) (e : Entry) (log : List Entry)
    → cancels (e ∷ log) key ≡ cond (cancels_it key e) 1 0 + cancels log key
one_more key e log = sum_by-cons (λ (y : Entry). cond (cancels_it key y) 1 0) e log

both : (key : ℕ) (log rest : List Entry) → cancels (log ++ rest) key ≡ cancels log key + cancels rest key
both key log rest = sum_by-append (λ (y : Entry). cond (cancels_it key y) 1 0) log rest

reading_cancels_none : (key : ℕ) (call : Call) (r : Reply) → is_reading call ≡ true
    → cond {A = ℕ} (cancels_key key call && is_cancelled r) 1 0 ≡ 0
reading_cancels_none key call r is = grind arith

left_of : (b : Bool) (e : Entry) (log : List Entry) → cond b (e ∷ log) log ≡ [] → log ≡ []
left_of true e log none = absurd (cc)
left_of false e log none = none

-- entries of readers alone
none_cancelled : (shape : Shape) (key : ℕ) (rest : List Entry) → AreCallers shape rest → entries_of rest 0 ≡ []
    → cancels rest key ≡ 0
none_cancelled shape key [] are none = refl
none_cancelled shape key (e ∷ rest) are none = ⊎_elim
    (λ own. let some_there : e ∷ entries_of rest 0 ≡ [] = sym (entries_own e rest 0 own.0) ∙ none in absurd (cc))
    (λ (other : (e.caller ≤ shape.readers) × (is_reading e.call ≡ true)). omega (
      arith,
      one_more key e rest,
      reading_cancels_none key e.call e.reply other.1,
      none_cancelled shape key rest are.1 (left_of (e.caller == 0) e (entries_of rest 0) none),
    ))
    are.0.1

pub number_is : NumbersCountCancels → LegalBegins → (table : Table) (w : Caller) (hands : List Handed)
    → IsAlone table w hands → (key : ℕ) → key < table.shape.keys
    → number_of (state_of (map_seen w) key) ≡ number_of (state_of (map_after table.shape (log_of w hands)) key)
number_is counts begins table w hands alone key low =
    let shape = table.shape in let log : List Entry = log_of w hands in let goes = log_begins w hands in
    let legal : IsLegal (map_at_opening table) w.seen = rw alone.stands.own at alone.sound.legal in
    let legal' : IsLegal (map_at_opening table) log
    = begins (map_at_opening table) log goes.rest (rw goes.is at legal) in
    let callers : AreCallers shape goes.rest
    = callers_of_more shape log goes.rest (rw (alone.stands.own, goes.is) at alone.sound.callers) in
    let his : entries_of w.seen 0 ≡ w.mine = ap (entries_of w.seen) (sym alone.stands.number) ∙ alone.sound.own in
    let none : entries_of goes.rest 0 ≡ [] = append_cancel_left w.mine (entries_of goes.rest 0) []
    (ap (λ (l : List Entry). l ++ entries_of goes.rest 0) (sym (alone.stands.just 0))
    ∙ sym (filter-append (λ (k : Entry). k.caller == 0) log goes.rest)
    ∙ ap (λ (l : List Entry). entries_of l 0) (sym goes.is) ∙ his
    ∙ sym (append-nil w.mine)) in
    let same : cancels w.seen key ≡ cancels log key
    = omega (
      arith,
      ap (λ (l : List Entry). cancels l key) goes.is,
      both key log goes.rest,
      none_cancelled shape key goes.rest callers none,
    ) in
    ap (λ (t : Table). number_of (state_of (map_after t.shape w.seen) key)) alone.stands.own
    ∙ (counts shape.keys shape.rows shape.first_number key w.seen legal low).0
    ∙ ap (λ (n : ℕ). shape.first_number + n) same
    ∙ sym (counts shape.keys shape.rows shape.first_number key log legal' low).0
