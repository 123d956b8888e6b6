-- The words of a core state show the map after its history: what the writer reads of the slot that a key names is the
-- key's set, word by word.
use Rattle.std.proofs.Common.{List, [], ap, arith, get_or, length, subst, suc, sym, take, ℕ, ◌*◌, ◌++◌, ◌+◌, ◌<◌, ◌∙◌}
use Rattle.std.proofs.Common.{◌∷◌, ◌≡◌, cond, drop, eq-eqb, ne_eqb, refl, ◌%◌, ◌-◌, ◌≤◌}
use Rattle.std.proofs.lemmas.List.{length-append, take_all, get_or-drop, get_or-take, length-drop, length-take-le}
use Rattle.std.specs.Prelude.{Some, Option, option_map}
use lib.Seq.{take-suc}
use Rattle.nr_model.specs.Histories.{Entry}
use Rattle.nr_model.specs.Rows.{IsRowSet}
use Rattle.nr_words.proofs.SetWordLemmas.{length-row_words, decode_undoes_encode_lem}
use Rattle.nr_words.specs.SetWords.{decode, encode, Spells as WordsSpell}
use Rattle.nr_core.specs.Core.{Core, Reads, ShowsState}
use Rattle.nr_core.specs.Roles.{held}
use Rattle.nr_core.specs.Slots.{SlotSpells, bound_of, content, name_number, slot_content, layout, slot_room}
use Rattle.nr_core.specs.Story.{map_after, shown}
use Rattle.nr_core.specs.declared.roles.Role.{Role}
use Rattle.nr_core.specs.declared.shape.Shape.{Shape}
use Rattle.nr_model.specs.declared.rows.Row.{Row}
use lib.ListN.{get_elem?}
use mathlib.Core.Option.{some}
use Rattle.nr_model.specs.Maps.{number_of, state_of}
use Rattle.nr_model.specs.declared.states.KeyState.{KeyState}
use Rattle.nr_words.specs.KeyWords.{has_ask, is_filled, slot_of}
use Rattle.nr_words.proofs.PlaceLemmas.{in_block_below}
use Rattle.nr_words.specs.Places.{total_of}
use Rattle.nr_core.proofs.KeyWords.{names_none, names_one}
use Rattle.nr_core.specs.States.{State, number_at}
use Rattle.nr_core.specs.declared.roles.Role.TheVariants.{Writer}
use Rattle.nr_model.specs.declared.states.KeyState.TheVariants as key

-- The set that words spell.

-- words that begin with those of a row set spell it
pub decodes_begins : (bound : ℕ) (words : List ℕ) (rows : List Row) → IsRowSet bound rows → WordsSpell words rows
    → decode words ≡ Some rows
decodes_begins bound words rows row_set spell = (decode_undoes_encode_lem words rows).1 (row_set.0, spell)

pub set_back : (bound : ℕ) (rows : List Row) → IsRowSet bound rows → decode (encode rows) ≡ Some rows
set_back bound rows row_set =
    decodes_begins bound (encode rows) rows row_set (take_all (length (encode rows)) (encode rows) (omega arith))

-- What the writer reads of the slot that a key names is the key's set, word by word.

module _ (shape : Shape) (words : List ℕ) (roles : List Role) (log : List Entry) (core : Core shape words roles log)
    (k s : ℕ) (got : List ℕ) (reads : Reads shape words (map_after shape log) (held roles) k s got) where
  -- the words read, with the next one
  abbrev pub got_next : List ℕ
  got_next = got ++ get_or words (content shape s (length got)) 0 ∷ []

  spelt_there : (slot : ℕ) × (name_number (get_or words k 0) ≡ suc slot) × (slot < shape.slots)
      × SlotSpells shape words slot reads.rows
  spelt_there = subst (ShowsState shape words (get_or words k 0)) reads.full (core.shows k reads.near)

  pub read_set : IsRowSet (bound_of shape) reads.rows
  read_set = spelt_there.3.0

  pub read_word : get_or words (content shape s (length got)) 0 ≡ get_or (encode reads.rows) (length got) 0
  read_word =
      let size = length-row_words reads.rows in
      let same_slot : spelt_there.0 ≡ s = let a = spelt_there.1 in let b = reads.names in omega arith in
      rw (sym same_slot) (spelt_there.3.1 (length got) (omega arith))

  pub length-got_next : length got_next ≡ suc (length got)
  length-got_next = omega (arith, length-append got (get_or words (content shape s (length got)) 0 ∷ []))

  pub read_next : got_next ≡ take (suc (length got)) (encode reads.rows)
  read_next = search (arith, length-row_words, read_word, take-suc)

  pub read_first : get_or got_next 0 0 ≡ length reads.rows
  read_first = ap (λ (l : List ℕ). get_or l 0 0) read_next

  -- the last read has the set
  pub read_whole : length got_next ≡ 2 * get_or got_next 0 0 + 1 → decode got_next ≡ Some reads.rows
  read_whole whole =
      let size = length-row_words reads.rows in
      let all_got = read_next
      ∙ take_all (suc (length got)) (encode reads.rows) (omega (arith, whole, read_first, length-got_next)) in
      ap decode all_got ∙ set_back (bound_of shape) reads.rows read_set

-- The words of a core state show the map after its history.

begins_with : (m l : List ℕ) → length m ≤ length l → ((i : ℕ) → i < length m → get_or l i 0 ≡ get_or m i 0)
    → take (length m) l ≡ m
begins_with [] l fits same = refl
begins_with (x ∷ m) [] fits same = absurd (omega arith)
begins_with (x ∷ m) (y ∷ l) fits
    same = λ k. same 0 (omega arith) k ∷ begins_with m l (omega arith) (λ i low. same (suc i) (omega arith)) k

pub spelt_set : (shape : Shape) (words : List ℕ) (s : ℕ) (rows : List Row) → length words ≡ total_of (layout shape)
    → s < shape.slots → SlotSpells shape words s rows → decode (slot_content shape words s) ≡ Some rows
spelt_set shape words s rows wide near sp = let short = sp.0.1 in let size = length-row_words rows in
    let c : ℕ = content shape s 0 in
    let d1 : length (drop c words) ≡ length words - c = length-drop c words in
    let d2 = length-take-le (slot_room shape) (drop c words)
    (omega (arith, in_block_below (layout shape) s (slot_room shape) near (omega arith))) in
    decodes_begins (bound_of shape) (slot_content shape words s) rows sp.0
    (begins_with (encode rows) (slot_content shape words s) (omega arith)
    (λ i low. get_or-take (slot_room shape) (drop c words) i 0 (omega arith) ∙ get_or-drop c words i 0
    ∙ ap (λ (n : ℕ). get_or words n 0) (place_is i) ∙ sp.1 i low))
  where
    place_is : (i : ℕ) → content shape s 0 + i ≡ content shape s i
    place_is i = omega arith

pub shown_is : (state : State) (roles : List Role) (log : List Entry) → Core state.shape state.words roles log
    → get_elem? roles 0 ≡ some (Writer state.desk) → (k : ℕ) → k < state.shape.keys
    → shown state k ≡ Some (state_of (map_after state.shape log) k)
shown_is state roles log core writer_there k near =
    let shape = state.shape in
    let words = state.words in
    let w = get_or words k 0 in
    let z = state_of (map_after shape log) k in
    let listed : number_at state.desk k ≡ number_of z
    = (core.knows 0 (Writer state.desk) writer_there).numbers.agree k near in
    let Given : ℕ → Option KeyState
    = λ s. option_map (λ rows. key.Rows (number_at state.desk k) rows) (decode (slot_content shape words s)) in
    let B : Option KeyState = Given (slot_of w) in
    let C : Option KeyState = Some (cond (has_ask w) (key.Asked (slot_of w)) (key.Hole (slot_of w))) in
    let go : (z : KeyState) → ShowsState shape words w z → number_at state.desk k ≡ number_of z
    → cond (is_filled w) B C ≡ Some z
    = λ z. elim z as
    (λ v. ShowsState shape words w v → number_at state.desk k ≡ number_of v → cond (is_filled w) B C ≡ Some v) [
      | key.Hole n ↦ λ t _. let even = t.1 in cc (names_none w t.0, ne_eqb (w % 2) 1 (λ z. omega arith), t.2)
      | key.Asked
          n ↦ λ t _. cc (names_none w t.0, eq-eqb (w % 2) 1 t.1, t.2)
      | key.Rows number rows ↦ λ t same. let n = names_one w t.0 t.1 in
          cc (n.0, n.1, spelt_set shape words t.0 rows core.wide t.2 t.3)
    ] in go z (core.shows k near) listed
