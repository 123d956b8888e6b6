-- Loads ahead, as loops make them one by one.
use Rattle.std.proofs.lemmas.Grind.{common_steps, flat_map-append}
use Rattle.std.proofs.Common.{◌≡◌, ℕ, zero, suc, ◌+◌, ◌*◌, min, List, [], ◌∷◌, ◌++◌, length, refl, sym, ap, ◌∙◌, arith}
use Rattle.std.proofs.Common.{append_assoc, append-nil, flat_map, zip, length-append}
use Rattle.std.proofs.lemmas.List.{map-append}
use Rattle.std.proofs.lemmas.Slice.Zip.{length-zip}
use Rattle.nr_words.specs.declared.layout.Layout.{Layout}
use Rattle.nr_board.specs.Callers.{Caller}
use Rattle.nr_board.specs.Views.{Loaded}
use Rattle.nr_map.specs.LoadsAhead.{LoadsKeys, LoadsLines, LoadsOfSets, LoadsPlaces, LoadsSets, LoadsTwo, begin_of}
use Rattle.nr_map.specs.LoadsAhead.{both_loads, both_places, further_places, line_places, load_of, loads_of_key}
use Rattle.nr_map.specs.LoadsAhead.{more_lines, more_of, two_places, with_loads}

-- loads add up
loads_none : (caller : Caller) → caller ≡ with_loads [] caller
loads_none caller =
    let count : caller.steps ≡ caller.steps + length {A = Loaded} [] = omega arith in
    λ j. record caller { steps = count j; loaded_ahead = sym (append-nil caller.loaded_ahead) j }

loads_both : (first then : List Loaded) (caller : Caller)
    → with_loads then (with_loads first caller) ≡ with_loads (first ++ then) caller
loads_both first then caller =
    let count : caller.steps + length first + length then ≡ caller.steps + length (first ++ then)
    = omega (arith, length-append first then) in
    λ j. record caller { steps = count j; loaded_ahead = append_assoc caller.loaded_ahead first then j }

loads_then : (first then : List Loaded) (a b c : Caller) → b ≡ with_loads first a → c ≡ with_loads then b
    → c ≡ with_loads (first ++ then) a
loads_then first then a b c here there =
    rw (there, here) (loads_both first then a)

pub places_none : (caller : Caller) → LoadsPlaces [] caller caller
places_none caller = record { loads = []; at = refl; made = loads_none caller }

pub places_both : (some others : List ℕ) (a b c : Caller) → LoadsPlaces some a b → LoadsPlaces others b c
    → LoadsPlaces (some ++ others) a c
places_both some others a b c first then = record {
  loads = first.loads ++ then.loads;
  at = map-append (λ (load : Loaded). load.place) first.loads then.loads ∙ (λ j. first.at j ++ then.at j);
  made = loads_then first.loads then.loads a b c first.made then.made;
}

-- one load
pub place_one : (place word : ℕ) (a b : Caller) → b ≡ with_loads (load_of place word ∷ []) a
    → LoadsPlaces (place ∷ []) a b
place_one place word a b made = record { loads = load_of place word ∷ []; at = refl; made = made }

-- KEYS
pub keys_none : (caller : Caller) → LoadsKeys [] [] caller caller
unfolding places_none
keys_none caller = record { loads = places_none caller; words_are = refl }

pub keys_more : {keys words : List ℕ} {a b c : Caller} (key word : ℕ) → LoadsKeys keys words a b
    → c ≡ with_loads (load_of key word ∷ []) b → LoadsKeys (keys ++ key ∷ []) (words ++ word ∷ []) a c
unfolding place_one places_both
keys_more {keys} {words} {a} {b} {c} key word so made = record {
  loads = places_both keys (key ∷ []) a b c so.loads (place_one key word b c made);
  words_are =
      rw (map-append (λ (load : Loaded). load.word) so.loads.loads (load_of key word ∷ []), so.words_are) refl;
}

pub keys_count : (keys words : List ℕ) (a b : Caller) → (so : LoadsKeys keys words a b)
    → (length words ≡ length keys) × (b.steps ≡ a.steps + length keys)
keys_count keys words a b so = grind (arith, common_steps)

-- SETS
module _ (sizes : Layout) where
  pub sets_more : {words counts : List ℕ} {a b c : Caller} (word count : ℕ) → LoadsSets sizes words counts a b
      → LoadsTwo (begin_of sizes word) (begin_of sizes word + min 8 (more_of sizes word)) count b c
      → LoadsSets sizes (words ++ word ∷ []) (counts ++ count ∷ []) a c
  sets_more {words} {counts} {a} {b} {c} word count so two =
      let first = begin_of sizes word in
      let both : Loaded × Loaded = (load_of first count, load_of (first + min 8 (more_of sizes word)) two.0) in record {
        loads = so.loads ++ both ∷ [];
        at =
            rw (
              map-append both_places so.loads (both ∷ []),
              so.at,
              map-append (two_places sizes) words (word ∷ []),
            ) refl;
        counts_are =
            rw (map-append (λ (pair : Loaded × Loaded). pair.0.word) so.loads (both ∷ []), so.counts_are) refl;
        made =
            rw (flat_map-append both_loads so.loads (both ∷ []))
            (loads_then (flat_map both_loads so.loads) (both_loads both) a b c so.made two.1);
      }

  -- how long a list is of so many for each
  flat_count : {A B : Type 0} (each : A → List B) (many : ℕ) → ((one : A) → length (each one) ≡ many) → (ones : List A)
      → length (flat_map each ones) ≡ many * length ones
  flat_count each many long [] = omega arith
  flat_count each many long (one ∷ ones) =
      omega (arith, length-append (each one) (flat_map each ones), long one, flat_count each many long ones)

  pub sets_count : (words counts : List ℕ) (a b : Caller) → (so : LoadsSets sizes words counts a b)
      → (length counts ≡ length words) × (b.steps ≡ a.steps + 2 * length words)
  sets_count words counts a b so =
      grind (arith, common_steps, flat_count both_loads 2 (λ pair. refl) so.loads)

  -- FURTHER LINES
  zip_more : (words counts : List ℕ) (word count : ℕ) → length words ≡ length counts
      → zip (words ++ word ∷ []) (counts ++ count ∷ []) ≡ zip words counts ++ (word, count) ∷ []
  zip_more [] [] word count long = refl
  zip_more [] (c ∷ counts) word count long = absurd (omega (arith, long))
  zip_more (w ∷ words) [] word count long = absurd (omega (arith, long))
  zip_more (w ∷ words) (c ∷ counts) word count long =
      ap (λ (l : List (ℕ × ℕ)). (w, c) ∷ l) (zip_more words counts word count (omega (arith, long)))

  pub lines_more : (words counts : List ℕ) (word count : ℕ) {a b c : Caller} → length words ≡ length counts
      → LoadsLines sizes words counts a b → LoadsPlaces (further_places sizes (word, count)) b c
      → LoadsLines sizes (words ++ word ∷ []) (counts ++ count ∷ []) a c
  lines_more words counts word count {a} {b} {c} long so more =
      let each = further_places sizes in
      let pairs = zip words counts in
      rw (
        zip_more words counts word count long,
        flat_map-append each pairs ((word, count) ∷ []),
        append-nil (each (word, count)),
      )
      (places_both (flat_map each pairs) (each (word, count)) a b c so more)

  -- a set of few rows has no further lines
  no_places : (pairs : List (ℕ × ℕ)) → more_lines sizes.rows ≡ 0 → flat_map (further_places sizes) pairs ≡ []
  no_places [] few = refl
  no_places ((word, count) ∷ pairs) few =
      ap
      (λ (lines : ℕ). line_places (begin_of sizes word) (min (2 * min count sizes.rows) (more_of sizes word)) lines
      ++ flat_map (further_places sizes) pairs)
      few
      ∙ no_places pairs few

  pub no_lines : (words counts : List ℕ) (caller : Caller) → more_lines sizes.rows ≡ 0
      → LoadsLines sizes words counts caller caller
  no_lines words counts caller few =
      rw (no_places (zip words counts) few) (places_none caller)

  line_count : (begin more lines : ℕ) → length (line_places begin more lines) ≡ lines
  line_count begin more zero = refl
  line_count begin more (suc line) =
      omega (
        arith,
        length-append (line_places begin more line) ((begin + min (8 * (line + 2)) more) ∷ []),
        line_count begin more line,
      )

  pub lines_count : (words counts : List ℕ) (a b : Caller) → length counts ≡ length words
      → LoadsLines sizes words counts a b → b.steps ≡ a.steps + more_lines sizes.rows * length words
  lines_count words counts a b long so =
      let all = flat_count (further_places sizes) (more_lines sizes.rows)
      (λ pair. line_count (begin_of sizes pair.0) (min (2 * min pair.1 sizes.rows) (more_of sizes pair.0))
      (more_lines sizes.rows))
      (zip words counts) in
      grind (arith, common_steps, length-zip, all)

  -- the loads for keys are so many steps
  pub ahead_count : (keys words : List ℕ) (a b c : Caller) → LoadsKeys keys words a b → LoadsOfSets sizes words b c
      → c.steps ≡ a.steps + loads_of_key sizes.rows * length keys
  ahead_count keys words a b c named (counts, between, sets, lines) =
      let first = keys_count keys words a b named in
      let second = sets_count words counts b between sets in
      let third = lines_count words counts between c second.0 lines in
      let many : ℕ = length keys in
      let more : ℕ = more_lines sizes.rows in
      let same : c.steps ≡ between.steps + more * many = third ∙ ap (λ (n : ℕ). between.steps + more * n) first.0 in
      omega (arith, first.0, first.1, second.1, same)
