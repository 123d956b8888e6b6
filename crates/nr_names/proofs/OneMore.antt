-- What one more name does to the numbers of all names.
use Rattle.std.proofs.Common.{◌≡◌, ◌<◌, ℕ, Bool, true, false, cond, not, List, [], ◌∷◌, ◌++◌, map, length, get_or}
use Rattle.std.proofs.Common.{String, Option, Some, None, sym, refl, ap, ◌∙◌, subst, inl, inr, arith}
use Rattle.std.proofs.Math.ListN.{get_or-append}
use Rattle.std.proofs.lemmas.Bool.Decides.{nat_tests}
use Rattle.std.proofs.lemmas.List.{length_push, get_or_push, map-append}
use Rattle.std.proofs.lemmas.List.Elements.{All-push}
use Rattle.std.proofs.lemmas.List.Folds.{position_or_len_push}
use Rattle.std.proofs.lemmas.List.Quantifiers.{position-Some}
use Rattle.std.proofs.lemmas.List.Sums.{prefix_len-le-length}
use Rattle.std.proofs.lemmas.Option.{slice_get_within, slice_get_cases, slice_get-get_or, get_or_from_slice_get}
use Rattle.std.specs.Prelude.{IsTrue, slice_get}
use Rattle.std.specs.List.{position}
use Rattle.std.specs.Str.{bytes_eq}
use Rattle.std.specs.Cmp.Lexicographic.{bytes_decides, nat_list_eq_equiv}
use Rattle.std.proofs.lemmas.Slice.Eq.{bytes_eq-Decides}
use Rattle.std.proofs.lemmas.Map.Text.{btree_map_updates_text}
use Rattle.std.specs.BTreeMap.{BTreeMap, Updates}
use Rattle.std.specs.String.{string_cmp, string_bytes}
use Rattle.nr_names.specs.Kept.{naming_of, IsKept}
use Rattle.nr_names.specs.Naming.{Naming, number_of_name, adds, IsName, IsOneToOne, IsSoundNaming}

module _ {X : Type 0} (passes : X → Bool) (xs : List X) (y : X) where
  -- a place that is found stays
  position_push_found : (place : ℕ) → position passes xs ≡ Some place → position passes (xs ++ y ∷ []) ≡ Some place
  position_push_found place found =
      grind (arith, nat_tests, position_or_len_push passes xs y, length_push xs y)

  -- where none was found, the new element may be the first
  position_push_new : position passes xs ≡ None
      → position passes (xs ++ y ∷ []) ≡ cond (passes y) (Some (length xs)) None
  position_push_new new =
      grind (
        arith,
        nat_tests,
        position_or_len_push passes xs y,
        length_push xs y,
        prefix_len-le-length (λ x. not (passes x)) xs,
      )

-- a name that has a number stands there
stands_at_number : (names : List (List ℕ)) (name : List ℕ) (number : ℕ) → number_of_name names name ≡ Some number
    → slice_get names number ≡ Some name
stands_at_number names name number found =
    let at = position-Some (bytes_eq name) names number [] found in
    slice_get-get_or names number [] at.0 ∙ ap Some (sym ((bytes_eq-Decides name (get_or names number [])).0 at.1))

-- the new name gets the next number, and each other name keeps its own
number_of_push : (names : List (List ℕ)) (name other : List ℕ) → number_of_name names name ≡ None
    → number_of_name (names ++ name ∷ []) other
    ≡ cond (bytes_eq name other) (Some (length names)) (number_of_name names other)
number_of_push names name other new = by_test (bytes_eq name other) refl
  where
    by_test : (same : Bool) → bytes_eq name other ≡ same
        → number_of_name (names ++ name ∷ []) other ≡ cond same (Some (length names)) (number_of_name names other)
    by_test true same =
        let unknown = subst (λ n. number_of_name names n ≡ None) ((bytes_decides name other).0 same) new in
        rw (position_push_new (bytes_eq other) names name unknown, nat_list_eq_equiv.symm other name, same) refl
    by_test false differs = by_number (number_of_name names other) refl
      where
        by_number : (number : Option ℕ) → number_of_name names other ≡ number
            → number_of_name (names ++ name ∷ []) other ≡ number
        by_number (Some number) found = position_push_found (bytes_eq other) names name number found
        by_number None unknown =
            rw (position_push_new (bytes_eq other) names name unknown, nat_list_eq_equiv.symm other name, differs) refl

-- the new name has the next number
number_of_new : (names : List (List ℕ)) (name : List ℕ) → number_of_name names name ≡ None
    → number_of_name (names ++ name ∷ []) name ≡ Some (length names)
number_of_new names name new = rw (number_of_push names name name new, nat_list_eq_equiv.refl name) refl

-- a known name keeps its number
number_of_known : (names : List (List ℕ)) (name other : List ℕ) (number : ℕ) → number_of_name names name ≡ None
    → number_of_name names other ≡ Some number → number_of_name (names ++ name ∷ []) other ≡ Some number
number_of_known names name other number new known = position_push_found (bytes_eq other) names name number known

-- names stay one to one
IsOneToOne-push : (names : List (List ℕ)) (name : List ℕ) → IsOneToOne names → number_of_name names name ≡ None
    → IsOneToOne (names ++ name ∷ [])
IsOneToOne-push names name one_to_one
    new = λ other number. (stands_at_number (names ++ name ∷ []) other number, numbered other number)
  where
    numbered : (other : List ℕ) (number : ℕ) → slice_get (names ++ name ∷ []) number ≡ Some other
        → number_of_name (names ++ name ∷ []) other ≡ Some number
    numbered other number stands = elim (slice_get_cases names number).1 [
      | inl (known, early, is, at) ↦
          let same : known ≡ other =
          sym at ∙ sym (get_or-append names (name ∷ []) known number early)
          ∙ get_or_from_slice_get _ number other known stands in
          number_of_known names name other number new ((one_to_one other number).1 (is ∙ ap Some same))
      | inr (late, _) ↦
          let next : length names ≡ number
          = omega (arith, slice_get_within _ number other stands, length_push names name) in
          let same : name ≡ other =
          sym (get_or_push names name [] number next) ∙ get_or_from_slice_get _ number other [] stands in
          subst (λ n. number_of_name (names ++ name ∷ []) n ≡ Some number) same
          (number_of_new names name new ∙ ap Some next)
    ]

-- what is known of a name that is added
pub record IsNew (longest : ℕ) (naming : Naming) (name : List ℕ) : Type 0 where
  pub unknown : number_of_name naming.names name ≡ None
  pub is_name : IsName longest name
  pub room : length naming.names < naming.keys

pub IsNew-from_adds : (longest : ℕ) (naming : Naming) (name : List ℕ) → IsTrue (adds longest naming name)
    → IsNew longest naming name
IsNew-from_adds longest naming name added = record {
  unknown = grind (arith, nat_tests);
  is_name = record { some = grind (arith, nat_tests); short = grind (arith, nat_tests) };
  room = grind (arith, nat_tests);
}

-- the facts of a table stay when a name is added
IsSound-push : {longest limit : ℕ} (naming : Naming) (name : List ℕ) → IsSoundNaming longest limit naming
    → IsNew longest naming name → IsSoundNaming longest limit (record naming { names = naming.names ++ name ∷ [] })
IsSound-push {longest} naming name sound new = record {
  within = sound.within;
  fits = omega (arith, new.room, length_push naming.names name);
  are_names = All-push (IsName longest) naming.names name sound.are_names new.is_name;
  one_to_one = IsOneToOne-push naming.names name sound.one_to_one new.unknown;
}

-- the map finds the new name too, where it was put at its number
pub IsKept-push : {Y : Type 0} {longest limit room keys number : ℕ} (names : List (String Y))
    (numbers more : BTreeMap (String Y) ℕ) (key text : String Y) (name : List ℕ)
    → IsKept longest limit room (naming_of keys names) numbers
    → IsNew longest (naming_of keys names) name
    → number ≡ length (map string_bytes names)
    → string_bytes key ≡ name
    → string_bytes text ≡ name
    → Updates string_cmp numbers more key (Some number)
    → IsKept longest limit room (naming_of keys (names ++ text ∷ [])) more
IsKept-push names numbers more key text name kept new next key_is text_is updates = record {
  sound = rw same (IsSound-push _ name kept.sound new);
  roomy = kept.roomy;
  finds = λ other.
      rw (same, number_of_push (map string_bytes names) name other new.unknown, ← kept.finds other, ← next, ← key_is)
      (btree_map_updates_text (string_bytes key) numbers more _ updates other);
}
  where
    same : map string_bytes (names ++ text ∷ []) ≡ map string_bytes names ++ name ∷ []
    same = rw (← text_is) (map-append string_bytes names (text ∷ []))
