-- What each word spells is kept in an array, as far as there is room: what stands after some of the words, and at their
-- end.
use Rattle.std.proofs.Common.{◌≡◌, ℕ, ◌+◌, ◌<◌, ◌≤◌, List, [], ◌∷◌, ◌++◌, length, take, set, Option, Some}
use Rattle.std.proofs.Common.{sym, ap, ◌∙◌, arith, append_assoc, append-nil, length-append, length-set}
use Rattle.std.specs.Prelude.{min, option_map}
use Rattle.std.proofs.lemmas.List.{take_more_set, take_all, take-append-le}
use Rattle.nr_text.specs.Grammar.{each}

-- the words that are left come behind those whose items are done, and the array keeps a front of these
pub record Keeps {A : Type 0} (spells : List ℕ → Option A) (room : ℕ) (all left : List (List ℕ)) (kept : List A)
    (len : ℕ) : Type 0 where
  pub done : List A
  pub width : length kept ≡ room
  pub front : take len kept ≡ take room done
  pub count : len ≡ min room (length done)
  pub rest : option_map (λ more. done ++ more) (each spells left) ≡ each spells all

module _ {A : Type 0} (spells : List ℕ → Option A) (room : ℕ) (all : List (List ℕ)) where
  one_done : (done : List A) (x : A) (word : List ℕ) (left : List (List ℕ)) → spells word ≡ Some x
      → option_map (λ m. (done ++ x ∷ []) ++ m) (each spells left)
      ≡ option_map (λ m. done ++ m) (each spells (word ∷ left))
  one_done done x word left is = grind (arith, append_assoc done (x ∷ []))

  pub keeps_more : (word : List ℕ) (left : List (List ℕ)) (kept : List A) (len : ℕ) (x : A)
      → Keeps spells room all (word ∷ left) kept len
      → spells word ≡ Some x → len < room → Keeps spells room all left (set kept len x) (len + 1)
  keeps_more word left kept len x keeps spelled low =
      let here : len < length kept = omega (arith, keeps.width) in
      let few : length keeps.done < room = omega (arith, keeps.count) in
      let whole : take room keeps.done ≡ keeps.done = take_all room keeps.done (omega arith) in
      let more : length (keeps.done ++ x ∷ []) ≤ room = rw (length-append keeps.done (x ∷ [])) (omega arith) in
      record {
        done = keeps.done ++ x ∷ [];
        width = length-set kept len x ∙ keeps.width;
        front =
            take_more_set kept len x here ∙ ap (λ l. l ++ x ∷ []) (keeps.front ∙ whole)
            ∙ sym (take_all room (keeps.done ++ x ∷ []) more);
        count = rw (length-append keeps.done (x ∷ [])) (omega (arith, keeps.count));
        rest = one_done keeps.done x word left spelled ∙ keeps.rest;
      }

  pub keeps_past : (word : List ℕ) (left : List (List ℕ)) (kept : List A) (len : ℕ) (x : A)
      → Keeps spells room all (word ∷ left) kept len
      → spells word ≡ Some x → room ≤ len → Keeps spells room all left kept len
  keeps_past word left kept len x keeps spelled full =
      let many : room ≤ length keeps.done = omega (arith, keeps.count) in
      record {
        done = keeps.done ++ x ∷ [];
        width = keeps.width;
        front = keeps.front ∙ sym (take-append-le room keeps.done (x ∷ []) many);
        count = rw (length-append keeps.done (x ∷ [])) (omega (arith, keeps.count));
        rest = one_done keeps.done x word left spelled ∙ keeps.rest;
      }

  pub keeps_all : (kept : List A) (len : ℕ) → (keeps : Keeps spells room all [] kept len)
      → each spells all ≡ Some keeps.done
  keeps_all kept len keeps = sym keeps.rest ∙ ap Some (append-nil keeps.done)
