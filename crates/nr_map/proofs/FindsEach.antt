-- Finds of many keys, as a loop makes them, one by one or group by group.
use Rattle.std.proofs.Common.{◌≡◌, ℕ, suc, ◌+◌, ◌*◌, ◌%◌, ◌<◌, ◌≤◌, ◌==◌, false, true, min, List, [], ◌∷◌, ◌++◌, length}
use Rattle.std.proofs.Common.{map, take, drop, set, get_or, refl, sym, ap, ◌∙◌, subst, arith, append_assoc, append-nil}
use Rattle.std.proofs.Common.{eq-eqb, ne_eqb, drop-drop, drop-set-lt, length-append, length-drop, length-set}
use Rattle.std.proofs.Common.{length-take, take_all, take-append-drop}
use Rattle.std.proofs.lemmas.Grind.{common_steps}
use Rattle.std.proofs.lemmas.List.{drop_all, drop_more, take_more_set}
use Rattle.std.proofs.Math.Seq.{append_snoc, drop-append_seam}
use Rattle.nr_model.specs.declared.rows.Row.{Row}
use Rattle.nr_board.specs.Callers.{Caller}
use Rattle.nr_map.specs.declared.wanted.Wanted.{Wanted}
use Rattle.nr_map.specs.FindsEach.{FindsFrom, FindsGroup, FindsList, FindsWanted, keys_of}
use Rattle.nr_map.specs.LoadsAhead.{LoadsAt}

module _ {A : Type 0} (Finds : ℕ → Caller → List A → Caller → List A → Type 0) (first : Caller) (wanted : List A) where
  -- that many finds were made: finds of the other keys, which stand there as before, make finds of all
  pub record Begun (made : ℕ) (now : Caller) (keys : List A) : Type 0 where
    pub long : length keys ≡ length wanted
    pub rest : drop made keys ≡ drop made wanted
    pub on : (last : Caller) (found : List A) → Finds made now (drop made wanted) last found
        → Finds 0 first wanted last (take made keys ++ found)

  pub none_made : Begun 0 first wanted
  none_made = record { long = refl; rest = refl; on = λ last found so. so }

  pub all_made : (made : ℕ) (now : Caller) (keys : List A) → Begun made now keys → length keys ≤ made
      → Finds made now [] now [] → Finds 0 first wanted now keys
  all_made made now keys begun end none =
      subst (λ (l : List A). Finds 0 first wanted now l) (append-nil (take made keys) ∙ take_all made keys end)
      (begun.on now [] (rw (drop_all made wanted (omega (arith, end, begun.long))) none))

  module _ {made size : ℕ} {now : Caller} {keys : List A} (begun : Begun made now keys)
      (fits : made + size ≤ length keys) (next : Caller) (found : List A) (many : length found ≡ size) where
    taken : take (made + size) (take made keys ++ (found ++ drop size (drop made keys))) ≡ take made keys ++ found
    taken = grind (arith, common_steps)

    -- so many more were made
    more_made : ((last : Caller) (more : List A) → Finds (made + size) next (drop size (drop made wanted)) last more
        → Finds made now (drop made wanted) last (found ++ more))
        → Begun (made + size) next (take made keys ++ (found ++ drop size (drop made keys)))
    more_made on = record {
      long = simp (length-append, length-take, length-drop) (omega (arith, begun.long));
      rest =
          let front : made + size ≡ length (take made keys ++ found)
          = simp (length-append, length-take) (omega arith) in
          rw (← drop-drop size made wanted, ← begun.rest, ← append_assoc (take made keys) found _, front)
          (drop-append_seam (take made keys ++ found) (drop size (drop made keys)));
      on = λ last more so.
          rw (taken, append_assoc (take made keys) found more)
          (begun.on last (found ++ more) (on last more (rw drop-drop so)));
    }

-- ONE BY ONE

-- wherever they stand
abbrev pub Listed : {Room : Type 0} → (Room → List Row → Type 0) → ℕ → Caller → List (Wanted Room) → Caller
    → List (Wanted Room) → Type 0
Listed shows made old wanted new found = FindsList shows old wanted new found

module _ {Room : Type 0} (shows : Room → List Row → Type 0) (first : Caller) (wanted : List (Wanted Room)) where
  module _ (made : ℕ) (now : Caller) (keys : List (Wanted Room))
      (begun : Begun (Listed shows) first wanted made now keys) where
    module _ (one : Wanted Room) (low : made < length keys) (is : one ≡ get_or keys made one) where
      there : drop made wanted ≡ get_or wanted made one ∷ drop (made + 1) wanted
      there = drop_more wanted made one (omega (arith, begun.long))

      same_rest : drop (made + 1) keys ≡ drop (made + 1) wanted
      same_rest = cc (drop_more keys made one low, there)

      -- the key to be found next is one of those that were wanted
      pub as_wanted : one ≡ get_or wanted made one
      as_wanted = cc (drop_more keys made one low, there)

      pub one_more : (next : Caller) (found : Wanted Room) → FindsWanted shows now one next found
          → Begun (Listed shows) first wanted (made + 1) next (set keys made found)
      one_more next found finds = record {
        long = length-set keys made found ∙ begun.long;
        rest = drop-set-lt (made + 1) keys made found (omega arith) ∙ same_rest;
        on = λ last others so.
            let whole : one ∷ drop (made + 1) wanted ≡ drop made wanted = cc (there, as_wanted) in
            rw (take_more_set keys made found low, append_snoc (take made keys) found others)
            (begun.on last (found ∷ others) (rw (← whole) (next, finds, so)));
      }

-- GROUP BY GROUP

module _ {Room : Type 0} (shows : Room → List Row → Type 0) where
  -- a list of finds has as many as there were keys
  finds_length : (now : Caller) (group : List (Wanted Room)) (next : Caller) (found : List (Wanted Room))
      → FindsList shows now group next found → length found ≡ length group
  finds_length now [] next [] finds = refl
  finds_length now (one ∷ group) next (it ∷ found) finds = ap suc (finds_length finds.0 group next found finds.2)
  finds_length now [] next (it ∷ found) finds = absurd finds
  finds_length now (one ∷ group) next [] finds = absurd finds

  -- the finds of a group from that index on, behind the loads for it
  of_group : (place : ℕ) (group found rest more : List (Wanted Room)) (now ready next last : Caller)
      → 0 < length group → place % 16 + length group ≤ 16 → LoadsAt place (keys_of (group ++ rest)) now ready
      → FindsList shows ready group next found → FindsFrom shows (place + length group) next rest last more
      → FindsFrom shows place now (group ++ rest) last (found ++ more)
  of_group place (one ∷ []) (it ∷ []) rest more now ready next last some few loads finds so =
      (ready, loads, finds.0, finds.1, rw finds.2 at so)
  of_group place (one ∷ two ∷ group) (it ∷ found) rest more now ready next last some few loads finds so =
      let end : place + length (one ∷ two ∷ group) ≡ place + 1 + length (two ∷ group) = omega arith in
      let within : ((place + 1) % 16 == 0) ≡ false = ne_eqb _ 0 (λ e. absurd (omega (arith, e))) in (
        ready,
        loads,
        finds.0,
        finds.1,
        of_group (place + 1) (two ∷ group) found rest more finds.0 finds.0 next last (omega arith) (omega arith)
            (rw within refl) finds.2 (rw end at so),
      )
  of_group place (one ∷ []) (it ∷ _ ∷ _) rest more now ready next last some few loads finds so = absurd finds.2
  of_group place (one ∷ group) [] rest more now ready next last some few loads finds so = absurd finds
  of_group place [] found rest more now ready next last some few loads finds so = absurd (omega arith)

-- the first ones of a list, of which there are as many as there can be
taken_first : {A : Type 0} (most : ℕ) (key : A → ℕ) (group rest : List A)
    → min (length (group ++ rest)) most ≡ length group → take most (map key (group ++ rest)) ≡ map key group
taken_first most key group rest all = grind (arith, common_steps)

module _ {Room : Type 0} (shows : Room → List Row → Type 0) (first : Caller) (wanted : List (Wanted Room)) where
  -- one group more
  pub group_more : (groups size : ℕ) (now : Caller) (keys : List (Wanted Room))
      → Begun (FindsFrom shows) first wanted (groups * 16) now keys → 0 < size
      → groups * 16 + size ≡ min (groups * 16 + 16) (length keys) → (next : Caller) (found : List (Wanted Room))
      → FindsGroup shows now (take size (drop (groups * 16) keys)) next found
      → Begun (FindsFrom shows) first wanted (groups * 16 + size) next
      (take (groups * 16) keys ++ (found ++ drop size (drop (groups * 16) keys)))
  group_more groups size now keys begun some end next found finds =
      let left = drop (groups * 16) keys in
      let group = take size left in
      let many : length group ≡ size = simp (length-take, length-drop) (omega arith) in
      let begins : ((groups * 16) % 16 == 0) ≡ true = eq-eqb _ 0 (omega arith) in
      let of_keys
      = taken_first 16 (λ (one : Wanted Room). one.key) group (drop size left)
      (rw (take-append-drop, many) (simp length-drop (omega arith))) in
      more_made (FindsFrom shows) first wanted begun (omega arith) next found
      (finds_length shows finds.ready group next found finds.finds ∙ many)
      (λ last more so.
      rw (← begun.rest, ← take-append-drop size left)
      (of_group shows (groups * 16) group found (drop size left) more now finds.ready next last (omega (arith, many))
      (omega (arith, many)) (rw (begins, of_keys) finds.loads) finds.finds
      (subst (λ (n : ℕ). FindsFrom shows (groups * 16 + n) next (drop size left) last more) (sym many)
      (rw (← begun.rest) at so))))
