-- Calls for each of a list, as a loop makes them one by one.
use Rattle.std.proofs.Common.{◌≡◌, ℕ, ◌+◌, ◌-◌, ◌<◌, ◌≤◌, List, [], ◌∷◌, ◌++◌, length, take, drop, set, get_or, refl}
use Rattle.std.proofs.Common.{sym, ◌∙◌, subst, arith, append-nil, drop-set-lt, length-drop, length-set, take_all, All}
use Rattle.std.proofs.lemmas.List.{drop_all, drop_more, take_more_set}
use Rattle.std.proofs.Math.Seq.{append_snoc}
use Rattle.nr_c.specs.Many.{InOrder}

module _ {State One : Type 0} (call : ℕ → List One → One → One → State → State → Type 0) where
  -- that many calls were made: calls for the others, which stand there as before, make calls for all
  pub record Made (first : State) (wanted : List One) (made : ℕ) (now : State) (ones : List One) : Type 0 where
    pub long : length ones ≡ length wanted
    pub rest : drop made ones ≡ drop made wanted
    pub on : (last : State) (found : List One) → InOrder call made (drop made wanted) found now last
        → InOrder call 0 wanted (take made ones ++ found) first last

module _ {State One : Type 0} {call : ℕ → List One → One → One → State → State → Type 0} {first now : State}
    {wanted ones : List One} {made : ℕ} (had : Made call first wanted made now ones) where
  module _ (blank : One) (low : made < length ones) where
    abbrev one : One
    one = get_or ones made blank

    here : drop made ones ≡ one ∷ drop (made + 1) ones
    here = drop_more ones made blank low

    there : drop made wanted ≡ get_or wanted made one ∷ drop (made + 1) wanted
    there = drop_more wanted made one (omega (arith, had.long))

    same_rest : drop (made + 1) ones ≡ drop (made + 1) wanted
    same_rest = cc (here, there)

    -- the next one is one of those that were wanted
    pub of_wanted : (P : One → Type 0) → All P wanted → P one
    of_wanted P all =
        let as_wanted : one ≡ get_or wanted made one = cc (here, there) in
        subst P (sym as_wanted) (all made one (omega (arith, had.long)))

    -- a call for it is told what is left
    pub one_more : {next : State} {found : One}
        → call made (take (length ones - made) (drop made ones)) one found now next
        → Made call first wanted (made + 1) next (set ones made found)
    one_more {next = next} {found = found} calls = record {
      long = length-set ones made found ∙ had.long;
      rest = drop-set-lt (made + 1) ones made found (omega arith) ∙ same_rest;
      on = λ last others so.
          let whole : one ∷ drop (made + 1) wanted ≡ drop made wanted = cc (here, same_rest) in
          let left : take (length ones - made) (drop made ones) ≡ one ∷ drop (made + 1) wanted
          = take_all (length ones - made) (drop made ones) (omega (arith, length-drop made ones)) ∙ had.rest
          ∙ sym whole in
          rw (take_more_set ones made found low, append_snoc (take made ones) found others)
          (had.on last (found ∷ others) (rw (← whole) (next, rw left at calls, so)));
    }

  pub all_made : length ones ≤ made → InOrder call 0 wanted ones first now
  all_made end =
      subst (λ (l : List One). InOrder call 0 wanted l first now)
      (append-nil (take made ones) ∙ take_all made ones end)
      (had.on now [] (rw (drop_all made wanted (omega (arith, had.long))) refl))
