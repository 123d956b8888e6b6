-- In every state the writer's lists are as they should be: put numbers of named and retired slots differ, and the lists
-- agree with the history, so the put numbers that they give to the filled keys are the history's.
use Rattle.std.proofs.Common.{List, [], ap, arith, false, get_or, length, map, refl, subst, suc, sym, true, zero, ℕ}
use Rattle.std.proofs.Common.{⊎_elim, ◌<◌, ◌∙◌, ◌∷◌, ◌≡◌, ◌≤◌, ◌+◌, ◌-◌, cond, nat_eq, Bool}
use lib.ListN.{get_elem?}
use mathlib.Core.Logic.{dite}
use mathlib.Core.Option.{some, some-injective, some-ne-none}
use native.Mathlib.Decide.{ℕ_discrete}
use Rattle.nr_model.specs.Histories.{Entry}
use Rattle.nr_model.specs.Maps.{is_filled_key, state_of}
use Rattle.nr_model.specs.declared.states.KeyState.{KeyState}
use Rattle.nr_core.proofs.Counting.{named_inside, retired_once, taken_are}
use Rattle.nr_core.proofs.KeyWords.{is_named}
use Rattle.nr_core.proofs.Sums.{only-is, only-le, only-other, only-same, some_term, term_le, below-first, below-same}
use Rattle.nr_core.specs.Core.{Core, ShowsState}
use Rattle.nr_core.specs.Slots.{name_number, named}
use Rattle.nr_core.specs.Story.{map_after}
use Rattle.nr_core.specs.Sums.{only, total, below}
use Rattle.nr_core.specs.declared.places.Retired.{Retired}
use Rattle.nr_core.specs.declared.roles.Desk.{Desk}
use Rattle.nr_core.specs.declared.roles.Role.{Role}
use Rattle.nr_core.specs.declared.roles.Role.TheVariants.{Writer}
use Rattle.nr_core.specs.declared.shape.Shape.{Shape}
use Rattle.nr_core.specs.Puts.{put_count, put_number}
use Rattle.nr_core.specs.Marks.{Marks}
use Rattle.nr_core.specs.Pasts.{Living}
use Rattle.nr_core.specs.Marked.{Desked, lives}
use Rattle.nr_core.specs.Exact.{Lists, Tidy, named_puts, retired_puts, filled_puts}
use Rattle.nr_core.proofs.ListPlaces.{at_maps, inside}
use Rattle.nr_model.proofs.HistoryLemmas.{count_by-cons}
use Rattle.nr_model.specs.Strays.{count_of_put, strays, keyed}
use Rattle.std.specs.List.{range_with_len}
use Rattle.nr_core.proofs.Choices.{by_cases}
use Rattle.nr_core.proofs.Histories.{length-now}
use Rattle.nr_model.specs.declared.states.KeyState.TheVariants as key

-- Counts in lists of put numbers as sums, and the strays by such counts.

abbrev pub how_often : ℕ → List ℕ → ℕ
how_often number numbers = total (only number) numbers

pub count_is : (numbers : List ℕ) (number : ℕ) → count_of_put numbers number ≡ how_often number numbers
count_is [] number = refl
count_is (x ∷ xs) number =
    omega (arith, count_is xs number, count_by-cons (λ other. nat_eq other number) x xs)

-- the strays, counted so: 1 for a number that is none of the later ones' and no key's
abbrev pub stray_count : List ℕ → List ℕ → ℕ
stray_count keys [] = 0
stray_count keys (q ∷ qs) = 1 - (how_often q qs + how_often q keys) + stray_count keys qs

pub strays_count : (keys qs : List ℕ) → strays keys qs ≡ stray_count keys qs
strays_count keys [] = refl
strays_count keys (q ∷ qs) =
    omega (
      arith,
      none (count_of_put qs q + count_of_put keys q),
      strays_count keys qs,
      count_is qs q,
      count_is keys q,
    )
  where
    none : (n : ℕ) → only 0 n ≡ 1 - n
    none n =
        dite (ℕ_discrete n 0) (λ z. omega (arith, ap (only 0) z)) (λ nz. omega (arith, only-other 0 n nz))

-- In every state the writer's lists are as they should be: put numbers of named and retired slots differ, and the lists
-- agree with the history.

pub below-list : (f : ℕ → ℕ) (l : List ℕ) → total f l ≡ below (λ i. f (get_or l i 0)) (length l)
below-list f [] = refl
below-list f (x ∷ xs) =
    omega (arith, below-list f xs, below-first (λ i. f (get_or (x ∷ xs) i 0)) (length xs))

total-le_at : {A : Type 0} (f g : A → ℕ) (l : List A) → ((i : ℕ) (a : A) → get_elem? l i ≡ some a → f a ≤ g a)
    → total f l ≤ total g l
total-le_at f g [] each = omega arith
total-le_at f g (x ∷ xs) each =
    omega (arith, each 0 x refl, total-le_at f g xs (λ i a e. each (suc i) a e))

at_or : (l : List ℕ) (i a : ℕ) → get_elem? l i ≡ some a → get_or l i 0 ≡ a
at_or [] i a e = absurd (some-ne-none a (sym e))
at_or (x ∷ xs) zero a e = some-injective x a e
at_or (x ∷ xs) (suc i) a e = at_or xs i a e

-- 1 where the name is of a slot with that put number
abbrev pub name_has : List ℕ → ℕ → ℕ → ℕ
name_has puts number zero = 0
name_has puts number (suc slot) = only number (get_or puts slot 0)

pub named_often : (puts names : List ℕ) (number : ℕ)
    → how_often number (named_puts puts names) ≡ total (name_has puts number) names
named_often puts [] number = refl
named_often puts (zero ∷ names) number = let t = named_often puts names number in omega arith
named_often puts (suc slot ∷ names) number = let t = named_often puts names number in omega arith

retired_often : (puts : List ℕ) (l : List Retired) (number : ℕ)
    → how_often number (retired_puts puts l) ≡ total (λ (x : Retired). only number (get_or puts x.slot 0)) l
retired_often puts [] number = refl
retired_often puts (x ∷ xs) number = let t = retired_often puts xs number in omega arith

name_has-le : (puts : List ℕ) (number n : ℕ) → name_has puts number n ≤ 1
name_has-le puts number zero = omega arith
name_has-le puts number (suc slot) = only-le number (get_or puts slot 0)

name_has-is : (puts : List ℕ) (number n : ℕ) → 0 < name_has puts number n
    → (slot : ℕ) × (n ≡ suc slot) × (get_or puts slot 0 ≡ number)
name_has-is puts number zero l = absurd (omega arith)
name_has-is puts number (suc slot) l = (slot, refl, only-is number (get_or puts slot 0) l)

shown_empty : (shape : Shape) (words : List ℕ) (w : ℕ) (state : KeyState) → ShowsState shape words w state
    → name_number w ≡ 0 → is_filled_key state ≡ false
shown_empty shape words w (key.Rows number rows) t e = absurd (let z = t.1 in omega arith)
shown_empty shape words w other t e = refl

shown_full : (shape : Shape) (words : List ℕ) (w : ℕ) (state : KeyState) (slot : ℕ) → ShowsState shape words w state
    → name_number w ≡ suc slot → is_filled_key state ≡ true
shown_full shape words w (key.Rows number rows) slot t e = refl
shown_full shape words w other slot t e = absurd (let z = t.0 in omega arith)

module _ {A : Type 0} (role : A → Role) (marks : A → Marks) (shape : Shape) (words : List ℕ) (callers : List A)
    (log : List Entry) (id : ℕ) (me : A)
    (desk : Desk) (core : Core shape words (map role callers) log) (at : get_elem? callers id ≡ some me)
    (was : role me ≡ Writer desk)
    (own : Desked role marks shape words callers log desk (marks me)) where
  there : get_elem? (map role callers) id ≡ some (Writer desk)
  there = at_maps role callers id me at ∙ ap some was

  name_at : (i n : ℕ) → get_elem? (marks me).names i ≡ some n → (i < shape.keys) × (name_number (get_or words i 0) ≡ n)
  name_at i n e = search (arith, inside, at_or)

  by_name : (i s : ℕ) → i < shape.keys → name_number (get_or words i 0) ≡ suc s
      → (s < shape.slots) × (0 < lives shape words desk s)
  by_name i s near e =
      (named_inside shape words (map role callers) log core i s near e, omega (arith, is_named shape words i s near e))

  by_rest : (i : ℕ) (entry : Retired) → get_elem? desk.retired i ≡ some entry
      → (entry.slot < shape.slots) × (0 < lives shape words desk entry.slot)
  by_rest i entry e =
      let t = term_le (λ (x : Retired). only entry.slot x.slot) desk.retired i entry e in
      (((core.knows id (Writer desk) there).retired i entry e).0, omega (arith, only-same entry.slot))

  alive : (s : ℕ) → Living desk.retired (marks me) s → (s < shape.slots) × (0 < lives shape words desk s)
  alive s l =
      ⊎_elim
      (λ (t : (i : ℕ) × (i < length (marks me).names) × (get_or (marks me).names i 0 ≡ suc s)).
      let near : t.0 < shape.keys = omega arith in by_name t.0 s near (sym (own.names t.0 near) ∙ t.2))
      (λ (t : (i : ℕ) × (entry : Retired) × (get_elem? desk.retired i ≡ some entry) × (entry.slot ≡ s)).
      let r = by_rest t.0 t.1 t.2 in let e = t.3 in
      subst (λ (y : ℕ). (y < shape.slots) × (0 < lives shape words desk y)) e r) l

  -- a slot has one place
  one_place : (s : ℕ) → s < shape.slots → lives shape words desk s ≤ 1
  one_place s l = let p = retired_once shape words (map role callers) log core id desk there s l in omega arith

  -- how often a put number is a named slot's, and a retired one's
  abbrev names_with : ℕ → ℕ
  names_with number = total (name_has (marks me).puts number) (marks me).names

  abbrev rests_with : ℕ → ℕ
  rests_with number = total (λ (x : Retired). only number (get_or (marks me).puts x.slot 0)) desk.retired

  named_so : (s : ℕ) → total (only (suc s)) (marks me).names ≡ named shape words s
  named_so s = search (arith, below-list, below-same)

  -- a slot that lives and has the number is the only one
  only_it : (number s : ℕ) → (s < shape.slots) × (0 < lives shape words desk s) → get_or (marks me).puts s 0 ≡ number
      → names_with number + rests_with number ≤ 1
  only_it number s here is = omega (
    arith,
    total-le_at (name_has (marks me).puts number) (only (suc s)) (marks me).names (λ i n e.
        dite (ℕ_discrete (name_has (marks me).puts number n) 0) (λ z. omega arith) (λ nz.
        let a = name_has-is (marks me).puts number n (omega arith) in
        let at = name_at i n e in
        let there = by_name i a.0 at.0 (at.1 ∙ a.1) in
        let same : a.0 ≡ s = own.apart a.0 s there.0 here.0 there.1 here.1 (a.2 ∙ sym is) in
        omega (arith, name_has-le (marks me).puts number n, ap (only (suc s)) (a.1 ∙ ap suc same), only-same (suc s)))),
    total-le_at (λ (x : Retired). only number (get_or (marks me).puts x.slot 0)) (λ (x : Retired). only s x.slot)
        desk.retired (λ i x e.
        dite (ℕ_discrete (only number (get_or (marks me).puts x.slot 0)) 0) (λ z. omega arith) (λ nz.
        let has = only-is number (get_or (marks me).puts x.slot 0) (omega arith) in
        let there = by_rest i x e in
        let same : x.slot ≡ s = own.apart x.slot s there.0 here.0 there.1 here.1 (has ∙ sym is) in
        omega (arith, only-le number (get_or (marks me).puts x.slot 0), ap (only s) same, only-same s))),
    named_so s,
    one_place s here.0,
  )

  one_with : (number : ℕ) → names_with number + rests_with number ≤ 1
  one_with number = search (arith, some_term, only_it, by_rest, only-is, name_has-is, name_at, by_name)

  pub tidy : Tidy desk.retired (marks me) (put_count log)
  tidy = record {
    once = λ number.
        let e = retired_often (marks me).puts desk.retired number in
        let f = count_is (named_puts (marks me).puts (marks me).names) number in
        let g = count_is (retired_puts (marks me).puts desk.retired) number in
        omega (arith, one_with number, named_often (marks me).puts (marks me).names number);
    apart = λ s t l m e. let a = alive s l in let b = alive t m in own.apart s t a.0 b.0 a.1 b.1 e;
    fresh = λ s l. let a = alive s l in own.fresh s a.0 a.1;
  }

  pub listed : Lists desk (marks me) shape log
  listed = record {
    tidy = tidy;
    wide = own.wide.0;
    room = (core.knows id (Writer desk) there).room;
    slots = taken_are shape words (map role callers) log core id desk there;
    empty = λ i l e. shown_empty shape words (get_or words i 0) (state_of (map_after shape log) i) (core.shows i l)
        (sym (own.names i l) ∙ e);
    full = λ i s l e.
        let n : name_number (get_or words i 0) ≡ suc s = sym (own.names i l) ∙ e in (
          shown_full shape words (get_or words i 0) (state_of (map_after shape log) i) s (core.shows i l) n,
          (own.puts i s l n).0,
        );
  }

-- The put numbers that the writer's lists give to the filled keys are those of the history.

-- the put numbers of the filled keys, of the states of the keys from `at` on
abbrev puts_from : List Entry → ℕ → List KeyState → List ℕ
puts_from log at states = keyed states (map (put_number log) (range_with_len at (length states)))

-- 1 where the key is filled and has that put number
abbrev key_has : List Entry → ℕ → Bool → ℕ → ℕ
key_has log number filled at = cond filled (only number (put_number log at)) 0

-- names that are of the filled keys, one by one, have their put numbers as often
puts_from_often : (number : ℕ) (puts names : List ℕ) (log : List Entry) (at : ℕ) (states : List KeyState)
    → length names ≡ length states
    → ((i : ℕ) → i < length names → name_has puts number (get_or names i 0)
    ≡ key_has log number (is_filled_key (get_or states i (key.Hole 0))) (at + i))
    → total (name_has puts number) names ≡ how_often number (puts_from log at states)
puts_from_often number puts [] log at [] size each = refl
puts_from_often number puts [] log at (state ∷ states) size each = absurd (omega arith)
puts_from_often number puts (name ∷ names) log at [] size each = absurd (omega arith)
puts_from_often number puts (name ∷ names) log at (state ∷ states) size each =
    let here = each 0 (omega arith) in
    let at_first : at + 0 ≡ at = omega arith in
    let first = ap (key_has log number (is_filled_key state)) at_first in
    let later = puts_from_often number puts names log (at + 1) states (omega arith) (λ i low.
    let shift : at + suc i ≡ at + 1 + i = omega arith in
    each (suc i) (omega arith) ∙ ap (key_has log number (is_filled_key (get_or states i (key.Hole 0)))) shift) in
    let head = by_cases
    (λ b. how_often number
    (cond b (put_number log at ∷ puts_from log (at + 1) states) (puts_from log (at + 1) states))
    ≡ key_has log
    number b at + how_often number (puts_from log (at + 1) states)) (is_filled_key state) (λ _. refl)
    (λ _. omega arith) in
    omega arith

name_is_key : (desk : Desk) (marks : Marks) (shape : Shape) (log : List Entry) → Lists desk marks shape log
    → (number at name : ℕ) → at < shape.keys
    → get_or marks.names at 0 ≡ name
    → name_has marks.puts number name ≡ key_has log number (is_filled_key (state_of (map_after shape log) at)) at
name_is_key desk marks shape log lists number at zero near e =
    sym (ap (λ b. key_has log number b at) (lists.empty at near e))
name_is_key desk marks shape log lists number at (suc slot) near e =
    let f = lists.full at slot near e in
    ap (only number) f.1 ∙ sym (ap (λ b. key_has log number b at) f.0)

pub named_are_filled_puts : (desk : Desk) (marks : Marks) (shape : Shape) (log : List Entry)
    → Lists desk marks shape log → (number : ℕ)
    → how_often number (named_puts marks.puts marks.names) ≡ how_often number (filled_puts shape log)
named_are_filled_puts desk marks shape log lists number = named_often marks.puts marks.names number
    ∙ puts_from_often number marks.puts marks.names log 0 (map_after shape log).states
    (lists.wide ∙ sym (length-now shape log))
    (λ i low.
    let shift : i ≡ 0 + i = omega arith in
    name_is_key desk marks shape log lists number i (get_or marks.names i 0) (omega (arith, lists.wide)) refl
    ∙ ap (key_has log number (is_filled_key (state_of (map_after shape log) i))) shift)
    ∙ ap (λ (n : ℕ). how_often number (keyed (map_after shape log).states (map (put_number log) (range_with_len 0 n))))
    (length-now shape log)

strays_same : (keys keys' qs : List ℕ) → ((q : ℕ) → how_often q keys ≡ how_often q keys')
    → stray_count keys qs ≡ stray_count keys' qs
strays_same keys keys' [] h = refl
strays_same keys keys' (q ∷ qs) h = omega (arith, h q, strays_same keys keys' qs h)

-- the strays by the history alone: pinned put numbers that no filled key has
pub strays_by_history : (desk : Desk) (marks : Marks) (shape : Shape) (log : List Entry) (pinned : List ℕ)
    → Lists desk marks shape log
    → strays (named_puts marks.puts marks.names) pinned ≡ strays (filled_puts shape log) pinned
strays_by_history desk marks shape log pinned lists = search (arith, strays_count, strays_same, named_are_filled_puts)
