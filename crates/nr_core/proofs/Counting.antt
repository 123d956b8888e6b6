-- How many slots are where, of any core state: a retired slot stands once, the retired ones are no more than the slots,
-- and once every slot was taken the filled keys and the retired slots are all of them.
use Rattle.std.proofs.Common.{Bool, List, [], ap, arith, cond, get_or, length, refl, set, subst, suc, sym, ℕ, zero, ◌+◌}
use Rattle.std.proofs.Common.{◌<◌, ◌∙◌, ◌∷◌, ◌≡◌, ◌≤◌}
use Rattle.std.proofs.lemmas.Bool.{lt-leb}
use Rattle.std.specs.List.{count_by}
use lib.ListN.{get_elem?}
use mathlib.Core.Logic.{dite}
use mathlib.Core.Option.{some}
use native.Mathlib.Decide.{ℕ_discrete}
use Rattle.nr_model.proofs.HistoryLemmas.{count_by-cons}
use Rattle.nr_model.specs.Histories.{Entry}
use Rattle.nr_model.specs.Maps.{filled_count, is_filled_key, state_of}
use Rattle.nr_model.specs.declared.states.KeyState.{KeyState}
use Rattle.nr_core.proofs.Frames.{unused-free}
use Rattle.nr_core.proofs.Histories.{length-now}
use Rattle.nr_core.proofs.OnKey.{in_range}
use Rattle.nr_core.proofs.KeyWords.{is_named}
use Rattle.nr_core.proofs.Sums.{below-exchanged, below-few, below-fewer, below-first, below-one, below-only, below-same}
use Rattle.nr_core.proofs.Sums.{below-sum, below-zero, exchanged, only-is, only-same, only-suc, only-zero, some_term}
use Rattle.nr_core.proofs.Sums.{terms_le, total-set}
use Rattle.nr_core.specs.Core.{Core, ShowsState}
use Rattle.nr_core.specs.Roles.{is_writer, keeps, retirements, taken}
use Rattle.nr_core.specs.Slots.{name_number, named, unused}
use Rattle.nr_core.specs.Story.{map_after}
use Rattle.nr_core.specs.Sums.{below, only, total}
use Rattle.nr_core.specs.declared.places.Retired.{Retired}
use Rattle.nr_core.specs.declared.roles.Desk.{Desk}
use Rattle.nr_core.specs.declared.roles.Role.{Role}
use Rattle.nr_core.specs.declared.roles.Role.TheVariants.{Note, Writer}
use Rattle.nr_core.specs.declared.shape.Shape.{Shape}
use Rattle.nr_model.specs.declared.states.KeyState.TheVariants as key

count_below : {A : Type 0} (p : A → Bool) (d : A) (l : List A)
    → count_by p l ≡ below (λ k. cond (p (get_or l k d)) 1 0) (length l)
count_below p d [] = refl
count_below p d (x ∷ l) = search (arith, count_below p d l, below-first, count_by-cons)

-- the slots below n that were never taken
unused_below : (fresh n : ℕ) → fresh ≤ n → below (λ slot. unused slot fresh) n + fresh ≡ n
unused_below fresh zero l = omega arith
unused_below fresh (suc n) l = dite (ℕ_discrete fresh (suc n))
    (λ e.
    let none
    = below-same (λ slot. unused slot fresh) (λ _. 0) (suc n)
    (λ slot near. ap (λ b. cond {A = ℕ} b 1 0) (lt-leb fresh slot (omega arith))) in
    omega (arith, below-zero (suc n)))
    (λ ne. let u = unused-free n fresh (omega arith) in let t = unused_below fresh n (omega arith) in omega arith)

-- THE WRITER'S SLOTS

no_writers : (s : ℕ) (l : List Role) → total is_writer l ≡ 0 → total (keeps s) l ≡ 0
no_writers s [] none = refl
no_writers s (Writer desk ∷ l) none = absurd (omega arith)
no_writers s (other ∷ l) none = omega (arith, no_writers s l (omega arith))

module _ (shape : Shape) (words : List ℕ) (roles : List Role) (log : List Entry) (core : Core shape words roles log)
    (id : ℕ) (desk : Desk) (there : get_elem? roles id ≡ some (Writer desk)) where
  -- the slots that are kept are the writer's
  pub kept_slots : (s : ℕ) → total (keeps s) roles ≡ keeps s (Writer desk)
  kept_slots s =
      let fewer = total-set is_writer roles id (Writer desk) Note there in
      omega
      (arith, total-set (keeps s) roles id (Writer desk) Note there, no_writers s (set roles id Note) (omega arith))

  -- a retired slot stands once, and is not named or taken
  pub retired_once : (s : ℕ) → s < shape.slots
      → named shape words s + unused s desk.fresh + retirements s desk.retired + taken s desk.place ≡ 1
  retired_once s near = omega (arith, core.places s near, kept_slots s)

  pub retired_inside : (s : ℕ) → 0 < retirements s desk.retired → s < shape.slots
  retired_inside s l =
      let t = some_term (λ (x : Retired). only s x.slot) desk.retired l in
      subst (λ (y : ℕ). y < shape.slots) (only-is s t.1.slot t.3)
      ((core.knows id (Writer desk) there).retired t.0 t.1 t.2).0

  retired_sum : below (λ s. retirements s desk.retired) shape.slots ≡ length desk.retired
  retired_sum =
      exchanged (λ s (x : Retired). only s x.slot) desk.retired shape.slots
      ∙ each_once desk.retired (λ i x e. ((core.knows id (Writer desk) there).retired i x e).0)
    where
      each_once : (l : List Retired) → ((i : ℕ) (x : Retired) → get_elem? l i ≡ some x → x.slot < shape.slots)
          → total (λ (x : Retired). below (λ s. only s x.slot) shape.slots) l ≡ length l
      each_once [] inside = refl
      each_once (x ∷ l) inside =
          omega (arith, (below-only x.slot shape.slots).0 (inside 0 x refl), each_once l (λ i y e. inside (suc i) y e))

  -- the retired slots are no more than the slots
  pub few_retired : length desk.retired ≤ shape.slots
  few_retired =
      omega (
        arith,
        retired_sum,
        below-few (λ s. retirements s desk.retired) shape.slots (λ s near. omega (arith, retired_once s near)),
      )

  -- where some slot is not retired, they are fewer
  pub fewer_retired : (s : ℕ) → s < shape.slots → 0 < named shape words s + taken s desk.place
      → length desk.retired < shape.slots
  fewer_retired s near elsewhere =
      omega (
        arith,
        retired_sum,
        below-fewer (λ t. retirements t desk.retired) shape.slots s (λ t low. omega (arith, retired_once t low))
            near (omega (arith, retired_once s near)),
      )

  pub retired_apart : (i j : ℕ) (a b : Retired) → get_elem? desk.retired i ≡ some a → get_elem? desk.retired j ≡ some b
      → a.slot ≡ b.slot → i ≡ j
  retired_apart i j a b at_i at_j same =
      dite (ℕ_discrete i j) (λ e. e)
      (λ ne. let inside = ((core.knows id (Writer desk) there).retired i a at_i).0 in let one = only-same a.slot in
      let again : only a.slot b.slot ≡ 1 = ap (only a.slot) (sym same) ∙ one in
      absurd
      (omega (
        arith,
        retired_once a.slot inside,
        terms_le (λ (x : Retired). only a.slot x.slot) desk.retired i j a b (λ e. ne (sym e)) at_i at_j,
      )))

-- KEYS AND SLOTS

module _ (shape : Shape) (words : List ℕ) (roles : List Role) (log : List Entry)
    (core : Core shape words roles log) where
  -- a slot that a key names is in range
  pub named_inside : (k s : ℕ) → k < shape.keys → name_number (get_or words k 0) ≡ suc s → s < shape.slots
  named_inside k s near names =
      in_range shape words (get_or words k 0) (state_of (map_after shape log) k) s (core.shows k near) names

  -- and is named
  pub names_it : (k s : ℕ) → k < shape.keys → name_number (get_or words k 0) ≡ suc s → 0 < named shape words s
  names_it k s near names = is_named shape words k s near names

  one_name : (k : ℕ) → k < shape.keys
      → below (λ s. only (suc s) (name_number (get_or words k 0))) shape.slots
      ≡ cond (is_filled_key (state_of (map_after shape log) k)) 1 0
  one_name k near = go (state_of (map_after shape log) k) (core.shows k near)
    where
      w : ℕ
      w = get_or words k 0

      none : name_number w ≡ 0 → below (λ s. only (suc s) (name_number w)) shape.slots ≡ 0
      none e =
          below-same (λ s. only (suc s) (name_number w)) (λ _. 0) shape.slots (λ s _. ap (only (suc s)) e ∙ only-zero s)
          ∙ below-zero shape.slots

      go : (z : KeyState) → ShowsState shape words w z
          → below (λ s. only (suc s) (name_number w)) shape.slots ≡ cond (is_filled_key z) 1 0
      go (key.Rows number rows) t =
          below-same (λ s. only (suc s) (name_number w)) (λ s. only s t.0) shape.slots
          (λ s _. ap (only (suc s)) t.1 ∙ only-suc s t.0)
          ∙ (below-only t.0 shape.slots).0 t.2
      go other t = none t.0

  -- each filled key names one slot
  pub named_are_filled : below (named shape words) shape.slots ≡ filled_count (map_after shape log)
  named_are_filled = below-exchanged (λ s k. only (suc s) (name_number (get_or words k 0))) shape.slots shape.keys
      ∙ below-same (λ k. below (λ s. only (suc s) (name_number (get_or words k 0))) shape.slots)
      (λ k. cond (is_filled_key (state_of (map_after shape log) k)) 1 0) shape.keys one_name
      ∙ ap (below (λ k. cond (is_filled_key (state_of (map_after shape log) k)) 1 0)) (sym (length-now shape log))
      ∙ sym (count_below is_filled_key (key.Hole 0) (map_after shape log).states)

  -- while no call has taken a slot, each slot that was ever taken is named by a filled key or retired
  pub taken_are : (id : ℕ) (desk : Desk) → get_elem? roles id ≡ some (Writer desk)
      → ((s : ℕ) → taken s desk.place ≡ 0) → filled_count (map_after shape log) + length desk.retired ≡ desk.fresh
  taken_are id desk there free = omega (
    arith,
    named_are_filled,
    retired_sum shape words roles log core id desk there,
    below-sum (named shape words) (λ s. unused s desk.fresh) shape.slots,
    below-sum (λ s. named shape words s + unused s desk.fresh) (λ s. retirements s desk.retired) shape.slots,
    below-same (λ s. (named shape words s + unused s desk.fresh) + retirements s desk.retired) (λ _. 1) shape.slots
        (λ s near. omega (arith, retired_once shape words roles log core id desk there s near, free s)),
    unused_below desk.fresh shape.slots (core.knows id (Writer desk) there).room,
    below-one shape.slots,
  )

  -- once every slot was taken they are all the slots
  pub slots_are : (id : ℕ) (desk : Desk) → get_elem? roles id ≡ some (Writer desk) → shape.slots ≤ desk.fresh
      → ((s : ℕ) → taken s desk.place ≡ 0) → filled_count (map_after shape log) + length desk.retired ≡ shape.slots
  slots_are id desk there full free =
      omega (arith, taken_are id desk there free, (core.knows id (Writer desk) there).room)
