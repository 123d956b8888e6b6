-- What a step leaves of what the callers know.
use Rattle.std.proofs.Common.{subst, List, [], ap, arith, cond, get_or, le-leb, set, suc, sym, ℕ, ◌%◌, ◌*◌, ◌+◌, ◌<◌}
use Rattle.std.proofs.Common.{◌^◌, ◌∙◌, ◌≡◌, ◌≤◌, ◌∷◌, ◌++◌, refl}
use lib.ListN.{get_elem?}
use mathlib.Core.Option.{some}
use Rattle.nr_model.specs.Maps.{PartialMap, number_of, reply_at, state_after, state_of, call_key}
use Rattle.nr_model.specs.declared.rows.Row.{Row}
use Rattle.nr_model.specs.declared.states.KeyState.{KeyState}
use Rattle.nr_words.proofs.SetWordLemmas.{length-row_words}
use Rattle.nr_core.proofs.Sums.{only-same, term_le}
use Rattle.nr_core.specs.Core.{AreNumbers, AtDesk, AtPlace, Core, Knows, Grips, Reads, ShowsState, Wants}
use Rattle.nr_core.specs.Roles.{grips, keeps, taken, held, is_reader, is_writer}
use Rattle.nr_core.specs.Slots.{SlotSpells, bound_of, content, departures, name_number, unused}
use Rattle.nr_core.specs.States.{key_of}
use Rattle.nr_core.specs.Story.{map_after, opening_map}
use Rattle.nr_core.specs.Sums.{only, total}
use Rattle.nr_core.specs.declared.calls.WriterCall.{WriterCall}
use Rattle.nr_core.specs.declared.places.Place.{Place}
use Rattle.nr_core.specs.declared.places.Place.TheVariants.{Idle, Leaving, Putting, Reading, Searching, Withdrawing}
use Rattle.nr_core.specs.declared.places.Retired.{Retired}
use Rattle.nr_core.specs.declared.roles.Desk.{Desk}
use Rattle.nr_core.specs.declared.roles.Grip.{Grip}
use Rattle.nr_core.specs.declared.roles.Grip.TheVariants.{Nothing, On}
use Rattle.nr_core.specs.declared.roles.Role.TheVariants.{Writer, Note, Reader}
use Rattle.nr_core.specs.declared.shape.Shape.{Shape}
use Rattle.nr_model.specs.Histories.{Entry}
use Rattle.nr_core.specs.declared.roles.Role.{Role}
use Rattle.nr_core.proofs.Histories.{bound-after, legal-more, now-more, replies_so}
use lib.Seq.{set-get_or}
use Rattle.nr_model.specs.declared.states.KeyState.TheVariants as key

pub unused-free : (s f : ℕ) → f ≤ s → unused s f ≡ 1
unused-free s f l = ap (λ b. cond {A = ℕ} b 1 0) (le-leb f s l)

pub not_hole : (z : KeyState) (number : ℕ) (rows : List Row) → z ≡ key.Rows number rows → (other : ℕ)
    → z ≡ key.Hole other → ⊥
not_hole z number rows e other n = cc

pub asked_no_hole : (z : KeyState) (number : ℕ) → z ≡ key.Asked number → (other : ℕ) → z ≡ key.Hole other → ⊥
asked_no_hole z number e other n = cc

-- the list of numbers, where no state's number changes
pub numbers_more : (shape : Shape) (m m' : PartialMap) (numbers : List ℕ)
    → ((k : ℕ) → k < shape.keys → number_of (state_of m' k) ≡ number_of (state_of m k)) → AreNumbers shape m numbers
    → AreNumbers shape m' numbers
numbers_more shape m m' numbers same t = record { each = t.each; agree = λ k near. t.agree k near ∙ sym (same k near) }

module _ (shape : Shape) where
  pub spells_more : (words words' : List ℕ) (s : ℕ) (m : List Row)
      → ((i : ℕ) → i ≤ 2 * (bound_of shape) → get_or words' (content shape s i) 0 ≡ get_or words (content shape s i) 0)
      → SlotSpells shape words s m → SlotSpells shape words' s m
  spells_more words words' s m f t =
      (t.0, λ i l. f i (omega (arith, length-row_words m)) ∙ t.1 i l)

  pub shows_more : (words words' : List ℕ) (w : ℕ) (state : KeyState)
      → ((s i : ℕ) → name_number w ≡ suc s → s < shape.slots → i ≤ 2 * (bound_of shape)
      → get_or words' (content shape s i) 0 ≡ get_or words
      (content shape s i) 0) → ShowsState shape words w state → ShowsState shape words' w state
  shows_more words words' w (key.Rows number m) f t =
      (t.0, t.1, t.2, spells_more words words' t.0 m (λ i l. f t.0 i t.1 t.2 l) t.3)
  shows_more words words' w other f t = t

  module _ (words words' : List ℕ) (m m' : PartialMap) (hold hold' : ℕ → ℕ) where
    pub holding_more : (x : Grip) → ((s i : ℕ) → 0 < grips s x → s < shape.slots → i ≤ 2 * (bound_of shape)
        → get_or words' (content shape s i) 0 ≡ get_or words (content shape s i) 0) → Grips shape words m hold x
        → Grips shape words' m' hold' x
    holding_more Nothing f t = tt
    holding_more (On s set b) f t =
        let in_range = t.0 in
        (in_range, spells_more words words' s set (λ i l. f s i (omega (arith, only-same s)) in_range l) t.1)

    -- what a step leaves of a slot
    pub record Left (s : ℕ) : Type 0 where
      pub contents : (i : ℕ) → i ≤ 2 * (bound_of shape)
          → get_or words' (content shape s i) 0 ≡ get_or words (content shape s i) 0
      pub nobody : hold s ≡ 0 → hold' s ≡ 0
      pub deps : hold s ≡ 0 → get_or words' (departures shape s) 0 ≡ get_or words (departures shape s) 0
      pub sum : (get_or words' (departures shape s) 0 + hold' s) % 2 ^ 40
          ≡ (get_or words (departures shape s) 0 + hold s) % 2 ^ 40

    -- a slot whose words stay, and whose holders are as many
    pub left_so : (s : ℕ)
        → ((i : ℕ) → i ≤ 2 * (bound_of shape)
        → get_or words' (content shape s i) 0 ≡ get_or words (content shape s i) 0)
        → get_or words' (departures shape s) 0 ≡ get_or words (departures shape s) 0 → hold' s ≡ hold s → Left s
    left_so s contents dep still =
        record { contents = contents; nobody = λ z. still ∙ z; deps = λ _. dep; sum = rw (dep, still) refl }

    pub retired_more : (l : List Retired)
        → ((s : ℕ) → s < shape.slots → 0 < total (λ (x : Retired). only s x.slot) l → Left s)
        → ((i : ℕ) (x : Retired) → get_elem? l i ≡ some x
        → (x.slot < shape.slots)
        × (x.arrivals % 2 ^ 40 ≡ (get_or words (departures shape x.slot) 0 + hold x.slot) % 2 ^ 40))
        → (i : ℕ) (x : Retired) → get_elem? l i ≡ some x
        → (x.slot < shape.slots)
        × (x.arrivals % 2 ^ 40 ≡ (get_or words' (departures shape x.slot) 0 + hold' x.slot) % 2 ^ 40)
    retired_more l left t i x at =
        let r = t i x at in
        let one = only-same x.slot in
        (r.0, r.1 ∙ sym (left x.slot r.0 (omega (arith, term_le (λ (y : Retired). only x.slot y.slot) l i x at))).sum)

    pub free_more : (fresh : ℕ) → ((s : ℕ) → s < shape.slots → fresh ≤ s → Left s)
        → ((s : ℕ) → fresh ≤ s → s < shape.slots
        → (hold s ≡ 0) × (get_or words (departures shape s) 0 ≡ shape.first_count))
        → (s : ℕ) → fresh ≤ s → s < shape.slots
        → (hold' s ≡ 0) × (get_or words' (departures shape s) 0 ≡ shape.first_count)
    free_more fresh left t s from near = search arith

    module _ (names : (k : ℕ) → k < shape.keys → name_number (get_or words' k 0) ≡ name_number (get_or words k 0))
        (stays : (k : ℕ) → ((number : ℕ) → state_of m k ≡ key.Hole number → ⊥) → state_of m' k ≡ state_of m k) where
      pub wants_more : (call : WriterCall) (rows : List Row) → Wants shape words m hold call rows
          → Wants shape words' m' hold' call rows
      wants_more call rows t = search (arith, t.no_hole, t.done, t.leaves)

      pub reads_more : (k s : ℕ) (got : List ℕ) → Reads shape words m hold k s got → Reads shape words' m' hold' k s got
      reads_more k s got t =
          search (names k t.near ∙ t.names, stays k (not_hole (state_of m k) t.number t.rows t.full) ∙ t.full, t)

      pub place_more : (fresh : ℕ) (l : List Retired) (p : Place) → ((s : ℕ) → s < shape.slots → 0 < taken s p → Left s)
          → AtPlace shape words m hold fresh l p → AtPlace shape words' m' hold' fresh l p
      place_more fresh l Idle left t = tt
      place_more fresh l (Reading call s got) left t = reads_more (key_of call) s got t
      place_more fresh l (Leaving k) left t = (t.0, reads_more k t.0 [] t.1)
      place_more fresh l (Withdrawing k) left t =
          search (stays k (asked_no_hole (state_of m k) t.number t.asked) ∙ t.asked, t)
      place_more fresh l (Searching call rows p) left t = (wants_more call rows t.0, t.1, t.2)
      place_more fresh l (Putting call rows s departed i) left t =
          let one = only-same s in
          let le = left s t.inside (omega arith) in
          let within = t.within in
          record {
            wants = wants_more call rows t.wants;
            inside = t.inside;
            nobody = le.nobody t.nobody;
            counted = le.deps t.nobody ∙ t.counted;
            within = t.within;
            put = λ j low. le.contents j (omega (arith, length-row_words rows)) ∙ t.put j low;
          }

      pub desk_more : (desk : Desk) → ((k : ℕ) → number_of (state_of m' k) ≡ number_of (state_of m k))
          → ((s : ℕ) → s < shape.slots → 0 < keeps s (Writer desk) → Left s) → AtDesk shape words m hold desk
          → AtDesk shape words' m' hold' desk
      desk_more desk same_number left t = search (
        place_more desk.fresh desk.retired desk.place (λ s in_range mine. left s in_range (omega arith)) t.place,
        free_more desk.fresh (λ s near from. let u = unused-free s desk.fresh from in left s near (omega arith)) t.free,
        retired_more desk.retired (λ s near mine. left s near (omega arith)) t.retired,
        numbers_more shape m m' desk.numbers (λ k _. same_number k) t.numbers,
        t,
      )

      -- what any caller knows
      pub knows_more : (u : Role) → ((k : ℕ) → number_of (state_of m' k) ≡ number_of (state_of m k))
          → ((s : ℕ) → s < shape.slots → 0 < keeps s u → Left s)
          → ((s i : ℕ) → i ≤ 2 * (bound_of shape)
          → get_or words' (content shape s i) 0 ≡ get_or words (content shape s i) 0)
          → Knows shape words m hold u → Knows shape words' m' hold' u
      knows_more (Writer desk) same_number left same t = desk_more desk same_number left t
      knows_more (Reader reader grip) same_number left same t = holding_more grip (λ s i _ _ low. same s i low) t
      knows_more Note same_number left same t = tt

-- what the writer knows at a place
pub stands_at : {shape : Shape} {words : List ℕ} {roles : List Role} {log : List Entry} → Core shape words roles log
    → (id : ℕ) {desk : Desk} → get_elem? roles id ≡ some (Writer desk) → {place : Place} → desk.place ≡ place
    → AtPlace shape words (map_after shape log) (held roles) desk.fresh desk.retired place
stands_at {shape = shape} {words = words} {roles = roles} {log = log} core id {desk = desk} there {place = place} is =
    subst (AtPlace shape words (map_after shape log) (held roles) desk.fresh desk.retired) is
    (core.knows id (Writer desk) there).place

-- other roles that hold and keep the same slots, and of which each knows what it should
pub roles_more : {shape : Shape} {words : List ℕ} {roles : List Role} {log : List Entry}
    → Core shape words roles log → (roles' : List Role) → ((s : ℕ) → held roles' s ≡ held roles s)
    → ((s : ℕ) → s < shape.slots → total (keeps s) roles' ≡ total (keeps s) roles) → total is_writer roles' ≤ 1
    → total is_reader roles' ≤ shape.readers
    → ((id : ℕ) (role : Role) → get_elem? roles' id ≡ some role
    → Knows shape words (map_after shape log) (held roles) role)
    → Core shape words roles' log
roles_more {roles} core roles' still keeping one few knows =
    let same : held roles' ≡ held roles = λ j s. still s j in
    search (arith, core.shows, core.places, core.counts, keeping, knows, same, still)

-- an entry that leaves its key's state
pub entry_more : {shape : Shape} {words : List ℕ} {roles : List Role} {log : List Entry} → Core shape words roles log
    → (e : Entry) → let state = state_of (map_after shape log) (call_key e.call) in
    e.reply ≡ reply_at (bound_of shape) e.call state → state_after (bound_of shape) e.call state ≡ state
    → Core shape words roles (log ++ e ∷ [])
entry_more {shape} {log = log} core e replies stays =
    let map = map_after shape log in
    let k = call_key e.call in
    let kept : set map.states k (state_after map.bound e.call (state_of map k)) ≡ map.states
    = ap (λ b. set map.states k (state_after b e.call (state_of map k))) (bound-after log (opening_map shape))
    ∙ ap (set map.states k) stays ∙ set-get_or map.states k (key.Hole 0) in
    let same : map_after shape (log ++ e ∷ []) ≡ map
    = now-more shape log e ∙ ap (λ (states : List KeyState). record { bound = map.bound; states = states }) kept in
    let legal = legal-more shape log e core.legal (replies ∙ sym (replies_so shape log e.call)) in
    search (legal, same, core.shows, core.knows, core)
