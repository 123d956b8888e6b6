-- A step on one word that leaves each slot in its place keeps all that stands: a reader's on a key's word that leaves
-- what the word names, one on a word behind the keys' words, and a reader's on a slot's departures, which counts as the
-- reader's hold changes.
use Rattle.std.proofs.Common.{List, ap, arith, get_or, get_or-set_other, get_or-set_same, length-set, set, subst, suc}
use Rattle.std.proofs.Common.{sym, ℕ, ⊎_elim, ◌%◌, ◌+◌, ◌<◌, ◌^◌, ◌∙◌, ◌≡◌, ◌≢◌, refl, Bool, [], cond, false, true, ◌*◌}
use Rattle.std.proofs.Common.{◌≤◌}
use lib.ListN.{get_elem?}
use mathlib.Core.Logic.{dite}
use mathlib.Core.Option.{some}
use native.Mathlib.Decide.{ℕ_discrete}
use Rattle.nr_model.specs.Histories.{Entry, IsLegal, after}
use Rattle.nr_model.specs.Maps.{number_of, state_of, PartialMap}
use Rattle.nr_model.specs.declared.states.KeyState.{KeyState}
use Rattle.nr_words.specs.KeyWords.{arrivals_of}
use Rattle.nr_core.proofs.Frames.{Left, holding_more, shows_more, knows_more, left_so, roles_more}
use Rattle.nr_core.proofs.KeyWords.{is_named}
use Rattle.nr_core.proofs.Sums.{at_set, below-terms, only-same, term_le, total-set, below-change, below-same, terms_le}
use Rattle.nr_core.specs.Core.{Core, Grips, Knows, ShowsState}
use Rattle.nr_core.specs.Roles.{grips, held, holds, is_reader, is_writer, keeps}
use Rattle.nr_core.specs.Slots.{content, departures, name_number, bound_of, named}
use Rattle.nr_core.specs.Story.{map_after, opening_map, shown}
use Rattle.nr_core.specs.Sums.{only, total}
use Rattle.nr_core.specs.declared.roles.Grip.{Grip}
use Rattle.nr_core.specs.declared.roles.Role.{Role}
use Rattle.nr_core.specs.declared.roles.Role.TheVariants.{Reader, Note, Writer}
use Rattle.nr_core.specs.declared.shape.Shape.{Shape}
use Rattle.nr_core.specs.declared.roles.Desk.{Desk}
use lib.Seq.{set-get_or}
use Rattle.nr_core.proofs.WordPlaces.{content_apart, departures_inside, same_departures}
use Rattle.nr_model.specs.declared.states.KeyState.TheVariants as key

-- A reader's step on a key's word that leaves what the word names: it keeps all that stands.

-- a slot that a key names is in range
pub in_range : (shape : Shape) (words : List ℕ) (w : ℕ) (state : KeyState) (s : ℕ) → ShowsState shape words w state
    → name_number w ≡ suc s → s < shape.slots
in_range shape words w (key.Rows number m) s t e = let same = t.1 in let l = t.2 in omega arith
in_range shape words w other s t e = absurd (omega (arith, t.0))

-- two keys name different slots
pub apart : (shape : Shape) (words : List ℕ) (roles : List Role) (log : List Entry) → Core shape words roles log
    → (j k s : ℕ) → j < shape.keys
    → k < shape.keys → j ≢ k → name_number (get_or words j 0) ≡ suc s → name_number (get_or words k 0) ≢ suc s
apart shape words roles log core j k s l near ne e z =
    let r = in_range shape words (get_or words j 0) (state_of (map_after shape log) j) s (core.shows j l) e in
    let one : only (suc s) (name_number (get_or words j 0)) ≡ 1 = ap (only (suc s)) e ∙ only-same (suc s) in
    let two : only (suc s) (name_number (get_or words k 0)) ≡ 1 = ap (only (suc s)) z ∙ only-same (suc s) in
    absurd
    (omega (
      arith,
      below-terms (λ y. only (suc s) (name_number (get_or words y 0))) shape.keys j k l near ne,
      core.places s r,
    ))

-- what is kept by a role is kept by all
pub kept_by : (s : ℕ) (roles : List Role) (j : ℕ) (u : Role) → get_elem? roles j ≡ some u → 0 < keeps s u
    → 0 < total (keeps s) roles
kept_by s roles j u at l = let part = term_le (keeps s) roles j u at in omega arith

-- a step on a key's word, after which it may name another slot
pub key_step : {shape : Shape} {words : List ℕ} {roles : List Role} {log : List Entry}
    (core : Core shape words roles log) (log' : List Entry) (id : ℕ) {r : Role} (r' : Role) (k x : ℕ)
    → k < shape.keys → get_elem? roles id ≡ some r → is_writer r' ≡ is_writer r → is_reader r' ≡ is_reader r
    → IsLegal (opening_map shape) log'
    → ((j : ℕ) → j ≢ k → state_of (map_after shape log') j ≡ state_of (map_after shape log) j)
    → ShowsState shape words x (state_of (map_after shape log') k)
    → ((s : ℕ) → s < shape.slots
    → keeps s r' + only (suc s) (name_number x) ≡ keeps s r + only (suc s) (name_number (get_or words k 0)))
    → ((s : ℕ) → name_number x ≡ suc s
    → arrivals_of x % 2 ^ 40 ≡ (get_or words (departures shape s) 0 + held (set roles id r') s) % 2 ^ 40)
    → ((j s : ℕ) → j < shape.keys → j ≢ k → name_number (get_or words j 0) ≡ suc s
    → held (set roles id r') s ≡ held roles s)
    → ((j : ℕ) (u : Role) → j ≢ id → get_elem? roles j ≡ some u → Knows shape words (map_after shape log) (held roles) u
    → Knows shape (set words k x) (map_after shape log') (held (set roles id r')) u)
    → Knows shape (set words k x) (map_after shape log') (held (set roles id r')) r'
    → Core shape (set words k x) (set roles id r') log'
key_step {shape} {words} {roles} {log} core log' id {r} r' k x near at w-same r-same legal states shown keeping counted
    still others own =
    let words' = set words k x in
    let roles' = set roles id r' in
    let map' = map_after shape log' in
    let wide = core.wide in let fits = core.fits.bound in
    let other : (j : ℕ) → j ≢ k → get_or words' j 0 ≡ get_or words j 0 = λ j ne. get_or-set_other words k j x 0 ne in
    let here : get_or words' k 0 ≡ x = get_or-set_same words k x 0 (omega arith) in
    let dep : (s : ℕ) → get_or words' (departures shape s) 0 ≡ get_or words (departures shape s) 0
    = λ s. other (departures shape s) (λ e. omega arith) in
    let still_shown : (w : ℕ) (z : KeyState) → ShowsState shape words w z → ShowsState shape words' w z
    = λ w z. shows_more shape words words' w z (λ s i _ _ _. other (content shape s i) (λ e. omega arith)) in
    record {
      fits = core.fits;
      wide = length-set words k x ∙ wide;
      legal = legal;
      shows = λ j l. dite (ℕ_discrete j k) (λ e. rw e (rw here (still_shown x (state_of map' k) shown)))
          (λ ne. rw (other j ne) (rw (states j ne)
          (still_shown (get_or words j 0) (state_of (map_after shape log) j) (core.shows j l))));
      places = λ s l.
          let change
          = below-change (λ j. only (suc s) (name_number (get_or words' j 0)))
          (λ j. only (suc s) (name_number (get_or words j 0))) shape.keys k near
          (λ j ne. ap (λ (y : ℕ). only (suc s) (name_number y)) (other j ne)) in
          let at-k = ap (λ (y : ℕ). only (suc s) (name_number y)) here in
          omega (arith, core.places s l, total-set (keeps s) roles id r r' at, keeping s l);
      counts = λ j s l e. dite (ℕ_discrete j k)
          (λ z.
          let w : get_or words' j 0 ≡ x = ap (λ (y : ℕ). get_or words' y 0) z ∙ here in
          cc (w, counted s (ap name_number (sym w) ∙ e), dep s))
          (λ ne.
          let e' : name_number (get_or words j 0) ≡ suc s = ap name_number (sym (other j ne)) ∙ e in
          cc (other j ne, core.counts j s l e', dep s, still j s l ne e'));
      knows = λ j u there. ⊎_elim (λ (t : (j ≡ id) × (r' ≡ u)). subst (Knows shape words' map' (held roles')) t.1 own)
          (λ (t : (j ≢ id) × (get_elem? roles j ≡ some u)). others j u t.0 t.1 (core.knows j u t.1))
          (at_set roles id j r' u there);
      one = omega (arith, total-set is_writer roles id r r' at, core.one);
      few = omega (arith, total-set is_reader roles id r r' at, core.few);
    }

-- a reader's step on a key's word that leaves what the word names
pub on_key : {shape : Shape} {words : List ℕ} {roles : List Role} {log : List Entry} (core : Core shape words roles log)
    (log' : List Entry) (id c : ℕ) (before after : Grip) (k x : ℕ)
    → k < shape.keys → get_elem? roles id ≡ some (Reader c before) → name_number x ≡ name_number (get_or words k 0)
    → IsLegal (opening_map shape) log'
    → ((j : ℕ) → j ≢ k → state_of (map_after shape log') j ≡ state_of (map_after shape log) j)
    → ((j : ℕ) → number_of (state_of (map_after shape log') j) ≡ number_of (state_of (map_after shape log) j))
    → ((j : ℕ) → ((number : ℕ) → state_of (map_after shape log) j ≡ key.Hole number → ⊥)
    → state_of (map_after shape log') j ≡ state_of (map_after shape log) j)
    → ShowsState shape words x (state_of (map_after shape log') k)
    → Grips shape words (map_after shape log) (held roles) after
    → ((s : ℕ) → name_number (get_or words k 0) ≢ suc s → grips s after ≡ grips s before)
    → ((s : ℕ) → name_number (get_or words k 0) ≡ suc s
    → arrivals_of x % 2 ^ 40
    ≡ (get_or words (departures shape s) 0 + held (set roles id (Reader c after)) s) % 2 ^ 40)
    → Core shape (set words k x) (set roles id (Reader c after)) log'
on_key {shape = shape} {words = words} {roles = roles} {log = log} core log' id c before after k x near at same-name
    legal states same-number stays shown own quiet counted =
    let words' = set words k x in
    let roles' = set roles id (Reader c after) in
    let map = map_after shape log in
    let map' = map_after shape log' in
    let wide = core.wide in
    let names : (j : ℕ) → name_number (get_or words' j 0) ≡ name_number (get_or words j 0) = λ j. dite (ℕ_discrete j k)
    (λ e. rw e (ap name_number (get_or-set_same words k x 0 (omega arith)) ∙ same-name))
    (λ ne. ap name_number (get_or-set_other words k j x 0 ne)) in
    let conts : (s i : ℕ) → get_or words' (content shape s i) 0 ≡ get_or words (content shape s i) 0
    = λ s i. get_or-set_other words k (content shape s i) x 0 (λ e. omega arith) in
    let still : (s : ℕ) → name_number (get_or words k 0) ≢ suc s → held roles' s ≡ held roles s
    = λ s ne. omega (arith, total-set (holds s) roles id (Reader c before) (Reader c after) at, quiet s ne) in
    let unnamed : (s : ℕ) → s < shape.slots → 0 < total (keeps s) roles → name_number (get_or words k 0) ≢ suc s
    = λ s l kept e. omega (arith, is_named shape words k s near e, core.places s l) in
    let left : (s : ℕ) → s < shape.slots → 0 < total (keeps s) roles
    → Left shape words words' map map' (held roles) (held roles') s
    = λ s l kept. left_so shape words words' map map' (held roles) (held roles') s (λ i _. conts s i)
    (get_or-set_other words k (departures shape s) x 0 (λ e. omega arith)) (still s (unnamed s l kept)) in
    key_step core log' id (Reader c after) k x near at refl refl legal states shown
    (λ s _. omega (arith, ap (only (suc s)) same-name)) (λ s e. counted s (sym same-name ∙ e))
    (λ j s l ne e. still s (apart shape words roles log core j k s l near ne e))
    (λ j u _ there. knows_more shape words words' map map' (held roles) (held roles') (λ y _. names y) stays u
    same-number (λ s l kept. left s l (kept_by s roles j u there kept)) (λ s i _. conts s i))
    (holding_more shape words words' map map' (held roles) (held roles') after (λ s i _ _ _. conts s i) own)

-- A step on a word behind the keys' words, which leaves each slot in its place: it keeps all that stands.

-- a step on a word behind the keys, which keeps each slot's place
pub off_keys : {shape : Shape} {words : List ℕ} {roles : List Role} {log : List Entry}
    (core : Core shape words roles log) (id : ℕ) {r : Role} (r' : Role) (i x : ℕ)
    → shape.keys ≤ i → get_elem? roles id ≡ some r → is_writer r' ≡ is_writer r → is_reader r' ≡ is_reader r
    → ((s : ℕ) → s < shape.slots → keeps s r' ≡ keeps s r)
    → ((s j : ℕ) → s < shape.slots → j ≤ 2 * (bound_of shape) → 0 < named shape words s
    → get_or (set words i x) (content shape s j) 0 ≡ get_or words (content shape s j) 0)
    → ((s : ℕ) → s < shape.slots → 0 < named shape words s
    → (get_or (set words i x) (departures shape s) 0 + held (set roles id r') s) % 2 ^ 40
    ≡ (get_or words (departures shape s) 0 + held roles s) % 2 ^ 40)
    → ((j : ℕ) (u : Role) → j ≢ id → get_elem? roles j ≡ some u → Knows shape words (map_after shape log) (held roles) u
    → Knows shape (set words i x) (map_after shape log) (held (set roles id r')) u)
    → Knows shape (set words i x) (map_after shape log) (held (set roles id r')) r'
    → Core shape (set words i x) (set roles id r') log
off_keys {shape} {words} {roles} {log} core id {r} r' i x behind at w-same r-same keeping conts sums others own =
    let words' = set words i x in
    let roles' = set roles id r' in
    let map = map_after shape log in
    let wide = core.wide in
    let fits = core.fits.bound in
    let key : (k : ℕ) → k < shape.keys → get_or words' k 0 ≡ get_or words k 0
    = λ k l. get_or-set_other words i k x 0 (λ e. omega arith) in
    record {
      fits = core.fits;
      wide = length-set words i x ∙ wide;
      legal = core.legal;
      shows = λ k l. rw (key k l) (shows_more shape words words' (get_or words k 0) (state_of map k)
          (λ s j e near low. conts s j near low (is_named shape words k s l e))
          (core.shows k l));
      places = λ s l. omega (
        arith,
        core.places s l,
        below-same (λ j. only (suc s) (name_number (get_or words' j 0)))
            (λ j. only (suc s) (name_number (get_or words j 0))) shape.keys
            (λ j near. ap (λ (y : ℕ). only (suc s) (name_number y)) (key j near)),
        total-set (keeps s) roles id r r' at,
        keeping s l,
      );
      counts = λ k s l e. let e' : name_number (get_or words k 0) ≡ suc s = ap name_number (sym (key k l)) ∙ e in
          ap (λ (y : ℕ). arrivals_of y % 2 ^ 40) (key k l) ∙ core.counts k s l e'
          ∙ sym
          (sums s (in_range shape words (get_or words k 0) (state_of map k) s (core.shows k l) e')
          (is_named shape words k s l e'));
      knows = λ j u there. ⊎_elim (λ (t : (j ≡ id) × (r' ≡ u)). subst (Knows shape words' map (held roles')) t.1 own)
          (λ (t : (j ≢ id) × (get_elem? roles j ≡ some u)). others j u t.0 t.1 (core.knows j u t.1))
          (at_set roles id j r' u there);
      one = omega (arith, total-set is_writer roles id r r' at, core.one);
      few = omega (arith, total-set is_reader roles id r r' at, core.few);
    }

-- a step that changes no word, after which the caller holds and keeps the same slots
pub load_step : {shape : Shape} {words : List ℕ} {roles : List Role} {log : List Entry}
    (core : Core shape words roles log) (id : ℕ) {r : Role} (r' : Role) (i : ℕ)
    → get_elem? roles id ≡ some r → is_writer r' ≡ is_writer r → is_reader r' ≡ is_reader r
    → ((s : ℕ) → holds s r' ≡ holds s r) → ((s : ℕ) → keeps s r' ≡ keeps s r)
    → Knows shape words (map_after shape log) (held roles) r'
    → Core shape (set words i (get_or words i 0)) (set roles id r') log
load_step {shape} {words} {roles} {log} core id {r} r' i at w-same r-same holding keeping own =
    rw (set-get_or words i 0)
    (roles_more core (set roles id r') (λ s. omega (arith, total-set (holds s) roles id r r' at, holding s))
    (λ s _. omega (arith, total-set (keeps s) roles id r r' at, keeping s))
    (omega (arith, total-set is_writer roles id r r' at, core.one))
    (omega (arith, total-set is_reader roles id r r' at, core.few))
    (λ j u there. ⊎_elim
    (λ (t : (j ≡ id) × (r' ≡ u)). subst (Knows shape words (map_after shape log) (held roles)) t.1 own)
    (λ (t : (j ≢ id) × (get_elem? roles j ≡ some u)). core.knows j u t.1) (at_set roles id j r' u there)))

-- the others after a writer's step are no writer
pub no_writer : {shape : Shape} {words : List ℕ} {roles : List Role} {log : List Entry}
    (core : Core shape words roles log) (words' : List ℕ)
    (map' : PartialMap) (hold' : ℕ → ℕ) (id : ℕ) {desk : Desk} → get_elem? roles id ≡ some (Writer desk)
    → ((s i : ℕ) → 0 < held roles s → s < shape.slots → i ≤ 2 * (bound_of shape)
    → get_or words' (content shape s i) 0 ≡ get_or words (content shape s i) 0)
    → (j : ℕ) (u : Role) → j ≢ id → get_elem? roles j ≡ some u → Knows shape words (map_after shape log) (held roles) u
    → Knows shape words' map' hold' u
no_writer {shape} {words} {roles} {log} core words' map' hold' id {desk} at conts j u =
    let map = map_after shape log in
    elim u as (λ v. j ≢ id → get_elem? roles j ≡ some v → Knows shape words map (held roles) v
    → Knows shape words' map' hold' v) [
      | Writer
          desk' ↦ λ ne there t. absurd
          (omega (arith, terms_le is_writer roles id j (Writer desk) (Writer desk') ne at there, core.one))
      | Reader other
          y ↦ λ ne there t. holding_more shape words words' map map' (held roles) hold' y
          (λ s i mine near low.
          let part = term_le (holds s) roles j (Reader other y) there in conts s i (omega arith) near low)
          t
      | Note ↦ λ ne there t. tt
    ]

pub none_of : (y : Bool) → [] ≡ cond {A = List Entry} y [] []
none_of y = elim y as (λ z. [] ≡ cond {A = List Entry} z [] []) [ true ↦ refl | false ↦ refl ]

-- A reader's step on a slot's departures, which counts as the reader's hold changes: it keeps all that stands.

pub recounts : {shape : Shape} {words : List ℕ} {roles : List Role} {log : List Entry}
    (core : Core shape words roles log) (id reader slot x : ℕ) (before after : Grip) → slot < shape.slots
    → get_elem? roles id ≡ some (Reader reader before)
    → ((t : ℕ) → t ≢ slot → grips t after ≡ grips t before)
    → (x + held (set roles id (Reader reader after)) slot) % 2 ^ 40
    ≡ (get_or words (departures shape slot) 0 + held roles slot) % 2 ^ 40
    → (0 < total (keeps slot) roles → 0 < held roles slot) → Grips shape words (map_after shape log) (held roles) after
    → Core shape (set words (departures shape slot) x) (set roles id (Reader reader after)) log
recounts {shape} {words} {roles} {log} core id reader slot x before after near there other counted busy own =
    let place : ℕ = departures shape slot in
    let map = map_after shape log in
    let words' = set words place x in
    let roles' = set roles id (Reader reader after) in
    let cont : (t j : ℕ) → j ≤ 2 * (bound_of shape)
    → get_or words' (content shape t j) 0 ≡ get_or words (content shape t j) 0
    = λ t j low.
    get_or-set_other words place (content shape t j) x 0 (λ e. content_apart shape t j slot (omega arith) e) in
    let dep : (t : ℕ) → t ≢ slot → get_or words' (departures shape t) 0 ≡ get_or words (departures shape t) 0
    = λ t ne. get_or-set_other words place (departures shape t) x 0 (λ e. ne (same_departures shape t slot e)) in
    let here = get_or-set_same words place x 0 (omega (arith, departures_inside shape slot near)) in
    let holding : (t : ℕ) → held roles' t + grips t before ≡ held roles t + grips t after
    = λ t. total-set (holds t) roles id (Reader reader before) (Reader reader after) there in
    let sums : (t : ℕ)
    → (get_or words' (departures shape t) 0 + held roles' t) % 2 ^ 40
    ≡ (get_or words (departures shape t) 0 + held roles t) % 2 ^ 40
    = λ t. dite (ℕ_discrete t slot) (λ e. rw e (omega arith))
    (λ ne. omega (arith, dep t ne, holding t, other t ne)) in
    let left : (t : ℕ) → 0 < total (keeps t) roles → Left shape words words' map map (held roles) (held roles') t
    = λ t kept. let held_here : t ≡ slot → 0 < held roles t
    = λ e. let l = busy (subst (λ (s : ℕ). 0 < total (keeps s) roles) e kept) in rw e l in record {
      contents = λ j low. cont t j low;
      nobody = λ z. dite (ℕ_discrete t slot) (λ e. absurd (let l = held_here e in omega arith))
          (λ ne. omega (arith, z, holding t, other t ne));
      deps = λ z. dep t (λ e. absurd (let l = held_here e in omega arith));
      sum = sums t;
    } in
    let others : (j : ℕ) (u : Role) → j ≢ id → get_elem? roles j ≡ some u → Knows shape words map (held roles) u
    → Knows shape words' map (held roles') u
    = λ j u _ at. knows_more shape words words' map map (held roles) (held roles')
    (λ k l. ap name_number (get_or-set_other words place k x 0 (λ e. omega arith))) (λ _ _. refl) u (λ _. refl)
    (λ t low mine. left t (kept_by t roles j u at mine)) cont in
    off_keys core id (Reader reader after) place x (omega arith) there refl refl (λ _ _. refl)
    (λ t j _ low _. cont t j low) (λ t _ _. sums t) others
    (holding_more shape words words' map map (held roles) (held roles') after (λ a j _ _ low. cont a j low) own)
