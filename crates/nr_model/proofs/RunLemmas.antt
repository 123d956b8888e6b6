-- The states of all keys, by their heads and runs: what one key reads and writes.
use Rattle.std.proofs.Common.{◌≡◌, ◌∙◌, ℕ, zero, suc, ◌+◌, ◌-◌, ◌*◌, ◌<◌, ◌≤◌, List, [], ◌∷◌, ◌++◌, length, take, drop}
use Rattle.std.proofs.Common.{set, get_or, replicate, ap, sym, refl, arith, Vec}
use Rattle.std.specs.Vec.{with_items}
use Rattle.std.proofs.lemmas.Slice.{take-put_mid_below}
use borrow.Rule.Slice.PartMut.{put_mid}
use Rattle.std.proofs.lemmas.List.{with_items_is, drop-take, drop-drop, drop-append-le, take_at, drop_at}
use Rattle.std.proofs.lemmas.List.{length-take-le, length-drop, length-append, length-set}
use Rattle.nr_model.specs.declared.rows.Row.{Row}
use Rattle.nr_model.specs.declared.heads.Head.{Head}
use Rattle.nr_model.specs.declared.heads.Head.TheVariants as head
use Rattle.nr_model.specs.declared.calls.Call.{Call}
use Rattle.nr_model.specs.declared.states.KeyState.{KeyState}
use Rattle.nr_model.specs.declared.states.KeyState.TheVariants.{Hole}
use Rattle.nr_model.specs.Maps.{PartialMap, key_count, call_key, state_of, state_after, next}
use Rattle.nr_model.specs.Runs.{state_in, IsKeptRun, states_in, AllKept, AreRuns}

pub length-states_in : (bound : ℕ) (heads : List Head) (cells : List Row)
    → length (states_in bound heads cells) ≡ length heads
length-states_in bound [] cells = refl
length-states_in bound (h ∷ heads) cells = omega (arith, length-states_in bound heads (drop bound cells))

-- the run of a key stands behind those of the keys before it
next_run : (bound key : ℕ) (cells : List Row)
    → take bound (drop (key * bound) (drop bound cells)) ≡ take bound (drop (suc key * bound) cells)
next_run bound key cells = ap (take bound) (drop-drop (key * bound) bound cells ∙ ap (λ n. drop n cells) (omega arith))

first_run : (bound : ℕ) (cells : List Row) → take bound (drop (zero * bound) cells) ≡ take bound cells
first_run bound cells = let e : zero * bound ≡ 0 = omega arith in ap (λ n. take bound (drop n cells)) e

-- the head and the run of a key tell its state, and keep its rows
run_at : (bound : ℕ) (heads : List Head) (cells : List Row) (key : ℕ) (h : Head) (state : KeyState) → key < length heads
    → (get_or (states_in bound heads cells) key state
    ≡ state_in (get_or heads key h) (take bound (drop (key * bound) cells)))
    × (AllKept bound heads cells → IsKeptRun (get_or heads key h) (take bound (drop (key * bound) cells)))
run_at bound [] cells key h state within = absurd (omega arith)
run_at bound (first ∷ heads) cells zero h state within = rw (first_run bound cells) (refl, λ kept. kept.0)
run_at bound (first ∷ heads) cells (suc key) h state within =
    let rest = run_at bound heads (drop bound cells) key h state (omega arith) in
    rw (← next_run bound key cells) (rest.0, λ kept. rest.1 kept.1)

-- the run of a key ends within the cells
pub run_within : (bound keys key : ℕ) → key < keys → key * bound + bound ≤ keys * bound
run_within bound keys key within =
    let ends : (key + 1) * bound ≤ keys * bound = grind arith in omega (arith, ends)

-- the run is what lies between its start and its end
run_between : (bound start : ℕ) (cells now : List Row) → now ≡ cells
    → take (start + bound - start) (drop start now) ≡ take bound (drop start cells)
run_between bound start cells now same =
    let long : start + bound - start ≡ bound = omega arith in
    rw (long, same) refl

-- the cells with a run put back between its start and its end, in the place of the old ones
put_between : {Z : Type 0} (bound start : ℕ) (kept : Vec Row Z) (now run : List Row) → now ≡ kept.items
    → length (put_mid start bound kept.items run) ≡ length kept.items
    → (with_items kept (put_mid start (start + bound - start) now run)).items ≡ put_mid start bound kept.items run
put_between bound start kept now run same fits =
    let long : start + bound - start ≡ bound = omega arith in
    let put : put_mid start (start + bound - start) now run ≡ put_mid start bound kept.items run
    = ap (λ n. put_mid start n now run) long ∙ ap (λ l. put_mid start bound l run) same in
    with_items_is kept _ (ap length put ∙ fits ∙ sym kept.ok.0) ∙ put

-- a run that is put back leaves those before it and those behind it
rest_put : (a bound : ℕ) (cells run : List Row) → bound + a ≤ length cells
    → drop bound (put_mid (bound + a) bound cells run) ≡ put_mid a bound (drop bound cells) run
rest_put a bound cells run within =
    let front = length-take-le (bound + a) cells within in
    rw (
      drop-append-le bound (take (bound + a) cells) (run ++ drop bound (drop (bound + a) cells))
          (omega (arith, front)),
      drop-take bound a cells,
      ← drop-drop a bound cells,
    )
    refl

next_put : (bound key keys : ℕ) (cells run : List Row) → key < keys → length cells ≡ suc keys * bound
    → drop bound (put_mid (suc key * bound) bound cells run) ≡ put_mid (key * bound) bound (drop bound cells) run
next_put bound key keys cells run within room =
    let start : suc key * bound ≡ bound + key * bound = omega arith in
    ap (λ n. drop bound (put_mid n bound cells run)) start
    ∙ rest_put (key * bound) bound cells run (omega (arith, room, run_within bound keys key within))

first_put : (bound key keys : ℕ) (cells run : List Row) → key < keys → length cells ≡ suc keys * bound
    → take bound (put_mid (suc key * bound) bound cells run) ≡ take bound cells
first_put bound key keys cells run within room =
    take-put_mid_below (suc key * bound) bound cells run bound (omega arith)
    (omega (arith, room, run_within bound keys key within))

rest_room : (bound keys : ℕ) (cells : List Row) → length cells ≡ suc keys * bound
    → length (drop bound cells) ≡ keys * bound
rest_room bound keys cells room = omega (arith, room, length-drop bound cells)

put_first : (bound : ℕ) (cells run : List Row) → put_mid (zero * bound) bound cells run ≡ run ++ drop bound cells
put_first bound cells run = let e : zero * bound ≡ 0 = omega arith in ap (λ n. put_mid n bound cells run) e

-- a key's new head and run change its state alone
put_at : (bound : ℕ) (heads : List Head) (cells : List Row) (key : ℕ) (h : Head) (run : List Row)
    → key < length heads → length cells ≡ length heads * bound → length run ≡ bound
    → (states_in bound (set heads key h) (put_mid (key * bound) bound cells run)
    ≡ set (states_in bound heads cells) key (state_in h run))
    × (AllKept bound heads cells → IsKeptRun h run
    → AllKept bound (set heads key h) (put_mid (key * bound) bound cells run))
put_at bound [] cells key h run within room long = absurd (omega arith)
put_at bound (first ∷ heads) cells zero h run within room long =
    rw (put_first bound cells run, take_at run (drop bound cells) bound long, drop_at run (drop bound cells) bound long)
    (refl, λ kept one. (one, kept.1))
put_at bound (first ∷ heads) cells (suc key) h run within room long =
    let keys = length heads in
    let rest
    = put_at bound heads (drop bound cells) key h run (omega arith) (rest_room bound keys cells room) long in
    rw (first_put bound key keys cells run (omega arith) room, next_put bound key keys cells run (omega arith) room) (
      ap (λ l. state_in first (take bound cells) ∷ l) rest.0,
      λ kept one. (kept.0, rest.1 kept.1 one),
    )

-- all keys begin as holes
pub opened : (bound keys number : ℕ) (cells : List Row)
    → (states_in bound (replicate keys (head.Hole number)) cells ≡ replicate keys (Hole number))
    × AllKept bound (replicate keys (head.Hole number)) cells
opened bound zero number cells = (refl, tt)
opened bound (suc keys) number cells =
    let rest = opened bound keys number (drop bound cells) in
    (ap (λ l. Hole number ∷ l) rest.0, (tt, rest.1))

abbrev pub map_of : ℕ → List KeyState → PartialMap
map_of bound states = record { bound = bound; states = states }

-- a key of the map has a head
pub has_head : (bound : ℕ) (heads : List Head) (cells : List Row) (map : PartialMap) (key : ℕ)
    → map_of bound (states_in bound heads cells) ≡ map → key < key_count map → key < length heads
has_head bound heads cells map key shows within =
    omega (arith, within, ap (λ m. key_count m) shows, length-states_in bound heads cells)

-- the run of a key has all its cells, and one that is put back leaves their number
run_full : (bound : ℕ) (heads : List Head) (cells : List Row) (key : ℕ) → key < length heads
    → length cells ≡ length heads * bound → length (take bound (drop (key * bound) cells)) ≡ bound
run_full bound heads cells key within room =
    let behind : bound ≤ length (drop (key * bound) cells)
    = omega (arith, length-drop (key * bound) cells, run_within bound (length heads) key within, room) in
    length-take-le bound (drop (key * bound) cells) behind

length-put : (bound : ℕ) (heads : List Head) (cells : List Row) (key : ℕ) (run : List Row) → key < length heads
    → length cells ≡ length heads * bound → length run ≡ bound
    → length (put_mid (key * bound) bound cells run) ≡ length cells
length-put bound heads cells key run within room long =
    let start : ℕ = key * bound in
    let ends : start + bound ≤ length cells = omega (arith, run_within bound (length heads) key within, room) in
    let front : length (take start cells) ≡ start = length-take-le start cells (omega (arith, ends)) in
    simp (length-append, length-drop) (omega (arith, ends, front, long))

-- the cells of a key, as a call finds them
pub record IsRunOf (map : PartialMap) (key : ℕ) (h : Head) (run : List Row) : Type 0 where
  pub full : length run ≡ map.bound
  pub read : state_in h run ≡ state_of map key
  pub kept : IsKeptRun h run

pub run_of : (bound : ℕ) (heads : List Head) (cells now : List Row) (map : PartialMap) (key : ℕ) (h : Head)
    → AreRuns bound heads cells → map_of bound (states_in bound heads cells) ≡ map → key < key_count map
    → h ≡ get_or heads key h → now ≡ cells
    → IsRunOf map key h (take (key * bound + bound - key * bound) (drop (key * bound) now))
run_of bound heads cells now map key h runs shows within is same =
    let inside = has_head bound heads cells map key shows within in
    let here = run_between bound (key * bound) cells now same in
    let at = run_at bound heads cells key h (Hole 0) inside in
    record {
      full = ap length here ∙ run_full bound heads cells key inside runs.room ∙ ap (λ m. m.bound) shows;
      read = ap (state_in h) here
          ∙ ap (λ x. state_in x (take bound (drop (key * bound) cells))) is
          ∙ sym at.0
          ∙ ap (λ m. state_of m key) shows;
      kept = rw (here, is) (at.1 runs.kept);
    }

-- the cells with the key's run put back change its state alone
pub run_put : {Z : Type 0} (bound key : ℕ) (heads : List Head) (kept : Vec Row Z) (now run : List Row) (h : Head)
    → AreRuns bound heads kept.items → key < length heads → now ≡ kept.items → length run ≡ bound → IsKeptRun h run
    → let start : ℕ = key * bound in
    let cells : List Row = (with_items kept (put_mid start (start + bound - start) now run)).items in
    AreRuns bound (set heads key h) cells
    × (states_in bound (set heads key h) cells ≡ set (states_in bound heads kept.items) key (state_in h run))
run_put bound key heads kept now run h runs within same long one =
    let fits = length-put bound heads kept.items key run within runs.room long in
    let at = put_at bound heads kept.items key h run within runs.room long in
    rw (put_between bound (key * bound) kept now run same fits) (
      record {
        room = fits ∙ runs.room ∙ ap (λ n. n * bound) (sym (length-set heads key h));
        kept = at.1 runs.kept one;
      },
      at.0,
    )

-- what a call makes of the key's state, it makes of the map
pub next_made : (bound key : ℕ) (states now : List KeyState) (map : PartialMap) (call : Call) (state : KeyState)
    → map_of bound states ≡ map → key ≡ call_key call → now ≡ set states key state
    → state ≡ state_after map.bound call (state_of map key) → map_of bound now ≡ next map call
next_made bound key states now map call state shows at put made = rw (put, made, at, ← shows) refl
