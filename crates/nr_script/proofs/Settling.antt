-- A line and its round.
use Rattle.std.proofs.Common.{◌≡◌, ◌≢◌, ◌<◌, ◌≤◌, ℕ, suc, zero, List, [], ◌∷◌, ◌++◌, length, map, get_or, refl, sym, ap}
use Rattle.std.proofs.Common.{◌∙◌, subst, arith, ⊎_elim}
use Rattle.std.proofs.lemmas.List.{append-nil, get_or_past, length-map}
use Rattle.std.proofs.lemmas.Bool.{cases_lt}
use mathlib.Core.Logic.{dite}
use native.Mathlib.Decide.{ℕ_discrete}
use Rattle.nr_model.specs.Histories.{Entry, entries_of}
use Rattle.nr_board.specs.Callers.{Caller, Table}
use Rattle.nr_board.specs.Rule.{StartsWith}
use Rattle.nr_map.specs.Hands.{Handed, idle}
use Rattle.nr_script.specs.Hands.{HoldsItsPin, Still, mine_of, still}
use Rattle.nr_script.specs.Rounds.{Gathered}
use Rattle.nr_script.specs.Alone.{HasJust, IsHand, Laws, ReadyForRound, calls_of, log_of}
use Rattle.nr_script.specs.Lines.{IsLine, SettlesLine}
use Rattle.nr_script.proofs.Rounds.{same_at, same_length, starts_both, starts_each, starts_then}
use Rattle.nr_board.proofs.Entries.{nobody_else}
use Rattle.nr_script.proofs.Exactly.{calls_at, exact_step, log_begins, log_is}

pub map_still : {B : Type 0} (f : Still → B) (xs : List Handed)
    → map f (map still xs) ≡ map (λ (x : Handed). f (still x)) xs
map_still f [] = refl
map_still f (x ∷ xs) = ap (λ l. f (still x) ∷ l) (map_still f xs)

pub same_map : {B : Type 0} (f : Still → B) (xs ys : List Handed) → map still xs ≡ map still ys
    → map (λ (x : Handed). f (still x)) xs ≡ map (λ (x : Handed). f (still x)) ys
same_map f xs ys e = sym (map_still f xs) ∙ ap (λ (l : List Still). map f l) e ∙ map_still f ys

module _ (laws : Laws) (table : Table) (w0 : Caller) (hands0 : List Handed) (w : Caller)
    (hands : List Handed) (first : ℕ) (es : List Entry) (w' : Caller) (hands' : List Handed)
    (alone : ReadyForRound table w0 hands0) (line : IsLine table w0 hands0 w hands first es)
    (g : Gathered first w hands w' hands') where
  abbrev log : List Entry
  log = log_of w0 hands0

  size : length hands' ≡ length hands
  size = same_length hands' hands g.round.same

  goes : StartsWith g.mid.seen log
  goes =
      starts_then log w0.seen g.mid.seen (log_begins w0 hands0)
      (starts_then w0.seen w.seen g.mid.seen line.seen g.stays.seen)

  table_is : g.mid.table ≡ table
  table_is = g.stays.only.table ∙ line.same_table ∙ alone.own

  -- the reader at a place, which is not the line's
  of_other : (at : ℕ) (other : Handed) → at < length hands → at ≢ first
      → entries_of g.mid.seen (suc at) ≡ mine_of (get_or hands at other)
  of_other at other low apart =
      let shown = g.round.each at other low in
      let same : still (get_or hands' at other) ≡ still (get_or hands at other)
      = same_at hands' hands g.round.same at other other (omega (arith, size, low)) in
      let number : (get_or hands' at other).reader.number ≡ suc at
      = ap (λ (s : Still). s.how.reader) same ∙ (line.places at other low).number in
      let most : StartsWith (mine_of (get_or hands at other)) (entries_of g.mid.seen (suc at)) =
      rw (number, ap (λ (s : Still). s.mine) same) at shown.few in
      let had : entries_of log (suc at) ≡ mine_of (get_or hands at other) =
      alone.just (suc at) ∙ sym (rw (line.others at apart, append-nil) at (line.grown (suc at)))
      ∙ calls_at w.mine hands at other low in
      let least : StartsWith (entries_of g.mid.seen (suc at)) (mine_of (get_or hands at other))
      = rw had at (starts_each g.mid.seen log (suc at) goes) in
      starts_both (entries_of g.mid.seen (suc at)) (mine_of (get_or hands at other)) least most

  of_first : (other : Handed) → entries_of g.mid.seen (suc first) ≡ mine_of (get_or hands first other)
  of_first other = ap (entries_of g.mid.seen) (sym (line.places first other line.low).number) ∙ g.all other

  of_reader : (at : ℕ) (other : Handed) → at < length hands
      → entries_of g.mid.seen (suc at) ≡ mine_of (get_or hands at other)
  of_reader at other low = dite (ℕ_discrete at first)
      (λ is. ap (λ (n : ℕ). entries_of g.mid.seen (suc n)) is ∙ of_first other
      ∙ ap (λ (n : ℕ). mine_of (get_or hands n other)) (sym is))
      (λ isnt. of_other at other low isnt)

  many : length (map mine_of hands) ≡ length hands
  many = length-map hands mine_of

  readers_are : length hands ≡ g.mid.table.shape.readers
  readers_are = line.size ∙ alone.count ∙ ap (λ (t : Table). t.shape.readers) (sym table_is)

  now : (caller : ℕ) → entries_of g.mid.seen caller ≡ calls_of w.mine (map mine_of hands) caller
  now zero = ap (entries_of g.mid.seen) (sym (g.stays.number ∙ line.number ∙ alone.number)) ∙ g.sound.own ∙ g.stays.mine
  now (suc at) = ⊎_elim
      (λ (low : at < length hands). of_reader at (idle w) low ∙ sym (calls_at w.mine hands at (idle w) low))
      (λ (past : length hands ≤ at). nobody_else g.mid.table.shape g.mid.seen (suc at) g.sound.callers
      (omega (arith, readers_are, past))
      ∙ sym (get_or_past (map mine_of hands) at [] (omega (arith, many, past))))
      (cases_lt at (length hands))

  mid_is : g.mid.seen ≡ log ++ es
  mid_is =
      exact_step log g.mid.seen es line.few goes (calls_of w0.mine (map mine_of hands0))
      (calls_of w.mine (map mine_of hands)) alone.just now line.grown

  mines : map mine_of hands' ≡ map mine_of hands
  mines = same_map (λ (s : Still). s.mine) hands' hands g.round.same

  just : HasJust (log ++ es) w' hands'
  just caller =
      ap (λ (l : List Entry). entries_of l caller) (sym mid_is) ∙ now caller
      ∙ ap (λ (m : List Entry). calls_of m (map mine_of hands) caller) (sym (g.round.stays.mine ∙ g.stays.mine))
      ∙ ap (λ (m : List (List Entry)). calls_of w'.mine m caller) (sym mines)

  own : w'.table ≡ table
  own = g.round.stays.only.table ∙ table_is

  number : w'.number ≡ 0
  number = g.round.stays.number ∙ g.stays.number ∙ line.number ∙ alone.number

  count : length hands' ≡ table.shape.readers
  count = size ∙ line.size ∙ alone.count

  some_one : 0 < length hands
  some_one = let s = alone.some_one in omega (arith, line.size, s)

  places : (at : ℕ) (other : Handed) → at < length hands' → IsHand table at (get_or hands' at other)
  places at other low =
      let low0 : at < length hands = omega (arith, size, low) in
      let same : still (get_or hands' at other) ≡ still (get_or hands at other)
      = same_at hands' hands g.round.same at other other low in
      record {
        table = ap (λ (s : Still). s.table) same ∙ (line.places at other low0).table;
        number = ap (λ (s : Still). s.how.reader) same ∙ (line.places at other low0).number;
        fits = subst (λ (s : Still). HoldsItsPin s.pin s.how.slot) (sym same) (line.places at other low0).fits;
      }

  log_now : log_of w' hands' ≡ log ++ es
  log_now = log_is laws.entries laws.begins table w' hands' (log ++ es) own number count places
      g.round.sound (subst (λ (l : List Entry). StartsWith w'.seen l) mid_is g.round.stays.seen) just

  pub settled : SettlesLine table es g.mid.seen w0 hands0 hands w' hands'
  settled = record {
    alone = record {
      stands =
          record {
            counted = alone.counted;
            own = own;
            number = number;
            count = count;
            some_one = omega (arith, size, some_one);
            just = subst (λ (l : List Entry). HasJust l w' hands') (sym log_now) just;
          };
      places = places;
      sound = g.round.sound;
      known = λ at other low. let shown = g.round.each at other (omega (arith, size, low)) in record {
        place = shown.place;
        known = shown.known;
        current = shown.current;
        heard =
            subst (λ (l : List Entry). StartsWith (get_or hands' at other).reader.seen l) (mid_is ∙ sym log_now)
            shown.heard;
      };
    };
    log = log_now;
    mid_log = mid_is;
    pins = same_map (λ (s : Still). s.pin) hands' hands g.round.same;
    pasts = same_map (λ (s : Still). s.how) hands' hands g.round.same;
  }
