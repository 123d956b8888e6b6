-- The opening, after which every reader is gathered once.
use Rattle.std.proofs.Common.{◌≡◌, ◌<◌, ◌≤◌, ⊎_elim, ℕ, suc, zero, ◌+◌, List, [], ◌∷◌, ◌++◌, All, length, map, take}
use Rattle.std.proofs.Common.{get_or, refl, sym, ap, ◌∙◌, subst, arith, Option, None, replicate, Vec}
use Rattle.std.specs.Vec.{with_items}
use Rattle.std.proofs.lemmas.List.{append-nil, get_or-map, get_or_past, length-map, with_items_is}
use Rattle.std.proofs.lemmas.Option.{get_or_from_slice_get}
use Rattle.std.proofs.lemmas.Bool.{cases_lt}
use Rattle.std.proofs.Math.Seq.{take-nil}
use Rattle.std.specs.List.{range_with_len}
use Rattle.nr_model.specs.Histories.{Entry, entries_of}
use Rattle.nr_core.specs.declared.shape.Shape.{Shape}
use Rattle.nr_core.specs.Marks.{no_marks}
use Rattle.nr_core.specs.Puts.{put_number}
use Rattle.nr_board.specs.Callers.{Caller, Table}
use Rattle.nr_map.specs.Opened.{IsOpened, newcomer}
use Rattle.nr_map.specs.Hands.{Handed, idle}
use Rattle.nr_script.specs.MapState.{Pin, opened_map}
use Rattle.nr_script.specs.Hands.{HandHoldsItsPin, mine_of, pin_of}
use Rattle.nr_script.specs.Rounds.{Gathered}
use Rattle.nr_script.specs.Alone.{IsAlone, Laws, calls_of, log_of, made, shown_by, shown_after}
use Rattle.nr_script.specs.Lines.{IsLine, SettlesLine}
use Rattle.nr_script.proofs.Rounds.{same_length, starts_same}
use Rattle.nr_script.proofs.Exactly.{calls_at}
use Rattle.nr_script.proofs.Settling.{settled}
use Rattle.nr_script.proofs.Lines.{shown_with}

no_pins : (readers : List Caller) → map pin_of (map idle readers) ≡ replicate (length readers) None
no_pins [] = refl
no_pins (r ∷ readers) = ap (λ (l : List (Option Pin)). None ∷ l) (no_pins readers)

no_puts : (a n : ℕ) → map (put_number []) (range_with_len a n) ≡ replicate n 0
no_puts a zero = refl
no_puts a (suc n) = ap (λ (l : List ℕ). 0 ∷ l) (no_puts (a + 1) n)

module _ (laws : Laws) (shape : Shape) (table : Table) (w : Caller) (readers : List Caller)
    (new : IsOpened shape 0 table w readers) (some : 0 < shape.readers) (w' : Caller) (hands' : List Handed)
    (g : Gathered 0 w (map idle readers) w' hands') where
  abbrev hands : List Handed
  hands = map idle readers

  size : length hands ≡ shape.readers
  size = length-map readers idle ∙ new.count

  hand_at : (at : ℕ) (other : Handed) → at < length hands
      → get_or hands at other ≡ idle (newcomer table (at + 1) no_marks)
  hand_at at other low =
      let inside : at < length readers = omega (arith, length-map readers idle, low) in
      let near : at < shape.readers = omega (arith, size, low) in
      let c : Caller = newcomer table (at + 1) no_marks in
      get_or-map idle readers at c other inside ∙ ap idle (get_or_from_slice_get readers at c c (new.reads at near))

  seen_none : w.seen ≡ []
  seen_none = ap (λ (c : Caller). c.seen) new.writes

  log_none : log_of w hands ≡ []
  log_none = ap (λ (l : List Entry). take (made w hands) l) seen_none ∙ take-nil (made w hands)

  calls_none : (caller : ℕ) → calls_of w.mine (map mine_of hands) caller ≡ []
  calls_none zero = ap (λ (c : Caller). c.mine) new.writes
  calls_none (suc at) = ⊎_elim
      (λ (low : at < length hands). calls_at w.mine hands at (idle w) low ∙ ap mine_of (hand_at at (idle w) low))
      (λ (past : length hands ≤ at).
      get_or_past (map mine_of hands) at [] (omega (arith, length-map hands mine_of, past)))
      (cases_lt at (length hands))

  next : (at : ℕ) → at + 1 ≡ suc at
  next at = omega arith

  line : IsLine table w hands w hands 0 []
  line = record {
    low = omega (arith, size, some);
    few = omega arith;
    same_table = refl;
    number = refl;
    seen = starts_same w.seen;
    size = refl;
    places = λ at other low. record {
      table = ap (λ (s : Handed). s.reader.table) (hand_at at other low);
      number = ap (λ (s : Handed). s.reader.number) (hand_at at other low) ∙ next at;
      fits = subst HandHoldsItsPin (sym (hand_at at other low)) refl;
    };
    grown = λ caller. sym (append-nil (calls_of w.mine (map mine_of hands) caller));
    others = λ at apart. refl;
  }

  settles : SettlesLine table [] g.mid.seen w hands hands w' hands'
  settles = settled laws table w hands w hands 0 [] w' hands' (record {
    own = ap (λ (c : Caller). c.table) new.writes;
    number = ap (λ (c : Caller). c.number) new.writes;
    count = size ∙ ap (λ (s : Shape). s.readers) (sym new.sizes);
    some_one = omega (arith, size, some);
    counted = new.words_are;
    just = λ caller. ap (λ (l : List Entry). entries_of l caller) log_none ∙ sym (calls_none caller);
  }) line g

  alone : IsAlone table w' hands'
  alone = settles.alone

  shows : shown_by table w' hands' ≡ opened_map shape
  shows =
      let pins : map pin_of hands ≡ replicate shape.readers None
      = no_pins readers ∙ ap (λ (n : ℕ). replicate n None) new.count in
      shown_with laws table w hands hands [] g.mid.seen w' hands' settles (replicate shape.readers None) pins
      ∙ ap (λ (l : List Entry). record (shown_after table (l ++ []) hands) { pins = replicate shape.readers None })
      log_none
      ∙ ap
      (λ (s : Shape).
      record (shown_after (record table { shape = s }) [] hands) { pins = replicate shape.readers None })
      new.sizes
      ∙ (λ j. record (opened_map shape) { puts = no_puts 0 shape.keys j })

pub all_idle : (t : Table) (readers : List Caller) → All (λ (r : Caller). r.table ≡ t) readers
    → All (λ (s : Handed). s.reader.table ≡ t) (map idle readers)
all_idle t readers own at other low =
    let inside : at < length readers = omega (arith, length-map readers idle, low) in
    ap (λ (s : Handed). s.reader.table) (get_or-map idle readers at other.reader other inside)
    ∙ own at other.reader inside

-- so they are where the hands lie in the list again
pub opens : {Z : Type 0} → Laws → (shape : Shape) → {table : Table} {w : Caller} {readers : List Caller}
    → IsOpened shape 0 table w readers → (shape.readers ≡ 0 → ⊥) → {w' : Caller} {hands' slice : List Handed}
    (hands : Vec Handed Z) → slice ≡ map idle readers → length slice ≡ hands.len → Gathered 0 w slice w' hands'
    → IsAlone table w' (with_items hands hands').items
    × (shown_by table w' (with_items hands hands').items ≡ opened_map shape)
opens laws shape {table} {w} {readers} new some {w'} {hands'} hands items len gathered =
    let g : Gathered 0 w (map idle readers) w' hands' = rw items at gathered in
    let size
    = same_length hands' (map idle readers) g.round.same ∙ ap (λ (l : List Handed). length l) (sym items) ∙ len in
    let low : 0 < shape.readers = grind (arith, some) in
    rw (with_items_is hands hands' size)
    (alone laws shape table w readers new low w' hands' g, shows laws shape table w readers new low w' hands' g)
