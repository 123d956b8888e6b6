-- Lines of the writer and of a reader, and what they are answered.
use Rattle.std.proofs.Common.{◌≡◌, ◌≢◌, ◌<◌, ◌≤◌, ℕ, suc, zero, List, [], ◌∷◌, ◌++◌, Bool, true, false, ◌&&◌, length}
use Rattle.std.proofs.Common.{map, get_or, set, refl, sym, ap, ◌∙◌, subst, arith, append_assoc, length-append, Ok}
use Rattle.std.proofs.Common.{Option}
use Rattle.std.proofs.lemmas.List.{append-nil, nil_from_length, get_or-set_same, get_or-set_other, length-map}
use Rattle.std.proofs.lemmas.List.{length-set, map-set}
use mathlib.Core.Logic.{dite}
use native.Mathlib.Decide.{ℕ_discrete}
use Rattle.nr_model.specs.declared.calls.Call.{Call}
use Rattle.nr_model.specs.declared.calls.Reply.{Reply}
use Rattle.nr_model.specs.declared.calls.Reply.TheVariants as reply
use Rattle.nr_model.specs.declared.rows.Row.{Row}
use Rattle.nr_model.specs.Histories.{Entry, IsLegal, entries_of, is_done}
use Rattle.nr_model.specs.Maps.{reply_to}
use Rattle.nr_core.specs.declared.calls.NoSlot.{NoSlot}
use Rattle.nr_core.specs.Story.{entry, map_after}
use Rattle.nr_core.specs.MarkLaws.{slots_in_use}
use Rattle.nr_core.specs.Pasts.{AllCurrent, AllReaders}
use Rattle.nr_board.specs.WriterAnswers.{HasNoSlot, Publishes}
use Rattle.nr_board.specs.Callers.{Caller, Gains, Grows, Table, map_at_opening}
use Rattle.nr_map.specs.ExactPlaces.{OnlyLearnt}
use Rattle.nr_board.specs.Rule.{StartsWith}
use Rattle.nr_script.specs.Answers.{Answer}
use Rattle.nr_script.specs.Answers as answers
use Rattle.nr_map.specs.Hands.{Handed}
use Rattle.nr_script.specs.MapState.{Pin, MapState, after_call, answer_call, is_full}
use Rattle.nr_script.specs.Hands.{HandHoldsItsPin, how_of, mine_of, pin_of}
use Rattle.nr_script.specs.Rounds.{Gathered}
use Rattle.nr_script.specs.Alone.{IsAlone, IsHand, Laws, calls_of, log_of, shown_by, shown_after}
use Rattle.nr_script.specs.Lines.{IsLine, SettlesLine}
use Rattle.nr_script.specs.WriterMakes.{EndsWithoutSlot, PutsSet, Replies, WriterMakes}
use Rattle.nr_script.proofs.Rounds.{starts_both, starts_then}
use Rattle.nr_script.proofs.Exactly.{calls_at, entries_other, entries_own, log_begins}
use Rattle.nr_script.proofs.Settling.{settled}
use Rattle.nr_script.proofs.Shown.{answered, goes_on, lacking, all_current, all_known, all_readers, full, not_full}

-- the entries of a line's caller, which made them all
pub record AreOf (caller : ℕ) (es : List Entry) : Type 0 where
  pub few : length es ≤ 1
  pub his : entries_of es caller ≡ es
  pub others : (other : ℕ) → other ≢ caller → entries_of es other ≡ []

pub none_of : (caller : ℕ) → AreOf caller []
none_of caller = record { few = omega arith; his = refl; others = λ other apart. refl }

pub one_of : (caller : ℕ) (call : Call) (r : Reply) → AreOf caller (entry caller call r ∷ [])
one_of caller call r =
    record {
      few = omega arith;
      his = entries_own (entry caller call r) [] caller refl;
      others = λ other apart. entries_other (entry caller call r) [] other (λ e. apart (sym e));
    }

pub seen_more : (steps : ℕ) (old : Caller) (es : List Entry) (new : Caller) → Grows steps es old new
    → StartsWith new.seen old.seen
seen_more steps old es new g = record { rest = g.between ++ es; is = g.seen ∙ append_assoc old.seen g.between es }

module _ (table : Table) (w0 : Caller) (hands0 : List Handed) (alone : IsAlone table w0 hands0)
    (es : List Entry) where
  pub writer_line : (steps : ℕ) (w : Caller) → AreOf 0 es → Grows steps es w0 w → IsLine table w0 hands0 w hands0 0 es
  writer_line steps w are g = record {
    low = alone.stands.some_one;
    few = are.few;
    same_table = g.table;
    number = g.number;
    seen = seen_more steps w0 es w g;
    size = refl;
    places = alone.places;
    grown = elim [
      | zero ↦ g.mine ∙ ap (λ (l : List Entry). w0.mine ++ l) (sym are.his)
      | (suc at) ↦
          rw (are.others (suc at) (omega arith), append-nil)
    ];
    others = λ at apart. are.others (suc at) (omega arith);
  }

  module _ (at : ℕ) (x : Handed) (low : at < length hands0) (are : AreOf (suc at) es)
      (same_table : x.reader.table ≡ (get_or hands0 at x).reader.table)
      (same_number : x.reader.number ≡ (get_or hands0 at x).reader.number)
      (mine : mine_of x ≡ mine_of (get_or hands0 at x) ++ es) (fits : HandHoldsItsPin x) where
    placed : (P : ℕ → Handed → Type 0)
        → ((k : ℕ) (other : Handed) → k < length hands0 → P k (get_or hands0 k other)) → P at x
        → (k : ℕ) (other : Handed) → k < length (set hands0 at x) → P k (get_or (set hands0 at x) k other)
    placed P all here k other inside = dite (ℕ_discrete k at)
        (λ is. rw (is, get_or-set_same hands0 at x other low) here)
        (λ isnt. rw (get_or-set_other hands0 at k x other isnt)
        (all k other (omega (arith, length-set hands0 at x, inside))))

    calls_now : (k : ℕ)
        → calls_of w0.mine (map mine_of (set hands0 at x)) (suc k)
        ≡ get_or (set (map mine_of hands0) at (mine_of x)) k []
    calls_now k = ap (λ (l : List (List Entry)). get_or l k []) (map-set mine_of hands0 at x)

    grown : (caller : ℕ)
        → calls_of w0.mine (map mine_of (set hands0 at x)) caller
        ≡ calls_of w0.mine (map mine_of hands0) caller ++ entries_of es caller
    grown zero = sym (ap (λ (l : List Entry). w0.mine ++ l) (are.others 0 (omega arith)) ∙ append-nil w0.mine)
    grown (suc k) = dite (ℕ_discrete k at)
        (λ is. rw (is, calls_now at, are.his)
        (get_or-set_same (map mine_of hands0) at (mine_of x) [] (omega (arith, length-map hands0 mine_of, low))
        ∙ mine ∙ ap (λ (l : List Entry). l ++ es) (sym (calls_at w0.mine hands0 at x low))))
        (λ isnt. rw (calls_now k, are.others (suc k) (omega arith), append-nil)
        (get_or-set_other (map mine_of hands0) at k (mine_of x) [] isnt))

    pub reader_line : IsLine table w0 hands0 w0 (set hands0 at x) at es
    reader_line = record {
      low = omega (arith, length-set hands0 at x, low);
      few = are.few;
      same_table = refl;
      number = refl;
      seen = record { rest = []; is = sym (append-nil w0.seen) };
      size = length-set hands0 at x;
      places =
          placed (λ k s. IsHand table k s) alone.places
          (record {
            table = same_table ∙ (alone.places at x low).table;
            number = same_number ∙ (alone.places at x low).number;
            fits = fits;
          });
      grown = grown;
      others = λ k apart. are.others (suc k) (omega arith);
    }

-- what the line's round shows of its call
module _ (laws : Laws) (table : Table) (w0 : Caller) (hands0 hands : List Handed) (es mid : List Entry)
    (w' : Caller) (hands' : List Handed) (s : SettlesLine table es mid w0 hands0 hands w' hands') where
  pub shown_with : (pins' : List (Option Pin)) → map pin_of hands ≡ pins'
      → shown_by table w' hands' ≡ record (shown_after table (log_of w0 hands0 ++ es) hands0) { pins = pins' }
  shown_with pins' kept =
      ap (λ (l : List Entry). shown_after table l hands') s.log
      ∙ (λ j. record (shown_after table (log_of w0 hands0 ++ es) hands0) { pins = (s.pins ∙ kept) j })

  pub shown_now_by : map pin_of hands ≡ map pin_of hands0
      → shown_by table w' hands' ≡ shown_after table (log_of w0 hands0 ++ es) hands0
  shown_now_by kept = shown_with (map pin_of hands0) kept

  pub legal_now : IsLegal (map_at_opening table) (log_of w0 hands0 ++ es)
  legal_now = subst (λ (l : List Entry). IsLegal (map_at_opening table) l) s.log
      (laws.begins (map_at_opening table) (log_of w' hands') (log_begins w' hands').rest
      (subst (λ (l : List Entry). IsLegal (map_at_opening table) l) (log_begins w' hands').is
      (subst (λ (t : Table). IsLegal (map_at_opening t) w'.seen) s.alone.stands.own s.alone.sound.legal)))

pub reply_is : (laws : Laws) (table : Table) (w0 : Caller) (hands0 hands : List Handed) (n : ℕ) (call : Call)
    (r : Reply) (mid : List Entry) (w' : Caller) (hands' : List Handed)
    → SettlesLine table (entry n call r ∷ []) mid w0 hands0 hands w' hands'
    → r ≡ reply_to (map_after table.shape (log_of w0 hands0)) call
reply_is laws table w0 hands0 hands n call r mid w' hands' s =
    ((laws.goes_on (map_at_opening table) (log_of w0 hands0) (entry n call r)).1.1
    (legal_now laws table w0 hands0 hands (entry n call r ∷ []) mid w' hands' s)).1

-- a call with its reply
module _ (laws : Laws) (table : Table) (w0 : Caller) (hands0 hands : List Handed) (n : ℕ) (call : Call)
    (r : Reply) (mid : List Entry) (w' : Caller) (hands' : List Handed)
    (s : SettlesLine table (entry n call r ∷ []) mid w0 hands0 hands w' hands')
    (kept : map pin_of hands ≡ map pin_of hands0) where
  abbrev state : MapState
  state = shown_by table w0 hands0

  is : r ≡ reply_to (map_after table.shape (log_of w0 hands0)) call
  is = reply_is laws table w0 hands0 hands n call r mid w' hands' s

  pub goes_to : shown_by table w' hands' ≡ after_call state call
  goes_to =
      shown_now_by laws table w0 hands0 hands (entry n call r ∷ []) mid w' hands' s kept
      ∙ ap (λ (k : Reply). shown_after table (log_of w0 hands0 ++ entry n call k ∷ []) hands0) is
      ∙ goes_on laws.puts table (log_of w0 hands0) n call hands0 laws.goes_on

  pub answers_so : (is_done r && is_full state) ≡ false
      → answer_call state call ≡ (Ok (answers.Reply r), shown_by table w' hands')
  answers_so none = answered state call (ap (λ (k : Reply). is_done k && is_full state) (sym is) ∙ none)
      ∙ ap (λ (k : Reply). (Ok (answers.Reply k), after_call state call)) (sym is)
      ∙ ap (λ (k : MapState). (Ok (answers.Reply r), k)) (sym goes_to)

  pub answers_quiet : is_done r ≡ false → answer_call state call ≡ (Ok (answers.Reply r), shown_by table w' hands')
  answers_quiet quiet = answers_so (ap (λ (b : Bool). b && is_full state) quiet)

-- a call of the writer's that is done, or that found no slot
module _ (laws : Laws) (table : Table) (w0 : Caller) (hands0 : List Handed) (call : Call) (w : Caller)
    (w' : Caller) (hands' : List Handed) (alone : IsAlone table w0 hands0) (es : List Entry)
    (g : Gathered 0 w hands0 w' hands') (s : SettlesLine table es g.mid.seen w0 hands0 hands0 w' hands') where
  abbrev log : List Entry
  log = log_of w0 hands0

  abbrev the_state : MapState
  the_state = shown_by table w0 hands0

  only : OnlyLearnt w g.mid
  only = g.stays.only

  current_mid : AllCurrent g.mid.retired g.mid.marks (map how_of hands0)
  current_mid =
      rw (g.round.stays.only.marks, g.round.stays.only.retired, s.pasts) at (all_current table w' hands' s.alone)

  pub done_full : (steps : ℕ) (rows : List Row) → Publishes steps call rows w0 w → w0.seen ≡ log
      → is_full the_state ≡ false
  done_full steps rows puts same =
      not_full table w0 hands0 alone log
      (rw (alone.stands.own, same) at
      (laws.done steps call rows w0 w g.mid (map how_of hands0)
      (record { lists = alone.sound.lists; current = all_current table w0 hands0 alone }) puts only current_mid))

  pub lacking_full : (steps : ℕ) (counts : NoSlot) → HasNoSlot steps call w0 w counts → g.mid.seen ≡ log
      → g.mid.table ≡ table → is_full the_state ≡ true
  lacking_full steps counts lacks same mid_table =
      full table w0 hands0 alone log
      (subst (λ (t : Table). slots_in_use t.shape log (map how_of hands0) ≡ t.shape.slots) mid_table
      (subst (λ (l : List Entry). slots_in_use g.mid.table.shape l (map how_of hands0) ≡ g.mid.table.shape.slots) same
      (laws.no_slot steps call counts w0 w g.mid (map how_of hands0)
      (subst (λ (t : Table). AllReaders t.shape.readers (map how_of hands0)) (sym alone.stands.own)
      (all_readers table w0 hands0 alone))
      (all_known table w0 hands0 alone) (ap (λ (t : Table). t.announcers) alone.stands.own ∙ alone.stands.counted)
      lacks only (record { lists = g.sound.lists; current = current_mid }))))

  -- the writer had seen no more than the history
  pub had_just : (steps : ℕ) → Grows steps es w0 w → 0 < length es → w0.seen ≡ log
  had_just steps grows some =
      let before = log_begins w0 hands0 in let after = seen_more steps w0 es w grows in let later = g.stays.seen in
      let none : length before.rest ≡ 0
      = omega (
        arith,
        length-append {A = Entry},
        ap length before.is,
        ap length grows.seen,
        ap length later.is,
        ap length s.mid_log,
      ) in
      before.is ∙ ap (λ (l : List Entry). log ++ l) (nil_from_length before.rest none) ∙ append-nil log

module _ (laws : Laws) (table : Table) (w0 : Caller) (hands0 : List Handed) (call : Call) (w : Caller)
    (w' : Caller) (hands' : List Handed) (alone : IsAlone table w0 hands0)
    (g : Gathered 0 w hands0 w' hands') where
  settled_by : (steps : ℕ) (es : List Entry) → AreOf 0 es → Grows steps es w0 w
      → SettlesLine table es g.mid.seen w0 hands0 hands0 w' hands'
  settled_by steps es are grows =
      settled laws table w0 hands0 w hands0 0 es w' hands' alone.stands
      (writer_line table w0 hands0 alone es steps w are grows) g

  of_writer : (steps : ℕ) (r : Reply) → Gains steps call w0 w r → Grows steps (entry 0 call r ∷ []) w0 w
  of_writer steps r gains = subst (λ (n : ℕ). Grows steps (entry n call r ∷ []) w0 w) alone.stands.number gains

  abbrev Says : Answer → Type 0
  Says answer =
      IsAlone table w' hands' × (answer_call (shown_by table w0 hands0) call ≡ (Ok answer, shown_by table w' hands'))

  pub says_reply : (r : Reply) → Replies call w0 w r → Says (answers.Reply r)
  says_reply r made =
      let grows = of_writer made.steps r made.gains in
      let s = settled_by made.steps (entry 0 call r ∷ []) (one_of 0 call r) grows in
      (s.alone, answers_quiet laws table w0 hands0 hands0 0 call r g.mid.seen w' hands' s refl made.quiet)

  pub says_done : PutsSet call w0 w → Says (answers.Reply reply.Done)
  says_done made =
      let grows = of_writer _ reply.Done made.publishes.gains in
      let s = settled_by _ (entry 0 call reply.Done ∷ []) (one_of 0 call reply.Done) grows in (
        s.alone,
        answers_so laws table w0 hands0 hands0 0 call reply.Done g.mid.seen w' hands' s refl
            (done_full laws table w0 hands0 call w w' hands' alone (entry 0 call reply.Done ∷ []) g s made.steps
            made.rows made.publishes
            (had_just laws table w0 hands0 call w w' hands' alone (entry 0 call reply.Done ∷ []) g s _ grows
            (omega arith))),
      )

  pub says_no_slot : EndsWithoutSlot call w0 w → Says answers.NoSlot
  says_no_slot made =
      let grows = made.lacks.grows in let s = settled_by _ [] (none_of 0) grows in
      let log0 : List Entry = log_of w0 hands0 in
      let mid_is : g.mid.seen ≡ log0 = s.mid_log ∙ append-nil log0 in
      let seen_is : w.seen ≡ log0
      = starts_both w.seen log0
      (starts_then log0 w0.seen w.seen (log_begins w0 hands0) (seen_more _ w0 [] w grows))
      (subst (λ (l : List Entry). StartsWith l w.seen) mid_is g.stays.seen) in
      let tables : w.table ≡ table = grows.table ∙ alone.stands.own in
      let done : is_done (reply_to (map_after table.shape log0) call) ≡ true =
      ap is_done (rw (tables, seen_is) at made.lacks.lacks.would_be_done) in
      let all : is_full (shown_by table w0 hands0) ≡ true
      = lacking_full laws table w0 hands0 call w w' hands' alone
      [] g s made.steps made.counts made.lacks mid_is (g.stays.only.table ∙ tables) in
      let now : shown_by table w' hands' ≡ shown_by table w0 hands0
      = shown_now_by laws table w0 hands0 hands0 [] g.mid.seen w' hands' s refl
      ∙ ap (λ (l : List Entry). shown_after table l hands0) (append-nil log0) in (
        s.alone,
        lacking (shown_by table w0 hands0) call
            (ap (λ (b : Bool). b && is_full (shown_by table w0 hands0)) done ∙ all)
            ∙ ap (λ (k : MapState). (Ok answers.NoSlot, k)) (sym now),
      )

  pub says : (answer : Answer) → WriterMakes call w0 w answer → Says answer
  says answers.Ok made = absurd made
  says answers.Other made = absurd made
  says answers.NoSlot made = says_no_slot made
  says (answers.Reply reply.Done) made = says_done made
  says (answers.Reply r) made = says_reply r made
