-- A way without a name that the writer's own reader asked for is asked for, as the writer knows it then, and its
-- upquery is the only one that was opened.
use Rattle.std.proofs.Common.{◌≡◌, ◌≢◌, ℕ, ◌<◌, List, [], ◌∷◌, ◌++◌, refl, sym, ap, ◌∙◌, arith, append_assoc}
use Rattle.std.proofs.Common.{append-nil, Ok, Err}
use Rattle.std.proofs.lemmas.Bool.Decides.{nat_tests}
use Rattle.std.proofs.lemmas.List.{append_cancel_left, length-replicate}
use Rattle.nr_model.specs.declared.calls.Call.TheVariants.{Ask}
use Rattle.nr_model.specs.declared.states.KeyState.{KeyState}
use Rattle.nr_model.specs.declared.states.KeyState.TheVariants.{Hole, Asked}
use Rattle.nr_model.specs.Histories.{Entry, after, entries_of}
use Rattle.nr_model.specs.Maps.{PartialMap, asked as asked_after, key_count, next, number_of, state_of}
use Rattle.nr_model.proofs.HistoryLemmas.{state_of-next_same}
use Rattle.nr_core.proofs.Histories.{of-append}
use Rattle.nr_core.specs.Story.{entry}
use Rattle.nr_board.proofs.Entries.{callers_before, callers_of_more}
use Rattle.nr_board.proofs.KeySets.{none_between}
use Rattle.nr_board.specs.Callers.{Caller, Grows, Table, map_at_opening, map_seen}
use Rattle.nr_board.specs.Entries.{AreCallers}
use Rattle.nr_board.specs.Meetings.{Learns, with_step}
use Rattle.nr_ids.specs.declared.admissions.Refused.{Refused}
use Rattle.nr_ids.specs.Answers.{Admits}
use Rattle.nr_ids.specs.Events.{Event, cleared, hinted, named, touched, looks, name_of}
use Rattle.nr_ids.specs.Looking.{group_for}
use Rattle.nr_ids.specs.Tokens.{Opened, Token}
use Rattle.nr_ids.specs.Groups.{group_of_way, ways}
use Rattle.nr_ids.specs.Tokens as ids
use Rattle.nr_ids.proofs.Admitting.{admits_by, refusal_looks}
use Rattle.nr_ids.proofs.Calls.{clerk_names, grows_none, looks_leave}
use Rattle.nr_ids.proofs.Logs.{looks_names}
use Rattle.nr_idmap.specs.Asking.{AsksWay}
use Rattle.nr_idmap.specs.IdWrites.{AdmitsId, RefusesId}
use Rattle.nr_idmap.specs.Keepers.{Agrees, IsTied, keeper_of}
use Rattle.nr_idmap.proofs.Entries.{Rested, Stayed, after_both, count_after, stayed}
use Rattle.nr_idmap.proofs.Stills.{agrees_still, others_still, owed_still}
use Rattle.nr_idmap.proofs.Ties.{Leaves, clerk_tied, owed_asked, rested_of, retied, stays_tied}
use Rattle.nr_idmap.proofs.WayCalls.{still_asked}

both_empty : (xs ys : List Entry) → xs ++ ys ≡ [] → (xs ≡ []) × (ys ≡ [])
both_empty [] ys none = grind arith
both_empty (x ∷ xs) ys none = grind arith

-- what the writer learnt is steps without an entry
abbrev like : Caller → Caller → Caller
like old new = record new { pasts = old.pasts }

abbrev grown : {steps : ℕ} {old new : Caller} → Learns steps old new → Grows steps [] old (like old new)
grown {old = old} learns = record {
  table = learns.table;
  number = learns.number;
  between = learns.seen.rest;
  seen = learns.seen.is ∙ sym (append-nil (old.seen ++ learns.seen.rest));
  mine = learns.mine ∙ sym (append-nil old.mine);
  legal = learns.legal;
  own = learns.own;
  callers = learns.callers;
  steps_made = learns.steps_made;
  pasts = refl;
  loaded_ahead = learns.loaded_ahead;
}

-- whose word is another caller, that knows the same
rested_like : (old : Caller) {new : Caller} → Rested (like old new) → Rested new
rested_like old rested = search

pub learnt : {steps : ℕ} {old new : Caller} → Rested old → Learns steps old new → Stayed old new
learnt {old = old} rested learns =
    let on = stayed rested (grown learns) in
    record { rested = rested_like old on.rested; table = learns.table; still = on.still }

-- so they leave all tied
pub learnt_tied : {steps : ℕ} {w a w' : Caller} {c : Token} → IsTied (keeper_of w a c) → Learns steps w w'
    → Leaves (keeper_of w a c) (keeper_of w' a c)
learnt_tied {c = c} tied learns =
    stays_tied tied (learnt (rested_of tied) learns) ([], grows_none c tied.legal, λ way. refl)

-- nobody else's entries are the writer's
none_learnt : {steps : ℕ} {old new : Caller} → Rested old → (learns : Learns steps old new)
    → entries_of learns.seen.rest 0 ≡ []
none_learnt {steps} {old} {new} rested learns = rw (← rested.number)
    (none_between steps old [] (like old new) rested.sound.own refl (grown learns))

unnamed_asked : (state : KeyState) → Agrees 0 state → asked_after state ≡ Asked (number_of state)
unnamed_asked state agrees = grind arith

module _ (way : ℕ) {a w a' w' : Caller} (rested : Rested w) (asks : AsksWay way a w a' w') where
  stepped : Rested (with_step w)
  stepped = record {
    number = rested.number;
    sound = record { legal = rested.sound.legal; own = rested.sound.own; callers = rested.sound.callers };
    tidy = rested.tidy;
  }

  pub asks_stays : Stayed w w'
  asks_stays = let went = learnt stepped asks.hears.learns in
      record { rested = went.rested; table = went.table; still = went.still }

  -- the entries that the writer learnt: some, the request, and some
  abbrev before : List Entry
  before = asks.meets.seen.rest ++ asks.asks.between

  abbrev request : List Entry
  request = entry asks.met.number (Ask way) asks.answer ∷ []

  abbrev last : List Entry
  last = asks.hears.seen.rest

  parts : asks.hears.learns.seen.rest ≡ (before ++ request) ++ last
  parts =
      let asked : asks.asked.seen ≡ w.seen ++ (before ++ request) = asks.asks.seen
      ∙ ap (λ (l : List Entry). (l ++ asks.asks.between) ++ request) asks.meets.seen.is ∙ simp append_assoc in
      append_cancel_left w.seen _ _
      (sym asks.hears.learns.seen.is ∙ asks.hears.seen.is ∙ ap (λ (l : List Entry). l ++ last) asked
      ∙ append_assoc w.seen (before ++ request) last)

  pub asks_asked : Agrees 0 (state_of (map_seen w) way) → way < w.table.shape.keys
      → (n : ℕ) × (state_of (map_seen w') way ≡ Asked n)
  asks_asked agrees near =
      let shape = w.table.shape in let open_map = map_at_opening w.table in
      let none : entries_of ((before ++ request) ++ last) 0 ≡ []
      = rw parts at (none_learnt stepped asks.hears.learns) in
      let split = both_empty (entries_of (before ++ request) 0) (entries_of last 0)
      (sym (of-append 0 (before ++ request) last) ∙ none) in
      let first = both_empty (entries_of before 0) (entries_of request 0) (sym (of-append 0 before request) ∙ split.0)
      in
      let all : AreCallers shape (w.seen ++ ((before ++ request) ++ last))
      = rw (asks.hears.learns.seen.is, parts) at asks.hears.learns.callers in
      let learnt_callers = callers_of_more shape w.seen ((before ++ request) ++ last) all in
      let size : key_count (map_seen w) ≡ shape.keys
      = count_after w.seen open_map ∙ length-replicate shape.keys (Hole shape.first_number) in
      let there : PartialMap = after (map_seen w) before in
      let count : key_count there ≡ shape.keys = count_after before (map_seen w) ∙ size in
      let reached = others_still shape before (map_seen w) way
      (callers_before shape before request (callers_before shape (before ++ request) last learnt_callers)) first.0 size
      in
      let n : ℕ = number_of (state_of there way) in
      let asked : state_of (next there (Ask way)) way ≡ Asked n
      = state_of-next_same there (Ask way) (omega (arith, near, count))
      ∙ unnamed_asked (state_of there way) (agrees_still 0 agrees reached) in
      let on = others_still shape last (next there (Ask way)) way
      (callers_of_more shape (before ++ request) last learnt_callers) split.1 (count_after request there ∙ count) in
      let whole : map_seen w' ≡ after (next there (Ask way)) last =
      ap (λ (t : Table). after (map_at_opening t) w'.seen) asks.hears.learns.table
      ∙ ap (after open_map) (asks.hears.learns.seen.is ∙ ap (λ (l : List Entry). w.seen ++ l) parts)
      ∙ after_both w.seen ((before ++ request) ++ last) open_map ∙ after_both (before ++ request) last (map_seen w)
      ∙ ap (λ (m : PartialMap). after m last) (after_both before request (map_seen w)) in
      (n, ap (λ (m : PartialMap). state_of m way) whole ∙ still_asked n _ (rw asked at on))

-- AN ADMISSION
module _ {w a w' a' : Caller} {c c' : Token} (tied : IsTied (keeper_of w a c)) (id way : ℕ) (real : 0 < id)
    (admits : Admits id c c' (Ok way)) (asks : AsksWay way a w a' w') where
  stays : Stayed w w'
  stays = asks_stays way (rested_of tied) asks

  abbrev acts : List Event
  acts = let by = admits_by id way c c' admits in
      cleared (group_for c id) ∷ named way id ∷ touched c.number (hinted (group_of_way way) by.1)
      ∷ looks by.0 c.number

  grows : ids.Grows acts c c'
  grows = (admits_by id way c c' admits).2

  name_else : (k : ℕ) → k ≢ way → name_of c'.seen k ≡ name_of c.seen k
  name_else k other =
      let count = (admits_by id way c c' admits).0 in
      grind (arith, nat_tests, clerk_names c acts c' k tied.names.1 grows, looks_names count c.number c.seen k)

  near : way < w.table.shape.keys
  near = omega (arith, admits.2.inside, ap (λ (d : Opened). ways d.plan) grows.directory, tied.ways_are)

  asked_now : (n : ℕ) × (state_of (map_seen w') way ≡ Asked n)
  asked_now = asks_asked way (rested_of tied) asks (rw admits.1 at (tied.agrees way)) near

  agrees_now : (k : ℕ) → Agrees (name_of c'.seen k) (state_of (map_seen w') k)
  agrees_now k =
      grind (arith, asked_now.1, name_else k, agrees_still (name_of c.seen k) (tied.agrees k) (stays.still k))

  pub admitted_tied : IsTied (keeper_of w' a' c')
  admitted_tied = retied tied stays.rested stays.table
      (rw asks.told (asks.asks.table ∙ asks.meets.learns.table, asks.asks.own)) grows agrees_now

  pub admitted : (number : ℕ) → number ≡ number_of (state_of (map_seen w') way) →
      AdmitsId id (keeper_of w a c) (keeper_of w' a' c') (record { way = way; number = number; id = id })
  admitted number is = record {
    id_is = refl;
    names = admits;
    asks = asks;
    opens = record {
      before = rw admits.1 refl;
      after = let same : asked_now.0 ≡ number = ap number_of (sym asked_now.1) ∙ sym is in
          rw (admits.2.has, asked_now.1, same) (owed_asked way id number real);
      others = λ k other.
          rw (name_else k other) (owed_still k (name_of c.seen k) (tied.agrees k) (stays.still k));
    };
  }

pub unadmitted : {w a : Caller} {c c' : Token} → IsTied (keeper_of w a c) → (id : ℕ) (why : Refused)
    → Admits id c c' (Err why) → IsTied (keeper_of w a c') × RefusesId id (keeper_of w a c) (keeper_of w a c') why
unadmitted {c = c} {c'} tied id why h =
    let look = refusal_looks id c c' why h in
    let left = clerk_tied tied (looks_leave look.0 c c' look.1) in
    (left.0, record { refused = h; writer = refl; asker = refl; owes = left.1 })
