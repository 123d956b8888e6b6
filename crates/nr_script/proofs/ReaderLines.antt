-- Lines of a reader, and what they are answered.
use Rattle.std.proofs.Common.{◌≡◌, ◌≢◌, ◌<◌, ◌⊎◌, inl, inr, ⊎_elim, ℕ, suc, List, [], ◌∷◌, ◌++◌, ◌==◌, length, map}
use Rattle.std.proofs.Common.{get_or, set, refl, sym, ap, ◌∙◌, subst, arith, eq-eqb, ne_eqb, length-append, Ok, Option}
use Rattle.std.proofs.Common.{None, Some, IsSome}
use Rattle.std.proofs.lemmas.List.{append-nil, nil_from_length, append_cancel_left, get_or_default, get_or-map}
use Rattle.std.proofs.lemmas.List.{get_or-set_same, map-set, set-get_or}
use Rattle.std.proofs.lemmas.List.Elements.{filter-append}
use Rattle.std.proofs.lemmas.List.FromFn.{get_or-map-range_with_len}
use Rattle.std.proofs.Math.Seq.{map-set_same}
use Rattle.nr_model.specs.declared.calls.Call.{Call}
use Rattle.nr_model.specs.declared.calls.Call.TheVariants as model
use Rattle.nr_model.specs.declared.calls.Reply.{Reply}
use Rattle.nr_model.specs.declared.calls.Reply.TheVariants as reply
use Rattle.nr_model.specs.declared.rows.Row.{Row}
use Rattle.nr_model.specs.declared.states.KeyState.{KeyState}
use Rattle.nr_model.specs.declared.states.KeyState.TheVariants as states
use Rattle.nr_model.specs.Histories.{Entry, entries_of}
use Rattle.nr_model.specs.Maps.{PartialMap, find_reply, next, state_of}
use Rattle.nr_core.specs.Story.{entry, map_after}
use Rattle.nr_core.specs.Puts.{put_number}
use Rattle.nr_board.specs.Callers.{Caller, Table, map_at_opening}
use Rattle.nr_board.specs.Kinds.{kind_of}
use Rattle.nr_board.specs.Rule.{StartsWith}
use Rattle.nr_script.specs.Answers.{Answer}
use Rattle.nr_script.specs.Answers as answers
use Rattle.nr_map.specs.Hands.{Handed}
use Rattle.nr_script.specs.MapState.{MapOutcome, Pin, MapState, answer_again, answer_call, answer_pin, find_again}
use Rattle.nr_script.specs.MapState.{pin_at, pins_after, with_pin, without_pin}
use Rattle.nr_script.specs.Hands.{Calls, FindsAgain, KeepsPin, HandHoldsItsPin, MakesCall, MakesPin, ShowsPin, Unpins}
use Rattle.nr_script.specs.Hands.{mine_of, pin_of}
use Rattle.nr_script.specs.Rounds.{Gathered}
use Rattle.nr_script.specs.Alone.{IsAlone, Laws, log_of, shown_by, shown_after}
use Rattle.nr_script.specs.Lines.{SettlesLine}
use Rattle.nr_script.proofs.Rounds.{starts_both, starts_then}
use Rattle.nr_script.proofs.Settling.{settled}
use Rattle.nr_script.proofs.Shown.{puts_quiet, quiet_count, quiet_number}
use Rattle.nr_script.proofs.Lines.{AreOf, answers_quiet, none_of, one_of, reader_line, reply_is, seen_more, shown_with}

pub with_some : (pin : Option Pin) (stood : MapState) (outcome : MapOutcome) → IsSome pin
    → with_pin pin stood (λ p. outcome) ≡ outcome
with_some (Some pin) stood outcome there = refl
with_some None stood outcome there = absurd (cc)

abbrev tail_of : List Entry → List Entry
tail_of [] = []
tail_of (x ∷ xs) = xs

-- of two histories of which one begins the other and the other has one entry, at its end, more than a third, the rest
-- is nothing or ends with that entry
last_split : (xs rest log : List Entry) (e : Entry) → log ++ e ∷ [] ≡ xs ++ rest
    → (rest ≡ []) ⊎ ((r : List Entry) × (rest ≡ r ++ e ∷ []))
last_split [] rest log e is = inr (log, sym is)
last_split (x ∷ xs) rest [] e is =
    let n = ap (λ (l : List Entry). length l) is in
    inl (nil_from_length rest (omega (arith, length-append xs rest)))
last_split (x ∷ xs) rest (l ∷ log) e is = last_split xs rest log e (ap tail_of is)

-- a find changes no state
abbrev rows_in : Reply → List Row
rows_in (reply.Rows rows) = rows
rows_in other = []

state_is : (state : KeyState) (rows : List Row) → reply.Rows rows ≡ find_reply state
    → (n : ℕ) × (state ≡ states.Rows n rows)
state_is (states.Rows n others) rows is = (n, ap (states.Rows n) (sym (ap rows_in is)))
state_is state rows is = absurd (cc)

found_hole : (state : KeyState) (stood : MapState) (at key : ℕ) → reply.Hole ≡ find_reply state
    → answer_pin stood at key state ≡ (Ok (answers.Reply reply.Hole), stood)
found_hole state stood at key is = grind arith

-- what a find by a pin is answered
found_rows : (n : ℕ) (rows : List Row) (put : ℕ) (pin : Pin) → put ≡ pin.put
    → find_again (states.Rows n rows) put pin ≡ answers.Reply (reply.Rows rows)
found_rows n rows put pin same = rw (eq-eqb put pin.put same)

found_other : (state : KeyState) (put : ℕ) (pin : Pin)
    → ((n : ℕ) (rows : List Row) → state ≡ states.Rows n rows → put ≢ pin.put)
    → find_again state put pin ≡ answers.Other
found_other (states.Rows n rows) put pin no_put = rw (ne_eqb put pin.put (no_put n rows refl))
found_other state put pin no_put = refl

map_same : (m : PartialMap) (key : ℕ) → next m (model.Find key) ≡ m
map_same m key = λ j. record { bound = m.bound; states = set-get_or m.states key (states.Hole 0) j }

module _ (laws : Laws) (table : Table) (w0 : Caller) (hands0 : List Handed) (alone : IsAlone table w0 hands0)
    (at : ℕ) (old x : Handed) (low : at < length hands0) (item : old ≡ get_or hands0 at old)
    (w' : Caller) (hands' : List Handed) (g : Gathered at w0 (set hands0 at x) w' hands') where
  abbrev log : List Entry
  log = log_of w0 hands0

  abbrev stood : MapState
  stood = shown_by table w0 hands0

  here : (d : Handed) → get_or hands0 at d ≡ old
  here d = get_or_default hands0 at d old low ∙ sym item

  settled_at : (es : List Entry) → AreOf (suc at) es → x.reader.table ≡ old.reader.table
      → x.reader.number ≡ old.reader.number → mine_of x ≡ mine_of old ++ es → HandHoldsItsPin x
      → SettlesLine table es g.mid.seen w0 hands0 (set hands0 at x) w' hands'
  settled_at es are t n m fits = settled laws table w0 hands0 w0 (set hands0 at x) at es w' hands' alone.stands
      (reader_line table w0 hands0 alone es at x low are
      (t ∙ ap (λ (s : Handed). s.reader.table) (sym (here x)))
      (n ∙ ap (λ (s : Handed). s.reader.number) (sym (here x)))
      (m ∙ ap (λ (s : Handed). mine_of s ++ es) (sym (here x))) fits)
      g

  number_is : old.reader.number ≡ suc at
  number_is = ap (λ (s : Handed). s.reader.number) (sym (here old)) ∙ (alone.places at old low).number

  pin_here : pin_at stood at ≡ pin_of old
  pin_here = get_or-map pin_of hands0 at old None low ∙ ap pin_of (here old)

  again_by : (key : ℕ) {pin : Pin} → pin_at stood at ≡ Some pin
      → answer_again stood at key ≡ (Ok (find_again (state_of stood.map key) (get_or stood.puts key 0) pin), stood)
  again_by key is =
      rw is

  pins_set : map pin_of (set hands0 at x) ≡ set (map pin_of hands0) at (pin_of x)
  pins_set = map-set pin_of hands0 at x

  pins_kept : pin_of x ≡ pin_of old → map pin_of (set hands0 at x) ≡ map pin_of hands0
  pins_kept same = map-set_same pin_of hands0 at x old (same ∙ ap pin_of item)

  -- the call's entry, with the reader's place
  mine_at : (heard : List Entry) (call : Call) (r : Reply) → Calls heard call old.reader x.reader r
      → mine_of x ≡ mine_of old ++ entry (suc at) call r ∷ []
  mine_at heard call r made = subst (λ (n : ℕ). mine_of x ≡ mine_of old ++ entry n call r ∷ []) number_is made.mine

  settled_call : (heard : List Entry) (call : Call) (r : Reply) → Calls heard call old.reader x.reader r
      → HandHoldsItsPin x
      → SettlesLine table (entry (suc at) call r ∷ []) g.mid.seen w0 hands0 (set hands0 at x) w' hands'
  settled_call heard call r made fits =
      settled_at (entry (suc at) call r ∷ []) (one_of (suc at) call r) made.table made.number
      (mine_at heard call r made) fits

  abbrev Says : MapOutcome → Answer → Type 0
  Says outcome answer = IsAlone table w' hands' × (outcome ≡ (Ok answer, shown_by table w' hands'))

  pub says_call : (heard : List Entry) (call : Call) (answer : Answer) → MakesCall heard call old x (Ok answer)
      → Says (without_pin (pin_at stood at) stood (answer_call stood call)) answer
  says_call heard call answer (r, is, made, before, after, fits) =
      let s = settled_call heard call r made fits in (
        s.alone,
        rw (pin_here, before, is)
            (answers_quiet laws table w0 hands0 (set hands0 at x) (suc at) call r g.mid.seen w' hands' s
            (pins_kept (after ∙ sym before)) made.quiet),
      )

  -- the find of a pin leaves all but the pins
  found : (heard : List Entry) (key : ℕ) (r : Reply) (pins' : List (Option Pin))
      → Calls heard (model.Find key) old.reader x.reader r → HandHoldsItsPin x
      → map pin_of (set hands0 at x) ≡ pins' → shown_by table w' hands' ≡ record stood { pins = pins' }
  found heard key r pins' made fits kept =
      let s = settled_call heard (model.Find key) r made fits in let e : Entry = entry (suc at) (model.Find key) r in
      let maps : map_after table.shape (log ++ e ∷ []) ≡ map_after table.shape log
      = (laws.goes_on (map_at_opening table) log e).0 ∙ map_same (map_after table.shape log) key in
      shown_with laws table w0 hands0 (set hands0 at x) (e ∷ []) g.mid.seen w' hands' s pins' kept
      ∙ (λ j.
      record stood {
        map = maps j;
        puts = puts_quiet laws.puts table.shape log e made.quiet j;
        put_count = quiet_count laws.puts log e made.quiet j;
        pins = pins';
      })

  reply_at : (heard : List Entry) (key : ℕ) (r : Reply) → Calls heard (model.Find key) old.reader x.reader r
      → HandHoldsItsPin x → r ≡ find_reply (state_of stood.map key)
  reply_at heard key r made fits =
      reply_is laws table w0 hands0 (set hands0 at x) (suc at) (model.Find key) r g.mid.seen w' hands'
      (settled_call heard (model.Find key) r made fits)

  -- the reader has seen just the history that the round knows
  seen_just : (heard : List Entry) (call : Call) (r : Reply) → Calls heard call old.reader x.reader r
      → HandHoldsItsPin x → x.reader.seen ≡ log ++ entry (suc at) call r ∷ []
  seen_just before call r made fits =
      let e : Entry = entry (suc at) call r in let s = settled_call before call r made fits in
      let first : get_or (set hands0 at x) at x ≡ x = get_or-set_same hands0 at x x low in
      let heard : StartsWith g.mid.seen x.reader.seen
      = subst (λ (k : Handed). StartsWith g.mid.seen k.reader.seen) first (g.heard x) in
      let all : entries_of g.mid.seen x.reader.number ≡ mine_of x
      = subst (λ (k : Handed). entries_of g.mid.seen k.reader.number ≡ mine_of k) first (g.all x) in
      let whole : log ++ e ∷ [] ≡ x.reader.seen ++ heard.rest = sym s.mid_log ∙ heard.is in
      let n : ℕ = x.reader.number in
      let none : entries_of heard.rest n ≡ []
      = append_cancel_left (entries_of x.reader.seen n) (entries_of heard.rest n) []
      (sym (filter-append (λ (k : Entry). k.caller == n) x.reader.seen heard.rest)
      ∙ ap (λ (l : List Entry). entries_of l n) (sym heard.is) ∙ all ∙ sym made.own
      ∙ sym (append-nil (entries_of x.reader.seen n))) in
      ⊎_elim
      (λ (nothing : heard.rest ≡ []). sym
      (whole ∙ ap (λ (l : List Entry). x.reader.seen ++ l) nothing ∙ append-nil x.reader.seen))
      (λ (more : (k : List Entry) × (heard.rest ≡ k ++ e ∷ [])).
      let is_n : n ≡ suc at = made.number ∙ number_is in
      let mine : entries_of (e ∷ []) n ≡ e ∷ [] = ap (entries_of (e ∷ [])) is_n ∙ (one_of (suc at) call r).his in
      let split : [] ≡ entries_of more.0 n ++ e ∷ []
      = sym none ∙ ap (λ (l : List Entry). entries_of l n) more.1
      ∙ filter-append (λ (k : Entry). k.caller == n) more.0 (e ∷ [])
      ∙ ap (λ (l : List Entry). entries_of more.0 n ++ l) mine in
      let many = ap (λ (l : List Entry). length l) split in
      absurd (omega (arith, length-append (entries_of more.0 n) (e ∷ []))))
      (last_split x.reader.seen heard.rest log e whole)

  -- the put number of a key in the state, and as a reader sees it that has just found the key
  put_in : (key : ℕ) → key < table.shape.keys → get_or stood.puts key 0 ≡ put_number log key
  put_in key inside = get_or-map-range_with_len (put_number log) 0 table.shape.keys key key 0 inside (omega arith)

  put_found : (heard : List Entry) (key : ℕ) (rows : List Row) → key < table.shape.keys
      → Calls heard (model.Find key) old.reader x.reader (reply.Rows rows) → HandHoldsItsPin x
      → put_number x.reader.seen key ≡ get_or stood.puts key 0
  put_found heard key rows inside made fits =
      ap (λ (l : List Entry). put_number l key) (seen_just heard (model.Find key) (reply.Rows rows) made fits)
      ∙ quiet_number laws.puts log (entry (suc at) (model.Find key) (reply.Rows rows)) key refl
      ∙ sym (put_in key inside)

  pub says_pin : (heard : List Entry) (key : ℕ) (answer : Answer) → key < table.shape.keys
      → MakesPin heard key old x (Ok answer)
      → Says (without_pin (pin_at stood at) stood (answer_pin stood at key (state_of stood.map key))) answer
  says_pin heard key answers.Ok inside (rows, made, before, after, fits) =
      let put_is = put_found heard key rows inside made fits in
      let pinned : pin_of x ≡ Some (record { key = key; rows = rows; put = get_or stood.puts key 0 })
      = after ∙ (λ j. Some (record { key = key; rows = rows; put = put_is j })) in
      let now
      = found heard key (reply.Rows rows)
      (set (map pin_of hands0) at (Some (record { key = key; rows = rows; put = get_or stood.puts key 0 })))
      made fits (pins_set ∙ ap (set (map pin_of hands0) at) pinned) in
      let is = state_is (state_of stood.map key) rows (reply_at heard key (reply.Rows rows) made fits) in (
        (settled_call heard (model.Find key) (reply.Rows rows) made fits).alone,
        rw (pin_here, before, is.1, now),
      )
  says_pin heard key (answers.Reply r) inside (is, made, before, after, fits) =
      let now = found heard key reply.Hole (map pin_of hands0) made fits (pins_kept (after ∙ sym before)) in (
        (settled_call heard (model.Find key) reply.Hole made fits).alone,
        rw (pin_here, before, now, is)
            (found_hole (state_of stood.map key) stood at key (reply_at heard key reply.Hole made fits)),
      )
  says_pin heard key answers.Other inside made = absurd made
  says_pin heard key answers.NoSlot inside made = absurd made

  -- steps that are no call
  rested : x.reader.table ≡ old.reader.table → x.reader.number ≡ old.reader.number
      → mine_of x ≡ mine_of old → HandHoldsItsPin x
      → SettlesLine table [] g.mid.seen w0 hands0 (set hands0 at x) w' hands'
  rested t n m fits = settled_at [] (none_of (suc at)) t n (m ∙ sym (append-nil (mine_of old))) fits

  rested_state : (pins' : List (Option Pin)) → SettlesLine table [] g.mid.seen w0 hands0 (set hands0 at x) w' hands'
      → map pin_of (set hands0 at x) ≡ pins' → shown_by table w' hands' ≡ record stood { pins = pins' }
  rested_state pins' s kept =
      shown_with laws table w0 hands0 (set hands0 at x) [] g.mid.seen w' hands' s pins' kept
      ∙ ap (λ (l : List Entry). record (shown_after table l hands0) { pins = pins' }) (append-nil log)

  pub says_unpin : (answer : Answer) → Unpins old x (Ok answer)
      → Says (with_pin (pin_at stood at) stood (λ pin. (Ok answers.Ok, pins_after stood at None))) answer
  says_unpin answer (is, rests, before, after, fits) =
      let s = rested rests.table rests.number rests.mine fits in
      let now
      = rested_state (set (map pin_of hands0) at None) s (pins_set ∙ ap (set (map pin_of hands0) at) after) in (
        s.alone,
        rw (now, is)
            (with_some (pin_at stood at) stood (Ok answers.Ok, pins_after stood at None)
            (subst IsSome (sym pin_here) before)),
      )

  -- a reader that keeps its pin
  still_fits : KeepsPin old x → HandHoldsItsPin x
  still_fits (same, holds) =
      let had : HandHoldsItsPin old = subst HandHoldsItsPin (here old) (alone.places at old low).fits in
      rw (same, holds) had

  pub says_show : (answer : Answer) → ShowsPin old x (Ok answer)
      → Says (with_pin (pin_at stood at) stood (λ pin. (Ok (answers.Reply (reply.Rows pin.rows)), stood))) answer
  says_show answer (pin, before, is, steps, rests, keeps) =
      let s = rested rests.table rests.number rests.mine (still_fits keeps) in
      let now = rested_state (map pin_of hands0) s (pins_kept keeps.0) in (
        s.alone,
        rw (pin_here, before, now, is),
      )

  -- it has heard the history, so where its line is no call it has seen just that
  heard_just : (later : StartsWith x.reader.seen old.reader.seen)
      → SettlesLine table [] g.mid.seen w0 hands0 (set hands0 at x) w' hands' → x.reader.seen ≡ log
  heard_just later s =
      let least : StartsWith old.reader.seen log
      = subst (λ (k : Handed). StartsWith k.reader.seen log) (here old) (alone.known at old low).heard in
      let first : get_or (set hands0 at x) at x ≡ x = get_or-set_same hands0 at x x low in
      let mid : StartsWith g.mid.seen x.reader.seen
      = subst (λ (k : Handed). StartsWith g.mid.seen k.reader.seen) first (g.heard x) in
      let most : StartsWith log x.reader.seen
      = subst (λ (l : List Entry). StartsWith l x.reader.seen) (s.mid_log ∙ append-nil log) mid in
      starts_both x.reader.seen log (starts_then log old.reader.seen x.reader.seen least later) most

  pub says_again : (key : ℕ) (answer : Answer) → key < table.shape.keys → FindsAgain key old x (Ok answer)
      → Says (answer_again stood at key) answer
  says_again key (answers.Reply r) inside (pin, before, is, called, has, keeps) =
      let fits = still_fits keeps in let heard = old.reader.seen in
      let made : Calls heard (model.Find key) old.reader x.reader (reply.Rows pin.rows)
      = subst (λ (k : Reply). Calls heard (model.Find key) old.reader x.reader k) is called in
      let now = found heard key (reply.Rows pin.rows) (map pin_of hands0) made fits (pins_kept keeps.0) in
      let filled = state_is (state_of stood.map key) pin.rows (reply_at heard key (reply.Rows pin.rows) made fits) in
      let put : get_or stood.puts key 0 ≡ pin.put = sym (put_found heard key pin.rows inside made fits) ∙ has.1 in (
        (settled_call heard (model.Find key) (reply.Rows pin.rows) made fits).alone,
        rw (
          again_by key (pin_here ∙ before),
          filled.1,
          found_rows filled.0 pin.rows (get_or stood.puts key 0) pin put,
          now,
          is,
        ),
      )
  says_again key answers.Other inside (pin, before, grows, hasnt, keeps) =
      let fits = still_fits keeps in
      let s = rested grows.table grows.number (grows.mine ∙ append-nil (mine_of old)) fits in
      let now = rested_state (map pin_of hands0) s (pins_kept keeps.0) in
      let seen = heard_just (seen_more 1 old.reader [] x.reader grows) s in
      let tables : x.reader.table ≡ table
      = grows.table ∙ ap (λ (k : Handed). k.reader.table) (sym (here old))
      ∙ (alone.places at old low).table in
      let no_put : (n : ℕ) (rows : List Row) → state_of stood.map key ≡ states.Rows n rows
      → get_or stood.puts key 0 ≢ pin.put
      = λ n rows filled put. hasnt (
        (λ j. kind_of (state_of (map_after (tables j).shape (seen j)) key)) ∙ ap kind_of filled,
        ap (λ (l : List Entry). put_number l key) seen ∙ sym (put_in key inside) ∙ put,
      ) in (
        s.alone,
        rw (
          again_by key (pin_here ∙ before),
          found_other (state_of stood.map key) (get_or stood.puts key 0) pin no_put,
          now,
        ),
      )
  says_again key answers.Ok inside made = absurd made
  says_again key answers.NoSlot inside made = absurd made
