-- Each step of a seat on the table may be made, and what it tells is what the seat's token gains.
use Rattle.std.proofs.Common.{◌≡◌, ℕ, ◌+◌, ◌/◌, ◌%◌, ◌<◌, ◌==◌, cond, List, [], ◌∷◌, ◌++◌, get_or, set, refl, sym, ap}
use Rattle.std.proofs.Common.{◌∙◌, subst, arith, bit_or, bit_xor}
use mathlib.Core.Option.{some, none}
use lib.ListN.{get_elem?}
use lib.Seq.{set-get_or}
use prog.Atomic.{either}
use Rattle.std.proofs.lemmas.List.{length-replicate, get_or-replicate}
use Rattle.std.specs.Prelude.{replicate}
use Rattle.atomic_table.specs.Seated.{TableId}
use Rattle.atomic_table.specs.declared.shared.Seat.{Seat}
use Rattle.atomic_table.specs.Table.{State, Me, Act, Allows, Valid, carried_after, keeps, opening, step, stepped}
use Rattle.atomic_table.proofs.Lists.{exchanged}
use Rattle.nr_ids.specs.declared.plan.Plan.{Plan}
use Rattle.nr_ids.specs.Groups.{group_of, group_of_way, places, way_in, ways, IsPlan}
use Rattle.nr_ids.specs.Events.{Event, named, unnamed, cleared, claimed, looked, touched, hinted, loaded, marked}
use Rattle.nr_ids.specs.Events.{turned, maker, own, hint_at, hints_of, mark_bit, marks_of, name_of, turn_of, last_turn}
use Rattle.nr_ids.specs.Events.{AreMarked, KeepsHints, May, MayName, MayClaim, IsLegal, IsOpen}
use Rattle.nr_ids.specs.Rule.{View, Shows, Fits, Kept, opener, counted, hints_place, marks_place, turn_place, total}
use Rattle.nr_ids.specs.Plays.{Goes, has_looked_at_hints, has_looked_at_name, has_looked_at_turn, has_claimed}
use Rattle.nr_ids.specs.Plays.{has_loaded, has_marked, has_named, has_unnamed, has_cleared, has_turned, has_hinted}
use Rattle.nr_ids.specs.Plays.{Then}
use Rattle.nr_ids.specs.Scans.{Scanned}
use Rattle.nr_ids.specs.Tokens.{Opened, Sits, Grows, WinsClaim, token}
use Rattle.nr_ids.proofs.Logs.{own_this, quiet_names, quiet_turn, scan_shows}
use Rattle.nr_ids.proofs.MarkBits.{quiet_mark, same_way}
use Rattle.nr_ids.proofs.Hinted.{quiet_hints}
use Rattle.nr_ids.proofs.Steps.{SameHints, SameMarks, SameNames, SameTurns, moves, shows_hints, shows_marks, shows_name}
use Rattle.nr_ids.proofs.Steps.{shows_same, shows_turn}

abbrev pub Caller : Type 0
Caller = Seat ℕ View

-- how a directory's table stands to what contracts see of it
pub record Stands (table : TableId) (key : Plan) (now : Opened) : Type 0 where
  pub id : table ≡ now.id
  pub key_is : key ≡ now.plan
  pub wide : table.words ≡ total now.plan
  pub sizes : IsPlan now.plan

pub stands : {table : TableId} {key plan : Plan} {now : Opened} → record { id = table; plan = plan } ≡ now
    → (key ≡ plan) × (table.words ≡ total plan) × IsPlan plan → Stands table key now
stands is about = rw (← is) search

module _ {table : TableId} {key : Plan} {now : Opened} (about : Stands table key now) {seat : Caller}
    (sits : Sits now seat) where
  pub plan_is : seat.me.0.plan ≡ key
  plan_is = ap (λ (d : Opened). d.plan) sits.own ∙ sym about.key_is

  pub own_table : seat.table_id ≡ table
  own_table = ap (λ (d : Opened). d.id) sits.own ∙ sym about.id

  abbrev after : List Event → Event → View
  after log event = record (counted seat.me.0) { seen = event ∷ log }

  goes : (event : Event) (state : State ℕ View) (kept : Kept key state) → get_elem? state.views seat.id ≡ some seat.me.0
      → May key kept.log event → Goes event seat.me.0 (after kept.log event)
  goes event state kept at may = let fits = kept.fits seat.id seat.me.0 at in record {
    between = fits.later.rest;
    next_is = ap (λ (l : List Event). after l event) fits.later.is;
    quiet = fits.later.quiet sits.calls;
    legal = subst (λ (plan : Plan). IsLegal plan (event ∷ kept.log)) (sym plan_is) (may, kept.legal);
    heard = (event ∷ fits.told.0, ap (λ (l : List Event). event ∷ l) fits.told.1);
  }

  does : (event : Event) (state : State ℕ View) (kept : Kept key state) → get_elem? state.views seat.id ≡ some seat.me.0
      → maker event ≡ seat.me.0.number → (words : List ℕ) → Shows key words (event ∷ kept.log) → May key kept.log event
      → Kept key (record { words = words; homes = state.homes; views = set state.views seat.id (after kept.log event) })
  does event state kept at by words shows may =
      moves key state kept seat.id seat.me.0 (after kept.log event) at event words sits.calls by shows may refl

  -- the seat may make of the word at that place f of what it was, and then this holds
  abbrev pub Permits : ℕ → (ℕ → ℕ) → (ℕ → Me ℕ View → Type 0) → Type 0
  Permits place f then =
      (seat.table_id ≡ table) × (place < table.words) × Allows (Kept key) table.slots seat.id seat.me place f then

  abbrev pub says : Then → ℕ → ℕ → ℕ → Me ℕ View → Type 0
  says play place first = play (step table.slots place first 0 none) seat.me

  -- where the event of it may happen
  steps : (event : Event) (place : ℕ) (f : ℕ → ℕ) (then : ℕ → Me ℕ View → Type 0) → place < total now.plan
      → maker event ≡ seat.me.0.number
      → ((state : State ℕ View) (kept : Kept key state) → get_elem? state.views seat.id ≡ some seat.me.0
      → May key kept.log event × Shows key (set state.words place (f (get_or state.words place 0))) (event ∷ kept.log)
      × (Goes event seat.me.0 (after kept.log event)
      → then (get_or state.words place 0) (after kept.log event, seat.me.1)))
      → Permits place f then
  steps event place f then low by may = (
    own_table,
    subst (λ (n : ℕ). place < n) (sym about.wide) low,
    λ state kept len at small. let it = may state kept at in (
      after kept.log event,
      keeps,
      tt,
      does event state kept at by (set state.words place (f (get_or state.words place 0))) it.1 it.0,
      it.2 (goes event state kept at it.0),
    ),
  )

  -- one that changes nothing tells what the word shows
  abbrev IsQuiet : Event → Type 0
  IsQuiet event = (state : State ℕ View) (kept : Kept key state)
      → May key kept.log event × SameNames key state.words kept.log kept.shows event
      × SameTurns key state.words kept.log kept.shows event × SameMarks key state.words kept.log kept.shows event
      × SameHints key state.words kept.log kept.shows event

  same_words : (event : Event) (state : State ℕ View) (kept : Kept key state) (place : ℕ) → IsQuiet event
      → Shows key (set state.words place (get_or state.words place 0)) (event ∷ kept.log)
  same_words event state kept place quiet = let it = quiet state kept in
      rw set-get_or (shows_same key state.words kept.log kept.shows event it.1 it.2 it.3 it.4)

  reads : (event : Event) (place : ℕ) (then : ℕ → Me ℕ View → Type 0) → place < total now.plan
      → maker event ≡ seat.me.0.number → IsQuiet event
      → ((state : State ℕ View) (kept : Kept key state) → Goes event seat.me.0 (after kept.log event)
      → then (get_or state.words place 0) (after kept.log event, seat.me.1))
      → Permits place (λ n. n) then
  reads event place then low by quiet tells = steps event place (λ n. n) then low by
      (λ state kept at. ((quiet state kept).0, same_words event state kept place quiet, tells state kept))

  abbrev look : Event
  look = looked seat.me.0.number

  look_is_quiet : IsQuiet look
  look_is_quiet state kept = (tt, λ _. refl, λ _. refl, λ _. refl, λ _. refl)

  groups : key.groups ≡ now.plan.groups
  groups = cc

  own_groups : seat.me.0.plan.groups ≡ now.plan.groups
  own_groups = ap (λ (d : Opened). d.plan.groups) sits.own

  pub looks_at_name : (way : ℕ) → way < ways now.plan
      → Permits way (λ n. n) (says has_looked_at_name way 0)
  looks_at_name way low = reads look way (says has_looked_at_name way 0) (omega arith) refl look_is_quiet
      (λ state kept goes. (goes, kept.shows.names way (omega (arith, low, groups))))

  pub looks_at_turn : (group place : ℕ) → group < now.plan.groups → place ≡ turn_place now.plan group
      → Permits place (λ n. n) (says has_looked_at_turn place 0)
  looks_at_turn group place low is = reads look place (says has_looked_at_turn place 0) (omega arith) refl look_is_quiet
      (λ state kept goes. (goes, λ other at_place. grind (arith, plan_is, kept.shows.turns other)))

  pub looks_at_hints : (group place : ℕ) → group < now.plan.groups → place ≡ hints_place now.plan group
      → Permits place (λ n. n) (says has_looked_at_hints place 0)
  looks_at_hints group place low is =
      reads look place (says has_looked_at_hints place 0) (omega arith) refl look_is_quiet
      (λ state kept goes. (goes, λ other at_place. grind (arith, groups, own_groups, kept.shows.hints other)))

  -- a load of any word, which of a group's marks tells what they are
  pub loads_word : (place : ℕ) → place < total now.plan
      → Permits place (λ n. n) (says has_loaded place 0)
  loads_word place low = reads (touched seat.me.0.number (loaded place)) place (says has_loaded place 0) low refl
      (λ state kept. (tt, λ _. refl, λ _. refl, λ _. refl, λ _. refl))
      (λ state kept goes. (goes, λ group near at_place. grind (arith, groups, own_groups, kept.shows.marks group)))

  -- a way's use bit is set
  pub marks_way : (way place bit : ℕ) → way < ways now.plan → place ≡ marks_place now.plan (group_of_way way)
      → bit ≡ mark_bit way
      → Permits place (λ n. bit_or n bit) (says has_marked place bit)
  marks_way way place bit low is bit_is =
      let event = touched seat.me.0.number (marked way) in
      let group : ℕ = way / 8 in
      steps event place (λ n. bit_or n bit) (says has_marked place bit) (omega arith) refl
      (λ state kept at. (
        omega (arith, low, groups),
        shows_marks key state.words kept.log kept.shows event group place (λ k. bit_or k bit)
            (omega (arith, is, groups)) (omega (arith, low, groups)) (λ _. refl) (λ _. refl) (λ _. refl)
            (λ other. ap
            (λ (b : ℕ). cond (group == other) (bit_or (marks_of kept.log other) b) (marks_of kept.log other))
            (sym bit_is)),
        λ goes other at_place other_bit.
            let same : other ≡ way
            = same_way other way (omega (arith, at_place, is, groups, own_groups)) (sym other_bit ∙ bit_is) in
            rw same goes,
      ))

  -- what the clerk knows, the others leave
  module _ (clerk : seat.me.0.number ≡ 0) (state : State ℕ View) (kept : Kept key state)
      (at : get_elem? state.views seat.id ≡ some seat.me.0) where
    abbrev rest : List Event
    rest = (kept.fits seat.id seat.me.0 at).later.rest

    is_later : kept.log ≡ rest ++ seat.me.0.seen
    is_later = (kept.fits seat.id seat.me.0 at).later.is

    quiet : own 0 rest ≡ []
    quiet = rw (← clerk) ((kept.fits seat.id seat.me.0 at).later.quiet sits.calls)

    legal : IsLegal key (rest ++ seat.me.0.seen)
    legal = rw is_later at kept.legal

    names_known : (way : ℕ) → name_of kept.log way ≡ name_of seat.me.0.seen way
    names_known way = rw is_later (quiet_names rest seat.me.0.seen way quiet)

    turn_known : (group : ℕ) → IsOpen key seat.me.0.seen group
        → turn_of key kept.log group ≡ turn_of key seat.me.0.seen group
    turn_known group odd = rw is_later (quiet_turn key rest seat.me.0.seen group (rw quiet tt) legal odd)

    hints_known : (group : ℕ) → hints_of kept.log group ≡ hints_of seat.me.0.seen group
    hints_known group = rw is_later (quiet_hints key rest seat.me.0.seen group quiet legal)

    -- use bits that are set stay so until the clerk turns them over
    set_known : (group bits : ℕ) → AreMarked seat.me.0.seen group bits → AreMarked kept.log group bits
    set_known group bits were place low on =
        rw is_later (quiet_mark key rest seat.me.0.seen group place quiet legal (were place low on))

    -- and hints that keep those of the named ways keep them still
    kept_known : (group hints : ℕ) → KeepsHints seat.me.0.seen group hints → KeepsHints kept.log group hints
    kept_known group hints keeps_them place near has =
        keeps_them place near (λ none. has (names_known (way_in group place) ∙ none))
        ∙ ap (λ (word : ℕ). hint_at word place) (sym (hints_known group))

    may_name : (way id : ℕ) → MayName key seat.me.0.seen way id → MayName key kept.log way id
    may_name way id may =
        grind (arith, names_known, hints_known (group_of_way way), turn_known (group_of key id))

  module _ (clerk : seat.me.0.number ≡ 0) where
    pub names_way : (way id : ℕ) → MayName now.plan seat.me.0.seen way id
        → Permits way (λ _. id) (λ _. says has_named way id id)
    names_way way id may =
        let low = may.inside in
        steps (named way id) way (λ _. id) (λ _. says has_named way id id) (omega arith) (sym clerk)
        (λ state kept at. (
          may_name clerk state kept at way id (rw about.key_is may),
          shows_name key state.words kept.log kept.shows (named way id) way id (omega (arith, low, groups)) (λ _. refl)
              (λ _. refl) (λ _. refl) (λ _. refl),
          λ goes. goes,
        ))

    pub unnames_way : (way : ℕ) → way < ways now.plan
        → Permits way (λ _. 0) (λ _. says has_unnamed way 0 0)
    unnames_way way low = let near : way < ways key = omega (arith, low, groups) in
        steps (unnamed way) way (λ _. 0) (λ _. says has_unnamed way 0 0) (omega arith) (sym clerk)
        (λ state kept at. (
          near,
          shows_name key state.words kept.log kept.shows (unnamed way) way 0 near (λ _. refl) (λ _. refl) (λ _. refl)
              (λ _. refl),
          λ goes. goes,
        ))

    pub clears_group : (group place was : ℕ) → group < now.plan.groups → place ≡ turn_place now.plan group
        → turn_of now.plan seat.me.0.seen group ≡ was → was % 2 ≡ 1
        → Permits place (λ _. was + 1) (λ _. says has_cleared place (was + 1) (was + 1))
    clears_group group place was low is turn odd =
        let turn' : turn_of key seat.me.0.seen group ≡ was = rw about.key_is turn in
        let near : group < key.groups = omega (arith, low, groups) in
        steps (cleared group) place (λ _. was + 1) (λ _. says has_cleared place (was + 1) (was + 1)) (omega arith)
        (sym clerk)
        (λ state kept at.
        let here : turn_of key kept.log group ≡ was
        = turn_known clerk state kept at group (ap (λ (k : ℕ). k % 2) turn' ∙ odd) ∙ turn' in (
          (near, ap (λ (k : ℕ). k % 2) here ∙ odd),
          shows_turn key state.words kept.log kept.shows (cleared group) group place (was + 1)
              (omega (arith, is, groups)) near
              (ap (λ (k : ℕ). k + 1) (sym here)) (λ _. refl) (λ _. refl) (λ _. refl) (λ _. refl),
          λ goes other at_place. let same : other ≡ group = omega (arith, is, at_place, own_groups) in rw same goes,
        ))

    pub turns_group : (group place bits : ℕ) → group < now.plan.groups → place ≡ marks_place now.plan group
        → AreMarked seat.me.0.seen group bits
        → Permits place (λ n. bit_xor n bits) (says has_turned place bits)
    turns_group group place bits low is were =
        let event = touched seat.me.0.number (turned group bits) in
        let near : group < key.groups = omega (arith, low, groups) in
        steps event place (λ n. bit_xor n bits) (says has_turned place bits) (omega arith) refl
        (λ state kept at. (
          (clerk, near, set_known clerk state kept at group bits were),
          shows_marks key state.words kept.log kept.shows event group place (λ k. bit_xor k bits)
              (omega (arith, is, groups)) near (λ _. refl) (λ _. refl) (λ _. refl) (λ _. refl),
          λ goes other at_place. let same : other ≡ group = omega (arith, is, at_place, own_groups) in rw same goes,
        ))

    pub writes_group : (group place hints : ℕ) → group < now.plan.groups → place ≡ hints_place now.plan group
        → KeepsHints seat.me.0.seen group hints
        → Permits place (λ _. hints) (λ _. says has_hinted place hints hints)
    writes_group group place hints low is keeps_them =
        let event = touched seat.me.0.number (hinted group hints) in
        let near : group < key.groups = omega (arith, low, groups) in
        steps event place (λ _. hints) (λ _. says has_hinted place hints hints) (omega arith) refl
        (λ state kept at. (
          (clerk, near, kept_known clerk state kept at group hints keeps_them),
          shows_hints key state.words kept.log kept.shows event group place hints (omega (arith, is, groups)) near
              (λ _. refl) (λ _. refl) (λ _. refl) (λ _. refl),
          λ goes other at_place. let same : other ≡ group = omega (arith, is, at_place, own_groups) in rw same goes,
        ))

  pub claims_group : (group place id was : ℕ) → group ≡ group_of now.plan id → group < now.plan.groups
      → place ≡ turn_place now.plan group → 0 < id → was % 2 ≡ 0 → was < last_turn
      → Scanned now.plan seat.me.0.seen id was places
      → Permits place (λ n. either (n == was) (was + 1) n)
      (has_claimed (step table.slots place was (was + 1) (some id)) seat.me)
  claims_group group place id was group_is low is real even early scan = let wide = about.wide in let same = groups in
      let scan' : Scanned key seat.me.0.seen id was places = rw about.key_is scan in
      let of_id : group_of key id ≡ group = rw about.key_is (sym group_is) in
      let place' : place ≡ turn_place key group = omega arith in (
        own_table,
        omega arith,
        λ state kept len at small.
            let later = (kept.fits seat.id seat.me.0 at).later in
            let n : ℕ = get_or state.words place 0 in
            let n_is : n ≡ turn_of key kept.log (group_of key id)
            = ap (λ (p : ℕ). get_or state.words p 0) place' ∙ kept.shows.turns group (omega arith)
            ∙ ap (turn_of key kept.log) (sym of_id) in
            exchanged n was (was + 1)
            (λ (m : ℕ). (w : View) × (a : Act ℕ) × Valid state.homes seat.me.1 a
            × Kept key (stepped state place m seat.id seat.me.1 w a)
            × has_claimed (step table.slots place was (was + 1) (some id)) seat.me n (w, carried_after seat.me.1 a))
            (λ hit.
            let event = claimed seat.me.0.number id in
            let here : turn_of key kept.log (group_of key id) ≡ was = sym n_is ∙ hit in
            let may : MayClaim key kept.log id = record {
              real = real;
              closed = ap (λ (k : ℕ). k % 2) here ∙ even;
              early = omega arith;
              absent =
                  scan_shows key kept.log seat.me.0.seen later.rest id was later.is kept.legal real even here scan';
            } in (
              after kept.log event,
              keeps,
              tt,
              does event state kept at refl (set state.words place (was + 1))
                  (shows_turn key state.words kept.log kept.shows event (group_of key id) place (was + 1)
                  (place' ∙ ap (turn_place key) (sym of_id)) (omega arith) (ap (λ (k : ℕ). k + 1) (sym here))
                  (λ _. refl) (λ _. refl) (λ _. refl) (λ _. refl))
                  may,
              (λ _. goes event state kept at may, λ ne. absurd (ne hit)),
            ))
            (λ miss. (
              after kept.log look,
              keeps,
              tt,
              does look state kept at refl (set state.words place n)
                  (same_words look state kept place look_is_quiet) tt,
              (
                λ hit. absurd (miss hit),
                λ _. (
                  goes look state kept at tt,
                  n_is ∙ ap (λ (plan : Plan). turn_of plan kept.log (group_of plan id)) (sym plan_is),
                ),
              ),
            )),
      )

-- what a step tells is what the token gains
pub grows_by : (old next : Caller) (event : Event) → next.table_id ≡ old.table_id → Goes event old.me.0 next.me.0
    → maker event ≡ old.me.0.number → Grows (event ∷ []) (token old) (token next)
grows_by old next event table goes by = let is = goes.next_is in record {
  directory = λ j. record { id = table j; plan = (is j).plan };
  number = ap (λ (v : View). v.number) is;
  made = ap (λ (v : View). v.made) is;
  rest = event ∷ goes.between;
  seen = ap (λ (v : View). v.seen) is;
  acts_are = rw (own_this old.me.0.number event goes.between by, goes.quiet);
  newest = (goes.between ++ old.me.0.seen, ap (λ (v : View). v.seen) is);
  legal = goes.legal;
  steps = ap (λ (v : View). v.steps) is;
}

-- and the seat stays one of its directory
pub sits_on : {now : Opened} {old next : Caller} {event : Event} → Sits now old → next.table_id ≡ old.table_id
    → Goes event old.me.0 next.me.0 → Sits now next
sits_on {next = next} sits table goes = let is = goes.next_is in record {
  own = (λ j. record { id = table j; plan = (is j).plan }) ∙ sits.own;
  calls = ap (λ (v : View). v.calls) is ∙ sits.calls;
  legal = subst (λ (d : Opened). IsLegal d.plan next.me.0.seen) sits.own goes.legal;
}

pub claims_by : (old next : Caller) (id : ℕ) → next.table_id ≡ old.table_id
    → Goes (claimed old.me.0.number id) old.me.0 next.me.0 → WinsClaim id [] (token old) (token next)
claims_by old next id table goes = let seen = ap (λ (v : View). v.seen) goes.next_is in record {
  grows = grows_by old next (claimed old.me.0.number id) table goes refl;
  before = goes.between ++ old.me.0.seen;
  last = seen;
  absent = (rw seen at goes.legal).0.absent;
}

-- the table at opening keeps the rule
pub opens_so : (plan : Plan) (words : List ℕ) → IsPlan plan → words ≡ replicate (total plan) 0
    → Kept plan (opening words [] (opener plan))
opens_so plan words sizes is = record {
  log = [];
  shows = grind (arith, length-replicate, get_or-replicate);
  legal = tt;
  sizes = sizes;
  made = 0;
  fits = λ at view there.
      let first : Fits plan [] 0 (opener plan) = record {
        plan_is = λ _. refl;
        later = record { rest = []; is = refl; quiet = λ _. refl };
        told = ([], refl);
        few = λ _. omega arith;
        maker = λ _ _. refl;
      } in
      grind arith;
  once = λ at other view twin at_view at_twin calls its same. grind arith;
  fresh = λ _ _. refl;
}
