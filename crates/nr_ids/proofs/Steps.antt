-- A step that adds one event keeps the rule, and so does one that adds none.
use Rattle.std.proofs.Common.{◌≡◌, ◌≢◌, ℕ, zero, suc, ◌+◌, ◌<◌, ◌⊎◌, inr, true, false, ◌==◌, cond, List, [], ◌∷◌, ◌++◌}
use Rattle.std.proofs.Common.{length, get_or, set, refl, sym, ap, ◌∙◌, arith, get_or-set_other, get_or-set_same}
use mathlib.Core.Option.{some}
use lib.ListN.{get_elem?}
use Rattle.std.proofs.Math.ListN.{length-set}
use Rattle.std.proofs.lemmas.Bool.Decides.{nat_tests}
use Rattle.std.proofs.lemmas.List.{append-nil}
use Rattle.atomic_table.specs.Table.{State, Splits, Joins}
use Rattle.atomic_table.proofs.Lists.{at_set, set_else}
use Rattle.nr_ids.specs.declared.plan.Plan.{Plan}
use Rattle.nr_ids.specs.Groups.{ways}
use Rattle.nr_ids.specs.Events.{Event, hints_of, maker, marks_of, name_of, turn_of, May}
use Rattle.nr_ids.specs.Rule.{View, Shows, Fits, Kept, BeginsWith, hints_place, marks_place, turn_place, counted}
use Rattle.nr_ids.specs.Rule.{with_reader, next_reader, note_of, retold, with_note, spent}

-- the words after a name, a turn, or a group's marks or hints are written
module _ (plan : Plan) (words : List ℕ) (log : List Event) (shows : Shows plan words log) (event : Event) where
  abbrev pub SameNames : Type 0
  SameNames = (way : ℕ) → name_of (event ∷ log) way ≡ name_of log way

  abbrev pub SameTurns : Type 0
  SameTurns = (group : ℕ) → turn_of plan (event ∷ log) group ≡ turn_of plan log group

  abbrev pub SameMarks : Type 0
  SameMarks = (group : ℕ) → marks_of (event ∷ log) group ≡ marks_of log group

  abbrev pub SameHints : Type 0
  SameHints = (group : ℕ) → hints_of (event ∷ log) group ≡ hints_of log group

  pub shows_same : SameNames → SameTurns → SameMarks → SameHints → Shows plan words (event ∷ log)
  shows_same names turns marks hints = grind arith

  pub shows_name : (way n : ℕ) → way < ways plan
      → ((other : ℕ) → name_of (event ∷ log) other ≡ cond (way == other) n (name_of log other)) → SameTurns → SameMarks
      → SameHints → Shows plan (set words way n) (event ∷ log)
  shows_name way n low names turns marks hints =
      grind (arith, nat_tests, length-set, get_or-set_same, get_or-set_other)

  pub shows_turn : (group place n : ℕ) → place ≡ turn_place plan group → group < plan.groups
      → n ≡ turn_of plan log group + 1 → SameNames
      → ((other : ℕ)
      → turn_of plan (event ∷ log) other
      ≡ cond (group == other) (turn_of plan log other + 1) (turn_of plan log other))
      → SameMarks → SameHints → Shows plan (set words place n) (event ∷ log)
  shows_turn group place n there low is names turns marks hints =
      grind (arith, nat_tests, length-set, get_or-set_same, get_or-set_other)

  pub shows_marks : (group place : ℕ) (f : ℕ → ℕ) → place ≡ marks_place plan group → group < plan.groups → SameNames
      → SameTurns → SameHints
      → ((other : ℕ)
      → marks_of (event ∷ log) other ≡ cond (group == other) (f (marks_of log other)) (marks_of log other))
      → Shows plan (set words place (f (get_or words place 0))) (event ∷ log)
  shows_marks group place f there low names turns hints marks =
      grind (arith, nat_tests, length-set, get_or-set_same, get_or-set_other)

  pub shows_hints : (group place n : ℕ) → place ≡ hints_place plan group → group < plan.groups → SameNames
      → SameTurns → SameMarks
      → ((other : ℕ) → hints_of (event ∷ log) other ≡ cond (group == other) n (hints_of log other))
      → Shows plan (set words place n) (event ∷ log)
  shows_hints group place n there low names turns marks hints =
      grind (arith, nat_tests, length-set, get_or-set_same, get_or-set_other)

module _ (plan : Plan) (state : State ℕ View) (kept : Kept plan state) (id : ℕ) (view next : View)
    (at : get_elem? state.views id ≡ some view) where
  abbrev later : List View
  later = set state.views id next

  -- where it makes steps it is the caller that it was
  abbrev pub IsSameCaller : Type 0
  IsSameCaller = next.calls ≡ true → (view.calls ≡ true) × (next.number ≡ view.number)

  pub once_so : IsSameCaller → (i j : ℕ) (u v : View) → get_elem? later i ≡ some u → get_elem? later j ≡ some v
      → u.calls ≡ true → v.calls ≡ true → u.number ≡ v.number → i ≡ j
  once_so same i j u v at_u at_v calls its twin =
      grind (
        arith,
        at_set state.views id i next u at_u,
        at_set state.views id j next v at_v,
        kept.once i j u v,
        kept.once i id u view,
        kept.once id j view v,
      )

  -- no event
  pub replaced : Fits plan kept.log kept.made next → IsSameCaller
      → Kept plan (record { words = state.words; homes = state.homes; views = later })
  replaced fits same = record {
    log = kept.log;
    shows = kept.shows;
    legal = kept.legal;
    sizes = kept.sizes;
    made = kept.made;
    fits = λ j u there. grind (arith, at_set state.views id j next u there, kept.fits j u);
    once = once_so same;
    fresh = kept.fresh;
  }

  -- one event of the token's own
  module _ (event : Event) (words : List ℕ) (calls : view.calls ≡ true) (by : maker event ≡ view.number) where
    others_fit : (j : ℕ) (u : View) → j ≢ id → get_elem? state.views j ≡ some u
        → Fits plan (event ∷ kept.log) kept.made u
    others_fit j u ne there = let fits = kept.fits j u there in record {
      plan_is = fits.plan_is;
      later = record {
        rest = event ∷ fits.later.rest;
        is = rw fits.later.is;
        quiet = λ its. grind (arith, nat_tests, kept.once j id u view there at);
      };
      told = (event ∷ fits.told.0, rw fits.told.1);
      few = fits.few;
      maker = fits.maker;
    }

    pub moves : Shows plan words (event ∷ kept.log) → May plan kept.log event
        → next ≡ record (counted view) { seen = event ∷ kept.log }
        → Kept plan (record { words = words; homes = state.homes; views = later })
    moves shows may is = record {
      log = event ∷ kept.log;
      shows = shows;
      legal = (may, kept.legal);
      sizes = kept.sizes;
      made = kept.made;
      fits = λ j u there.
          let here : Fits plan (event ∷ kept.log) kept.made next = rw is (record {
            plan_is = mine.plan_is;
            later = record { rest = []; is = refl; quiet = λ _. refl };
            told = (event ∷ mine.told.0, rw mine.told.1);
            few = mine.few;
            maker = mine.maker;
          }) in
          grind (arith, at_set state.views id j next u there, others_fit j u);
      once = once_so (λ _. (calls, ap (λ (w : View). w.number) is));
      fresh = λ number above. grind (arith, nat_tests, kept.fresh number above, mine.few calls);
    }
      where
        mine : Fits plan kept.log kept.made view
        mine = kept.fits id view at

-- what a caller was told may be anything with which the events begin, and its steps are not looked at
told_fits : (plan : Plan) (log : List Event) (made : ℕ) (view : View) (told : List Event) → Fits plan log made view
    → BeginsWith log told → Fits plan log made (record (counted view) { told = told })
told_fits plan log made view told fits begins = search

-- so may a note's view
note_fits : (plan : Plan) (log : List Event) (made : ℕ) (view : View) → view.calls ≡ false → BeginsWith log view.seen
    → BeginsWith log view.told → Fits plan log made view
note_fits plan log made view silent seen told = grind arith

-- a token that makes no step yet, or none at all, stands beside those that there are
snoc_at : {A : Type 0} (l : List A) (a : A) (place : ℕ) (b : A) → get_elem? (l ++ a ∷ []) place ≡ some b
    → ((place ≡ length l) × (a ≡ b)) ⊎ (get_elem? l place ≡ some b)
snoc_at [] a place b e = grind arith
snoc_at (x ∷ xs) a zero b e = inr e
snoc_at (x ∷ xs) a (suc place) b e = grind (arith, snoc_at xs a place b e)

adds : (plan : Plan) (state : State ℕ View) (kept : Kept plan state) (view : View) → Fits plan kept.log kept.made view
    → ((j : ℕ) (u : View) → get_elem? state.views j ≡ some u → u.calls ≡ true → view.calls ≡ true
    → u.number ≢ view.number)
    → Kept plan (record { words = state.words; homes = state.homes; views = state.views ++ view ∷ [] })
adds plan state kept view fits new = record {
  log = kept.log;
  shows = kept.shows;
  legal = kept.legal;
  sizes = kept.sizes;
  made = kept.made;
  fits = λ j u there. grind (arith, snoc_at state.views view j u there, kept.fits j u);
  once = λ i j u v at_u at_v calls its twin. grind (
    arith,
    snoc_at state.views view i u at_u,
    snoc_at state.views view j v at_v,
    kept.once i j u v,
    new i u,
    new j v,
  );
  fresh = kept.fresh;
}

abbrev begins_all : (log : List Event) → BeginsWith log []
begins_all log = (log, sym (append-nil log))

-- the clerk makes a reader
pub seats_so : (plan : Plan) (id : ℕ) (view : View) → view.calls ≡ true → view.number ≡ 0
    → Splits (Kept plan) id view (with_reader view) (next_reader view)
seats_so plan id view calls clerk state kept at =
    let mine = kept.fits id view at in
    let made : view.made ≡ kept.made = mine.maker calls clerk in
    let next = with_reader view in
    let views = set state.views id next in
    let raised : Kept plan (record { words = state.words; homes = state.homes; views = views })
    = record {
      log = kept.log;
      shows = kept.shows;
      legal = kept.legal;
      sizes = kept.sizes;
      made = kept.made + 1;
      fits = λ j u there.
          let here : Fits plan kept.log (kept.made + 1) next = grind arith in
          grind (arith, at_set state.views id j next u there, kept.fits j u, kept.once j id u view);
      once = once_so plan state kept id view next at (λ _. (calls, refl));
      fresh = λ n above. kept.fresh n (omega arith);
    } in
    adds plan (record { words = state.words; homes = state.homes; views = views }) raised (next_reader view)
    (record {
      plan_is = λ _. mine.plan_is calls;
      later =
          record {
            rest = kept.log;
            is = (begins_all kept.log).1;
            quiet = λ _. kept.fresh (view.made + 1) (omega arith);
          };
      told = begins_all kept.log;
      few = λ _. omega arith;
      maker = λ _ zero. absurd (omega arith);
    })
    (λ j u there c _ same. grind (arith, at_set state.views id j next u there, kept.fits j u))

-- a token makes a note of events with which those of the rule begin
note_made : (plan : Plan) (id : ℕ) (view : View) (seen : List Event) (state : State ℕ View) (kept : Kept plan state)
    → get_elem? state.views id ≡ some view → BeginsWith kept.log seen
    → Kept plan
    (record {
      words = state.words;
      homes = state.homes;
      views = set state.views id (counted view) ++ record (note_of view) { seen = seen } ∷ [];
    })
unfolding replaced
note_made plan id view seen state kept at begins =
    let mine = kept.fits id view at in let next = counted view in
    let stays = replaced plan state kept id view next at (told_fits plan _ _ view view.told mine mine.told)
    (λ c. (c, refl)) in
    adds plan (record { words = state.words; homes = state.homes; views = set state.views id next }) stays
    (record (note_of view) { seen = seen }) (note_fits plan _ _ _ refl begins (begins_all kept.log))
    (λ j u there _ c. absurd (cc (c)))

-- of what it has seen, or of what it was told, and takes one in
pub notes_so : (plan : Plan) (id : ℕ) (view : View) → Splits (Kept plan) id view (counted view) (note_of view)
notes_so plan id view state kept at =
    let later = (kept.fits id view at).later in
    note_made plan id view view.seen state kept at (later.rest, later.is)

pub retells_so : (plan : Plan) (id : ℕ) (view : View) → Splits (Kept plan) id view (counted view) (retold view)
retells_so plan id view state kept at = note_made plan id view view.told state kept at (kept.fits id view at).told

pub joins_so : (plan : Plan) (id : ℕ) (view : View) (other : ℕ) (note : View)
    → Joins (Kept plan) id view other note (with_note view note) spent
unfolding replaced
joins_so plan id view other note state kept at apart beside =
    let next = with_note view note in
    let told = (kept.fits other note (sym (set_else state.views id other next apart) ∙ beside)).later in
    let took = replaced plan state kept id view next at
    (told_fits plan _ _ view note.seen (kept.fits id view at) (told.rest, told.is)) (λ c. (c, refl)) in
    replaced plan (record { words = state.words; homes = state.homes; views = set state.views id next }) took other note
    spent beside (note_fits plan _ _ spent refl (begins_all kept.log) (begins_all kept.log)) (λ c. absurd (cc (c)))
