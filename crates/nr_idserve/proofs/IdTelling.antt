-- What a get by id finds of what its client heard was applied.
use Rattle.std.proofs.Common.{arith, ◌≡◌, ◌<◌, ℕ, true, List, [], ◌∷◌, ◌++◌, sym, ◌∙◌, subst, append_assoc, append-nil}
use Rattle.std.proofs.Common.{inl, inr, ⊎_elim}
use Rattle.nr_model.specs.declared.rows.Row.{Row}
use Rattle.nr_model.specs.Histories.{Entry}
use Rattle.nr_core.specs.Puts.{puts_at}
use Rattle.nr_board.specs.Callers.{Caller}
use Rattle.nr_board.specs.Rule.{StartsWith}
use Rattle.nr_ids.specs.Events.{name_of}
use Rattle.nr_idmap.specs.declared.finds.FoundId.{FoundId}
use Rattle.nr_idmap.specs.IdFinds.{FindsById}
use Rattle.nr_idmap.specs.IdHeard.{FindsIdHeard, HeardIdBefore}
use Rattle.nr_idmap.specs.IdNotes.{HearsIdNote, IdKnown, with_steps_of_split}
use Rattle.nr_idmap.specs.Keepers.{IdCaller}
use Rattle.nr_idserve.specs.declared.answers.GotId.{GotId}
use Rattle.nr_idserve.specs.declared.answers.Missed.{Missed}
use Rattle.nr_idserve.specs.declared.hands.IdHands.{IdHands}
use Rattle.nr_idserve.specs.IdApplied.{EachFind, GetsIdWhatWasApplied, IsSince, LastFind, TellsOfPut}
use Rattle.nr_idserve.specs.IdGets.{EndsAfter, FindsNothing, GoesOn, MissesAll, MissesOnce}
use Rattle.nr_idserve.specs.IdHands.{with_id_reader}
use Rattle.nr_idserve.proofs.IdClaims.{miss_each}

-- WHAT A CALLER OF THE MAP HAS SEEN
record Goes (old new : Caller) : Type 0 where
  table : new.table ≡ old.table
  seen : StartsWith new.seen old.seen

find_goes : {Room : Type 0} (shows : Room → List Row → Type 0) (id : ℕ) (old : IdCaller) (before : Room)
    (new : IdCaller) (after : Room) (answer : FoundId)
    → FindsById shows id old before new after answer
    → Goes old.caller new.caller
find_goes shows id old before new after answer finds = grind (arith, append_assoc, append-nil)

goes_on_stays : (capacity id : ℕ) (answer : FoundId) (old : IdHands) (said : Missed) (new : IdHands)
    → GoesOn capacity id answer old new said → new.reader.caller ≡ old.reader.caller
goes_on_stays capacity id answer old said new goes = grind arith

miss_goes : (capacity id : ℕ) (old : IdHands) (said : Missed) (new : IdHands) → MissesOnce capacity id old new said
    → Goes old.reader.caller new.reader.caller
miss_goes capacity id old said new tried =
    let stays
    = goes_on_stays capacity id tried.answer (with_id_reader tried.posted tried.reader) said new tried.goes_on in
    let goes = find_goes (λ room rows. ⊥) id tried.posted.reader tt tried.reader tt tried.answer tried.finds in
    grind arith

-- A TRY, AND SEVERAL
since_both : {a b c : IdCaller} → IsSince a b → IsSince b c → IsSince a c
since_both one two = record {
  table = two.table ∙ one.table;
  seen = record { rest = one.seen.rest ++ two.seen.rest; is = rw (two.seen.is, one.seen.is, append_assoc) };
  ids = (two.ids.0 ++ one.ids.0, rw (two.ids.1, one.ids.1, append_assoc));
}

miss_since : (capacity id : ℕ) (old : IdHands) (said : Missed) (new : IdHands) → MissesOnce capacity id old new said
    → IsSince old.reader new.reader
miss_since capacity id old said new tried =
    let goes = miss_goes capacity id old said new tried in
    let each = miss_each capacity id old said new tried in grind arith

-- a find that found no rows, of whatever room
as_find : {Room : Type 0} (shows : Room → List Row → Type 0) (id : ℕ) (old : IdCaller) (room : Room) (new : IdCaller)
    (answer : FoundId)
    → FindsNothing id old new answer → FindsById shows id old room new room answer
as_find shows id old room new answer is = grind arith

module _ {Room : Type 0} (shows : Room → List Row → Type 0) (law : FindsIdHeard shows) (old heard : IdCaller)
    (note : IdKnown) (hears : HearsIdNote note (with_steps_of_split old) heard)
    (id way : ℕ) (near : way < old.caller.table.shape.keys) (real : 0 < id) (named : name_of note.ids.seen way ≡ id)
    (before since : List Entry) (put : Entry) (had : note.map.seen ≡ (before ++ put ∷ []) ++ since)
    (puts : puts_at way put ≡ true) where
  find_tells : (asked after : IdCaller) (first room : Room) (answer : FoundId) → IsSince heard asked
      → FindsById shows id asked first after room answer
      → TellsOfPut shows (record { id = id; way = way; old = old; written = before ++ put ∷ []; since = since }) note
      room asked after answer
  find_tells asked after first room answer later finds =
      let heard_before : HeardIdBefore note (with_steps_of_split old) asked = record {
        map = record { steps = 1; heard = heard.caller; hears = hears.map; table = later.table; seen = later.seen };
        ids = (later.ids.0 ++ hears.ids.knows.0, rw (later.ids.1, hears.ids.knows.1, append_assoc));
      } in
      let told
      = law (with_steps_of_split old) asked after note id way before since put first room answer near real named had
      puts heard_before finds in
      ⊎_elim (λ unnamed. inl unnamed)
      (λ is. inr (record { told = is.told; tells = is.tells; more = is.more; seen = is.seen; finds = is.finds })) told

  module _ (capacity : ℕ) (room : Room) where
    -- each find of tries by a client that heard the note, and that client after them
    misses_tell : (asking : IdHands) (all : List Missed) (new : IdHands) (tries : MissesAll capacity id asking new all)
        → IsSince heard asking.reader
        → EachFind
        (TellsOfPut shows (record { id = id; way = way; old = old; written = before ++ put ∷ []; since = since })
        note room)
        capacity id asking new all tries
        × IsSince heard new.reader
    misses_tell asking [] new tries later =
        (tt, subst (λ (hands : IdHands). IsSince heard hands.reader) (sym tries) later)
    misses_tell asking (said ∷ others) new tries later =
        let earlier = misses_tell asking others tries.0 tries.1 later in
        let tried = tries.2 in
        let asked = subst (λ (reader : IdCaller). IsSince heard reader) (sym tried.posts.0) earlier.1 in (
          (
            earlier.0,
            find_tells tried.posted.reader tried.reader room room tried.answer asked
                (as_find shows id tried.posted.reader room tried.reader tried.answer tried.finds),
          ),
          since_both earlier.1 (miss_since capacity id tries.0 said new tried),
        )

    last_tells : (tries missed : ℕ) (answer : GotId) (between new : IdHands) (after : Room)
        (ends : EndsAfter shows (record { capacity = capacity; id = id; tries = tries }) missed between room new after
        answer)
        → IsSince heard between.reader
        → LastFind shows
        (TellsOfPut shows (record { id = id; way = way; old = old; written = before ++ put ∷ []; since = since })
        note after)
        (record { capacity = capacity; id = id; tries = tries }) missed between room new after answer ends
    last_tells tries missed answer between new after ends later = grind (arith, find_tells)

pub gets_what_was_applied_lem : (reached : ℕ → IdKnown → Type 0) {Room : Type 0} (shows : Room → List Row → Type 0)
    → FindsIdHeard shows → GetsIdWhatWasApplied reached shows
gets_what_was_applied_lem reached shows law old heard least amount guest asking new capacity id way tries room_before
    room answer near real puts hears later gets =
    let note = hears.1 in
    let has = puts note hears.2 in
    let put = has.1 in
    let misses
    = misses_tell shows law old heard note hears.3 id way near real has.0 put.0 put.1 put.2 put.3 put.4 capacity
    room_before asking gets.misses.each gets.between gets.misses.all later in (
      note,
      put.0,
      put.1,
      put.2,
      put.4,
      misses.0,
      last_tells shows law old heard note hears.3 id way near real has.0 put.0 put.1 put.2 put.3 put.4 capacity
          room_before tries gets.missed answer gets.between new room gets.ends misses.1,
    )
