-- A tidy history of keys is a legal one of ids.
use Rattle.std.proofs.Common.{◌≡◌, ◌≢◌, ◌∙◌, ⊎_elim, ℕ, suc, ◌+◌, ◌<◌, ◌≤◌, ◌==◌, Bool, true, false, List, [], ◌∷◌}
use Rattle.std.proofs.Common.{◌++◌, length, ap, subst, refl, sym, arith, Result, Ok, Err, Option, Some, None}
use Rattle.std.specs.Prelude.{if◌then◌else◌}
use Rattle.std.proofs.lemmas.Bool.{cases_Bool, cases_eq, cases_lt, ne_eqb}
use Rattle.std.proofs.lemmas.Bool.Decides.{nat_tests}
use Rattle.std.proofs.lemmas.List.{get_or_past, length-replicate, get_or-replicate}
use Rattle.nr_model.specs.declared.rows.Row.{Row}
use Rattle.nr_model.specs.declared.batches.Delta.{Delta}
use Rattle.nr_model.specs.declared.batches.ApplyFault.{ApplyFault}
use Rattle.nr_model.specs.declared.calls.Call.{Call}
use Rattle.nr_model.specs.declared.calls.Call.TheVariants.{Find, Ask, Fill, Update, Replace, Evict, Cancel}
use Rattle.nr_model.specs.declared.calls.Reply.TheVariants as reply
use Rattle.nr_model.specs.declared.states.KeyState.{KeyState}
use Rattle.nr_model.specs.declared.states.KeyState.TheVariants.{Hole, Asked, Rows}
use Rattle.nr_model.specs.Batches.{applied}
use Rattle.nr_model.specs.Maps.{PartialMap, call_key, find_reply, next, opening, reply_at, reply_to, state_after}
use Rattle.nr_model.specs.Maps.{state_of}
use Rattle.nr_model.specs.Histories.{Entry, IsLegal, after}
use Rattle.nr_model.proofs.HistoryLemmas.{state_of-next_other, state_of-next_same}
use Rattle.nr_model.proofs.LawLemmas.{legal_goes_on_lem}
use Rattle.nr_idmap.specs.Tags.{AreIdDeltas, IdSet, set_told, id_set_of, set_at, tag_of}
use Rattle.nr_idmap.specs.PartialIds.{PartialIds, IdEntry, IsIdLegal, call_by_id, entry_by_id, find_id, id_next}
use Rattle.nr_idmap.specs.PartialIds.{id_reply, ids_after, no_ids, read_by_id, with_id}
use Rattle.nr_idmap.specs.Tidy.{IsNowhere, IsTidy, KeepsTags, BringsNewId}
use Rattle.nr_idmap.specs.IdLaws.{AllTagged, ReadsAsIds, OneSet, TellsIds, TidyBegins}
use Rattle.nr_idmap.proofs.Tagging.{applied_behind, put_first}

abbrev Ids : Type 0
Ids = ℕ → Option (List Row)

abbrev Sets : Type 0
Sets = ℕ → Option IdSet

-- FUNCTIONS OF IDS
other_id : (ids : Ids) (id other : ℕ) (left : Option (List Row)) → other ≢ id → with_id ids id left other ≡ ids other
other_id ids id other left differs = rw (ne_eqb other id differs)

id_stays : (ids : Ids) (id : ℕ) → with_id ids id (ids id) ≡ ids
id_stays ids id = λ i. λ other. stays other i where
  stays : (other : ℕ) → with_id ids id (ids id) other ≡ ids other
  stays other = grind (arith, nat_tests)

-- SETS AND THE ROWS OF IDS
-- the id with these rows, if there are some
abbrev set_with : ℕ → Option (List Row) → Option IdSet
set_with id None = None
set_with id (Some rows) = Some (record { id = id; rows = rows })

set_is : (id : ℕ) (left : Option (List Row)) (set : IdSet) → set_with id left ≡ Some set
    → (set.id ≡ id) × (left ≡ Some set.rows)
set_is id left set is = grind arith

record Matches (sets : Sets) (ids : Ids) : Type 0 where
  present : (key : ℕ) (set : IdSet) → sets key ≡ Some set → ids set.id ≡ Some set.rows
  only : (id : ℕ) (rows : List Row) → ids id ≡ Some rows
      → (key : ℕ) × (sets key ≡ Some (record { id = id; rows = rows }))
  one : (j k : ℕ) (s t : IdSet) → sets j ≡ Some s → sets k ≡ Some t → s.id ≡ t.id → j ≡ k

-- one key gets the rows of an id, or loses them; no other key has the id
module _ (sets now : Sets) (ids : Ids) (key : ℕ) (matches : Matches sets ids)
    (others : (k : ℕ) → key ≢ k → now k ≡ sets k) (id : ℕ) (left : Option (List Row))
    (new : now key ≡ set_with id left) (free : (k : ℕ) (t : IdSet) → key ≢ k → sets k ≡ Some t → t.id ≢ id)
    (kept : (t : IdSet) → sets key ≡ Some t → t.id ≡ id) where
  abbrev ids_now : Ids
  ids_now = with_id ids id left

  put_present : (k : ℕ) (t : IdSet) → now k ≡ Some t → ids_now t.id ≡ Some t.rows
  put_present k t is = grind (arith, nat_tests, others k, matches.present k t, free k t, set_is id left t)

  put_only : (i : ℕ) (rows : List Row) → ids_now i ≡ Some rows
      → (k : ℕ) × (now k ≡ Some (record { id = i; rows = rows }))
  put_only i rows is = ⊎_elim
      (λ (same : i ≡ id). (key, grind (arith, nat_tests)))
      (λ (other : i ≢ id). let had = matches.only i rows (sym (other_id ids id i left other) ∙ is) in
      (had.0, grind (arith, others had.0, kept (record { id = i; rows = rows }))))
      (cases_eq i id)

  put_one : (j k : ℕ) (s t : IdSet) → now j ≡ Some s → now k ≡ Some t → s.id ≡ t.id → j ≡ k
  put_one j k s t js kt same =
      grind (arith, others j, others k, free j s, free k t, set_is id left s, set_is id left t, matches.one j k s t)

  put_matches : Matches now ids_now
  put_matches = record { present = put_present; only = put_only; one = put_one }

-- ONE ENTRY
-- the parts of what the maps show
matches_of : (map : PartialMap) (ids : PartialIds) → TellsIds map ids → Matches (set_at map) ids.rows_of
matches_of map ids shows = search

shows_of : (map : PartialMap) (ids : PartialIds) → map.bound ≡ suc ids.bound → AllTagged map
    → Matches (set_at map) ids.rows_of → TellsIds map ids
shows_of map ids bound tagged matches = search

-- a state that is tagged
abbrev Tagged : KeyState → Type 0
Tagged state =
    (number : ℕ) (rows : List Row) → state ≡ Rows number rows
    → (id : ℕ) × (others : List Row) × (rows ≡ tag_of id ∷ others)

hole_tagged : (m : ℕ) → Tagged (Hole m)
hole_tagged m n rows is = grind arith

asked_tagged : (m : ℕ) → Tagged (Asked m)
asked_tagged m n rows is = grind arith

rows_tagged : (m id : ℕ) (others : List Row) → Tagged (Rows m (tag_of id ∷ others))
rows_tagged m id others n rows is = grind arith

-- an id that no key has
free_id : (map : PartialMap) (ids : PartialIds) (id : ℕ) → TellsIds map ids → IsNowhere map id → ids.rows_of id ≡ None
free_id map ids id shows free = grind (arith, shows.only id)

module _ {map : PartialMap} {ids : PartialIds} (shows : TellsIds map ids) (call : Call)
    (near : call_key call < length map.states) {s : KeyState} (is : state_of map (call_key call) ≡ s) where
  abbrev key : ℕ
  key = call_key call

  abbrev new : KeyState
  new = state_after map.bound call s

  abbrev now : PartialMap
  now = next map call

  is_new : state_of now key ≡ new
  is_new = state_of-next_same map call near ∙ ap (state_after map.bound call) is

  others : (k : ℕ) → key ≢ k → set_at now k ≡ set_at map k
  others k differs = ap id_set_of (state_of-next_other map k call differs)

  -- each key is tagged after it
  tagged_on : Tagged new → AllTagged now
  tagged_on tagged k number rows there =
      grind (arith, is_new, state_of-next_other map k call, tagged number rows, shows.tagged k number rows)

  -- the key's set stays
  stays_by : id_set_of new ≡ id_set_of s → Tagged new → TellsIds now ids
  stays_by same tagged =
      let at = λ (k : ℕ). ⊎_elim
      (λ (e : key ≡ k). subst (λ (x : ℕ). set_at map x ≡ set_at now x) e
      (ap id_set_of is ∙ sym same ∙ ap id_set_of (sym is_new)))
      (λ (e : key ≢ k). sym (others k e)) (cases_eq key k) in
      shows_of now ids shows.bound (tagged_on tagged)
      (subst (λ (f : Sets). Matches f ids.rows_of) (λ i. λ k. at k i) (matches_of map ids shows))

  unmoved : new ≡ s → TellsIds now ids
  unmoved same = stays_by (ap id_set_of same) (λ n rows e. shows.tagged key n rows (is ∙ sym same ∙ e))

  -- the key gets the rows of an id, or loses them
  moves : (id : ℕ) (left : Option (List Row)) → id_set_of new ≡ set_with id left → Tagged new
      → ((k : ℕ) (t : IdSet) → key ≢ k → set_at map k ≡ Some t → t.id ≢ id)
      → ((t : IdSet) → id_set_of s ≡ Some t → t.id ≡ id)
      → TellsIds now (record { bound = ids.bound; rows_of = with_id ids.rows_of id left })
  moves id left new_is tagged free kept =
      shows_of now (record { bound = ids.bound; rows_of = with_id ids.rows_of id left }) shows.bound (tagged_on tagged)
      (put_matches (set_at map) (set_at now) ids.rows_of key (matches_of map ids shows) others id left
      (ap id_set_of is_new ∙ new_is) free (λ t e. kept t (ap id_set_of (sym is) ∙ e)))

-- the key has the rows of an id, as no other key
module _ {map : PartialMap} {ids : PartialIds} (shows : TellsIds map ids) (call : Call)
    (near : call_key call < length map.states) {n id : ℕ} {old : List Row}
    (is : state_of map (call_key call) ≡ Rows n (tag_of id ∷ old)) where
  abbrev its : IdSet
  its = record { id = id; rows = old }

  had : ids.rows_of id ≡ Some old
  had = shows.present (call_key call) its (ap id_set_of is)

  turns : (left : Option (List Row))
      → id_set_of (state_after map.bound call (Rows n (tag_of id ∷ old))) ≡ set_with id left
      → Tagged (state_after map.bound call (Rows n (tag_of id ∷ old)))
      → TellsIds (next map call) (record { bound = ids.bound; rows_of = with_id ids.rows_of id left })
  turns left new tagged = moves shows call near is id left new tagged
      (λ k t differs there same. differs (shows.one (call_key call) k its t (ap id_set_of is) there (sym same)))
      (λ t there. let same : its ≡ t = cc (there) in ap (λ (x : IdSet). x.id) (sym same))

-- what a step shows, by the state that its key had
abbrev Steps : PartialMap → PartialIds → ℕ → Call → KeyState → Type 0
Steps map ids caller call s =
    let read : List IdEntry = call_by_id caller call (reply_at map.bound call s) (id_set_of s) in
    IsIdLegal ids read × TellsIds (next map call) (ids_after ids read)

module _ {map : PartialMap} {ids : PartialIds} (caller : ℕ) (shows : TellsIds map ids) where
  at_hole : (call : Call) → call_key call < length map.states → (n : ℕ) → state_of map (call_key call) ≡ Hole n
      → Steps map ids caller call (Hole n)
  at_hole (Ask k) near n is = (tt, stays_by shows (Ask k) near is refl (asked_tagged n))
  at_hole call near n is = (tt, unmoved shows call near is refl)

  -- a cancel leaves no set and takes none
  cancel_asked : (b : Bool) (n : ℕ)
      → id_set_of (if b then Hole (n + 1) else Asked n) ≡ None × Tagged (if b then Hole (n + 1) else Asked n)
  cancel_asked b n = grind arith

  filled_asked : (k number : ℕ) (rows : List Row) → k < length map.states → (n : ℕ) → state_of map k ≡ Asked n
      → (reply_at map.bound (Fill k number rows) (Asked n) ≡ reply.Done → BringsNewId map rows)
      → Steps map ids caller (Fill k number rows) (Asked n)
  filled_asked k number rows near n is keeps = ⊎_elim
      (λ (own : (n == number) ≡ true). let new = keeps (rw own refl) in
      let none = free_id map ids new.id shows new.nowhere in
      rw (own, ap set_told new.tagged, none) (
        (refl, tt),
        moves shows (Fill k number rows) near is new.id (Some new.others) (rw own (ap set_told new.tagged))
            (rw (own, new.tagged) (rows_tagged n new.id new.others)) (λ j t _ there. new.nowhere j t there)
            (λ t there. absurd (cc (there))),
      ))
      (λ (other : (n == number) ≡ false).
      rw other (tt, unmoved shows (Fill k number rows) near is (rw other refl)))
      (cases_Bool (n == number))

  at_asked : (call : Call) → call_key call < length map.states → (n : ℕ) → state_of map (call_key call) ≡ Asked n
      → KeepsTags map call (reply_at map.bound call (Asked n)) → Steps map ids caller call (Asked n)
  at_asked (Fill k number rows) near n is keeps = filled_asked k number rows near n is keeps
  at_asked (Cancel k) near n is keeps =
      let left = cancel_asked _ n in
      (tt, stays_by shows (Cancel k) near is left.0 left.1)
  at_asked call near n is keeps = (tt, unmoved shows call near is refl)

  -- an update, by what the batch makes of the rows behind the tag
  updated_rows : (k : ℕ) (batch : List Delta) → k < length map.states → (n id : ℕ) (old : List Row)
      → state_of map k ≡ Rows n (tag_of id ∷ old) → AreIdDeltas batch → (r : Result (List Row) ApplyFault)
      → applied ids.bound old batch ≡ r → Steps map ids caller (Update k batch) (Rows n (tag_of id ∷ old))
  updated_rows k batch near n id old is users r gives = by_answer r whole gives where
    whole : applied map.bound (tag_of id ∷ old) batch ≡ put_first (tag_of id) r
    whole = rw shows.bound (applied_behind ids.bound (tag_of id) old batch users ∙ ap (put_first (tag_of id)) gives)

    by_answer : (r : Result (List Row) ApplyFault)
        → applied map.bound (tag_of id ∷ old) batch ≡ put_first (tag_of id) r → applied ids.bound old batch ≡ r
        → Steps map ids caller (Update k batch) (Rows n (tag_of id ∷ old))
    by_answer (Ok rows) whole gives = rw (whole, had shows (Update k batch) near is, gives) (
      (refl, tt),
      turns shows (Update k batch) near is (Some rows) (rw whole refl) (rw whole (rows_tagged n id rows)),
    )
    by_answer (Err why) whole gives = rw (whole, had shows (Update k batch) near is, gives) (
      (grind arith, tt),
      turns shows (Update k batch) near is (Some old) (rw whole refl) (rw whole (rows_tagged n id old)),
    )

  at_rows : (call : Call) → call_key call < length map.states → (n id : ℕ) (old : List Row)
      → state_of map (call_key call) ≡ Rows n (tag_of id ∷ old)
      → KeepsTags map call (reply_at map.bound call (Rows n (tag_of id ∷ old)))
      → Steps map ids caller call (Rows n (tag_of id ∷ old))
  at_rows (Find k) near n id old is keeps =
      let same : ids ≡ id_next ids (find_id id) = λ i. record
      { bound = ids.bound; rows_of = sym (id_stays ids.rows_of id) i } in (
        (ap (id_reply ids.bound (find_id id)) (sym (had shows (Find k) near is)), tt),
        subst (TellsIds (next map (Find k))) same (unmoved shows (Find k) near is refl),
      )
  at_rows (Update k batch) near n id old is keeps = updated_rows k batch near n id old is keeps _ refl
  at_rows (Replace k rows) near n id old is keeps =
      let new = keeps refl in
      let tagged : rows ≡ tag_of id ∷ new.others
      = new.tagged ∙ ap (λ (i : ℕ). tag_of i ∷ new.others) (sym (new.same _ (ap id_set_of is))) in
      rw (ap set_told tagged, had shows (Replace k rows) near is) (
        (refl, tt),
        turns shows (Replace k rows) near is (Some new.others) (ap set_told tagged)
            (rw tagged (rows_tagged n id new.others)),
      )
  at_rows (Evict k) near n id old is keeps = rw (had shows (Evict k) near is)
      ((refl, tt), turns shows (Evict k) near is None refl (hole_tagged n))
  at_rows call near n id old is keeps = (tt, unmoved shows call near is refl)

  step_of : (call : Call) → call_key call < length map.states → (s : KeyState) → state_of map (call_key call) ≡ s
      → KeepsTags map call (reply_at map.bound call s) → Steps map ids caller call s
  step_of call near (Hole n) is keeps = at_hole call near n is
  step_of call near (Asked n) is keeps = at_asked call near n is keeps
  step_of call near (Rows n old) is keeps = let tag = shows.tagged (call_key call) n old is in
      rw tag.2 (at_rows call near n tag.0 tag.1 (is ∙ ap (Rows n) tag.2) (rw tag.2 at keeps))

step_entry : (map : PartialMap) (ids : PartialIds) (e : Entry) → TellsIds map ids → call_key e.call < length map.states
    → e.reply ≡ reply_to map e.call → KeepsTags map e.call e.reply
    → IsIdLegal ids (entry_by_id map e) × TellsIds (next map e.call) (ids_after ids (entry_by_id map e))
step_entry map ids e shows near legal keeps =
    rw legal (step_of e.caller shows e.call near (state_of map (call_key e.call)) refl (rw legal at keeps))

-- WHOLE HISTORIES
legal_on : (first later : List IdEntry) (ids : PartialIds) → IsIdLegal ids first → IsIdLegal (ids_after ids first) later
    →
    IsIdLegal ids (first ++ later)
legal_on [] later ids a b = b
legal_on (e ∷ first) later ids a b = (a.0, legal_on first later (id_next ids e.call) a.1 b)

after_on : (first later : List IdEntry) (ids : PartialIds)
    → ids_after (ids_after ids first) later ≡ ids_after ids (first ++ later)
after_on [] later ids = refl
after_on (e ∷ first) later ids = after_on first later (id_next ids e.call)

reads_on : (history : List Entry) (map : PartialMap) (ids : PartialIds) → TellsIds map ids → IsLegal map history
    → IsTidy map history
    → IsIdLegal ids (read_by_id map history) × TellsIds (after map history) (ids_after ids (read_by_id map history))
reads_on [] map ids shows legal tidy = (tt, shows)
reads_on (e ∷ history) map ids shows legal tidy =
    let one = step_entry map ids e shows tidy.0 legal.0 tidy.1 in
    let rest = reads_on history (next map e.call) (ids_after ids (entry_by_id map e)) one.1 legal.1 tidy.2 in (
      legal_on (entry_by_id map e) (read_by_id (next map e.call) history) ids one.0 rest.0,
      rw (← (after_on (entry_by_id map e) (read_by_id (next map e.call) history) ids)) rest.1,
    )

-- a new map has no sets
pub opened_hole : (keys rows number key : ℕ) → (n : ℕ) × (state_of (opening keys rows number) key ≡ Hole n)
opened_hole keys rows number key = ⊎_elim
    (λ (near : key < keys). (number, get_or-replicate keys key (Hole number) (Hole 0) near))
    (λ (far : keys ≤ key). (0, grind (arith, get_or_past, length-replicate))) (cases_lt key keys)

opens : (keys bound number : ℕ) → TellsIds (opening keys (suc bound) number) (no_ids bound)
opens keys bound number = record {
  bound = refl;
  tagged = λ key n rows is. absurd (cc (is, (opened_hole keys (suc bound) number key).1));
  present = λ key set is. absurd (cc (is, ap id_set_of (opened_hole keys (suc bound) number key).1));
  only = λ id rows is. absurd (cc (is));
  one = λ j k s t js kt same. absurd (cc (js, ap id_set_of (opened_hole keys (suc bound) number j).1));
}

pub reads_as_ids : ReadsAsIds
reads_as_ids keys bound number history legal tidy = reads_on history (opening keys (suc bound) number) (no_ids bound)
    (opens keys bound number) legal tidy

pub one_set : OneSet
one_set keys bound number history id key other rows others legal tidy keeps keeps_too =
    let shows = (reads_as_ids keys bound number history legal tidy).1 in
    let first : IdSet = record { id = id; rows = rows } in let second : IdSet = record { id = id; rows = others } in
    let at_key = ap id_set_of keeps.1 in let at_other = ap id_set_of keeps_too.1 in (
      shows.one key other first second at_key at_other refl,
      (let e : Some rows ≡ Some others = sym (shows.present key first at_key) ∙ shows.present other second at_other in
          cc (e)),
    )

pub tidy_begins : TidyBegins
tidy_begins map [] later tidy = tt
tidy_begins map (e ∷ history) later tidy = (tidy.0, tidy.1, tidy_begins (next map e.call) history later tidy.2)

rows_found : (state : KeyState) (rows : List Row) → find_reply state ≡ reply.Rows rows → id_set_of state ≡ set_told rows
rows_found state rows is = grind arith

-- a find that answers with an id's tag answers the rows that the id has then
pub finds_resident : (keys bound number : ℕ) (history : List Entry) (e : Entry) (key id : ℕ) (rows : List Row)
    → e.call ≡ Find key →
    e.reply ≡ reply.Rows (tag_of id ∷ rows)
    → IsLegal (opening keys (suc bound) number) (history ++ e ∷ [])
    → IsTidy (opening keys (suc bound) number) (history ++ e ∷ [])
    → (ids_after (no_ids bound) (read_by_id (opening keys (suc bound) number) history)).rows_of id ≡ Some rows
finds_resident keys bound number history e key id rows calls answers legal tidy =
    let map = opening keys (suc bound) number in
    let ends = (legal_goes_on_lem map history e).1.1 legal in
    let shows = (reads_as_ids keys bound number history ends.0 (tidy_begins map history (e ∷ []) tidy)).1 in
    let found_it : find_reply (state_of (after map history) key) ≡ reply.Rows (tag_of id ∷ rows) = sym
    (ap (λ (c : Call). reply_to (after map history) c) calls) ∙ sym ends.1 ∙ answers in
    shows.present key (record { id = id; rows = rows })
    (rows_found (state_of (after map history) key) (tag_of id ∷ rows) found_it)
