-- What a find answers after a put of its key.
use Rattle.std.proofs.Common.{◌≡◌, ◌≢◌, ℕ, ◌<◌, Bool, true, false, ◌&&◌, ◌==◌, List, [], ◌∷◌, ◌++◌, length, ⊎_elim, inl}
use Rattle.std.proofs.Common.{inr, ◌⊎◌, ap, subst, refl, sym, ◌∙◌, arith, append_assoc, count_by, length-set}
use Rattle.std.proofs.lemmas.Bool.{cases_eq, cases_Bool, cases_lt}
use Rattle.std.proofs.lemmas.List.{length-replicate}
use Rattle.nr_core.proofs.Histories.{length-after}
use Rattle.nr_core.specs.Story.{entry}
use Rattle.nr_core.specs.Puts.{puts_at}
use Rattle.nr_model.proofs.LawLemmas.{legal_begins_lem, legal_goes_on_lem}
use Rattle.nr_board.specs.Callers.{map_at_opening}
use Rattle.nr_model.specs.declared.rows.Row.{Row}
use Rattle.nr_model.specs.declared.calls.Call.{Call}
use Rattle.nr_model.specs.declared.calls.Call.TheVariants.{Find}
use Rattle.nr_model.specs.declared.calls.Reply.TheVariants as reply
use Rattle.nr_model.specs.declared.states.KeyState.{KeyState}
use Rattle.nr_model.specs.declared.states.KeyState.TheVariants.{Hole, Rows}
use Rattle.nr_model.specs.Maps.{PartialMap, call_key, find_reply, is_filled_key, next, reply_at, reply_to, state_after}
use Rattle.nr_model.specs.Maps.{state_of}
use Rattle.nr_model.specs.Histories.{Entry, IsLegal, after, is_done}
use Rattle.nr_model.proofs.HistoryLemmas.{count_by-cons, one, state_of-next_other, state_of-next_same}
use Rattle.nr_map.specs.Written.{FindsWhatItHeard, FindsWritten, LastPut, NonePut, ReadsNoOlder, evicts_at, is_evicted}

-- What a call leaves of a key's state: where it put a set, the key is filled; where it put none, a set that stands
-- there stood there before; and where it evicted none, a filled key stays filled.
record Leaves (puts evicts : Bool) (old new : KeyState) : Type 0 where
  filled : puts ≡ true → is_filled_key new ≡ true
  stood : puts ≡ false → is_filled_key new ≡ true → new ≡ old
  stays : evicts ≡ false → is_filled_key old ≡ true → is_filled_key new ≡ true

leaves_it : (evicts : Bool) (state : KeyState) → Leaves false evicts state state
leaves_it evicts state = record { filled = λ put. absurd (cc); stood = λ _ _. refl; stays = λ _ full. full }

leaves : (bound : ℕ) (call : Call) (state : KeyState)
    → Leaves (is_done (reply_at bound call state)) (is_evicted (reply_at bound call state)) state
    (state_after bound call state)
leaves bound call state = grind arith

-- a test of an entry, and of its key
at_key : (b : Bool) (k key : ℕ) → (k ≡ key → (b && (k == key)) ≡ b) × (k ≢ key → (b && (k == key)) ≡ false)
at_key b k key = grind arith

-- what one entry leaves of a key
step_leaves : (map : PartialMap) (key : ℕ) (e : Entry) → key < length map.states → e.reply ≡ reply_to map e.call
    → Leaves (puts_at key e) (evicts_at key e) (state_of map key) (state_of (next map e.call) key)
step_leaves map key e near legal =
    let own : ℕ = call_key e.call in
    let done = at_key (is_done e.reply) own key in let evicted = at_key (is_evicted e.reply) own key in
    ⊎_elim
    (λ (same : own ≡ key). rw (done.0 same, evicted.0 same, legal, ← same)
    (rw (state_of-next_same map e.call (omega (arith, same))) (leaves map.bound e.call (state_of map own))))
    (λ (other : own ≢ key). rw (done.1 other, evicted.1 other, state_of-next_other map key e.call other)
    (leaves_it false (state_of map key)))
    (cases_eq own key)

-- as many keys after an entry
pub near_next : (map : PartialMap) (key : ℕ) (call : Call) → key < length map.states
    → key < length (next map call).states
near_next map key call near =
    omega (arith, length-set map.states (call_key call) (state_after map.bound call (state_of map (call_key call))))

pub last_put : (log : List Entry) (map : PartialMap) (key n : ℕ) (rows : List Row) → key < length map.states
    → IsLegal map log → state_of (after map log) key ≡ Rows n rows → NonePut map key log rows ⊎ LastPut map key log rows
last_put [] map key n rows near legal is = inl (record { none = refl; number = n; rows_had = is })
last_put (e ∷ log) map key n rows near legal is = ⊎_elim
    (λ (no : NonePut (next map e.call) key log rows). ⊎_elim
    (λ (put : puts_at key e ≡ true). inr
    (record {
      before = [];
      put = e;
      tail = log;
      is = refl;
      puts = put;
      none = no.none;
      number = no.number;
      rows_put = no.rows_had;
    }))
    (λ (isnt : puts_at key e ≡ false). inl
    (record {
      none = omega (arith, count_by-cons (puts_at key) e log, ap one isnt, no.none);
      number = no.number;
      rows_had =
          let had = no.rows_had in
          sym ((step_leaves map key e near legal.0).stood isnt (ap is_filled_key had)) ∙ had;
    }))
    (cases_Bool (puts_at key e)))
    (λ (last : LastPut (next map e.call) key log rows). inr (record {
      before = e ∷ last.before;
      put = last.put;
      tail = last.tail;
      is = ap (λ (l : List Entry). e ∷ l) last.is;
      puts = last.puts;
      none = last.none;
      number = last.number;
      rows_put = last.rows_put;
    }))
    (last_put log (next map e.call) key n rows (near_next map key e.call near) legal.1 is)

filled_on : (log : List Entry) (map : PartialMap) (key : ℕ) → key < length map.states → IsLegal map log
    → count_by (evicts_at key) log ≡ 0 → is_filled_key (state_of map key) ≡ true
    → is_filled_key (state_of (after map log) key) ≡ true
filled_on [] map key near legal none filled = filled
filled_on (e ∷ log) map key near legal none filled = ⊎_elim
    (λ (evicts : evicts_at key e ≡ true). absurd
    (omega (arith, count_by-cons (evicts_at key) e log, ap one evicts, none)))
    (λ (isnt : evicts_at key e ≡ false). filled_on log (next map e.call) key (near_next map key e.call near) legal.1
    (omega (arith, count_by-cons (evicts_at key) e log, none)) ((step_leaves map key e near legal.0).stays isnt filled))
    (cases_Bool (evicts_at key e))

pub after_both : (log later : List Entry) (map : PartialMap) → after map (log ++ later) ≡ after (after map log) later
after_both [] later map = refl
after_both (e ∷ log) later map = after_both log later (next map e.call)

pub legal_later : (log later : List Entry) (map : PartialMap) → IsLegal map (log ++ later)
    → IsLegal (after map log) later
legal_later [] later map legal = legal
legal_later (e ∷ log) later map legal = legal_later log later (next map e.call) legal.1

-- what a find's answer tells of the state
no_hole : (state : KeyState) (n : ℕ) → is_filled_key state ≡ true → find_reply state ≡ reply.Hole → 0 < n
no_hole state n filled is = absurd (grind arith)

pub rows_of : (state : KeyState) (rows : List Row) → find_reply state ≡ reply.Rows rows
    → (n : ℕ) × (state ≡ Rows n rows)
rows_of state rows is = grind arith

pub finds_written_lem : FindsWritten
finds_written_lem map before later put key caller found near puts_it legal =
    let written = before ++ put ∷ [] in let last = after map written in
    let ends = (legal_goes_on_lem map (written ++ later) (entry caller (Find key) found)).1.1 legal in
    let answered : find_reply (state_of (after last later) key) ≡ found
    = sym (ends.1 ∙ ap (λ (m : PartialMap). find_reply (state_of m key)) (after_both written later map)) in
    let goes_on = legal_later written later map ends.0 in
    let wrote = legal_goes_on_lem map before put in
    let legal_put = wrote.1.1 (legal_begins_lem map written later ends.0) in
    let near_put : key < length (after map before).states = omega (arith, length-after before map) in
    let near_last : key < length last.states = omega (arith, length-after written map) in
    let filled : is_filled_key (state_of last key) ≡ true
    = ap (λ (m : PartialMap). is_filled_key (state_of m key)) wrote.0
    ∙ (step_leaves (after map before) key put near_put legal_put.1).filled puts_it in
    record {
      hole = λ is. ⊎_elim
          (λ (some : 0 < count_by (evicts_at key) later). some)
          (λ none. no_hole (state_of (after last later) key) (count_by (evicts_at key) later)
          (filled_on later last key near_last goes_on (omega (arith, none)) filled) (answered ∙ is))
          (cases_lt 0 (count_by (evicts_at key) later));
      rows = λ rows is.
          let shows = rows_of (state_of (after last later) key) rows (answered ∙ is) in
          last_put later last key shows.0 rows near_last goes_on shows.1;
    }

-- the history in which who heard a note finds a key
pub reads_no_older_lem : ReadsNoOlder
reads_no_older_lem old asking new note key steps found heard gains =
    let opening = map_at_opening old.table in
    let find = entry asking.number (Find key) found in
    let since = heard.hears.seen.rest ++ heard.seen.rest in
    let log = note.seen ++ (since ++ gains.between) in
    let begun : asking.seen ++ gains.between ≡ log = rw (heard.seen.is, heard.hears.seen.is) (simp append_assoc) in
    let grown = rw begun at gains.seen in
    let legal = rw (heard.table, heard.hears.learns.table, grown) at gains.legal in
    let ends = (legal_goes_on_lem opening log find).1.1 legal in
    (log, record { rest = since ++ gains.between; is = refl }, grown, ends.0, ends.1)

pub finds_what_it_heard_lem : FindsWhatItHeard
finds_what_it_heard_lem old asking new note before since put key steps found near had puts_it heard gains =
    let opening = map_at_opening old.table in
    let find = entry asking.number (Find key) found in
    let written = before ++ put ∷ [] in
    let reads = reads_no_older_lem old asking new note key steps found heard gains in
    let more = reads.1.rest in
    let later : reads.0 ≡ written ++ (since ++ more)
    = reads.1.is ∙ ap (λ (l : List Entry). l ++ more) had ∙ append_assoc written since more in
    let keys : key < length opening.states
    = omega (arith, near, length-replicate old.table.shape.keys (Hole old.table.shape.first_number)) in (
      more,
      reads.2 ∙ ap (λ (l : List Entry). l ++ find ∷ []) later,
      finds_written_lem opening before (since ++ more) put key asking.number found keys puts_it
          (subst (λ (l : List Entry). IsLegal opening (l ++ find ∷ [])) later
          ((legal_goes_on_lem opening reads.0 find).1.0 (reads.3, reads.4))),
    )
