-- The writer reads the set of the slot that its key names, word by word: each read finds the next word of the set that
-- the key has, which stays the same meanwhile.
use Rattle.std.proofs.Common.{◌≡◌, ℕ, ◌+◌, ◌-◌, ◌*◌, ◌<◌, ◌≤◌, List, [], ◌∷◌, ◌++◌, get_or, length, take, refl, sym, ap}
use Rattle.std.proofs.Common.{◌∙◌, subst, arith, append-nil}
use mathlib.Core.Logic.{dite}
use native.Mathlib.Decide.{ℕ_discrete}
use Rattle.std.proofs.lemmas.Bool.{eq-eqb, ne_eqb}
use Rattle.std.proofs.lemmas.List.{append_cancel_right, get_or-append_right, get_or-take, length-take-le, take_all}
use Rattle.std.specs.Prelude.{Result, Ok, Err, Some, slice_get}
use Rattle.nr_model.specs.Batches.{applied}
use Rattle.nr_model.specs.Histories.{Entry, entries_of}
use Rattle.nr_model.specs.Maps.{applied_reply, rows_or, state_of, updated}
use Rattle.nr_model.specs.Rows.{IsRowSet}
use Rattle.nr_model.specs.declared.batches.ApplyFault.{ApplyFault}
use Rattle.nr_model.specs.declared.batches.Delta.{Delta}
use Rattle.nr_model.specs.declared.calls.Call.{Call}
use Rattle.nr_model.specs.declared.calls.Call.TheVariants as model
use Rattle.nr_model.specs.declared.calls.Reply.TheVariants as reply
use Rattle.nr_model.specs.declared.rows.Row.{Row}
use Rattle.nr_model.specs.declared.states.KeyState.TheVariants as states
use Rattle.nr_words.specs.SetWords.{encode}
use Rattle.nr_core.proofs.Histories.{state_same}
use Rattle.nr_core.proofs.ReadThrough.{set_back}
use Rattle.nr_core.specs.Slots.{content, bound_of}
use Rattle.nr_core.specs.States.{key_of}
use Rattle.nr_core.specs.Story.{call_of, ending, entry, map_after}
use Rattle.nr_core.specs.Writer.{decided, moved_to, read_on, renewed, settled, went}
use Rattle.nr_core.specs.declared.calls.Step.{Step}
use Rattle.nr_core.specs.declared.calls.Step.TheVariants.{Ended, Going}
use Rattle.nr_core.specs.declared.calls.WReply.TheVariants as writer
use Rattle.nr_core.specs.declared.calls.WriterCall.{WriterCall}
use Rattle.nr_core.specs.declared.calls.WriterCall.TheVariants.{Find, Update}
use Rattle.nr_core.specs.declared.places.Place.TheVariants.{Reading}
use Rattle.nr_core.specs.declared.roles.Desk.{Desk}
use Rattle.nr_core.specs.declared.shape.Shape.{Shape}
use Rattle.nr_board.proofs.KeySets.{stays_between}
use Rattle.nr_board.proofs.Rows.{encoded_row, length-encode}
use Rattle.nr_board.proofs.Tokens.{grows_both}
use Rattle.nr_board.specs.Callers.{Table, token}
use Rattle.nr_board.specs.NamedRows.{ReadTo, ReadsAll, reads_on, rows_named, rows_of_state}
use Rattle.nr_board.specs.Views.{desk_of, caller_number}
use Rattle.nr_board.specs.WriterSeats.{GoesOn, IsReading, KeyHas, LeadsIn, MapSeat, WritesAt}

-- a call that has its set ends with no reply yet
pub settled_quiet : (shape : Shape) (desk : Desk) (call : WriterCall) (rows : List Row) (c : Call)
    → ending c (settled shape desk call rows).1 ≡ []
settled_quiet shape desk call rows c = grind arith

-- an entry that a step of the writer adds is its own
ending_own : (call : Call) (step : Step) → entries_of (ending call step) 0 ≡ ending call step
ending_own call (Ended (writer.Reply answer)) = refl
ending_own call other = refl

-- the reply that ends a call with its last read leaves the key's set
module _ (shape : Shape) (desk : Desk) (number : ℕ) (rows : List Row) (log : List Entry) where
  quiet_leaves : (key : ℕ) (more : List Entry) → more ≡ []
      → state_of (map_after shape log) key ≡ states.Rows number rows
      → state_of (map_after shape (log ++ more)) key ≡ states.Rows number rows
  quiet_leaves key more none had =
      ap (λ (l : List Entry). state_of (map_after shape (log ++ l)) key) none
      ∙ ap (λ (l : List Entry). state_of (map_after shape l) key) (append-nil log) ∙ had

  renewed_leaves : (key : ℕ) (batch : List Delta) → key < shape.keys
      → state_of (map_after shape log) key ≡ states.Rows number rows → (left : Result (List Row) ApplyFault)
      → applied (bound_of shape) rows batch ≡ left
      → state_of
      (map_after shape (log ++ ending (model.Update key batch) (renewed shape desk (Update key batch) left).1)) key
      ≡ states.Rows number rows
  renewed_leaves key batch near had (Ok left) is =
      quiet_leaves key (ending (model.Update key batch) (renewed shape desk (Update key batch) (Ok left)).1)
      (settled_quiet shape desk (Update key batch) left (model.Update key batch)) had
  renewed_leaves key batch near had (Err fault) is =
      state_same shape log (entry 0 (model.Update key batch) (applied_reply (Err fault))) near
      ∙ ap (updated (bound_of shape) batch) had
      ∙ ap (λ (r : Result (List Row) ApplyFault). states.Rows number (rows_or r rows)) is

  decided_leaves : (call : WriterCall) → key_of call < shape.keys
      → state_of (map_after shape log) (key_of call) ≡ states.Rows number rows
      → state_of (map_after shape (log ++ ending (call_of call) (decided shape desk call rows).1)) (key_of call)
      ≡ states.Rows number rows
  decided_leaves (Find key) near had = state_same shape log (entry 0 (model.Find key) (reply.Rows rows)) near ∙ had
  decided_leaves (Update key batch) near had =
      renewed_leaves key batch near had (applied (bound_of shape) rows batch) refl
  decided_leaves other near had = quiet_leaves (key_of other) [] refl had

module _ (table : Table) (call : WriterCall) (begin : ℕ) (before : MapSeat) where
  abbrev desk : Desk
  desk = desk_of before.me.0.role

  -- some words are left to be read
  reads_more : (slot : ℕ) (rows : List Row) (words : ℕ) → 0 < words → words ≤ 2 * length rows
      → reads_on table desk call slot rows words ≡ (moved_to desk (Reading call slot (take words (encode rows))), Going)
  reads_more slot rows words some more = let got = take words (encode rows) in
      let size : length got ≡ words = length-take-le words (encode rows) (omega (arith, length-encode rows)) in
      let count : get_or got 0 0 ≡ length rows = get_or-take words (encode rows) 0 0 some in
      rw (ne_eqb (length got) (2 * get_or got 0 0 + 1) (λ e. absurd (omega arith)))

  -- all are read
  reads_last : (slot : ℕ) (rows : List Row) → IsRowSet (bound_of table.shape) rows
      → reads_on table desk call slot rows (2 * length rows + 1) ≡ decided table.shape desk call rows
  reads_last slot rows row_set = let all = encode rows in
      let whole = take_all (2 * length rows + 1) all (omega (arith, length-encode rows)) in
      rw (
        whole,
        eq-eqb (length all) (2 * length rows + 1) (length-encode rows),
        set_back (bound_of table.shape) rows row_set,
      )

  -- the key has the set still
  still_named : (slot : ℕ) (rows : List Row) (words : ℕ) (after : MapSeat) → IsRowSet (bound_of table.shape) rows
      → key_of call < table.shape.keys
      → 0 < words → words ≤ 2 * length rows + 1
      → (had : KeyHas table call rows (reads_on table desk call slot rows words).1 after)
      → state_of (map_after table.shape after.me.0.seen) (key_of call) ≡ states.Rows had.number rows
  still_named slot rows words after row_set near some few had =
      ap (λ (l : List Entry). state_of (map_after table.shape l) (key_of call)) had.seen
      ∙ dite (ℕ_discrete words (2 * length rows + 1))
      (λ all. ap
      (λ (o : Desk × Step). state_of (map_after table.shape (had.log ++ ending (call_of call) o.1)) (key_of call))
      (ap (reads_on table desk call slot rows) all ∙ reads_last slot rows row_set)
      ∙ decided_leaves table.shape desk had.number rows had.log call
      near had.state)
      (λ some_left. quiet_leaves table.shape desk had.number rows had.log (key_of call) _
      (ap (λ (o : Desk × Step). ending (call_of call) o.1) (reads_more slot rows words some (omega arith)))
      had.state)

  -- what was read says how far the writer is
  read_so : (slot : ℕ) (rows : List Row) (words : ℕ) (after : MapSeat) → begin ≡ content table.shape slot 0
      → IsRowSet (bound_of table.shape) rows → key_of call < table.shape.keys → 0 < words → words ≤ 2 * length rows + 1
      → LeadsIn words table (call_of call) (reads_on table desk call slot rows words) before after
      → KeyHas table call rows (reads_on table desk call slot rows words).1 after → after.me.0.marks ≡ before.me.0.marks
      → after.me.0.heard ≡ before.me.0.heard
      → (rows_named table call after ≡ rows) × ReadTo table call begin before after words
  read_so slot rows words after begin_is row_set near some few leads had marks heard =
      let named = ap rows_of_state (still_named slot rows words after row_set near some few had) in (
        named,
        record {
          near = near;
          slot = slot;
          begin_is = begin_is;
          row_set = subst (IsRowSet (bound_of table.shape)) (sym named) row_set;
          positive = some;
          few = omega (arith, few, ap length named);
          leads = rw named leads;
          had = rw named had;
          marks = marks;
          heard = heard;
        },
      )

  -- the first read, of the number of rows
  read_first : (slot found : ℕ) (after : MapSeat) → begin ≡ content table.shape slot 0 → key_of call < table.shape.keys
      → WritesAt table (moved_to desk (Reading call slot [])) before → GoesOn table found before after
      → (found ≡ length (rows_named table call after)) × ReadTo table call begin before after 1
  read_first slot found after begin_is near writes goes =
      let told = goes (moved_to desk (Reading call slot [])) writes.role in
      let on = told.finds in
      let so = read_so slot on.0 1 after begin_is on.1 near (omega arith) (omega arith)
      (subst (λ (got : List ℕ). LeadsIn 1 table (call_of call) (read_on table.shape desk call slot got) before after)
      on.2 told.leads)
      (record {
        log = told.log;
        seen = told.seen
            ∙ ap (λ (got : List ℕ). told.log ++ ending (call_of call) (read_on table.shape desk call slot got).1)
            on.2;
        number = on.4;
        state = on.5;
      })
      told.marks.0 told.heard in
      (ap (λ (l : List ℕ). get_or l 0 0) on.2 ∙ ap length (sym so.0), so.1)

  module _ (mid : MapSeat) (words : ℕ) (so_far : ReadTo table call begin before mid words)
      (left : words < 2 * length (rows_named table call mid) + 1) where
    abbrev rows : List Row
    rows = rows_named table call mid

    abbrev got : List ℕ
    got = take words (encode rows)

    length-got : length got ≡ words
    length-got = length-take-le words (encode rows) (omega (arith, left, length-encode rows))

    leads_here : LeadsIn words table (call_of call) (moved_to desk (Reading call so_far.slot got), Going) before mid
    leads_here = rw (sym (reads_more so_far.slot rows words so_far.positive (omega (arith, left)))) so_far.leads

    -- the writer can read the next word
    pub reading_next : IsReading table begin words mid
    reading_next = record {
      desk = moved_to desk (Reading call so_far.slot got);
      writes = leads_here.writes;
      call = call;
      slot = so_far.slot;
      got = got;
      place = refl;
      begin_is = so_far.begin_is;
      index_is = sym length-got;
    }

    -- it finds the next word of the key's set, which is the same still
    pub read_next : (found : ℕ) (after : MapSeat) → GoesOn table found mid after
        → (rows_named table call after ≡ rows) × (found ≡ get_or (encode rows) words 0)
        × ReadTo table call begin before after (words + 1)
    read_next found after goes =
        let told = goes (moved_to desk (Reading call so_far.slot got)) leads_here.writes.role in
        let on = told.finds in
        let then = told.leads.grows in let e = ending (call_of call)
        (went table.shape (moved_to desk (Reading call so_far.slot got)) (Reading call so_far.slot got) found).1 in
        let own_table = ap (λ (t : Table). t.shape) leads_here.writes.own in
        let had
        = still_named so_far.slot rows words mid so_far.row_set so_far.near so_far.positive so_far.few so_far.had in
        let log_is = append_cancel_right told.log (mid.me.0.seen ++ then.between) e (sym told.seen ∙ then.seen) in
        let had_then = ap (λ (l : List Entry). state_of (map_after table.shape l) (key_of call)) log_is
        ∙ stays_between table.shape (key_of call) so_far.had.number rows (token mid) (token after) 1 e own_table
        so_far.near (ap caller_number leads_here.writes.role) leads_here.grows.own (ending_own (call_of call) _)
        then had in
        let same : on.0 ≡ rows = ap rows_of_state (sym on.5 ∙ had_then) in
        let words_are = on.2 ∙ (λ j. take (length-got j + 1) (encode (same j))) in
        let so
        = read_so so_far.slot rows (words + 1) after so_far.begin_is so_far.row_set so_far.near (omega arith)
        (omega (arith, left))
        (let leads
        = rw words_are at told.leads in
        record {
          writes = leads.writes;
          grows = grows_both refl leads_here.grows leads.grows;
          short = leads.short;
        })
        (record {
          log = told.log;
          seen = rw words_are at told.seen;
          number = so_far.had.number;
          state = had_then;
        })
        (told.marks.0 ∙ so_far.marks) (told.heard ∙ so_far.heard) in
        (so.0, word_is words_are, so.1)
      where
        word_is : got ++ found ∷ [] ≡ take (words + 1) (encode rows) → found ≡ get_or (encode rows) words 0
        word_is is = let none : words - words ≡ 0 = omega arith in
            sym
            (get_or-append_right got (found ∷ []) words words 0 length-got (omega arith)
            ∙ ap (λ (n : ℕ). get_or (found ∷ []) n 0) none)
            ∙ ap (λ (l : List ℕ). get_or l words 0) is ∙ get_or-take (words + 1) (encode rows) words 0 (omega arith)

  -- two words are a row
  module _ (mid half : MapSeat) (place first : ℕ) (so_far : ReadTo table call begin before mid (2 * place + 1))
      (more : place < length (rows_named table call mid)) (goes : GoesOn table first mid half) where
    left_two : 2 * place + 1 < 2 * length (rows_named table call mid) + 1
    left_two = omega (arith, more)

    left_one : 2 * place + 1 + 1 < 2 * length (rows_named table call half) + 1
    left_one =
        let same = ap length (read_next mid (2 * place + 1) so_far left_two first half goes).0 in
        omega (arith, more, same)

    pub reading_second : IsReading table begin (2 * place + 1 + 1) half
    reading_second =
        reading_next half (2 * place + 1 + 1) (read_next mid (2 * place + 1) so_far left_two first half goes).2 left_one

    pub read_row : (second : ℕ) (after : MapSeat) → GoesOn table second half after
        → (rows_named table call after ≡ rows_named table call mid)
        × (slice_get (rows_named table call mid) place ≡ Some (record { a = first; b = second }))
        × ReadTo table call begin before after (2 * (place + 1) + 1)
    read_row second after goes_on =
        let one = read_next mid (2 * place + 1) so_far left_two first half goes in
        let two = read_next half (2 * place + 1 + 1) one.2 left_one second after goes_on in
        let second_is = two.1 ∙ (λ j. get_or (encode (one.0 j)) (next j) 0) in (
          two.0 ∙ one.0,
          encoded_row (rows_named table call mid) place more
              ∙ (λ j. Some (record { a = sym one.1 j; b = sym second_is j })),
          subst (ReadTo table call begin before after) all two.2,
        )
      where
        next : 2 * place + 1 + 1 ≡ 2 * place + 2
        next = omega arith

        all : 2 * place + 1 + 1 + 1 ≡ 2 * (place + 1) + 1
        all = omega arith

  -- after the last word the call has its set, to whomever the rows were given
  pub reads_all : (mid last other_before : MapSeat) (other : Table) (count : ℕ) (rows : List Row)
      → count ≡ length (rows_named table call mid)
      → rows ≡ rows_named table call mid → rows_named other call last ≡ rows_named table call mid → other ≡ table
      → other_before ≡ before
      → ReadTo other call begin other_before last (2 * count + 1)
      → ReadsAll table call rows before last
  reads_all mid last other_before other count rows size rows_are same own begun read =
      let all = rw begun at (rw own at read) in
      let named = ap (λ (t : Table). rows_named t call last) (sym own) ∙ same ∙ sym rows_are in
      let row_set : IsRowSet (bound_of table.shape) rows = subst (IsRowSet (bound_of table.shape)) named all.row_set in
      let length_is : count ≡ length rows = size ∙ ap length (sym rows_are) in
      let outcome =
      (λ j. reads_on table desk call all.slot (named j) (2 * (length_is j) + 1))
      ∙ reads_last all.slot rows row_set in
      record {
        row_set = row_set;
        leads = rw (sym length_is, sym outcome) all.leads;
        had =
            subst (λ (p : List Row × (Desk × Step)). KeyHas table call p.0 p.1.1 last) (λ j. (named j, outcome j))
            all.had;
        marks = all.marks;
        heard = all.heard;
      }

-- a read-through begins at the map's own table
pub begins : (table board : Table) (call : WriterCall) (begin slot found : ℕ) (before after : MapSeat) → board ≡ table
    → begin ≡ content board.shape slot 0 → key_of call < table.shape.keys
    → WritesAt table (moved_to (desk_of before.me.0.role) (Reading call slot [])) before
    → GoesOn board found before after
    → (found ≡ length (rows_named table call after)) × ReadTo table call begin before after 1
begins table board call begin slot found before after own begin_is near writes goes =
    read_first table call begin before slot found after (begin_is ∙ ap (λ (t : Table). content t.shape slot 0) own) near
    writes (subst (λ (t : Table). GoesOn t found before after) own goes)
