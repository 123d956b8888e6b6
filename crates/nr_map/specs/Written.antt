-- What a find answers that comes after a put of its key, or after what another caller had seen.
use Rattle.std.specs.Prelude.{◌≡◌, ◌<◌, ◌==◌, ◌&&◌, ◌⊎◌, ℕ, Bool, true, false, List, [], ◌∷◌, ◌++◌, length, count_by}
use Rattle.nr_model.specs.declared.calls.Call.TheVariants as model
use Rattle.nr_model.specs.declared.calls.Reply.{Reply}
use Rattle.nr_model.specs.declared.calls.Reply.TheVariants as reply
use Rattle.nr_model.specs.declared.rows.Row.{Row}
use Rattle.nr_model.specs.declared.states.KeyState.TheVariants as state
use Rattle.nr_model.specs.Histories.{Entry, IsLegal, after}
use Rattle.nr_model.specs.Maps.{PartialMap, call_key, find_reply, next, state_of}
use Rattle.nr_core.specs.Story.{entry}
use Rattle.nr_core.specs.Puts.{puts_at}
use Rattle.nr_board.specs.declared.answers.Found.{Found}
use Rattle.nr_board.specs.declared.answers.Found.TheVariants as found
use Rattle.nr_board.specs.Callers.{Caller, Gains, KnowsOwn, Table, map_at_opening}
use Rattle.nr_board.specs.Meetings.{HearsNote, Known, Meets, known_to}
use Rattle.nr_board.specs.Rule.{StartsWith}

-- the entry evicted the rows of that key
abbrev pub is_evicted : Reply → Bool
is_evicted reply.Evicted = true
is_evicted _ = false

abbrev pub evicts_at : ℕ → Entry → Bool
evicts_at key entry = is_evicted entry.reply && (call_key entry.call == key)

-- the last of the entries that put a set of the key left it these rows
pub record LastPut (map : PartialMap) (key : ℕ) (entries : List Entry) (rows : List Row) : Type 0 where
  pub before : List Entry
  pub put : Entry
  pub tail : List Entry
  pub is : entries ≡ before ++ put ∷ tail
  pub puts : puts_at key put ≡ true
  pub none : count_by (puts_at key) tail ≡ 0
  pub number : ℕ
  pub rows_put : state_of (next (after map before) put.call) key ≡ state.Rows number rows

-- no entry put a set of the key, which had these rows before them
pub record NonePut (map : PartialMap) (key : ℕ) (entries : List Entry) (rows : List Row) : Type 0 where
  pub none : count_by (puts_at key) entries ≡ 0
  pub number : ℕ
  pub rows_had : state_of map key ≡ state.Rows number rows

-- a find after a put and later entries: a hole only where one of these evicted the key, and else the rows of the last
-- put, which is that one or a later one
pub record FindsPut (map : PartialMap) (key : ℕ) (written later : List Entry) (found : Reply) : Type 0 where
  pub hole : found ≡ reply.Hole → 0 < count_by (evicts_at key) later
  pub rows : (rows : List Row) → found ≡ reply.Rows rows
      → NonePut (after map written) key later rows ⊎ LastPut (after map written) key later rows

-- in every legal history a find that comes after a put of its key is answered with that put or what came after it
abbrev pub FindsWritten : Type 0
FindsWritten =
    (map : PartialMap) (before later : List Entry) (put : Entry) (key caller : ℕ) (found : Reply) →
    key < length map.states →
    puts_at key put ≡ true →
    IsLegal map (((before ++ put ∷ []) ++ later) ++ entry caller (model.Find key) found ∷ []) →
    FindsPut map key (before ++ put ∷ []) later found

-- the caller heard the note, and made whatever calls then
pub record HeardBefore (note : Known) (old asking : Caller) : Type 0 where
  pub steps : ℕ
  pub heard : Caller
  pub hears : HearsNote steps note old heard
  pub table : asking.table ≡ heard.table
  pub seen : StartsWith asking.seen heard.seen

-- the note's maker had seen the put, and who heard the note finds the key
abbrev pub FindsWhatItHeard : Type 0
FindsWhatItHeard =
    (old asking new : Caller) (note : Known) (before since : List Entry) (put : Entry) (key steps : ℕ) (found : Reply) →
    key < old.table.shape.keys →
    note.seen ≡ (before ++ put ∷ []) ++ since →
    puts_at key put ≡ true →
    HeardBefore note old asking →
    Gains steps (model.Find key) asking new found →
    (more : List Entry)
    × (new.seen ≡ ((before ++ put ∷ []) ++ (since ++ more)) ++ entry asking.number (model.Find key) found ∷ [])
    × FindsPut (map_at_opening old.table) key (before ++ put ∷ []) (since ++ more) found

-- a find's answer: the rows that it found, or a hole
abbrev pub answered : Found → List Row → Reply
answered found.Rows rows = reply.Rows rows
answered found.Hole rows = reply.Hole

-- of each put of the key in that history the find was answered with the rows of it or of a later one, or with a hole
-- where the key was evicted since
abbrev pub FindsAfter : Table → ℕ → List Entry → Reply → Type 0
FindsAfter table key told found =
    (before since : List Entry) (put : Entry) →
    told ≡ (before ++ put ∷ []) ++ since →
    puts_at key put ≡ true →
    (more : List Entry) × FindsPut (map_at_opening table) key (before ++ put ∷ []) (since ++ more) found

-- the find of who heard the note is answered by a history that begins with all that the note's maker had seen
abbrev pub ReadsNoOlder : Type 0
ReadsNoOlder =
    (old asking new : Caller) (note : Known) (key steps : ℕ) (found : Reply) →
    HeardBefore note old asking →
    Gains steps (model.Find key) asking new found →
    (log : List Entry) × StartsWith log note.seen × (new.seen ≡ log ++ entry asking.number (model.Find key) found ∷ [])
    × IsLegal (map_at_opening old.table) log
    × (found ≡ find_reply (state_of (after (map_at_opening old.table) log) key))

-- who hears a note has all calls that its maker had made
abbrev pub HearsAllCalls : Type 0
HearsAllCalls =
    (steps : ℕ) (old maker new : Caller) → KnowsOwn maker → HearsNote steps (known_to maker) old new
    → Meets steps maker old new
