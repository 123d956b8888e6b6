-- What a reader's call says of its token, by its answer.
use Rattle.std.specs.Prelude.{◌≡◌, ℕ, ◌+◌, ◌*◌, List, length}
use Rattle.nr_model.specs.declared.rows.Row.{Row}
use Rattle.nr_model.specs.Rows.{IsRowSet}
use Rattle.nr_model.specs.declared.calls.Call.TheVariants as model
use Rattle.nr_model.specs.declared.calls.Reply.TheVariants as reply
use Rattle.nr_core.specs.Marks.{Marks, acted, with_loads}
use Rattle.nr_core.specs.Puts.{put_number}
use Rattle.nr_board.specs.declared.answers.Found.{Found}
use Rattle.nr_board.specs.declared.answers.Found.TheVariants as found
use Rattle.nr_map.specs.declared.answers.Asked.{Asked}
use Rattle.nr_map.specs.declared.answers.Asked.TheVariants as asked
use Rattle.nr_board.specs.Callers.{Caller, Gains}
use Rattle.nr_board.specs.Holds.{FindsHole, FindsRows}

-- a find, in the steps of a hold and a step for each word of the rows and one that lets go: on a hole the caller's set
-- stays; else it has all rows of the reply
abbrev pub FindsKey : ℕ → Caller → List Row → Caller → List Row → Found → Type 0
FindsKey key old before new rows found.Rows = FindsRows (2 * length rows + 1) key rows old new
FindsKey key old before new rows found.Hole = FindsHole 0 key old new × (rows ≡ before)

-- of a map whose readers have no words, a find that takes the steps of a hold and so many more takes 2 and these, and
-- of a hole 1 and these
abbrev pub FindsByCounts : Type 0
FindsByCounts =
    (more key : ℕ) (rows : List Row) (old new : Caller) →
    old.table.announcers ≡ 0 →
    (FindsRows more key rows old new → Gains (2 + more) (model.Find key) old new (reply.Rows rows))
    × (FindsHole more key old new → Gains (1 + more) (model.Find key) old new reply.Hole)

-- a find into any room: on a hole it stays; else it shows all rows of the reply, which ascend and are at most the map's
-- rows
abbrev pub FindsIn : {Room : Type 0} → (Room → List Row → Type 0) → ℕ → Caller → Room → Caller → Room → Found → Type 0
FindsIn shows key old before new room found.Rows =
    (rows : List Row) × FindsRows (2 * length rows + 1) key rows old new × shows room rows
    × IsRowSet old.table.shape.rows rows
FindsIn shows key old before new room found.Hole = FindsHole 0 key old new × (room ≡ before)

-- a find arrives, and departs from the set that it found
abbrev pub acts_of : Found → ℕ
acts_of found.Rows = 2
acts_of found.Hole = 1

-- a reader's marks after its find, of the put number that the key had
abbrev pub marks_found : Found → Marks → ℕ → Marks
marks_found found.Rows marks put = acted (acted marks put) put
marks_found found.Hole marks put = acted marks put

-- of a reader that found a key, with the loads that its looks were
abbrev pub MarksFound : ℕ → Caller → Caller → Found → Type 0
MarksFound key old new answer =
    new.marks ≡ marks_found answer (with_loads old.marks new.marks.loads) (put_number new.seen key)

-- a request: a ticket comes with Send alone, and has the map, the key and the number of the reply
abbrev pub AsksKey : ℕ → Caller → Caller → Asked → Type 0
AsksKey key old new (asked.Send ticket) =
    Gains 1 (model.Ask key) old new (reply.Send ticket.number) × (ticket.table ≡ old.table) × (ticket.key ≡ key)
AsksKey key old new asked.Waiting = Gains 1 (model.Ask key) old new reply.Waiting
AsksKey key old new asked.Filled = Gains 1 (model.Ask key) old new reply.Filled
