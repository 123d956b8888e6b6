-- What a client's get answers after the client heard a note.
use Rattle.std.specs.Prelude.{◌≡◌, ◌<◌, ◌++◌, ℕ, true, List, [], ◌∷◌}
use Rattle.nr_model.specs.declared.rows.Row.{Row}
use Rattle.nr_model.specs.declared.calls.Reply.{Reply}
use Rattle.nr_model.specs.Histories.{Entry}
use Rattle.nr_core.specs.Puts.{puts_at}
use Rattle.nr_board.specs.Callers.{Caller, KnowsOwn, map_at_opening}
use Rattle.nr_board.specs.Meetings.{Known}
use Rattle.nr_map.specs.Written.{FindsPut, HeardBefore}
use Rattle.nr_serve.specs.declared.hands.Hands.{Hands}
use Rattle.nr_serve.specs.declared.answers.Got.{Got}
use Rattle.nr_serve.specs.Gets.{Gets, found, misses}

-- the find stands in what the caller has seen, after a history that begins with the put and what the note's maker had
-- seen since
pub record FindsHeard (old : Caller) (key : ℕ) (written since : List Entry) (find : Entry) (seen : List Entry) : Type
    0 where
  pub more : List Entry
  pub later : List Entry
  pub place : seen ≡ ((written ++ (since ++ more)) ++ find ∷ []) ++ later
  pub finds : FindsPut (map_at_opening old.table) key written (since ++ more) find.reply

-- the note's maker had seen the put, and the client heard the note: each find of its get has the rows of that put or of
-- a later one, or a hole where the key was evicted since
abbrev pub GetsWhatItHeard : Type 0
GetsWhatItHeard =
    (old : Caller) (note : Known) (asking new : Hands) (key tries : ℕ) (rows_before rows : List Row) (got : Got)
    (before since first rest : List Entry) (put : Entry) (answer : Reply)
    →
    key < old.table.shape.keys →
    note.seen ≡ (before ++ put ∷ []) ++ since →
    puts_at key put ≡ true →
    HeardBefore note old asking.reader →
    KnowsOwn asking.reader →
    (gets : Gets key tries asking rows_before new rows got) →
    misses asking.reader.number key gets.requests ++ gets.last ≡ first ++ found asking.reader.number key answer ∷ rest →
    FindsHeard old key (before ++ put ∷ []) since (found asking.reader.number key answer) new.reader.seen
