-- What a line did before its round of gathers, and what stands after the round.
use Rattle.std.specs.Prelude.{◌≡◌, ◌≢◌, ◌<◌, ◌≤◌, ℕ, suc, List, [], ◌++◌, length, map, slice_index_or}
use Rattle.nr_model.specs.Histories.{Entry, entries_of}
use Rattle.nr_board.specs.Callers.{Caller, Table}
use Rattle.nr_board.specs.Rule.{StartsWith}
use Rattle.nr_map.specs.Hands.{Handed}
use Rattle.nr_script.specs.Hands.{how_of, mine_of, pin_of}
use Rattle.nr_script.specs.Alone.{IsAlone, IsHand, calls_of, log_of}

-- the writer, or the reader at that index, made these calls, of which there is at most one
pub record IsLine (table : Table) (w0 : Caller) (hands0 : List Handed) (w : Caller) (hands : List Handed)
    (first : ℕ) (es : List Entry) : Type 0 where
  pub low : first < length hands
  pub few : length es ≤ 1
  pub same_table : w.table ≡ w0.table
  pub number : w.number ≡ w0.number
  pub seen : StartsWith w.seen w0.seen
  pub size : length hands ≡ length hands0
  pub places : (at : ℕ) (other : Handed) → at < length hands → IsHand table at (slice_index_or hands at other)
  pub grown : (caller : ℕ)
      → calls_of w.mine (map mine_of hands) caller
      ≡ calls_of w0.mine (map mine_of hands0) caller ++ entries_of es caller
  pub others : (at : ℕ) → at ≢ first → entries_of es (suc at) ≡ []

-- the line's calls are the only ones that the history has more, already where the first reader was gathered
pub record SettlesLine (table : Table) (es mid : List Entry) (w0 : Caller) (hands0 hands : List Handed)
    (w' : Caller) (hands' : List Handed) : Type 0 where
  pub alone : IsAlone table w' hands'
  pub log : log_of w' hands' ≡ log_of w0 hands0 ++ es
  pub mid_log : mid ≡ log_of w0 hands0 ++ es
  pub pins : map pin_of hands' ≡ map pin_of hands
  pub pasts : map how_of hands' ≡ map how_of hands
