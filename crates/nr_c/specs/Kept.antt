-- A reader that keeps what it finds, as C calls it.
use Rattle.std.specs.Prelude.{ℕ}
use Rattle.nr_board.specs.declared.answers.Found.{Found}
use Rattle.nr_map.specs.Hands.{FindsKept, held_for}
use Rattle.nr_c.specs.declared.reader_side.ReaderSide.{ReaderSide}
use Rattle.nr_c.specs.declared.rows.NrRows.{NrRows}
use Rattle.nr_c.specs.Codes.{found_code}
use Rattle.nr_c.specs.Live.{Call, HearsHand}
use Rattle.nr_c.specs.RowCells.{ShowsSet}

-- a find that keeps its hold, by its code, of a reader that takes what it held for a set of the key
abbrev pub KeepsByCode : ℕ → NrRows → NrRows → Call ReaderSide
KeepsByCode key rows rows' before after code =
    (found : Found)
    × HearsHand (found_code found) code
    (λ old new. FindsKept ShowsSet key (held_for key old) rows new rows' found) before after
