-- What the calls of a store do to the map's writer: which sets they put, and which come out.
use Rattle.std.specs.Prelude.{◌≡◌, List, [], ◌∷◌, ◌++◌}
use Rattle.nr_model.specs.declared.rows.Row.{Row}
use Rattle.nr_board.specs.declared.answers.Reaped.{Reaped}
use Rattle.nr_board.specs.declared.answers.Reaped.TheVariants as reaped
use Rattle.nr_board.specs.declared.answers.Reclaimed.{Reclaimed}
use Rattle.nr_board.specs.declared.answers.Reclaimed.TheVariants as reclaimed
use Rattle.nr_board.specs.Callers.{Caller}
use Rattle.nr_map.specs.GivenBack.{Deals, Run}
use Rattle.nr_map.specs.Remains.{Given}

module _ {Room : Type 0} (shows : Room → List Row → Type 0) where
  -- calls in a row, with the sets that they put, in order, and those that came out
  pub data Moves : Caller → List (List Row) → List Given → Caller → Type 0 where
    NoMove : (writer : Caller) → Moves writer [] [] writer
    OneMove : (old mid new : Caller) (put more : List (List Row)) (given out : List Given) → Moves old put given mid
        → Deals shows mid more out new → Moves old (put ++ more) (given ++ out) new

  -- the one set that came out is shown by the room
  abbrev pub ShowsGiven : List Given → Room → Reclaimed → Type 0
  ShowsGiven out room reclaimed.Set = (one : Given) × (out ≡ one ∷ []) × shows room one.rows
  ShowsGiven out room reclaimed.Nothing = out ≡ []

  abbrev pub ShowsReaped : List Given → Room → Room → Reaped → Type 0
  ShowsReaped out before room reaped.Set = (one : Given) × (out ≡ one ∷ []) × shows room one.rows
  ShowsReaped out before room reaped.Held = (out ≡ []) × (room ≡ before)
  ShowsReaped out before room reaped.Nothing = (out ≡ []) × (room ≡ before)

  -- so whatever ran before goes on
  abbrev pub GoesOn : Type 0
  GoesOn =
      (old new : Caller) (put more : List (List Row)) (given out : List Given) → Run shows old put given
      → Moves old more out new → Run shows new (put ++ more) (given ++ out)
