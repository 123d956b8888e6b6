-- The calls that a caller made meanwhile, counted.
use Rattle.std.specs.Prelude.{◌≡◌, ◌<◌, ℕ, List, [], ◌∷◌, ◌++◌}
use Rattle.std.specs.List.{count_by}
use Rattle.nr_model.specs.Histories.{Entry}
use Rattle.nr_model.specs.Maps.{call_key}
use Rattle.nr_board.specs.Callers.{Caller}
use Rattle.nr_map.specs.Rounds.{is_cancel, is_fill, is_sent}

-- each call is of a key below that number
abbrev pub AreNear : ℕ → List Entry → Type 0
AreNear keys [] = Unit {0}
AreNear keys (entry ∷ entries) = (call_key entry.call < keys) × AreNear keys entries

-- that many requests were to be sent, that many fills were done, and no request was cancelled
pub record Tells (keys : ℕ) (entries : List Entry) (sends fills : ℕ) : Type 0 where
  pub near : AreNear keys entries
  pub sent : count_by is_sent entries ≡ sends
  pub filled : count_by is_fill entries ≡ fills
  pub cancelled : count_by is_cancel entries ≡ 0

-- the same caller made these calls
pub record Gained (keys : ℕ) (old new : Caller) (sends fills : ℕ) : Type 0 where
  pub table : new.table ≡ old.table
  pub number : new.number ≡ old.number
  pub entries : List Entry
  pub mine : new.mine ≡ old.mine ++ entries
  pub tells : Tells keys entries sends fills
