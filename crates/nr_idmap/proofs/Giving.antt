-- The reclaiming calls on the id's way: they do to the tie and to the ledger what the plain ones do.
use Rattle.std.proofs.Common.{◌≡◌, ℕ, ◌<◌, List, ◌∷◌, Result, Ok, Err, Some}
use Rattle.nr_model.specs.declared.rows.Row.{Row}
use Rattle.nr_model.specs.declared.batches.Delta.{Delta}
use Rattle.nr_board.specs.declared.answers.FillFault.{FillFault}
use Rattle.nr_board.specs.declared.answers.Reclaimed.{Reclaimed}
use Rattle.nr_board.specs.declared.answers.ReplaceFault.{ReplaceFault}
use Rattle.nr_board.specs.declared.answers.UpdateFault.{UpdateFault}
use Rattle.nr_board.specs.Callers.{Caller}
use Rattle.nr_board.specs.Reclaiming.{FillsReclaiming, ReplacesReclaiming, UpdatesReclaiming}
use Rattle.nr_ids.specs.Answers.{FindsWay}
use Rattle.nr_ids.specs.Tokens.{Token}
use Rattle.nr_idmap.specs.IdWrites.{FillsIdReclaiming}
use Rattle.nr_idmap.specs.Keepers.{IsTied, Sent, keeper_of}
use Rattle.nr_idmap.specs.Tags.{AreIdDeltas, tag_of}
use Rattle.nr_idmap.proofs.Ties.{Leaves}
use Rattle.nr_idmap.proofs.WayCalls.{fill_closing, fill_entry, fill_left, fill_told, replace_entry, replace_left}
use Rattle.nr_idmap.proofs.WayCalls.{update_entry, update_left}

module _ {Room : Type 0} (shows : Room → List Row → Type 0) (room then : Room) {w a w' : Caller} {c c' : Token}
    (tied : IsTied (keeper_of w a c)) (id way : ℕ) (finds : FindsWay id c c' (Some way)) where
  pub update_gives : (bound : ℕ) (batch : List Delta) (r : Result Reclaimed UpdateFault) → AreIdDeltas batch
      → UpdatesReclaiming shows bound way batch w room w' then r → Leaves (keeper_of w a c) (keeper_of w' a c')
  update_gives bound batch (Ok given) users h = update_entry tied id way finds batch users h.published.gains
  update_gives bound batch (Err why) users h = update_left tied id way finds bound batch (Err why) users h.0

  module _ (real : 0 < id) (rows : List Row) where
    pub replace_gives : (r : Result Reclaimed ReplaceFault)
        → ReplacesReclaiming shows way (tag_of id ∷ rows) w room w' then r
        → Leaves (keeper_of w a c) (keeper_of w' a c')
    replace_gives (Ok given) h = replace_entry tied id way finds real rows h.published.gains
    replace_gives (Err why) h = replace_left tied id way finds real rows (Err why) h.0

    pub fill_gives : (number : ℕ) (sent : Sent)
        → sent ≡ record {
          table = record { map = w.table; directory = c.directory };
          owed = record { way = way; number = number; id = id };
        }
        → (r : Result Reclaimed FillFault) → FillsReclaiming shows way number (tag_of id ∷ rows) w room w' then r
        → IsTied (keeper_of w' a c')
        × FillsIdReclaiming shows (record { way = way; number = number; id = id }) rows (keeper_of w a c) room
        (keeper_of w' a c') then (fill_told sent r)
    fill_gives number sent is (Ok given) h = (
      fill_entry tied id way finds real rows number h.published.gains,
      record {
        finds = finds;
        fills = h;
        closes = fill_closing tied id way finds real rows number h.published.gains;
      },
    )
    fill_gives number sent is (Err why) h =
        let left = fill_left tied id way finds real rows number sent is (Err why) h.0 in
        (left.0, (left.1, h.1))
