-- How the map's replies are spelled.
use Rattle.std.specs.Prelude.{ℕ, List, ◌∷◌, ◌++◌, codes}
use Rattle.std.specs.List.{flat_map}
use Rattle.std.specs.Fmt.{decimal}
use Rattle.nr_model.specs.declared.rows.Row.{Row}
use Rattle.nr_model.specs.declared.calls.Reply.{Reply}
use Rattle.nr_model.specs.declared.calls.Reply.TheVariants as reply

-- a space, and two numbers round a colon
abbrev pub spelled_row : Row → List ℕ
spelled_row row = 32 ∷ (decimal row.a ++ 58 ∷ decimal row.b)

abbrev pub spelled_rows : List Row → List ℕ
spelled_rows rows = codes "rows" ++ flat_map spelled_row rows

-- the map's replies
abbrev pub spelled_reply : Reply → List ℕ
spelled_reply (reply.Rows rows) = spelled_rows rows
spelled_reply reply.Hole = codes "hole"
spelled_reply (reply.Send number) = codes "send"
spelled_reply reply.Waiting = codes "waiting"
spelled_reply reply.Filled = codes "filled"
spelled_reply reply.Done = codes "done"
spelled_reply reply.NotAsked = codes "not-asked"
spelled_reply reply.Stale = codes "stale"
spelled_reply reply.Already = codes "already"
spelled_reply reply.Dropped = codes "dropped"
spelled_reply reply.NoRow = codes "no-row"
spelled_reply reply.TooMany = codes "too-many"
spelled_reply reply.Evicted = codes "evicted"
spelled_reply reply.Nothing = codes "nothing"
spelled_reply reply.Cancelled = codes "cancelled"
spelled_reply reply.Worn = codes "worn"
