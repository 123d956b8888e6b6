-- No ticket is lost.
use Rattle.std.specs.Prelude.{◌≡◌, List, [], ◌∷◌, ◌++◌, Option, None, Some}
use Rattle.nr_model.specs.declared.calls.Call.{Call}
use Rattle.nr_model.specs.declared.calls.Call.TheVariants as call
use Rattle.nr_model.specs.declared.calls.Reply.{Reply}
use Rattle.nr_model.specs.declared.calls.Reply.TheVariants as reply
use Rattle.nr_model.specs.Histories.{Entry}
use Rattle.nr_map.specs.Tickets.{Request}
use Rattle.nr_trigger.specs.declared.post.Upquery.{Upquery}
use Rattle.nr_trigger.specs.Posts.{upquery_of}
use Rattle.nr_trigger.specs.Tokens.{IsSamePoster, PosterSeen}

-- what the tickets that are kept name, one at most
abbrev pub kept_upqueries : Option Request → List Upquery
kept_upqueries None = []
kept_upqueries (Some ticket) = upquery_of ticket ∷ []

-- what was to be sent, by the requests that were answered Send
abbrev pub sent_by : Call → Reply → List Upquery
sent_by (call.Ask key) (reply.Send number) = record { key = key; number = number } ∷ []
sent_by _ _ = []

abbrev pub sent : List Entry → List Upquery
sent [] = []
sent (entry ∷ entries) = sent_by entry.call entry.reply ++ sent entries

-- no ticket is lost: the one kept before, and then those that came, are what was posted, and then the one kept after
pub record Posts (came : List Upquery) (old : PosterSeen) (before : Option Request) (new : PosterSeen)
    (after : Option Request) : Type 0 where
  pub same : IsSamePoster old new
  pub gain : List Upquery
  pub posted : new.posted ≡ old.posted ++ gain
  pub all : kept_upqueries before ++ came ≡ gain ++ kept_upqueries after
