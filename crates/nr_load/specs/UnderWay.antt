-- The triggers that the dataflow took ahead of its turns, and how they are answered: none is lost, and the oldest comes
-- first.
use Rattle.std.specs.Prelude.{◌≡◌, ◌<◌, ◌⊎◌, ◌++◌, ℕ, nat_lt, if◌then◌else◌, List, [], ◌∷◌, length, map, None}
use Rattle.nr_model.specs.declared.calls.Call.{Call}
use Rattle.nr_model.specs.declared.calls.Call.TheVariants as call
use Rattle.nr_model.specs.Histories.{Entry}
use Rattle.nr_trigger.specs.declared.post.Post.{Post}
use Rattle.nr_trigger.specs.declared.post.Upquery.{Upquery}
use Rattle.nr_trigger.specs.Tokens.{WasEmpty}
use Rattle.nr_serve.specs.Flows.{FlowSeen}
use Rattle.nr_serve.specs.Turns.{kept_posts}

-- oldest first, and how many there may be
pub record UnderWaySeen : Type 0 where
  pub most : ℕ
  pub posts : List Post

-- where one alone may be under way, the turn that answers it takes it, and none is taken ahead
abbrev pub ahead_of : ℕ → ℕ
ahead_of upqueries = if nat_lt 1 upqueries then upqueries else 0

-- each is of a key below that number
abbrev pub AreBelow : ℕ → List Post → Type 0
AreBelow keys [] = Unit {0}
AreBelow keys (post ∷ posts) = (post.upquery.key < keys) × AreBelow keys posts

-- the dataflow did nothing but take
pub record OnlyTakes (old new : FlowSeen (List ℕ)) : Type 0 where
  pub map : new.map ≡ old.map
  pub queue : new.queue ≡ old.queue
  pub writer : new.writer ≡ old.writer
  pub source : new.source ≡ old.source

-- what was taken is under way behind what was
pub record TakesMore (old : FlowSeen (List ℕ)) (before : UnderWaySeen) (new : FlowSeen (List ℕ))
    (after : UnderWaySeen) : Type 0 where
  pub only : OnlyTakes old new
  pub none : new.kept ≡ None
  pub gain : List Post
  pub taken : new.taker.taken ≡ old.taker.taken ++ gain
  pub posts : after.posts ≡ before.posts ++ gain
  pub most : after.most ≡ before.most
  pub near : AreBelow old.map.shape.keys after.posts

-- as many are taken as may be under way, or none is left in the queue; the oldest is kept for the next turn
pub record Readies (old : FlowSeen (List ℕ)) (before : UnderWaySeen) (new : FlowSeen (List ℕ))
    (after : UnderWaySeen) : Type 0 where
  pub only : OnlyTakes old new
  pub gain : List Post
  pub taken : new.taker.taken ≡ old.taker.taken ++ gain
  pub all : before.posts ++ gain ≡ kept_posts new.kept ++ after.posts
  pub oldest : new.kept ≡ None → after.posts ≡ []
  pub far : (length (before.posts ++ gain) ≡ before.most) ⊎ WasEmpty new.taker
  pub most : after.most ≡ before.most
  pub near : AreBelow old.map.shape.keys after.posts

abbrev pub upqueries_of : List Post → List Upquery
upqueries_of posts = map (λ post. post.upquery) posts

-- the upqueries that were answered, in order: each fill was of that key, by that ticket number
abbrev pub upquery_in : Call → List Upquery
upquery_in (call.Fill key number rows) = record { key = key; number = number } ∷ []
upquery_in _ = []

abbrev pub upqueries_in : List Entry → List Upquery
upqueries_in [] = []
upqueries_in (entry ∷ entries) = upquery_in entry.call ++ upqueries_in entries
