-- No claim is lost that a client was granted.
use Rattle.std.specs.Prelude.{◌≡◌, ℕ, List, [], ◌∷◌, ◌++◌, map, Option, None, Some, Result}
use Rattle.nr_model.specs.declared.rows.Row.{Row}
use Rattle.nr_ids.specs.Events.{Event, claimed, own}
use Rattle.nr_ids.specs.Tokens.{Granted}
use Rattle.nr_serve.specs.declared.sleepers.TooLate.{TooLate}
use Rattle.nr_trigger.specs.declared.post.Upquery.{Upquery}
use Rattle.nr_idserve.specs.declared.answers.GotId.{GotId}
use Rattle.nr_idserve.specs.declared.hands.IdHands.{IdHands}
use Rattle.nr_idserve.specs.IdGets.{GetsIdInTime}

-- for which id an event granted a claim, and for which ids these did, oldest first
abbrev pub claimed_id : Event → List ℕ
claimed_id (claimed by id) = id ∷ []
claimed_id event = []

abbrev pub claimed_ids : List Event → List ℕ
claimed_ids [] = []
claimed_ids (event ∷ log) = claimed_ids log ++ claimed_id event

-- what was posted names, and the claim that is kept
abbrev pub ids_posted : List Upquery → List ℕ
ids_posted = map (λ upquery. upquery.number)

abbrev pub ids_kept : Option Granted → List ℕ
ids_kept None = []
ids_kept (Some claim) = claim.id ∷ []

-- the claim that was kept before, and then those that the client's own steps were granted, are what it posted, in
-- order, and then the one that it keeps after
pub record PostsEach (old new : IdHands) : Type 0 where
  pub number : new.reader.ids.number ≡ old.reader.ids.number
  pub events : List Event
  pub seen : new.reader.ids.seen ≡ events ++ old.reader.ids.seen
  pub gain : List Upquery
  pub posted : new.poster.posted ≡ old.poster.posted ++ gain
  pub all : ids_kept old.kept ++ claimed_ids (own old.reader.ids.number events) ≡ ids_posted gain ++ ids_kept new.kept

-- so it is after each get
abbrev pub EachClaimIsPosted : {Room : Type 0} → (Room → List Row → Type 0) → Type 0
EachClaimIsPosted {Room} shows =
    (capacity id tries : ℕ) (old new : IdHands) (before after : Room) (answer : Result GotId TooLate)
    → GetsIdInTime shows (record { capacity = capacity; id = id; tries = tries }) old before new after answer
    → PostsEach old new
