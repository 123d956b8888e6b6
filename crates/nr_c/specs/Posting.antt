-- What a post and a take say of their tokens, by their codes.
use Rattle.std.specs.Prelude.{ℕ, ◌≡◌, ◌<◌, ◌+◌, ◌⊎◌, [], ◌∷◌, ◌++◌, MatchResult, Result}
use Rattle.nr_trigger.specs.declared.faults.PostFault.{PostFault}
use Rattle.nr_trigger.specs.declared.faults.PostFault.TheVariants as post
use Rattle.nr_trigger.specs.declared.faults.TakeFault.{TakeFault}
use Rattle.nr_trigger.specs.declared.faults.TakeFault.TheVariants as take
use Rattle.nr_trigger.specs.declared.post.Post.{Post}
use Rattle.nr_trigger.specs.declared.post.Upquery.{Upquery}
use Rattle.nr_trigger.specs.Tokens.{IsSamePoster, IsSameTaker, PosterSeen, TakerSeen, WasEmpty, WasFull, poster_tried}
use Rattle.nr_trigger.specs.Tokens.{taker_tried}
use Rattle.nr_c.specs.Codes.{post_code, take_code}
use Rattle.nr_c.specs.Live.{Call, Turns}
use Rattle.nr_c.specs.Numbers.{answer_done}
use Rattle.nr_c.specs.declared.poster_side.PosterSide.{PosterSide}
use Rattle.nr_c.specs.declared.taker_side.TakerSide.{TakerSide}

-- the handle leads to one side, of the same queue before and after, whose posters without a handle stay, and whose
-- taker became another
abbrev pub TakerCalls : (TakerSeen → TakerSeen → ℕ → Type 0) → Call TakerSide
TakerCalls became before after code =
    Turns (λ old new. (new.queue ≡ old.queue) × (new.spare ≡ old.spare))
    (λ old new. became old.taker new.taker code) before after

-- how many keys the queue of a poster has
abbrev pub poster_keys : PosterSide → ℕ
poster_keys side = side.poster.keys

abbrev pub request_of : ℕ → ℕ → Upquery
request_of key number = record { key = key; number = number }

-- a post by its code: the poster has posted the request; or nothing, and where the queue was full it was so at one
-- moment of the call
abbrev pub PostsByCode : ℕ → ℕ → ℕ → PosterSeen → PosterSeen → ℕ → Type 0
PostsByCode capacity key number old new code =
    IsSamePoster old new × (new.tries ≡ old.tries + 1) × (answer : Result (Unit {0}) PostFault)
    × (code ≡ post_code answer)
    × MatchResult answer (λ _. new.posted ≡ old.posted ++ request_of key number ∷ [])
    (λ fault. (new ≡ poster_tried old) × (fault ≡ post.Full → WasFull capacity old))

-- by a poster's handle, which leads to one side, of the same queue before and after
abbrev pub PostsOn : ℕ → ℕ → Call PosterSide
PostsOn key number before after code =
    Turns (λ old new. new.queue ≡ old.queue)
    (λ old new. PostsByCode old.queue.value.capacity key number old.poster new.poster code) before after

-- a take by its code: the taker has taken a request of a key below the number, which is told; or nothing, what stood
-- there stays, and where the queue was empty it was so at one moment of the call
abbrev pub TakesByCode : ℕ → ℕ → ℕ → ℕ → TakerSeen → TakerSeen → ℕ → Type 0
TakesByCode key number key' number' old new code =
    IsSameTaker old new × (new.tries ≡ old.tries + 1)
    × (((code ≡ answer_done) × (post : Post) × (new.taken ≡ old.taken ++ post ∷ [])
    × (post.upquery ≡ request_of key' number') × (key' < old.keys))
    ⊎ ((fault : TakeFault) × (code ≡ take_code fault) × (new ≡ taker_tried old) × (fault ≡ take.Empty → WasEmpty old)
    × (key' ≡ key) × (number' ≡ number)))
