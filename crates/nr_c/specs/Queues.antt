-- What opens a queue of requests and its handles.
use Rattle.std.specs.Prelude.{ℕ, ◌≡◌, ◌⊎◌, List, [], ◌∷◌, ◌++◌, ⊤}
use Rattle.nr_model.specs.Sizes.{IsBadSize}
use Rattle.nr_core.specs.declared.shape.TheConstants.{MAX_LARGE_READERS, MAX_LARGE_SLOTS}
use Rattle.nr_trigger.specs.Tokens.{IsOpenedQueue, PosterSeen}
use Rattle.nr_c.specs.Endings.{HasEnded}
use Rattle.nr_c.specs.Live.{BothLead, CallOfTwo, Leads, OpensSide}
use Rattle.nr_c.specs.Numbers.{answer_done, answer_no_memory, answer_no_poster}
use Rattle.nr_c.specs.Spares.{KeepsSpare, TakesLast}
use Rattle.nr_c.specs.declared.poster_side.PosterSide.{PosterSide}
use Rattle.nr_c.specs.declared.taker_side.TakerSide.{TakerSide}

-- the taker's side of a new queue of that capacity for keys below the number, with that many posters, none of which has
-- a handle
abbrev pub IsNewQueue : ℕ → ℕ → ℕ → TakerSide → Type 0
IsNewQueue capacity posters keys side = IsOpenedQueue capacity posters keys side.queue.value side.spare.items side.taker

-- an opening by its code
abbrev pub OpensQueue : ℕ → ℕ → ℕ → List TakerSide → ℕ → Type 0
OpensQueue capacity posters keys =
    OpensSide (IsNewQueue capacity posters keys)
    (IsBadSize MAX_LARGE_SLOTS capacity ⊎ IsBadSize MAX_LARGE_READERS posters)

-- the taker's handle leads to one side, of the same queue and with the same taker, and these posters have no handle
abbrev pub KeepsTaker : List TakerSide → List TakerSide → List PosterSeen → List PosterSeen → Type 0
KeepsTaker =
    KeepsSpare (λ (side : TakerSide). side.spare.items)
    (λ old new. (new.queue ≡ old.queue) × (new.taker ≡ old.taker))

-- the poster's handle leads to the side of that poster, of the taker's queue
abbrev pub LeadsToPoster : List TakerSide → PosterSeen → List PosterSide → Type 0
LeadsToPoster before poster =
    BothLead
    (λ (held : TakerSide) (side : PosterSide). (side.queue.value ≡ held.queue.value) × (side.poster ≡ poster))
    before

-- no poster is without a handle; or the last one without gets one, or for want of memory stays without
abbrev pub TakesPoster : CallOfTwo TakerSide PosterSide
TakesPoster before other after handle =
    TakesLast answer_no_poster (KeepsTaker before after) (λ poster. LeadsToPoster before poster handle) (handle ≡ other)

-- the handles that are live lead to sides of one queue
abbrev pub OneQueue : List TakerSide → List PosterSide → Type 0
OneQueue (held ∷ helds) (other ∷ others) = (other.queue.value ≡ held.queue.value) × (other.keys ≡ held.keys)
OneQueue (held ∷ helds) [] = ⊤
OneQueue [] poster = ⊤

-- the poster's handle leads nowhere any more, and its poster is the last one without a handle; or for want of memory
-- all stay
abbrev pub ReturnsPoster : CallOfTwo TakerSide PosterSide
ReturnsPoster before other after handle code =
    ((code ≡ answer_done) × (rest : List PosterSeen)
    × Leads (λ (held : PosterSide). HasEnded held.queue × KeepsTaker before after rest (rest ++ held.poster ∷ [])) other
    × (handle ≡ []))
    ⊎ ((code ≡ answer_no_memory) × (rest : List PosterSeen) × KeepsTaker before after rest rest × (handle ≡ other))
