-- What contracts see of the queue, of its posters and of its taker.
use Rattle.std.specs.Prelude.{◌≡◌, ◌<◌, ◌+◌, ℕ, List, [], length, slice_get, Option, Some}
use Rattle.atomic_table.specs.Seated.{TableId}
use Rattle.nr_board.specs.Callers.{Table}
use Rattle.nr_board.specs.Meetings.{Known}
use Rattle.nr_trigger.specs.declared.post.Post.{Post}
use Rattle.nr_trigger.specs.declared.post.Upquery.{Upquery}
use Rattle.nr_trigger.specs.Posts.{Limits, notes_part, part, without_notes}
use Rattle.nr_trigger.specs.Views.{Taking, Posting, Taker, Poster}
use Rattle.nr_trigger.specs.Delivers.{Moment}

pub record Queue : Type 0 where
  pub id : TableId
  pub capacity : ℕ

pub record PosterSeen : Type 0 where
  -- its queue
  pub queue : TableId
  -- a number above each key that it may post
  pub keys : ℕ
  -- the map whose notes it may send along, if any
  pub map : Option Table
  -- its own, from 0
  pub number : ℕ
  -- what it has posted, oldest first
  pub posted : List Upquery
  -- the note that went with each, if one did
  pub notes : List (Option Known)
  -- its attempts to post
  pub tries : ℕ

pub record TakerSeen : Type 0 where
  pub queue : TableId
  -- a number above each key that it takes
  pub keys : ℕ
  -- the map whose notes come along, if any do
  pub map : Option Table
  -- how many posters there are
  pub made : ℕ
  -- what it has taken, oldest first
  pub taken : List Post
  -- its attempts to take
  pub tries : ℕ

abbrev pub poster_seen : TableId → Posting → ℕ → PosterSeen
poster_seen queue posting tries =
    record {
      queue = queue;
      keys = posting.limits.keys;
      map = posting.limits.map;
      number = posting.number;
      posted = posting.posted;
      notes = posting.notes;
      tries = tries;
    }

abbrev pub taker_seen : TableId → Taking → ℕ → TakerSeen
taker_seen queue taking tries =
    record {
      queue = queue;
      keys = taking.limits.keys;
      map = taking.limits.map;
      made = taking.made;
      taken = taking.taken;
      tries = tries;
    }

abbrev pub posting : PosterSeen → Posting
posting poster =
    record {
      limits = record { keys = poster.keys; map = poster.map };
      number = poster.number;
      posted = poster.posted;
      notes = poster.notes;
    }

abbrev pub taking : TakerSeen → Taking
taking taker = record { limits = record { keys = taker.keys; map = taker.map }; made = taker.made; taken = taker.taken }

-- a poster that has posted nothing, and a taker that has taken nothing and made that many posters
abbrev pub new_poster : TableId → Limits → ℕ → PosterSeen
new_poster queue limits number =
    record { queue = queue; keys = limits.keys; map = limits.map; number = number; posted = []; notes = []; tries = 0 }

abbrev pub new_taker : TableId → Limits → ℕ → TakerSeen
new_taker queue limits made =
    record { queue = queue; keys = limits.keys; map = limits.map; made = made; taken = []; tries = 0 }

-- the taker has made that many posters, which stand in the order of their numbers, and nothing was posted
pub record IsSeated (queue : TableId) (limits : Limits) (taker : TakerSeen) (posters : List PosterSeen)
    (made : ℕ) : Type 0 where
  pub takes : taker ≡ new_taker queue limits made
  pub count : length posters ≡ made
  pub posts : (number : ℕ) → number < made → slice_get posters number ≡ Some (new_poster queue limits number)

-- a new queue of that capacity with its tokens, which know what may go through it
pub record IsOpenedWithin (limits : Limits) (capacity count : ℕ) (queue : Queue) (posters : List PosterSeen)
    (taker : TakerSeen) : Type 0 where
  pub room : queue.capacity ≡ capacity
  pub tokens : IsSeated queue.id limits taker posters count

-- it carries no notes
abbrev pub IsOpenedQueue : ℕ → ℕ → ℕ → Queue → List PosterSeen → TakerSeen → Type 0
IsOpenedQueue capacity count keys = IsOpenedWithin (without_notes keys) capacity count

-- it is the same poster, or taker, of the same queue
pub record IsSamePoster (old new : PosterSeen) : Type 0 where
  pub queue : new.queue ≡ old.queue
  pub keys : new.keys ≡ old.keys
  pub map : new.map ≡ old.map
  pub number : new.number ≡ old.number

pub record IsSameTaker (old new : TakerSeen) : Type 0 where
  pub queue : new.queue ≡ old.queue
  pub keys : new.keys ≡ old.keys
  pub map : new.map ≡ old.map
  pub made : new.made ≡ old.made

-- the same after an attempt more
abbrev pub poster_tried : PosterSeen → PosterSeen
poster_tried poster = record poster { tries = poster.tries + 1 }

abbrev pub taker_tried : TakerSeen → TakerSeen
taker_tried taker = record taker { tries = taker.tries + 1 }

-- at one moment the queue held as many as it may, and the poster's part of what had been posted was its own list
pub record WasFull (capacity : ℕ) (poster : PosterSeen) : Type 0 where
  pub held : List Post
  pub full : length held ≡ capacity
  pub moment : Moment (Poster (posting poster)) held
  pub own : poster.posted ≡ part poster.number moment.delivers.posted
  pub own_notes : poster.notes ≡ notes_part poster.number moment.delivers.posted

-- at one moment what the taker had taken was all that had been posted
pub record WasEmpty (taker : TakerSeen) : Type 0 where
  pub moment : Moment (Taker (taking taker)) []
  pub all : taker.taken ≡ moment.delivers.posted
