-- What each pass of the queue knows, and how a step changes it.
use Rattle.std.specs.Prelude.{◌≡◌, ◌+◌, ℕ, List, [], ◌∷◌, ◌++◌, Option}
use Rattle.nr_board.specs.Meetings.{Known}
use Rattle.nr_trigger.specs.declared.post.Post.{Post}
use Rattle.nr_trigger.specs.declared.post.Upquery.{Upquery}
use Rattle.nr_trigger.specs.Posts.{Limits, MayGo, without_notes}

pub record Taking : Type 0 where
  -- what may go through the queue
  pub limits : Limits
  -- how many posters it has made
  pub made : ℕ
  -- what it has taken, oldest first
  pub taken : List Post

pub record Posting : Type 0 where
  -- what may go through the queue
  pub limits : Limits
  -- the poster's own, from 0
  pub number : ℕ
  -- what it has posted, oldest first
  pub posted : List Upquery
  -- the note that went with each, if one did
  pub notes : List (Option Known)

pub data PassView : Type 0 where
  -- the first pass, and the one that is left over when it became the taker's
  Opener : PassView
  Leftover : PassView
  Taker : Taking → PassView
  Poster : Posting → PassView

abbrev pub taking_of : PassView → Taking
taking_of (Taker taking) = taking
taking_of _ = record { limits = without_notes 0; made = 0; taken = [] }

abbrev pub posting_of : PassView → Posting
posting_of (Poster posting) = posting
posting_of _ = record { limits = without_notes 0; number = 0; posted = []; notes = [] }

-- a taker that has made no posters and taken nothing
abbrev pub opening_taker : Limits → PassView
opening_taker limits = Taker (record { limits = limits; made = 0; taken = [] })

-- the taker makes a poster
abbrev pub with_poster : PassView → PassView
with_poster (Taker old) = Taker (record old { made = old.made + 1 })
with_poster view = view

abbrev pub next_poster : PassView → PassView
next_poster (Taker old) = Poster (record { limits = old.limits; number = old.made; posted = []; notes = [] })
next_poster view = Leftover

-- a push: nobody but a poster makes one
abbrev pub has_posted : PassView → Post → PassView → Type 0
has_posted (Poster old) post new =
    new ≡ Poster (record old { posted = old.posted ++ post.upquery ∷ []; notes = old.notes ++ post.note ∷ [] })
has_posted _ post new = ⊥

-- a pop: nobody but the taker makes one
abbrev pub has_taken : PassView → Post → PassView → Type 0
has_taken (Taker old) post new = (new ≡ Taker (record old { taken = old.taken ++ post ∷ [] })) × MayGo old.limits post
has_taken _ post new = ⊥
