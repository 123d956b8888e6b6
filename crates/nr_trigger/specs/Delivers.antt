-- The rule of the queue: what stands between any two steps of any threads.
use Rattle.std.specs.Prelude.{◌≡◌, ◌≤◌, ◌+◌, ℕ, List, [], ◌++◌, length}
use mathlib.Core.Option.{some}
use lib.ListN.{get_elem?}
use Rattle.nr_trigger.specs.declared.post.Post.{Post}
use Rattle.nr_trigger.specs.Posts.{Limits, MayAllGo, notes_part, part}
use Rattle.nr_trigger.specs.Views.{PassView, Opener, Leftover, Taker, Poster}

-- What the pass at an index knows is so. The taker's is the first, and each poster's stands at the index of its number.
module _ (posted taken : List Post) (limits : Limits) (passes place : ℕ) where
  abbrev pub KnowsItsPart : PassView → Type 0
  KnowsItsPart Opener = (place ≡ 0) × (passes ≡ 1) × (posted ≡ [])
  KnowsItsPart Leftover = place ≡ 1
  KnowsItsPart (Taker taking) =
      (place ≡ 0) × (passes ≡ taking.made + 2) × (taking.taken ≡ taken) × (taking.limits ≡ limits)
  KnowsItsPart (Poster posting) =
      (place ≡ posting.number + 2) × (posting.posted ≡ part posting.number posted)
      × (posting.notes ≡ notes_part posting.number posted) × (posting.limits ≡ limits)

pub record Delivers (held : List Post) (views : List PassView) : Type 0 where
  -- everything that was posted, oldest first, and what of it was taken
  pub posted : List Post
  pub taken : List Post
  -- what was taken, followed by what the queue holds, is what was posted
  pub whole : taken ++ held ≡ posted
  -- each post is within the queue's limits
  pub limits : Limits
  pub within : MayAllGo limits posted
  -- the taker's pass knows what was taken, each poster's its own part of what was posted
  pub fits : (place : ℕ) (view : PassView) → get_elem? views place ≡ some view
      → KnowsItsPart posted taken limits (length views) place view
  -- a poster that wasn't made yet has posted nothing
  pub silent : (number : ℕ) → length views ≤ number + 2 → (part number posted ≡ []) × (notes_part number posted ≡ [])

-- a moment at which the queue held that and one of its passes knew this
pub record Moment (view : PassView) (held : List Post) : Type 0 where
  pub views : List PassView
  pub place : ℕ
  pub there : get_elem? views place ≡ some view
  pub delivers : Delivers held views
