-- Each posted ticket comes out once, in its poster's order, and nothing else comes out.
use Rattle.std.specs.Prelude.{◌≡◌, ℕ, List, ◌∷◌, ◌++◌}
use mathlib.Core.Option.{some}
use lib.ListN.{get_elem?}
use Rattle.nr_trigger.specs.declared.post.Post.{Post}
use Rattle.nr_trigger.specs.Posts.{notes_part, part}
use Rattle.nr_trigger.specs.Views.{PassView, Taking, Posting, Taker, Poster}
use Rattle.nr_trigger.specs.Delivers.{Delivers}

-- some pass of the queue knows this
abbrev pub IsAmong : List PassView → PassView → Type 0
IsAmong views view = (place : ℕ) × (get_elem? views place ≡ some view)

pub record HasComeOnce (taken held : List Post) (views : List PassView) : Type 0 where
  -- what was taken is the taker's list
  pub taker : (taking : Taking) → IsAmong views (Taker taking) → taking.taken ≡ taken
  -- of a poster's list a beginning was taken, and the queue holds the rest, in the same order
  pub in_order : (posting : Posting) → IsAmong views (Poster posting)
      → posting.posted ≡ part posting.number taken ++ part posting.number held
  -- and so of the notes that went with them
  pub with_notes : (posting : Posting) → IsAmong views (Poster posting)
      → posting.notes ≡ notes_part posting.number taken ++ notes_part posting.number held
  -- each post that was taken or is held is one of the posters'
  pub posters : (before after : List Post) (post : Post) → taken ++ held ≡ before ++ post ∷ after
      → (posting : Posting) × IsAmong views (Poster posting) × (posting.number ≡ post.poster)

-- at every moment a beginning of each poster's list was taken, in order, the queue holds the rest, and nothing else
-- came out
abbrev pub ComesOutOnce : Type 0
ComesOutOnce = (held : List Post) (views : List PassView) (now : Delivers held views) → HasComeOnce now.taken held views
