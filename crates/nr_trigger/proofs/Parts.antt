-- A post more at the end: whose part it is, and that it may go.
use Rattle.std.proofs.Common.{◌≡◌, ◌≢◌, ℕ, List, [], ◌∷◌, ◌++◌, refl, arith, append-nil, eq-eqb, ne_eqb}
use Rattle.nr_trigger.specs.declared.post.Post.{Post}
use Rattle.nr_trigger.specs.Posts.{Limits, MayAllGo, MayGo, part_of}

module _ {A : Type 0} (has : Post → A) (number : ℕ) where
  pub part-append : (posts more : List Post)
      → part_of has number (posts ++ more) ≡ part_of has number posts ++ part_of has number more
  part-append [] more = refl
  part-append (first ∷ posts) more = grind (arith, part-append posts more)

  pub own-part-gains : (posts : List Post) (post : Post) → post.poster ≡ number
      → part_of has number (posts ++ post ∷ []) ≡ part_of has number posts ++ has post ∷ []
  own-part-gains posts post own = rw (part-append posts (post ∷ []), eq-eqb post.poster number own) refl

  pub other-part-stays : (posts : List Post) (post : Post) → post.poster ≢ number
      → part_of has number (posts ++ post ∷ []) ≡ part_of has number posts
  other-part-stays posts post other =
      rw (part-append posts (post ∷ []), ne_eqb post.poster number other, append-nil) refl

pub one-more-may-go : (limits : Limits) (posts : List Post) (post : Post) → MayAllGo limits posts → MayGo limits post
    → MayAllGo limits (posts ++ post ∷ [])
one-more-may-go limits [] post all may = (may, tt)
one-more-may-go limits (first ∷ posts) post all may = (all.0, one-more-may-go limits posts post all.1 may)

pub each-may-go : (limits : Limits) (before : List Post) (post : Post) (after : List Post)
    → MayAllGo limits (before ++ post ∷ after) → MayGo limits post
each-may-go limits [] post after all = all.0
each-may-go limits (first ∷ before) post after all = each-may-go limits before post after all.1
