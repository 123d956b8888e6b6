-- The law: at every moment each posted ticket was taken once or is held, in its poster's order.
use Rattle.std.proofs.Common.{◌≡◌, ℕ, ◌+◌, ◌<◌, ◌≤◌, List, [], ◌∷◌, ◌++◌, length, length-append, sym, ap, ◌∙◌}
use Rattle.std.proofs.Common.{arith, eq-eqb, ⊎_elim, refl}
use Rattle.std.proofs.lemmas.Bool.{cases_lt}
use mathlib.Core.Option.{some}
use Rattle.nr_trigger.specs.declared.post.Post.{Post}
use Rattle.nr_trigger.specs.declared.post.Upquery.{Upquery}
use Rattle.nr_trigger.specs.Posts.{Limits, notes_part, part}
use Rattle.nr_trigger.specs.Views.{PassView, Posting, Taker, Poster}
use Rattle.nr_trigger.specs.Delivers.{Delivers, KnowsItsPart}
use Rattle.nr_trigger.specs.Once.{ComesOutOnce, IsAmong}
use Rattle.nr_trigger.proofs.Parts.{part-append}
use Rattle.nr_trigger.proofs.Places.{some-at}

-- a post is in its own poster's part
own-part-has-it : (before after : List Post) (post : Post) → part post.poster (before ++ post ∷ after) ≡ [] → ⊥
own-part-has-it before after post none =
    let apart = part-append (λ post. post.upquery) post.poster before (post ∷ after) in
    let count = ap (λ (l : List Upquery). length l) (sym none ∙ apart) in
    omega (arith, simp (eq-eqb post.poster post.poster refl, length-append) at count)

-- the pass at a poster's place is that poster's
place-is-posters : (posted taken : List Post) (limits : Limits) (passes number : ℕ) (view : PassView)
    → KnowsItsPart posted taken limits passes (number + 2) view
    → (posting : Posting) × (view ≡ Poster posting) × (posting.number ≡ number)
place-is-posters posted taken limits passes number view fits = grind arith

-- every post is a poster's
poster-is-there : (held : List Post) (views : List PassView) (now : Delivers held views) (number : ℕ)
    → (part number now.posted ≡ [] → ⊥)
    → (posting : Posting) × IsAmong views (Poster posting) × (posting.number ≡ number)
poster-is-there held views now number some-posted =
    ⊎_elim
    (λ (h : number + 2 < length views).
    let found = some-at views (number + 2) h in
    let is
    = place-is-posters now.posted now.taken now.limits (length views) number found.0
    (now.fits (number + 2) found.0 found.1) in
    (is.0, (number + 2, found.1 ∙ ap (λ view. some view) is.1), is.2))
    (λ (h : length views ≤ number + 2). absurd (some-posted ((now.silent number h).0)))
    (cases_lt (number + 2) (length views))

pub comes-out-once : ComesOutOnce
comes-out-once held views now = record {
  taker = λ taking among. (now.fits among.0 (Taker taking) among.1).2;
  in_order = λ posting among. (now.fits among.0 (Poster posting) among.1).1
      ∙ ap (λ l. part posting.number l) (sym now.whole)
      ∙ part-append (λ post. post.upquery) posting.number now.taken held;
  with_notes = λ posting among. (now.fits among.0 (Poster posting) among.1).2
      ∙ ap (λ l. notes_part posting.number l) (sym now.whole)
      ∙ part-append (λ post. post.note) posting.number now.taken held;
  posters = λ before after post whole. poster-is-there held views now post.poster
      (λ none. own-part-has-it before after post (ap (λ l. part post.poster l) (sym (sym now.whole ∙ whole)) ∙ none));
}
