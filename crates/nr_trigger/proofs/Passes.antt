-- The rule of the queue's passes: at the opening, when the first pass becomes the taker's, when the taker makes a
-- poster, when a poster posts, and when the taker takes.
use Rattle.std.proofs.Common.{◌≡◌, ℕ, zero, suc, List, [], ◌∷◌, ◌++◌, length, set, sym, refl, ◌∙◌, subst, ⊎_elim, arith}
use Rattle.std.proofs.Common.{length-append, ◌≢◌, ◌+◌, ◌<◌, ap, append_assoc}
use Rattle.std.proofs.lemmas.List.{length-set}
use mathlib.Core.Option.{some, some-injective, some-ne-none}
use lib.ListN.{get_elem?}
use Rattle.crossbeam_queue.specs.Fifo.{Forks, Pushes, Pops}
use Rattle.nr_trigger.specs.declared.post.Post.{Post}
use Rattle.nr_trigger.specs.Posts.{Limits, MayAllGo, without_notes, notes_part, part, MayGo}
use Rattle.nr_trigger.specs.Views.{PassView, Opener, Leftover, opening_taker, Taking, Taker, with_poster, next_poster}
use Rattle.nr_trigger.specs.Views.{Posting, Poster, has_posted, has_taken}
use Rattle.nr_trigger.specs.Delivers.{Delivers, KnowsItsPart}
use Rattle.nr_trigger.proofs.Places.{each-after-change, inside-or-last, place-is-inside}
use Rattle.nr_trigger.proofs.Parts.{one-more-may-go, other-part-stays, own-part-gains, each-may-go}

alone : (a b : PassView) (place : ℕ) → get_elem? (a ∷ []) place ≡ some b → (place ≡ 0) × (a ≡ b)
alone a b zero there = (refl, some-injective a b there)
alone a b (suc place) there = absurd (some-ne-none b (sym there))

nothing-taken : (taken held posted : List Post) → taken ++ held ≡ posted → posted ≡ [] → [] ≡ taken
nothing-taken [] held posted whole none = refl
nothing-taken (x ∷ taken) held posted whole none = absurd (cc)

pub opening-delivers : Delivers [] (Opener ∷ [])
opening-delivers = record {
  posted = [];
  taken = [];
  whole = refl;
  limits = without_notes 0;
  within = tt;
  fits = λ place view there.
      let first = alone Opener view place there in
      subst (KnowsItsPart [] [] (without_notes 0) 1 place) first.1 (first.0, refl, refl);
  silent = λ number long. (refl, refl);
}

pub first-pass-becomes-takers : (limits : Limits) (place : ℕ) (view : PassView) → view ≡ Opener
    → Forks Delivers place view (opening_taker limits) Leftover
first-pass-becomes-takers limits place view is held views old at =
    let me = subst (KnowsItsPart old.posted old.taken old.limits (length views) place) is (old.fits place view at) in
    let changed : List PassView = set views place (opening_taker limits) in
    let size : length changed ≡ length views = length-set views place (opening_taker limits) in
    let one : length views ≡ 1 = me.1 in
    let two : length (changed ++ Leftover ∷ []) ≡ 2 = omega (arith, length-append changed (Leftover ∷ []), size, one) in
    let F : ℕ → PassView → Type 0 = KnowsItsPart old.posted old.taken limits (length (changed ++ Leftover ∷ [])) in
    record {
      posted = old.posted;
      taken = old.taken;
      whole = old.whole;
      limits = limits;
      within = subst (MayAllGo limits) (sym me.2) tt;
      fits = λ at' view there.
          ⊎_elim
          (λ (h : get_elem? changed at' ≡ some view).
          each-after-change F views place (opening_taker limits)
          (me.0, two, nothing-taken old.taken held old.posted old.whole me.2, refl)
          (λ at' view other there.
          let inside = place-is-inside views at' view there in absurd (other (omega (arith, inside, one, me.0))))
          at' view h)
          (λ (h : (at' ≡ length changed) × (Leftover ≡ view)). subst (F at') h.1 (h.0 ∙ size ∙ one))
          (inside-or-last changed Leftover view at' there);
      silent = λ number long. old.silent number (omega (arith, one));
    }

-- The rule when the taker makes a poster.

-- another pass than the taker's fits among however many
others-fit-among-more : (posted taken : List Post) (limits : Limits) (passes more place at : ℕ) (view : PassView)
    → place ≢ at → at ≡ 0 → KnowsItsPart posted taken limits passes place view
    → KnowsItsPart posted taken limits more place view
others-fit-among-more posted taken limits passes more place at view other first fits = grind arith

pub taker-makes-poster : (place : ℕ) (view : PassView) (taking : Taking) → view ≡ Taker taking
    → Forks Delivers place view (with_poster view) (next_poster view)
taker-makes-poster place view taking is =
    subst (λ view. Forks Delivers place view (with_poster view) (next_poster view)) (sym is) (λ held views old at.
    let me = old.fits place (Taker taking) at in
    let left : PassView = with_poster (Taker taking) in
    let right : PassView = next_poster (Taker taking) in
    let changed : List PassView = set views place left in
    let size : length changed ≡ length views = length-set views place left in
    let more : length (changed ++ right ∷ []) ≡ length views + 1
    = omega (arith, length-append changed (right ∷ []), size) in
    let count : length views ≡ taking.made + 2 = me.1 in
    let quiet : (part taking.made old.posted ≡ []) × (notes_part taking.made old.posted ≡ [])
    = old.silent taking.made (omega (arith, count)) in
    let F : ℕ → PassView → Type 0 = KnowsItsPart old.posted old.taken old.limits (length (changed ++ right ∷ [])) in
    record {
      posted = old.posted;
      taken = old.taken;
      whole = old.whole;
      limits = old.limits;
      within = old.within;
      fits = λ at' view there.
          ⊎_elim
          (λ (h : get_elem? changed at' ≡ some view).
          each-after-change F views place left (me.0, omega (arith, more, count), me.2, me.3)
          (λ at' view other there. others-fit-among-more old.posted old.taken old.limits (length views)
          (length (changed ++ right ∷ [])) at' place view other me.0 (old.fits at' view there))
          at' view h)
          (λ (h : (at' ≡ length changed) × (right ≡ view)). subst (F at') h.1
          (h.0 ∙ size ∙ count, sym quiet.0, sym quiet.1, me.3))
          (inside-or-last changed right view at' there);
      silent = λ number long. old.silent number (omega (arith, more, long));
    })

-- The rule when a poster posts.

-- another pass than the poster's fits a post more
others-fit-a-post-more : (posted taken : List Post) (limits : Limits) (passes place at : ℕ) (post : Post)
    (view : PassView)
    → place ≢ at → at ≡ post.poster + 2 → at < passes
    → KnowsItsPart posted taken limits passes place view
    → KnowsItsPart (posted ++ post ∷ []) taken limits passes place view
others-fit-a-post-more posted taken limits passes place at post Opener other spot inside fits = grind arith
others-fit-a-post-more posted taken limits passes place at post (Poster posting) other spot inside fits =
    let others : post.poster ≢ posting.number = λ same. other (fits.0 ∙ ap (λ n. n + 2) (sym same) ∙ sym spot) in (
      fits.0,
      fits.1 ∙ sym (other-part-stays (λ post. post.upquery) posting.number posted post others),
      fits.2 ∙ sym (other-part-stays (λ post. post.note) posting.number posted post others),
      fits.3,
    )
others-fit-a-post-more posted taken limits passes place at post _ other spot inside fits = fits

pub poster-posts : (room place : ℕ) (view : PassView) (posting : Posting) (post : Post) → view ≡ Poster posting
    → post.poster ≡ posting.number → MayGo posting.limits post
    → Pushes Delivers room place view post (has_posted view post)
poster-posts room place view posting post is mine may =
    subst (λ view. Pushes Delivers room place view post (has_posted view post)) (sym is) (λ held views short old at.
    let me = old.fits place (Poster posting) at in
    let new : PassView
    = Poster
    (record posting {
      posted = posting.posted ++ post.upquery ∷ [];
      notes = posting.notes ++ post.note ∷ [];
    }) in
    let posted : List Post = old.posted ++ post ∷ [] in
    let size : length (set views place new) ≡ length views = length-set views place new in
    let inside = place-is-inside views place (Poster posting) at in
    let spot : place ≡ post.poster + 2 = me.0 ∙ ap (λ n. n + 2) (sym mine) in (
      new,
      record {
        posted = posted;
        taken = old.taken;
        whole = sym (append_assoc old.taken held (post ∷ [])) ∙ ap (λ l. l ++ post ∷ []) old.whole;
        limits = old.limits;
        within = one-more-may-go old.limits old.posted post old.within (subst (λ limits. MayGo limits post) me.3 may);
        fits =
            rw size
            (each-after-change (KnowsItsPart posted old.taken old.limits (length views)) views place new (
              me.0,
              ap (λ l. l ++ post.upquery ∷ []) me.1
                  ∙ sym (own-part-gains (λ post. post.upquery) posting.number old.posted post mine),
              ap (λ l. l ++ post.note ∷ []) me.2
                  ∙ sym (own-part-gains (λ post. post.note) posting.number old.posted post mine),
              me.3,
            )
            (λ at' view other there. others-fit-a-post-more old.posted old.taken old.limits (length views) at' place
            post view other spot inside (old.fits at' view there)));
        silent = λ number long.
            let others : post.poster ≢ number
            = λ same. absurd (let far = long in omega (arith, inside, spot, same, size, far)) in
            let was = old.silent number (omega (arith, size, long)) in (
              other-part-stays (λ post. post.upquery) number old.posted post others ∙ was.0,
              other-part-stays (λ post. post.note) number old.posted post others ∙ was.1,
            );
      },
      refl,
    ))

-- The rule when the taker takes.

-- another pass than the taker's fits whatever was taken
others-fit-what-was-taken : (posted taken more : List Post) (limits : Limits) (passes place at : ℕ) (view : PassView)
    → place ≢ at → at ≡ 0
    → KnowsItsPart posted taken limits passes place view → KnowsItsPart posted more limits passes place view
others-fit-what-was-taken posted taken more limits passes place at view other first fits = grind arith

pub taker-takes : (place : ℕ) (view : PassView) (taking : Taking) → view ≡ Taker taking
    → Pops Delivers place view (has_taken view)
taker-takes place view taking is =
    subst (λ view. Pops Delivers place view (has_taken view)) (sym is) (λ post held views old at.
    let me = old.fits place (Taker taking) at in
    let new : PassView = Taker (record taking { taken = taking.taken ++ post ∷ [] }) in
    let taken : List Post = old.taken ++ post ∷ [] in
    let size : length (set views place new) ≡ length views = length-set views place new in
    let may : MayGo old.limits post
    = each-may-go old.limits old.taken post held (subst (MayAllGo old.limits) (sym old.whole) old.within) in (
      new,
      record {
        posted = old.posted;
        taken = taken;
        whole = append_assoc old.taken (post ∷ []) held ∙ old.whole;
        limits = old.limits;
        within = old.within;
        fits =
            rw size
            (each-after-change (KnowsItsPart old.posted taken old.limits (length views)) views place new
            (me.0, me.1, ap (λ l. l ++ post ∷ []) me.2, me.3)
            (λ at' view other there. others-fit-what-was-taken old.posted old.taken taken old.limits (length views) at'
            place view other me.0 (old.fits at' view there)));
        silent = λ number long. old.silent number (rw size at long);
      },
      (refl, subst (λ limits. MayGo limits post) (sym me.3) may),
    ))
