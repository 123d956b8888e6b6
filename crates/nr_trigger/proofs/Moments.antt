-- What a pass learns of a moment of the queue, and what a push or a pop tells by it.
use Rattle.std.proofs.Common.{◌≡◌, ℕ, [], ◌∷◌, Option, Some, None, Result, Ok, Err, IfErr, MatchOption, MatchResult}
use Rattle.std.proofs.Common.{sym, ◌∙◌, arith, append-nil}
use Rattle.atomic_table.specs.Seated.{TableId}
use Rattle.crossbeam_queue.specs.Fifo.{Held, Learns}
use Rattle.nr_trigger.specs.declared.post.Post.{Post}
use Rattle.nr_trigger.specs.Posts.{MayGo}
use Rattle.nr_trigger.specs.Views.{PassView, Taking, Posting, Taker, Poster, has_posted, has_taken}
use Rattle.nr_trigger.specs.Delivers.{Delivers, Moment}
use Rattle.nr_trigger.specs.Tokens.{PosterSeen, TakerSeen, WasEmpty, WasFull, poster_seen, poster_tried, taker_seen}
use Rattle.nr_trigger.specs.Tokens.{taker_tried}

pub pass-learns-moment : (place : ℕ) (view : PassView) → Learns Delivers place view (Moment view)
pass-learns-moment place view held views delivers there =
    record { views = views; place = place; there = there; delivers = delivers }

pub empty-moment : (queue : TableId) (taking : Taking) (tries : ℕ) → Held 0 (Moment (Taker taking))
    → WasEmpty (taker_seen queue taking tries)
empty-moment queue taking tries ([], none, moment) =
    record {
      moment = moment;
      all = (moment.delivers.fits moment.place (Taker taking) moment.there).2 ∙ sym (append-nil moment.delivers.taken)
          ∙ moment.delivers.whole;
    }
empty-moment queue taking tries (x ∷ held, none, moment) = absurd (omega (arith, none))

pub pop-tells : (queue : TableId) (taking : Taking) (tries : ℕ) (result : Option Post) (new : PassView)
    → MatchOption result ((new ≡ Taker taking) × Held 0 (Moment (Taker taking)))
    (λ post. has_taken (Taker taking) post new)
    → MatchOption result (WasEmpty (taker_seen queue taking tries)) (λ post. MayGo taking.limits post)
pop-tells queue taking tries None new tells = empty-moment queue taking tries tells.1
pop-tells queue taking tries (Some post) new tells = tells.1

pub full-moment : (queue : TableId) (room : ℕ) (posting : Posting) (tries : ℕ) → Held room (Moment (Poster posting))
    → WasFull room (poster_seen queue posting tries)
full-moment queue room posting tries (held, full, moment) = record {
  held = held;
  full = full;
  moment = moment;
  own = (moment.delivers.fits moment.place (Poster posting) moment.there).1;
  own_notes = (moment.delivers.fits moment.place (Poster posting) moment.there).2;
}

pub push-tells : (queue : TableId) (room : ℕ) (posting : Posting) (tries : ℕ) (post : Post)
    (result : Result (Unit {0}) Post) (new : PassView)
    → MatchResult result (λ _. has_posted (Poster posting) post new)
    (λ back. (back ≡ post) × (new ≡ Poster posting) × Held room (Moment (Poster posting)))
    → IfErr result (λ _. WasFull room (poster_seen queue posting tries))
push-tells queue room posting tries post (Ok done) new tells = tt
push-tells queue room posting tries post (Err back) new tells = full-moment queue room posting tries tells.2

-- an attempt more changes nothing of that
pub full-before : (room : ℕ) (poster : PosterSeen) → WasFull room (poster_tried poster) → WasFull room poster
full-before room poster was =
    record { held = was.held; full = was.full; moment = was.moment; own = was.own; own_notes = was.own_notes }

pub empty-before : (taker : TakerSeen) → WasEmpty (taker_tried taker) → WasEmpty taker
empty-before taker was = record { moment = was.moment; all = was.all }
