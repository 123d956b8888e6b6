-- A dataflow's calls one by one, and then in a row: each trigger that was taken ended, or is kept, or is under way, and
-- the writer's fills that were done are those of triggers.
use Rattle.std.proofs.Common.{rules, ◌≡◌, ℕ, ◌+◌, List, [], ◌∷◌, ◌++◌, Option, None, refl, sym, ap, arith, append_assoc}
use Rattle.std.proofs.Common.{append-nil}
use Rattle.nr_core.proofs.Sums.{total-append}
use Rattle.nr_model.specs.declared.rows.Row.{Row}
use Rattle.nr_model.specs.Histories.{Entry}
use Rattle.nr_core.specs.Sums.{total}
use Rattle.nr_board.specs.declared.answers.Cancel.{Cancel}
use Rattle.nr_board.specs.Callers.{Caller}
use Rattle.nr_trigger.specs.declared.post.Post.{Post}
use Rattle.nr_trigger.specs.declared.post.Upquery.{Upquery}
use Rattle.nr_serve.specs.declared.try_turns.TryTurn.{TryTurn}
use Rattle.nr_serve.specs.Ends.{TakesBack}
use Rattle.nr_serve.specs.Flows.{FlowSeen}
use Rattle.nr_serve.specs.Turns.{Spends, Takes, TurnsOrFails, kept_posts}
use Rattle.nr_serve.specs.Ledger.{filled_by, Does, EachTriggerEndsOnce, Ending, Goes, IsEachOnce, Opens, Run, ended_by}
use Rattle.nr_serve.specs.Ledger.{fate_by, fills_of, posts_of}
use Rattle.nr_serve.proofs.Filled.{Made, calls_made, cancel_made, fills_done-append, made_none}

fills_of-append : (l m : List Ending) → fills_of (l ++ m) ≡ fills_of l ++ fills_of m
fills_of-append [] m = refl
fills_of-append (e ∷ l) m = rw (fills_of-append l m, append_assoc)

posts_of-append : (l m : List Ending) → posts_of (l ++ m) ≡ posts_of l ++ posts_of m
posts_of-append [] m = refl
posts_of-append (e ∷ l) m = rw (posts_of-append l m)

back_made : (upquery : Upquery) (a b : Caller) (answer : Cancel) → TakesBack upquery a b answer → Made a b []
back_made upquery a b answer is = grind (arith, cancel_made, made_none)

-- a request that is taken back fills nothing
fills_none : (post : Post) (answer : Cancel) → filled_by post (fate_by answer) ≡ []
fills_none post answer = grind arith

-- what one call took, and what became of triggers
record Books {S : Type 0} (old new : FlowSeen S) (out back : List Post) (more : List Ending) : Type 0 where
  pub gain : List Post
  pub taken : new.taker.taken ≡ old.taker.taken ++ gain
  pub each : (count : Post → ℕ)
      → total count gain + (total count (kept_posts old.kept) + total count back)
      ≡ total count (posts_of more) + (total count (kept_posts new.kept) + total count out)
  pub writes : Made old.writer new.writer (fills_of more)

module _ {S : Type 0} where
  abbrev holds : FlowSeen S → List Post × Option Post
  holds flow = (flow.taker.taken, flow.kept)

  abbrev mine : FlowSeen S → List Entry
  mine flow = flow.writer.mine

  -- a call that takes nothing, and keeps that
  takes_none : {old new : FlowSeen S} {out back : List Post} {more : List Ending} {kept : Option Post}
      → holds new ≡ (old.taker.taken, kept)
      → ((count : Post → ℕ) → total count (kept_posts old.kept) + total count back
      ≡ total count (posts_of more) + (total count (kept_posts kept) + total count out))
      → Made old.writer new.writer (fills_of more) → Books old new out back more
  takes_none same each writes = grind (arith, append-nil)

  -- a call that took by the queue or what was kept, spent these, and kept that
  spends_books : {old new : FlowSeen S} {out : List Post} {more : List Ending} {after : Option Post}
      → Spends (posts_of more ++ out) old.taker old.kept new.taker after
      → new.kept ≡ after → Made old.writer new.writer (fills_of more) → Books old new out [] more
  spends_books spends kept writes = record {
    gain = spends.gain;
    taken = spends.taken;
    each = λ count. grind (arith, simp (total-append count) at (ap (total count) spends.all));
    writes = writes;
  }

  takes_books : {old new : FlowSeen S} {post : Post} → Takes old new post → Books old new (post ∷ []) [] []
  takes_books is = grind (arith, total-append, made_none)

module _ {S : Type 0} (gives : S → (key bound : ℕ) → List Row → S → Type 0)
    (fails : S → (key bound : ℕ) → S → Type 0) where
  turns_books : (old new : FlowSeen S) (turned : TryTurn) (turns : TurnsOrFails gives fails old new turned)
      → Books old new [] [] (ended_by gives fails old turned new turns)
  turns_books old new turned turns = grind (arith, calls_made, spends_books, fills_none, back_made, append-nil)

  does_books : {old new : FlowSeen S} {out back : List Post} {more : List Ending}
      → Does gives fails old out back more new → Books old new out back more
  does_books is = search (rules, calls_made, takes_books, turns_books, takes_none, back_made)

  -- and the calls so far, with one more
  goes_on : {first old new : FlowSeen S} (before after : List Post) {out back : List Post} {ends more : List Ending}
      → IsEachOnce first old (before ++ (back ++ after)) ends → Books old new out back more
      → IsEachOnce first new (before ++ (out ++ after)) (ends ++ more)
  goes_on before after so books =
      grind (arith, append_assoc, total-append, posts_of-append, fills_done-append, fills_of-append)

  opened : (first : FlowSeen S) → first.kept ≡ None → IsEachOnce first first [] []
  opened first none = record {
    gain = [];
    taken = sym (append-nil first.taker.taken);
    each = λ count. omega (arith, ap (λ (k : Option Post). total count (kept_posts k ++ [])) none);
    calls = [];
    mine = sym (append-nil first.writer.mine);
    fills = refl;
  }

  run_is_once : {first flow : FlowSeen S} {out : List Post} {ends : List Ending} → Run gives fails first flow out ends
      → IsEachOnce first flow out ends
  run_is_once {first} (Opens none) = opened first none
  run_is_once (Goes old new before after out back ends more run does) =
      goes_on before after (run_is_once run) (does_books does)

  pub each_trigger_ends_once_lem : EachTriggerEndsOnce gives fails
  each_trigger_ends_once_lem first flow out ends run = run_is_once run
