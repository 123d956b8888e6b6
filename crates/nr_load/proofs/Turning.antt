-- The turns of a load's dataflow, one after the other: its calls are those of a base, none of the triggers that are
-- taken ahead is lost, and they are answered in order.
use Rattle.std.proofs.Common.{◌≡◌, ◌<◌, ◌≤◌, ℕ, List, [], ◌∷◌, ◌++◌, length, refl, sym, ap, ◌∙◌, arith, append_assoc}
use Rattle.std.proofs.Common.{append-nil, Option, None, Some, ◌≢◌, suc, ◌+◌, replicate}
use Rattle.std.proofs.lemmas.List.{map-append}
use Rattle.std.specs.Prelude.{MatchOption}
use Rattle.nr_model.specs.Histories.{Entry}
use Rattle.nr_board.specs.Callers.{Table, Caller}
use Rattle.nr_trigger.specs.declared.post.Post.{Post}
use Rattle.nr_trigger.specs.declared.post.Upquery.{Upquery}
use Rattle.nr_trigger.specs.Tokens.{WasEmpty, TakerSeen}
use Rattle.nr_serve.specs.Flows.{FlowSeen}
use Rattle.nr_serve.specs.Turns.{FindsNone, Takes, kept_posts}
use Rattle.nr_serve.specs.Counts.{GuestSeen}
use Rattle.nr_serve.specs.Hands.{capped}
use Rattle.nr_load.specs.UnderWay.{AreBelow, TakesMore, UnderWaySeen, upqueries_in, upqueries_of, Readies}
use Rattle.nr_load.specs.declared.fault.LoadFault.{LoadFault}
use Rattle.nr_load.specs.declared.fault.LoadFault.TheVariants as faults
use Rattle.nr_load.specs.declared.flow.Turned.{Turned}
use Rattle.nr_load.specs.declared.flow.Turned.TheVariants as turned
use Rattle.nr_load.specs.Base.{Rounds}
use Rattle.nr_load.specs.Flowed.{Flows, IsTurn, TurnsAll, TurnsOnce}
use Rattle.nr_load.specs.Gained.{Gained}
use Rattle.nr_load.proofs.Gaining.{gained_as, gained_none, gained_then}

-- TRIGGERS THAT ARE TAKEN AHEAD
pub below_one_more : (keys : ℕ) (posts : List Post) (post : Post) → AreBelow keys posts → post.upquery.key < keys
    → AreBelow keys (posts ++ post ∷ [])
below_one_more keys [] post near low = (low, tt)
below_one_more keys (first ∷ posts) post near low = (near.0, below_one_more keys posts post near.1 low)

pub upqueries-append : (posts others : List Post)
    → upqueries_of (posts ++ others) ≡ upqueries_of posts ++ upqueries_of others
upqueries-append posts others = map-append (λ (post : Post). post.upquery) posts others

pub answers-append : (entries others : List Entry)
    → upqueries_in (entries ++ others) ≡ upqueries_in entries ++ upqueries_in others
answers-append [] others = refl
answers-append (e ∷ entries) others =
    rw (answers-append entries others, append_assoc)

-- the trigger that is kept is the one that is spent, and then nothing is taken
pub spent_first : (kept : Option Post) (before gain after more spent : List Post)
    → before ++ gain ≡ kept_posts kept ++ after → (kept ≡ None → after ≡ [])
    → kept_posts kept ++ more ≡ spent ++ [] → length spent ≤ 1 → before ++ (gain ++ more) ≡ spent ++ after
spent_first None before gain after more spent all oldest spends one =
    rw (← append_assoc before gain more, all, oldest refl, spends)
spent_first (Some post) before gain after [] spent all oldest spends one =
    sym (append_assoc before gain []) ∙ append-nil (before ++ gain) ∙ all
    ∙ ap (λ (l : List Post). l ++ after) (spends ∙ append-nil spent)
spent_first (Some post) before gain after (next ∷ more) spent all oldest spends one =
    absurd (omega (arith, ap (λ (l : List Post). length l) (spends ∙ append-nil spent), one))

pub takes_one_more : (first mid new : FlowSeen (List ℕ)) (before under after : UnderWaySeen) (post : Post)
    → TakesMore first before mid under → Takes mid new post
    → after.posts ≡ under.posts ++ post ∷ [] → after.most ≡ under.most → TakesMore first before new after
takes_one_more first mid new before under after post takes one posts most =
    let gain : one.spends.gain ≡ post ∷ []
    = ap (λ (kept : Option Post). kept_posts kept ++ one.spends.gain) (sym takes.none) ∙ one.spends.all in
    let keys : mid.map.shape.keys ≡ first.map.shape.keys = ap (λ (t : Table). t.shape.keys) takes.only.map in
    rw one.rest (record {
      only = assumption takes.only;
      none = refl;
      gain = takes.gain ++ post ∷ [];
      taken = rw (one.spends.taken, gain, takes.taken, append_assoc);
      posts = rw (posts, takes.posts, append_assoc);
      most = most ∙ takes.most;
      near = rw posts
          (below_one_more first.map.shape.keys under.posts post takes.near (omega (arith, one.near, keys)));
    })

pub was_empty : (mid new : FlowSeen (List ℕ)) → FindsNone mid new → WasEmpty new.taker
was_empty mid new finds = rw finds.2 (record { moment = finds.1.moment; all = finds.1.all })

-- TURNS
-- what the turns so far came to, with these triggers under way
pub record SoFar (first flow : FlowSeen (List ℕ)) (posts : List Post) (fills : ℕ) : Type 0 where
  pub count : ℕ
  pub gained : Gained first.map.shape.keys first.writer flow.writer 0 count
  pub fills_are : fills ≡ capped count
  pub turns : ℕ
  pub rounds : Rounds first.writer.number first.map.shape.keys turns gained.entries fills flow.source
  pub gain : List Post
  pub taken : flow.taker.taken ≡ first.taker.taken ++ gain
  pub answered : upqueries_of gain ≡ upqueries_in gained.entries ++ upqueries_of posts

pub so_far_none : (first : FlowSeen (List ℕ)) (posts : List Post) → first.source ≡ replicate first.map.shape.keys 0
    → posts ≡ [] → SoFar first first posts 0
so_far_none first posts base none = record {
  count = 0;
  gained = gained_none first.map.shape.keys first.writer first.writer refl;
  fills_are = refl;
  turns = 0;
  rounds = (refl, refl, base);
  gain = [];
  taken = sym (append-nil first.taker.taken);
  answered = ap upqueries_of (sym none);
}

more_rounds : (by keys turns : ℕ) (before entries : List Entry) (what : Turned) (fills fills' : ℕ) (base base' : List ℕ)
    → what ≢ turned.Wrong → Rounds by keys turns before fills base → IsTurn by entries fills base fills' base' what
    → (more : ℕ) × Rounds by keys more (before ++ entries) fills' base'
more_rounds by keys turns before entries turned.Idle fills fills' base base' right rounds turn = (
  turns,
  rw (turn.0, append-nil, turn.1, turn.2) rounds,
)
more_rounds by keys turns before entries turned.Went fills fills' base base' right rounds turn =
    (suc turns, (before, fills, base, entries, rounds, turn, refl))
more_rounds by keys turns before entries turned.Wrong fills fills' base base' right rounds turn = absurd (right refl)

-- a turn that answers no upquery began with no trigger kept
none_kept : (kept : Option Post) (more spent : List Post) → kept_posts kept ++ more ≡ spent ++ []
    → upqueries_of spent ≡ [] → kept ≡ None
none_kept None more spent spends none = refl
none_kept (Some post) more [] spends none = absurd (cc)
none_kept (Some post) more (first ∷ spent) spends none = absurd (cc)

idle_none : (what : Turned) (by fills : ℕ) (base base' : List ℕ) (entries : List Entry) (fills' : ℕ)
    → what ≢ turned.Went → what ≢ turned.Wrong → IsTurn by entries fills base fills' base' what → entries ≡ []
idle_none turned.Idle by fills base base' entries fills' idle right turn = turn.0
idle_none turned.Went by fills base base' entries fills' idle right turn = absurd (idle refl)
idle_none turned.Wrong by fills base base' entries fills' idle right turn = absurd (right refl)

-- the fault is that which was told of the last turn
tells_right : (fault : Option LoadFault) (what : Turned)
    → MatchOption fault (what ≢ turned.Wrong) (λ it. (it ≡ faults.WrongRows) × (what ≡ turned.Wrong)) → fault ≡ None
    → what ≢ turned.Wrong
tells_right None what tells none = tells
tells_right (Some it) what tells none = absurd (cc)

module _ (first old mid new : FlowSeen (List ℕ)) (before after : UnderWaySeen) (what : Turned) (fills fills' : ℕ)
    (own : old.map ≡ first.map) (far : SoFar first old before.posts fills)
    (ready : Readies old before mid after) (turn : TurnsOnce mid fills new fills' what) where
  keys : mid.map.shape.keys ≡ first.map.shape.keys
  keys = ap (λ (t : Table). t.shape.keys) (ready.only.map ∙ own)

  abbrev with_turn : Gained first.map.shape.keys first.writer new.writer 0 (far.count + turn.count)
  with_turn = gained_then first.map.shape.keys first.writer old.writer new.writer 0 far.count 0 turn.count far.gained
      (gained_as mid.map.shape.keys first.map.shape.keys mid.writer old.writer new.writer new.writer 0 turn.count keys
      ready.only.writer refl turn.gained)

  fills_on : fills' ≡ capped (far.count + turn.count)
  fills_on = omega (arith, far.fills_are, turn.fills_are)

  turn_on : IsTurn first.writer.number turn.gained.entries fills old.source fills' new.source what
  turn_on =
      rw (ready.only.writer, far.gained.number, ready.only.source) at turn.turn

  rounds_on : what ≢ turned.Wrong
      → (more : ℕ)
      × Rounds first.writer.number first.map.shape.keys more (far.gained.entries ++ turn.gained.entries) fills'
      new.source
  rounds_on right =
      more_rounds first.writer.number first.map.shape.keys far.turns far.gained.entries turn.gained.entries what fills
      fills' old.source new.source right far.rounds turn_on

  gain_on : List Post
  gain_on = far.gain ++ (ready.gain ++ turn.spends.gain)

  taken_on : new.taker.taken ≡ first.taker.taken ++ gain_on
  unfolding gain_on
  taken_on = rw (turn.spends.taken, ready.taken, far.taken) (simp append_assoc)

  answered_on : upqueries_of gain_on
      ≡ upqueries_in (far.gained.entries ++ turn.gained.entries) ++ upqueries_of after.posts
  unfolding gain_on
  answered_on =
      let more : List Post = ready.gain ++ turn.spends.gain in
      let split : before.posts ++ more ≡ turn.spent ++ after.posts
      = spent_first mid.kept before.posts ready.gain after.posts turn.spends.gain turn.spent ready.all ready.oldest
      turn.spends.all turn.one in
      let joined : upqueries_of before.posts ++ upqueries_of more ≡ upqueries_of turn.spent ++ upqueries_of after.posts
      = sym (upqueries-append before.posts more) ∙ ap upqueries_of split ∙ upqueries-append turn.spent after.posts in
      rw (
        upqueries-append far.gain more,
        far.answered,
        answers-append far.gained.entries turn.gained.entries,
        ← turn.fits,
      )
      (simp append_assoc (ap (λ (l : List Upquery). upqueries_in far.gained.entries ++ l) joined))

  pub so_far_more : what ≢ turned.Wrong → SoFar first new after.posts fills'
  so_far_more right = record {
    count = far.count + turn.count;
    gained = with_turn;
    fills_are = fills_on;
    turns = (rounds_on right).0;
    rounds = (rounds_on right).1;
    gain = gain_on;
    taken = taken_on;
    answered = answered_on;
  }

  -- none is under way after an idle turn
  all_answered : what ≢ turned.Went → what ≢ turned.Wrong → after.posts ≡ []
  all_answered idle right =
      let none
      = idle_none what first.writer.number fills old.source new.source turn.gained.entries fills' idle right
      turn_on in
      ready.oldest (none_kept mid.kept turn.spends.gain turn.spent turn.spends.all (turn.fits ∙ ap upqueries_in none))

  pub turns_end : (fault : Option LoadFault)
      → MatchOption fault (what ≢ turned.Wrong) (λ it. (it ≡ faults.WrongRows) × (what ≡ turned.Wrong))
      → what ≢ turned.Went → TurnsAll first new fills' fault
  turns_end fault tells idle = record {
    count = far.count + turn.count;
    gained = with_turn;
    fills_are = fills_on;
    rounds = λ none. (
      (rounds_on (tells_right fault what tells none)).0,
      new.source,
      (rounds_on (tells_right fault what tells none)).1,
    );
    gain = gain_on;
    taken = taken_on;
    answered = λ none. answered_on
        ∙ ap (λ (l : List Post). upqueries_in (far.gained.entries ++ turn.gained.entries) ++ upqueries_of l)
        (all_answered idle (tells_right fault what tells none))
        ∙ append-nil (upqueries_in (far.gained.entries ++ turn.gained.entries));
  }

-- no room for the triggers that are under way, so no turn
pub turns_none : (flow : FlowSeen (List ℕ)) (fault : LoadFault) → TurnsAll flow flow 0 (Some fault)
turns_none flow fault = record {
  count = 0;
  gained = gained_none flow.map.shape.keys flow.writer flow.writer refl;
  fills_are = refl;
  rounds = λ none. absurd (cc);
  gain = [];
  taken = sym (append-nil flow.taker.taken);
  answered = λ none. absurd (cc);
}

-- the turns of a dataflow that was opened with these tokens
pub flows_all : (a : Caller) (t : TakerSeen) (first flow : FlowSeen (List ℕ)) (fills : ℕ) (fault : Option LoadFault)
    (w : Caller) (u : TakerSeen) (guest : GuestSeen)
    → first.map ≡ a.table → first.writer ≡ a → first.taker ≡ t → w ≡ flow.writer → u ≡ flow.taker
    → TurnsAll first flow fills fault
    → Flows a t (record { writer = w; taker = u; fills = fills; fault = fault; guest = guest })
flows_all a t first flow fills fault w u guest map writes takes w_is u_is turns =
    let keys = ap (λ (x : Table). x.shape.keys) map in
    record {
      count = turns.count;
      gained = gained_as first.map.shape.keys a.table.shape.keys first.writer a flow.writer w 0 turns.count keys
          writes w_is turns.gained;
      fills = turns.fills_are;
      rounds = λ none.
          rw (ap (λ (c : Caller). c.number) writes, keys) at (turns.rounds none);
      gain = turns.gain;
      taken = ap (λ (x : TakerSeen). x.taken) u_is ∙ turns.taken ∙ ap (λ (x : TakerSeen). x.taken ++ turns.gain) takes;
      answered = turns.answered;
    }
