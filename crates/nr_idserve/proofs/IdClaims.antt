-- Each claim that a client is granted is posted, or kept: try by try.
use Rattle.std.proofs.Common.{rules, arith, ◌≡◌, ◌≢◌, ℕ, zero, suc, List, [], ◌∷◌, ◌++◌, Option, None, Some, Ok, Err}
use Rattle.std.proofs.Common.{refl, sym, ap, ◌∙◌, append_assoc, append-nil, Bool}
use Rattle.std.proofs.lemmas.List.{map-append}
use Rattle.nr_model.specs.declared.rows.Row.{Row}
use Rattle.nr_ids.specs.declared.requests.Requested.{Requested}
use Rattle.nr_ids.specs.declared.requests.Requested.TheVariants as requested
use Rattle.nr_ids.specs.Answers.{LooksUp}
use Rattle.nr_ids.specs.Marks.{SetsMark}
use Rattle.nr_ids.specs.Events.{Event, Touch, claimed, looks, own, touched}
use Rattle.nr_ids.specs.Tokens.{Granted, Grows, Token}
use Rattle.nr_ids.proofs.Logs.{own_append}
use Rattle.nr_ids.proofs.Through.{grant_looks, looks_up, request_looks}
use Rattle.nr_idmap.specs.declared.finds.FoundId.{FoundId}
use Rattle.nr_idmap.specs.declared.finds.FoundId.TheVariants as found
use Rattle.nr_idmap.specs.declared.finds.NamedWay.{NamedWay}
use Rattle.nr_idmap.specs.IdFinds.{FindsById, LooksForWay}
use Rattle.nr_idmap.specs.Keepers.{IdCaller}
use Rattle.nr_trigger.specs.declared.post.Upquery.{Upquery}
use Rattle.nr_idserve.specs.declared.answers.GotId.TheVariants as got
use Rattle.nr_idserve.specs.declared.answers.Missed.{Missed}
use Rattle.nr_idserve.specs.declared.answers.Missed.TheVariants as missed
use Rattle.nr_idserve.specs.declared.hands.IdHands.{IdHands}
use Rattle.nr_idserve.specs.IdHands.{PostsFirst, PostsKept, with_id_reader}
use Rattle.nr_idserve.specs.IdGets.{FindsOnce, GoesOn, IsRefused, MissesAll, MissesOnce, RequestsOnce}
use Rattle.nr_idserve.specs.IdClaims.{EachClaimIsPosted, PostsEach, claimed_ids, ids_kept, ids_posted}

claimed_ids-append : (l m : List Event) → claimed_ids (l ++ m) ≡ claimed_ids m ++ claimed_ids l
claimed_ids-append [] m = sym (append-nil (claimed_ids m))
claimed_ids-append (event ∷ l) m = rw (claimed_ids-append l m, append_assoc)

looks_claim_none : (count by : ℕ) → claimed_ids (looks count by) ≡ []
looks_claim_none zero by = refl
looks_claim_none (suc count) by = rw (looks_claim_none count by)

-- a reader's own steps were granted claims of these ids
record Claims (old : Token) (ids : List ℕ) (new : Token) : Type 0 where
  pub number : new.number ≡ old.number
  pub events : List Event
  pub seen : new.seen ≡ events ++ old.seen
  pub claims : claimed_ids (own old.number events) ≡ ids

claims_of : (old new : Token) (acts : List Event) (ids : List ℕ) → Grows acts old new → claimed_ids acts ≡ ids
    → Claims old ids new
claims_of old new acts ids grows is = grind arith

claims_none : (old new : Token) (count : ℕ) → Grows (looks count old.number) old new → Claims old [] new
claims_none old new count grows = grind (arith, looks_claim_none)

claims_touch : (touch : Touch) (old new : Token) → Grows (touched old.number touch ∷ []) old new → Claims old [] new
claims_touch touch old new grows = grind arith

claims_both : {a b c : Token} {ids more : List ℕ} → Claims a ids b → Claims b more c → Claims a (ids ++ more) c
claims_both {a} one two = record {
  number = two.number ∙ one.number;
  events = two.events ++ one.events;
  seen = rw (two.seen, one.seen, append_assoc);
  claims =
      rw (own_append a.number two.events one.events, claimed_ids-append, one.claims, ← one.number, two.claims);
}

-- ONE CALL
posts_each : (old new : IdHands) (ids : List ℕ) (gain : List Upquery) → Claims old.reader.ids ids new.reader.ids
    → new.poster.posted ≡ old.poster.posted ++ gain
    → ids_kept old.kept ++ ids ≡ ids_posted gain ++ ids_kept new.kept → PostsEach old new
posts_each old new ids gain claims posted all = grind arith

same_token : (old new : Token) → new ≡ old → Claims old [] new
same_token old new same = grind arith

each_both : (a b c : IdHands) → PostsEach a b → PostsEach b c → PostsEach a c
each_both a b c one two =
    let mine = claimed_ids (own a.reader.ids.number one.events) in
    let more = claimed_ids (own b.reader.ids.number two.events) in
    let first : Claims a.reader.ids mine b.reader.ids
    = record { number = one.number; events = one.events; seen = one.seen; claims = refl } in
    let second : Claims b.reader.ids more c.reader.ids
    = record { number = two.number; events = two.events; seen = two.seen; claims = refl } in
    posts_each a c (mine ++ more) (one.gain ++ two.gain) (claims_both first second)
    (rw (two.posted, one.posted, append_assoc))
    (rw (← append_assoc, one.all, append_assoc (ids_posted one.gain) (ids_kept b.kept) more, two.all)
    (rw (map-append, append_assoc)))

each_same : (hands : IdHands) → PostsEach hands hands
each_same hands =
    record {
      number = refl;
      events = [];
      seen = refl;
      gain = [];
      posted = sym (append-nil hands.poster.posted);
      all = append-nil (ids_kept hands.kept);
    }

-- a claim that the client had, by a reader whose own steps were granted these
post_each : (capacity : ℕ) (old new : IdHands) (kept : Option Granted) (ids : List ℕ)
    → Claims old.reader.ids ids new.reader.ids → PostsKept capacity kept old.poster new.kept new.poster
    → ids_kept old.kept ++ ids ≡ ids_kept kept → PostsEach old new
post_each capacity old new kept ids claims posts all = grind (arith, append-nil)

first_each : (capacity : ℕ) (old new : IdHands) → PostsFirst capacity old new → PostsEach old new
first_each capacity old new posts =
    let claims = same_token old.reader.ids new.reader.ids (ap (λ (reader : IdCaller). reader.ids) posts.0) in
    grind (arith, post_each, append-nil)

-- a call of the reader alone
reader_each : (old : IdHands) (reader : IdCaller) → Claims old.reader.ids [] reader.ids
    → PostsEach old (with_id_reader old reader)
reader_each old reader claims = grind (arith, append-nil)

look_none : (id : ℕ) (old new : Token) (way : Option ℕ) → LooksUp id old new way → Claims old [] new
look_none id old new way seen = let all = looks_up id old new way seen in claims_none old new all.0 all.1

way_none : (id : ℕ) (old new : Token) (at : Option NamedWay) → LooksForWay id old new at → Claims old [] new
way_none id old new (Some at) seen =
    claims_both (look_none id old seen.0 (Some at.way) seen.1) (claims_touch _ seen.0 new seen.2.looks)
way_none id old new None seen = look_none id old new None seen

mark_none : (way : ℕ) (marked : Bool) (old new : Token) → SetsMark way marked old new → Claims old [] new
mark_none way marked old new same = grind arith

find_none : {Room : Type 0} (shows : Room → List Row → Type 0) (id : ℕ) (old : IdCaller) (before : Room)
    (new : IdCaller) (after : Room) (answer : FoundId)
    → FindsById shows id old before new after answer
    → Claims old.ids [] new.ids
find_none shows id old before new after found.Rows (word, finds) =
    claims_both (way_none id old.ids finds.2 (Some finds.0) finds.3.0)
    (mark_none finds.0.way finds.0.is_marked finds.2 new.ids finds.4)
find_none shows id old before new after found.Pending (word, finds) =
    way_none id old.ids new.ids (Some finds.0) finds.1
find_none shows id old before new after found.Moved (word, finds) =
    way_none id old.ids new.ids (Some finds.0) finds.2.0
find_none shows id old before new after found.Absent (word, finds) = way_none id old.ids new.ids None finds.0

-- a request that was granted no claim
refused_each : {id : ℕ} {old new : IdHands} (answer : Requested)
    → ((claim : Granted) → answer ≢ requested.Granted claim) → IsRefused id old new answer → PostsEach old new
refused_each {id} {old} {new} answer none is =
    let all = request_looks id old.reader.ids new.reader.ids answer none is.requests.requests in
    let claims = claims_none old.reader.ids new.reader.ids all.0 all.1 in
    grind (arith, posts_each, append-nil)

request_each : (capacity id : ℕ) (old : IdHands) (missed : Missed) (new : IdHands)
    → RequestsOnce capacity id old new missed → PostsEach old new
request_each capacity id old missed.Pending new requests = absurd requests
request_each capacity id old missed.NotRequested new requests = rw requests.2 (each_same old)
request_each capacity id old missed.Claimed new requests =
    let won = requests.requests.requests in
    let all = grant_looks id old.reader.ids new.reader.ids won.0 in
    post_each capacity old new (Some requests.claim) (id ∷ [])
    (claims_of old.reader.ids new.reader.ids
    (claimed old.reader.ids.number id ∷ looks all.0 old.reader.ids.number) (id ∷ []) all.1
    (ap (λ (ids : List ℕ). ids ++ id ∷ []) (looks_claim_none all.0 old.reader.ids.number)))
    requests.posts
    (ap (λ (kept : Option Granted). ids_kept kept ++ id ∷ []) requests.requests.none
    ∙ ap (λ (at : ℕ). at ∷ []) (sym won.2))
request_each capacity id old missed.Named new requests =
    refused_each (requested.Named requests.0) (λ claim is. cc (is)) requests.1
request_each capacity id old missed.Busy new requests = refused_each requested.Busy (λ claim is. cc (is)) requests
request_each capacity id old missed.Outrun new requests = refused_each requested.Outrun (λ claim is. cc (is)) requests
request_each capacity id old missed.Worn new requests = refused_each requested.Worn (λ claim is. cc (is)) requests

goes_on_each : (capacity id : ℕ) (answer : FoundId) (old : IdHands) (missed : Missed) (new : IdHands)
    → GoesOn capacity id answer old new missed → PostsEach old new
goes_on_each capacity id answer old missed new goes = grind (arith, each_same, request_each)

-- TRIES AND GETS
pub miss_each : (capacity id : ℕ) (old : IdHands) (missed : Missed) (new : IdHands)
    → MissesOnce capacity id old new missed → PostsEach old new
miss_each capacity id old missed new tried = search (rules, each_both, first_each, reader_each, find_none, goes_on_each)

misses_each : (capacity id : ℕ) (old : IdHands) (all : List Missed) (new : IdHands) → MissesAll capacity id old new all
    → PostsEach old new
misses_each capacity id old [] new same = rw same (each_same old)
misses_each capacity id old (missed ∷ before) new tries =
    each_both old tries.0 new (misses_each capacity id old before tries.0 tries.1)
    (miss_each capacity id tries.0 missed new tries.2)

module _ {Room : Type 0} (shows : Room → List Row → Type 0) where
  find_each : (capacity id : ℕ) (old : IdHands) (before : Room) (new : IdHands) (after : Room)
      → FindsOnce shows capacity id old before new after → PostsEach old new
  find_each capacity id old before new after tried =
      let none = find_none shows id tried.posted.reader before new.reader after found.Rows tried.finds in
      let first = first_each capacity old tried.posted tried.posts in
      rw tried.rest (each_both _ _ _ first (reader_each tried.posted new.reader none))

  pub each_claim_is_posted_lem : EachClaimIsPosted shows
  each_claim_is_posted_lem capacity id tries old new before after (Ok got.Rows) gets =
      each_both old gets.between new (misses_each capacity id old gets.misses.each gets.between gets.misses.all)
      (find_each capacity id gets.between before new after gets.ends.1)
  each_claim_is_posted_lem capacity id tries old new before after (Ok got.GaveUp) gets =
      rw gets.ends.1 (misses_each capacity id old gets.misses.each gets.between gets.misses.all)
  each_claim_is_posted_lem capacity id tries old new before after (Err late) gets =
      each_both old gets.last new (misses_each capacity id old gets.misses.each gets.last gets.misses.all)
      (miss_each capacity id gets.last gets.missed new gets.slept.tried)
