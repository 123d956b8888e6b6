-- What the outcomes and the calls of all threads of a load come to, once these are joined.
use Rattle.std.proofs.Common.{◌≡◌, ℕ, Bool, true, not, List, [], ◌∷◌, ◌++◌, length, refl, arith, Option, None, Some}
use Rattle.std.proofs.Common.{is_some, ◌≤◌, ◌<◌, suc, zero, ◌*◌, false, if◌then◌else◌, All, map, get_or, ap, ◌∙◌, ◌+◌}
use Rattle.std.proofs.lemmas.List.{append-nil, length-map}
use Rattle.std.specs.declared.thread.PromisedHandle.{PromisedHandle}
use Rattle.std.specs.List.{count_by}
use Rattle.std.proofs.Math.Nat.{mul-suc, mul_comm, mul-le-mul_left}
use Rattle.std.proofs.lemmas.List.Elements.{All-head, All-tail}
use Rattle.std.proofs.lemmas.Option.{get_or_from_slice_get}
use Rattle.nr_model.specs.Histories.{Entry}
use Rattle.nr_core.specs.Sums.{total}
use Rattle.nr_core.specs.Marks.{no_marks}
use Rattle.nr_board.specs.Callers.{Caller, Table}
use Rattle.nr_map.specs.Opened.{newcomer}
use Rattle.nr_map.specs.Rounds.{is_cancel, is_fill, is_sent}
use Rattle.nr_trigger.specs.Tokens.{TakerSeen}
use Rattle.nr_serve.specs.Hands.{capped}
use Rattle.nr_load.specs.declared.flow.Flowed.{Flowed}
use Rattle.nr_load.specs.declared.workers.Outcome.{Outcome}
use Rattle.nr_load.specs.declared.workers.Serving.{Serving}
use Rattle.nr_load.specs.Flowed.{Flows}
use Rattle.nr_load.specs.Outcomes.{CarriesFirst, KeptBy, ServesFirst, Serves, reader_of, answered_in, sends_in}
use Rattle.nr_load.specs.declared.fault.LoadFault.{LoadFault}
use Rattle.nr_load.specs.declared.fault.LoadFault.TheVariants as faults
use Rattle.nr_load.specs.Ends.{first_of, Ended}
use Rattle.nr_load.specs.Faults.{earlier}
use Rattle.nr_load.specs.Gained.{Gained}
use Rattle.nr_load.specs.Balance.{of_all}
use Rattle.nr_load.specs.Gathers.{IsInOrder}
use Rattle.nr_load.specs.declared.threads.Joined.{Joined}

-- PROMISES THAT WERE KEPT
-- nothing was left to join
pub all_joined : (handles rest : List (PromisedHandle Outcome Serving)) (outcomes : List Outcome) → length rest ≡ 0
    → ((more : List Outcome) → KeptBy rest more → KeptBy handles (outcomes ++ more)) → KeptBy handles outcomes
all_joined handles [] outcomes e f = rw append-nil at (f [] tt)
all_joined handles (h ∷ rest) outcomes e f = absurd (omega (arith, e))

pub none_refused : {A : Type 0} (refused : Option A) (is_whole : Bool) → is_some refused ≡ not is_whole
    → is_whole ≡ true → refused ≡ None
none_refused None is_whole is whole = refl
none_refused (Some guest) is_whole is whole = absurd (cc)

-- as many were joined as were started
pub joined_count : (handles : List (PromisedHandle Outcome Serving)) (outcomes : List Outcome) → KeptBy handles outcomes
    → length outcomes ≡ length handles
joined_count [] [] kept = refl
joined_count (h ∷ hs) (o ∷ os) kept = omega (arith, joined_count hs os kept.1)
joined_count handles outcomes kept = absurd kept

-- those that were started so far
pub started : (seed gets : ℕ) (readers rest : List Caller) (handles : List (PromisedHandle Outcome Serving))
    → ((more : List (PromisedHandle Outcome Serving)) → CarriesFirst seed gets rest more
    → CarriesFirst seed gets readers (handles ++ more))
    → CarriesFirst seed gets readers handles
started seed gets readers rest handles f = rw append-nil at (f [] tt)

pub served : (seed gets : ℕ) (readers : List Caller) (handles : List (PromisedHandle Outcome Serving))
    (outcomes : List Outcome)
    → CarriesFirst seed gets readers handles → KeptBy handles outcomes → ServesFirst seed gets readers outcomes
served seed gets readers [] [] carries kept = tt
served seed gets [] (h ∷ hs) (o ∷ os) carries kept = absurd carries
served seed gets (r ∷ rs) (h ∷ hs) (o ∷ os) carries kept = (
  rw (carries.0.0, carries.0.1, carries.0.2) at kept.0,
  served seed gets rs hs os carries.1 kept.1,
)
served seed gets readers handles outcomes carries kept = absurd kept

pub flows_of : (a b : Caller) (t u : TakerSeen) (flowed : Flowed) → (a ≡ b) × (t ≡ u) → Flows a t flowed
    → Flows b u flowed
flows_of a b t u flowed same flows = rw (same.0, same.1) at flows

-- THE OUTCOMES OF ALL READERS
-- a token that has made no call
abbrev pub IsNew : Caller → Type 0
IsNew reader = reader.mine ≡ []

-- all that a new token did is what it gained
pub counts_gained : (test : Entry → Bool) (keys s f n : ℕ) (a b : Caller) (gained : Gained keys a b s f) → a.mine ≡ []
    → count_by test gained.entries ≡ n → count_by test b.mine ≡ n
counts_gained test keys s f n a b gained none counted =
    ap (count_by test) (gained.mine ∙ ap (λ (l : List Entry). l ++ gained.entries) none) ∙ counted

-- and so of all new readers
pub total_gained : (test : Entry → Bool) (told : Outcome → ℕ) (seed gets : ℕ)
    → ((r : Caller) (o : Outcome) (serves : Serves seed gets r o) → count_by test serves.gained.entries ≡ told o)
    → (rs : List Caller) (os : List Outcome) → All IsNew rs → ServesFirst seed gets rs os
    → total (λ (r : Caller). count_by test r.mine) (map reader_of os) ≡ total told os
total_gained test told seed gets each rs [] new serves = refl
total_gained test told seed gets each [] (o ∷ os) new serves = absurd serves
total_gained test told seed gets each (r ∷ rs) (o ∷ os) new serves =
    let first : count_by test o.reader.mine ≡ told o
    = counts_gained test _ _ _ _ r o.reader serves.0.gained (All-head IsNew r rs new) (each r o serves.0) in
    omega (arith, first, total_gained test told seed gets each rs os (All-tail IsNew r rs new) serves.1)

-- the readers that came back are those that were given, in their order
pub came_back : (seed gets : ℕ) (rs : List Caller) (os : List Outcome) → ServesFirst seed gets rs os
    → (at : ℕ) (other : Caller) → at < length os
    → ((get_or (map reader_of os) at other).table ≡ (get_or rs at other).table)
    × ((get_or (map reader_of os) at other).number ≡ (get_or rs at other).number)
came_back seed gets rs [] serves at other low = absurd (omega (arith, low))
came_back seed gets [] (o ∷ os) serves at other low = absurd serves
came_back seed gets (r ∷ rs) (o ∷ os) serves zero other low = (serves.0.gained.table, serves.0.gained.number)
came_back seed gets (r ∷ rs) (o ∷ os) serves (suc at) other low =
    came_back seed gets rs os serves.1 at other (omega arith)

pub served_few : (seed gets : ℕ) (rs : List Caller) (os : List Outcome) → ServesFirst seed gets rs os
    → length os ≤ length rs
served_few seed gets rs [] serves = omega arith
served_few seed gets [] (o ∷ os) serves = absurd serves
served_few seed gets (r ∷ rs) (o ∷ os) serves = omega (arith, served_few seed gets rs os serves.1)

-- where each outcome tells no more than that, all tell no more than as often that as there are readers
pub served_sum : (told : Outcome → ℕ) (most seed gets : ℕ)
    → ((r : Caller) (o : Outcome) → Serves seed gets r o → told o ≤ most) → (rs : List Caller) (os : List Outcome)
    → ServesFirst seed gets rs os → total told os ≤ most * length rs
served_sum told most seed gets each rs [] serves = omega arith
served_sum told most seed gets each [] (o ∷ os) serves = absurd serves
served_sum told most seed gets each (r ∷ rs) (o ∷ os) serves =
    omega (arith, served_sum told most seed gets each rs os serves.1, each r o serves.0, mul-suc most (length rs))

no_choice : (b : Bool) (f g : LoadFault) → (if b then Some f else Some g) ≡ None → ⊥
no_choice true f g e = cc
no_choice false f g e = cc

pub none_of : (fault other : Option LoadFault) → earlier fault other ≡ None → (fault ≡ None) × (other ≡ None)
none_of None other e = (refl, e)
none_of (Some f) None e = absurd (cc)
none_of (Some f) (Some g) e = absurd (no_choice _ f g e)

is_so : (b : Bool) (f : LoadFault) → (if b then None else Some f) ≡ None → b ≡ true
is_so true f e = refl
is_so false f e = absurd (cc)

-- where no fault is told, no thread was refused, all gets were made, and neither told one
pub none_told : (one other : Option LoadFault) (is_whole is_all : Bool) → first_of one other is_whole is_all ≡ None
    → (is_whole ≡ true) × (is_all ≡ true) × (one ≡ None) × (other ≡ None)
none_told one other is_whole is_all e =
    let last
    = none_of (earlier (earlier one other) (if is_whole then None else Some faults.Thread))
    (if is_all then None else Some faults.WrongRows) e in
    let refused = none_of (earlier one other) (if is_whole then None else Some faults.Thread) last.0 in
    let both = none_of one other refused.0 in
    (is_so is_whole faults.Thread refused.1, is_so is_all faults.WrongRows last.1, both.0, both.1)

-- THE CALLS OF ALL CALLERS
module _ (t : Table) (seed gets : ℕ) (joined : Joined) (e : Ended t seed gets joined) where
  pub reader_at : (at : ℕ) (other : Caller) → at < length e.readers
      → get_or e.readers at other ≡ newcomer t (at + 1) no_marks
  reader_at at other low =
      get_or_from_slice_get e.readers at _ other (e.opened.reads at (omega (arith, low, e.opened.count)))

  pub new_writer : e.writer.mine ≡ []
  new_writer = ap (λ (c : Caller). c.mine) e.opened.writes

  -- the calls that meet a test are the writer's, and as many as the outcomes tell
  counted : (test : Entry → Bool) (told : Outcome → ℕ)
      → ((r : Caller) (o : Outcome) (serves : Serves seed gets r o) → count_by test serves.gained.entries ≡ told o)
      → of_all test joined.flowed.writer (map reader_of joined.outcomes.items)
      ≡ count_by test e.flowed.gained.entries + total told joined.outcomes.items
  counted test told each =
      let own : count_by test joined.flowed.writer.mine ≡ count_by test e.flowed.gained.entries
      = counts_gained test _ _ _ _ e.writer joined.flowed.writer e.flowed.gained new_writer refl in
      omega (
        arith,
        own,
        total_gained test told seed gets each e.readers joined.outcomes.items
            (λ at other low. ap (λ (c : Caller). c.mine) (reader_at at other low)) e.served,
      )

  -- what no outcome tells
  told_none : total (λ (o : Outcome). 0) joined.outcomes.items ≡ 0
  told_none =
      omega (
        arith,
        served_sum (λ (o : Outcome). 0) 0 seed gets (λ r o serves. omega arith) e.readers joined.outcomes.items
            e.served,
      )

  pub all_sent : of_all is_sent joined.flowed.writer (map reader_of joined.outcomes.items)
      ≡ sends_in joined.outcomes.items
  all_sent =
      omega (
        arith,
        counted is_sent (λ o. o.sends) (λ r o serves. serves.gained.tells.sent),
        e.flowed.gained.tells.sent,
      )

  pub writer_filled : of_all is_fill joined.flowed.writer (map reader_of joined.outcomes.items) ≡ e.flowed.count
  writer_filled =
      omega (
        arith,
        counted is_fill (λ o. 0) (λ r o serves. serves.gained.tells.filled),
        e.flowed.gained.tells.filled,
        told_none,
      )

  pub all_filled : joined.flowed.fills
      ≡ capped (of_all is_fill joined.flowed.writer (map reader_of joined.outcomes.items))
  all_filled = rw writer_filled e.flowed.fills

  pub all_cancelled : of_all is_cancel joined.flowed.writer (map reader_of joined.outcomes.items) ≡ 0
  all_cancelled =
      omega (
        arith,
        counted is_cancel (λ o. 0) (λ r o serves. serves.gained.tells.cancelled),
        e.flowed.gained.tells.cancelled,
        told_none,
      )

  pub own_readers : All (λ (reader : Caller). reader.table ≡ t) (map reader_of joined.outcomes.items)
  own_readers = λ at other low.
      let inside : at < length joined.outcomes.items
      = omega (arith, low, length-map joined.outcomes.items reader_of) in
      (came_back seed gets e.readers joined.outcomes.items e.served at other inside).0
      ∙ e.opened.own at other
      (omega (arith, inside, served_few seed gets e.readers joined.outcomes.items e.served))

  pub in_order : joined.is_whole ≡ true → IsInOrder t.shape.readers (map reader_of joined.outcomes.items)
  in_order is =
      let same : length joined.outcomes.items ≡ length e.readers = e.whole is in
      let size : length (map reader_of joined.outcomes.items) ≡ length joined.outcomes.items
      = length-map joined.outcomes.items reader_of in
      record {
        count_is = size ∙ same ∙ e.opened.count;
        numbers = λ at other low.
            (came_back seed gets e.readers joined.outcomes.items e.served at other (omega (arith, low, size))).1
            ∙ ap (λ (c : Caller). c.number) (reader_at at other (omega (arith, low, size, same)));
      }

  -- 1,024 readers tell no more than a number can count
  pub fits : (told : Outcome → ℕ) (most : ℕ) → ((r : Caller) (o : Outcome) → Serves seed gets r o → told o ≤ most)
      → most < 4294967296000000 → t.shape.readers ≤ 1024
      → total told joined.outcomes.items < 18446744073709551616
  fits told most each low few =
      omega (
        arith,
        served_sum told most seed gets each e.readers joined.outcomes.items e.served,
        mul-le-mul_left {m = length e.readers} {n = 1024} most (omega (arith, few, e.opened.count)),
      )

  pub few_answered : (readers : ℕ) → t.shape.readers ≡ readers → answered_in joined.outcomes.items ≤ readers * gets
  few_answered readers count =
      let most : gets * length e.readers ≡ readers * gets
      = ap (λ (n : ℕ). gets * n) (e.opened.count ∙ count) ∙ mul_comm gets readers in
      omega (
        arith,
        served_sum (λ o. o.worked.answered) gets seed gets (λ r o serves. serves.answered) e.readers
            joined.outcomes.items e.served,
        most,
      )
