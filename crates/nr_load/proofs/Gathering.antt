-- Rounds of gathers with a count of the asked keys between them: the writer knew all calls, so the count is that of all
-- of them, and one history is the account of the load.
use Rattle.std.proofs.Common.{◌≡◌, ◌≢◌, ◌<◌, ◌≤◌, ℕ, ◌+◌, List, ◌++◌, length, get_or, set, ap, ◌∙◌, append_assoc}
use Rattle.std.proofs.Common.{below_more, arith, [], ◌∷◌, refl, sym, add-one, Bool, true, All, length-append, suc}
use Rattle.std.proofs.lemmas.List.{get_or-set_same, get_or-set_other, get_or_default, append-nil, nil_from_length}
use Rattle.std.specs.List.{count_by}
use Rattle.nr_model.specs.Histories.{Entry, after, entries_of}
use Rattle.nr_model.specs.Laws.{pending}
use Rattle.nr_model.specs.Maps.{PartialMap, state_of}
use Rattle.nr_model.specs.declared.states.KeyState.{KeyState}
use Rattle.nr_model.specs.declared.states.KeyState.TheVariants as states
use Rattle.nr_model.proofs.HistoryLemmas.{count_by-cons}
use Rattle.nr_core.proofs.Histories.{length-now}
use Rattle.nr_core.proofs.Sums.{below-first}
use Rattle.nr_core.specs.Sums.{below, total}
use Rattle.nr_board.specs.Callers.{Caller, IsSound, Table, map_seen, map_at_opening}
use Rattle.nr_board.specs.Meetings.{Gathers, Learns, StatesKey}
use Rattle.nr_board.specs.Rule.{StartsWith}
use Rattle.nr_board.specs.declared.answers.KeyKind.{KeyKind}
use Rattle.nr_board.specs.declared.answers.KeyKind.TheVariants as kind
use Rattle.nr_board.specs.Kinds.{kind_of}
use Rattle.nr_map.specs.Rounds.{CallsStay, BeginningsMeet, EntriesAreCallers, HasCalls, HasHeard, HasJustCalls}
use Rattle.nr_map.specs.Rounds.{KnowsAll, RoundsTellAll, SendsOfAllKeys, is_cancel, is_fill, is_sent}
use Rattle.nr_serve.specs.Hands.{capped}
use Rattle.nr_load.specs.Balance.{Stays, Balances, of_all, StaysEach}
use Rattle.nr_load.specs.Gathers.{Hears, asked_one, CountsAsked, GathersAll, IsInOrder, IsTally}
use Rattle.nr_load.specs.Reports.{IsAccount}

-- A ROUND
-- each reader that is gathered hears what the writer had seen before it
pub starts_then : (a b c : List Entry) → StartsWith b a → StartsWith c b → StartsWith c a
starts_then a b c one two = record { rest = one.rest ++ two.rest; is = rw (two.is, one.is, append_assoc) }

pub stays_then : (a b c : Caller) → Stays a b → Stays b c → Stays a c
stays_then a b c one two =
    record {
      table = two.table ∙ one.table;
      number = two.number ∙ one.number;
      mine = two.mine ∙ one.mine;
      seen = starts_then a.seen b.seen c.seen one.seen two.seen;
    }

pub learns_stays : (steps : ℕ) (old new : Caller) → Learns steps old new → Stays old new
learns_stays steps old new l = assumption

pub learns_sound : (steps : ℕ) (old new : Caller) → Learns steps old new → IsSound new
learns_sound steps old new l =
    record { own = l.own; legal = rw l.table l.legal; callers = rw l.table l.callers }

-- one gather of a round
pub gathered : (log : List Entry) (w r w' r' : Caller) → Gathers w r w' r' → StartsWith w.seen log
    → Hears log r w'.seen r'
gathered log w r w' r' g begins =
    let learns = g.of_writer.learns in
    let more : StartsWith r'.seen log
    = starts_then log w.seen r'.seen begins
    (starts_then w.seen w'.seen r'.seen g.of_reader.learns.seen g.of_writer.seen) in
    record {
      stays = learns_stays 2 r r' learns;
      calls = rw (learns.mine, learns.number) g.of_reader.calls;
      heard = (more, learns.own);
    }

heard_on : CallsStay → (log later last : List Entry) (a b : Caller) → Hears log a later b → StartsWith last later
    → Hears log a last b
heard_on stay log later last a b h on =
    record { stays = h.stays; calls = stay later last b on h.calls; heard = h.heard }

-- the readers below a place were gathered, and then the one at that place
pub one_more : CallsStay → (log : List Entry) (w w' r r' : Caller) (old rs : List Caller) (i : ℕ) → i < length rs
    → length rs ≡ length old → r ≡ get_or rs i r → StartsWith w'.seen w.seen → Hears log r w'.seen r'
    → ((at : ℕ) (other : Caller) → at < i → Hears log (get_or old at other) w.seen (get_or rs at other))
    → ((at : ℕ) (other : Caller) → i ≤ at → get_or rs at other ≡ get_or old at other)
    → (at : ℕ) (other : Caller) → at < i + 1 → Hears log (get_or old at other) w'.seen (get_or (set rs i r') at other)
one_more stay log w w' r r' old rs i low same item on heard done rest at other below_i =
    below_more (λ (j : ℕ). (o : Caller) → Hears log (get_or old j o) w'.seen (get_or (set rs i r') j o)) i
    (λ j before o. let apart : j ≢ i = omega arith in
    heard_on stay log w.seen w'.seen _ _
    (rw (get_or-set_other rs i j r' o apart) (done j o before)) on)
    (λ o. let inside : i < length old = omega arith in
    let first : r ≡ get_or old i o = item ∙ rest i r (omega arith) ∙ get_or_default old i r o inside in
    rw (get_or-set_same rs i r' o low) (rw first at heard))
    at below_i other

-- THE ASKED KEYS, ONE BY ONE
-- whether a key is asked, after what the caller has seen
abbrev pub pending_at : Caller → ℕ → ℕ
pending_at caller key = pending (state_of (map_seen caller) key)

pub asked_small : (shown : KeyKind) → asked_one shown ≤ 1
asked_small kind.Asked = omega arith
asked_small shown = omega arith

asks_pending : (shown : KeyKind) (state : KeyState) → shown ≡ kind_of state → asked_one shown ≡ pending state
asks_pending shown (states.Hole number) is = ap asked_one is
asks_pending shown state is = ap asked_one is

-- one key more, where nothing was learnt since the first
pub counts_on : BeginningsMeet → (first old new : Caller) (k asked more : ℕ) (shown : KeyKind) → Stays first old
    → (old.seen ≡ first.seen → asked ≡ below (pending_at first) k) → StatesKey k old new shown → more ≡ asked_one shown
    → new.seen ≡ first.seen → asked + more ≡ below (pending_at first) (k + 1)
counts_on meet first old new k asked more shown stays exact states is same =
    let back : old.seen ≡ first.seen
    = meet old.seen first.seen stays.seen
    (rw same at states.learns.seen) in
    let table : new.table ≡ first.table = states.learns.table ∙ stays.table in
    let maps : map_seen new ≡ map_seen first
    = ap (λ (t : Table). after (map_at_opening t) new.seen) table
    ∙ ap (λ (l : List Entry). after (map_at_opening first.table) l) same in
    let pend : asked_one shown ≡ pending_at first k
    = asks_pending shown (state_of (map_seen new) k) states.state
    ∙ ap (λ (m : PartialMap). pending (state_of m k)) maps in
    rw add-one (omega (arith, exact back, is, pend))

by_states : (f : KeyState → ℕ) (l : List KeyState)
    → below (λ key. f (get_or l key (states.Hole 0))) (length l) ≡ total f l
by_states f [] = refl
by_states f (state ∷ l) =
    omega (arith, below-first (λ key. f (get_or (state ∷ l) key (states.Hole 0))) (length l), by_states f l)

-- all keys are all states
pub all_keys : (caller : Caller)
    → below (pending_at caller) caller.table.shape.keys ≡ total pending (map_seen caller).states
all_keys caller =
    ap (below (pending_at caller)) (sym (length-now caller.table.shape caller.seen))
    ∙ by_states pending (map_seen caller).states

-- TWO ROUNDS AND A COUNT
count_all : (xs : List Entry) → count_by (λ (e : Entry). true) xs ≡ length xs
count_all [] = refl
count_all (x ∷ xs) = omega (arith, count_by-cons (λ (e : Entry). true) x xs, count_all xs)

-- a history that has exactly the readers' calls is all callers'
knows_all : (w : Caller) (rs0 rs : List Caller) → w.number ≡ 0 → IsSound w → IsInOrder w.table.shape.readers rs0
    → length rs ≡ length rs0
    → ((at : ℕ) (other : Caller) → at < length rs0 → (get_or rs at other).number ≡ (get_or rs0 at other).number)
    → All (HasJustCalls w.seen) rs → KnowsAll w rs
knows_all w rs0 rs first sound order same numbers just = record {
  number = first;
  own = sound.own;
  legal = sound.legal;
  callers = sound.callers;
  count = same ∙ order.count_is;
  numbers = λ at other low.
      let inside : at < length rs0 = omega (arith, low, same) in
      numbers at other inside ∙ order.numbers at other inside;
  each = just;
}

-- of two histories that have exactly the same calls, one of which begins the other, both are the same
same_history : EntriesAreCallers → (one two : Caller) (rs : List Caller) → KnowsAll one rs → KnowsAll two rs
    → Stays one two → two.seen ≡ one.seen
same_history entries one two rs knows1 knows2 stays =
    let yes : Entry → Bool = λ e. true in
    let readers : ℕ = total (λ (r : Caller). count_by yes r.mine) rs in
    let n1 : length one.seen ≡ length one.mine + readers
    = sym (count_all one.seen) ∙ entries one rs yes knows1 ∙ ap (λ (n : ℕ). n + readers) (count_all one.mine) in
    let n2 : length two.seen ≡ length two.mine + readers
    = sym (count_all two.seen) ∙ entries two rs yes knows2 ∙ ap (λ (n : ℕ). n + readers) (count_all two.mine) in
    let more = stays.seen in
    let none : length more.rest ≡ 0
    = omega (
      arith,
      n1,
      n2,
      ap (λ (l : List Entry). length l) stays.mine,
      ap (λ (l : List Entry). length l) more.is,
      length-append one.seen more.rest,
    ) in
    more.is ∙ ap (λ (l : List Entry). one.seen ++ l) (nil_from_length more.rest none) ∙ append-nil one.seen

pub tallies : RoundsTellAll → EntriesAreCallers → CallsStay
    → (w0 w1 w2 w3 : Caller) (rs0 rs1 rs2 : List Caller) (asked : ℕ) → GathersAll w0 rs0 w1 rs1
    → CountsAsked w1 w2 asked → GathersAll w2 rs1 w3 rs2
    → w0.number ≡ 0 → IsInOrder w0.table.shape.readers rs0 → 0 < w0.table.shape.readers → IsTally w3 rs2 asked
tallies tell entries stay w0 w1 w2 w3 rs0 rs1 rs2 asked one counted two first order some =
    let size1 : length rs1 ≡ length rs0 = one.count in
    let size2 : length rs2 ≡ length rs0 = two.count ∙ one.count in
    let sound1 : IsSound w1 = one.sound (omega (arith, order.count_is)) in
    let stays2 : (at : ℕ) (other : Caller) → at < length rs2 → Stays (get_or rs1 at other) (get_or rs2 at other)
    = λ at other low. (two.each at other (omega (arith, low, size1, size2))).stays in
    let numbers : (at : ℕ) (other : Caller) → at < length rs0
    → (get_or rs2 at other).number ≡ (get_or rs0 at other).number
    =
    λ at other low. (stays2 at other (omega (arith, low, size2))).number ∙ (one.each at other low).stays.number in
    let calls1 : All (HasCalls w1.seen) rs2 = λ at other low.
    let s = stays2 at other low in
    rw (s.mine, s.number) (one.each at other (omega (arith, low, size2))).calls in
    let heard2 : All (HasHeard w2.seen) rs2
    = λ at other low. (two.each at other (omega (arith, low, size1, size2))).heard in
    let heard1 : All (HasHeard w1.seen) rs2
    = λ at other low.
    let h = heard2 at other low in
    (starts_then w1.seen w2.seen (get_or rs2 at other).seen counted.stays.seen h.0, h.1) in
    let calls2 : All (HasCalls w2.seen) rs2
    = λ at other low. stay w1.seen w2.seen (get_or rs2 at other) counted.stays.seen (calls1 at other low) in
    let order1 : IsInOrder w1.table.shape.readers rs0
    = rw one.stays.table order in
    let order2 : IsInOrder w2.table.shape.readers rs0
    = rw counted.stays.table order1 in
    let first1 : w1.number ≡ 0 = one.stays.number ∙ first in
    let knows1 : KnowsAll w1 rs2
    = knows_all w1 rs0 rs2 first1 sound1 order1 size2 numbers (tell w1.seen rs2 calls1 heard1) in
    let knows2 : KnowsAll w2 rs2
    = knows_all w2 rs0 rs2 (counted.stays.number ∙ first1) (counted.sound sound1) order2 size2 numbers
    (tell w2.seen rs2 calls2 heard2) in
    let same : w2.seen ≡ w1.seen = same_history entries w1 w2 rs2 knows1 knows2 counted.stays in
    record {
      knower = w1;
      table = sym (two.stays.table ∙ counted.stays.table);
      mine = sym (two.stays.mine ∙ counted.stays.mine);
      knows = knows1;
      exact = counted.exact same;
    }

pub balances : SendsOfAllKeys → (writer : Caller) (readers : List Caller) (asked : ℕ) → IsTally writer readers asked
    → Balances writer readers asked
balances sends writer readers asked told =
    let sum : of_all is_sent told.knower readers
    ≡ of_all is_fill told.knower readers + of_all is_cancel told.knower readers + asked
    = omega (arith, sends told.knower readers told.knows, told.exact) in
    rw told.mine at sum

-- THE ACCOUNT
total_stays : (test : Entry → Bool) (old new : List Caller) → StaysEach old new
    → total (λ (r : Caller). count_by test r.mine) new ≡ total (λ (r : Caller). count_by test r.mine) old
total_stays test [] [] stays = refl
total_stays test (x ∷ xs) (y ∷ ys) stays =
    let first : count_by test y.mine ≡ count_by test x.mine = ap (count_by test) (stays.1 0 x (omega arith)).mine in
    omega (
      arith,
      first,
      total_stays test xs ys (omega (arith, stays.0), λ at other low. stays.1 (suc at) other (omega arith)),
    )
total_stays test old new stays = absurd (omega (arith, stays.0))

all_stay : (test : Entry → Bool) (w w' : Caller) (rs rs' : List Caller) → Stays w w' → StaysEach rs rs'
    → of_all test w' rs' ≡ of_all test w rs
all_stay test w w' rs rs' stays each =
    let own : count_by test w'.mine ≡ count_by test w.mine = ap (count_by test) stays.mine in
    omega (arith, own, total_stays test rs rs' each)

-- what was counted before the gathers is what balances after them; the count of fills is below its last number, since
-- the sends are
pub balanced : (w w' : Caller) (rs rs' : List Caller) (sends fills asked : ℕ) → Balances w' rs' asked → Stays w w'
    → StaysEach rs rs' → of_all is_sent w rs ≡ sends → fills ≡ capped (of_all is_fill w rs)
    → of_all is_cancel w rs ≡ 0 → sends < 18446744073709551616
    → (fills ≡ of_all is_fill w rs) × (sends ≡ fills + asked)
balanced w w' rs rs' sends fills asked balance stays each sent filled cancelled low =
    let all : of_all is_sent w rs ≡ of_all is_fill w rs + of_all is_cancel w rs + asked
    = omega (
      arith,
      balance,
      all_stay is_sent w w' rs rs' stays each,
      all_stay is_fill w w' rs rs' stays each,
      all_stay is_cancel w w' rs rs' stays each,
    ) in
    (omega (arith, all, sent, filled, cancelled, low), omega (arith, all, sent, filled, cancelled, low))

-- the history of the tally is one of the callers as they were before the gathers
pub accounts : EntriesAreCallers → (t : Table) (w w' : Caller) (rs rs' : List Caller) (asked : ℕ) → w.table ≡ t
    → IsTally w' rs' asked → Stays w w' → StaysEach rs rs' → IsAccount t w rs asked
accounts entries t w w' rs rs' asked own told stays each =
    let knower = told.knower in
    let table : knower.table ≡ t = told.table ∙ stays.table ∙ own in
    record {
      history = knower.seen;
      legal = rw table at told.knows.legal;
      callers = rw table at told.knows.callers;
      writes = ap (entries_of knower.seen) (sym told.knows.number) ∙ told.knows.own ∙ told.mine ∙ stays.mine;
      reads = λ at other low.
          let inside : at < length rs' = omega (arith, low, each.0) in
          ap (entries_of knower.seen) (sym (told.knows.numbers at other inside)) ∙ told.knows.each at other inside
          ∙ (each.1 at other low).mine;
      counts = λ test. entries knower rs' test told.knows
          ∙ ap (λ (l : List Entry). count_by test l + total (λ (r : Caller). count_by test r.mine) rs') told.mine
          ∙ all_stay test w w' rs rs' stays each;
      pends = told.exact ∙ ap (λ (x : Table). total pending (after (map_at_opening x) knower.seen).states) table;
    }
