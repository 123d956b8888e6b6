-- What each call adds to the calls of its caller, counted.
use Rattle.std.proofs.Common.{◌≡◌, ℕ, ◌+◌, ◌<◌, ◌==◌, Bool, true, false, ◌&&◌, cond, List, [], ◌∷◌, ◌++◌, length, refl}
use Rattle.std.proofs.Common.{ap, arith, eq-eqb, length-append, sym, ◌∙◌, append_assoc, append-nil, Result, Ok, Err}
use Rattle.std.specs.List.{count_by}
use Rattle.std.proofs.lemmas.List.Sums.{sum_by-append}
use Rattle.std.specs.Prelude.{drop}
use Rattle.std.proofs.Math.Seq.{drop-append_seam}
use Rattle.nr_model.proofs.HistoryLemmas.{one, count_by-cons}
use Rattle.nr_model.specs.declared.rows.Row.{Row}
use Rattle.nr_model.specs.declared.batches.Delta.{Delta}
use Rattle.nr_model.specs.declared.calls.Call.{Call}
use Rattle.nr_model.specs.declared.calls.Call.TheVariants as call
use Rattle.nr_model.specs.declared.calls.Reply.{Reply}
use Rattle.nr_model.specs.declared.calls.Reply.TheVariants as reply
use Rattle.nr_model.specs.Histories.{Entry, is_done, is_send}
use Rattle.nr_model.specs.Maps.{call_key}
use Rattle.nr_core.specs.Story.{entry}
use Rattle.nr_board.specs.declared.answers.FillFault.{FillFault}
use Rattle.nr_board.specs.declared.answers.FillFault.TheVariants as fill
use Rattle.nr_board.specs.WriterAnswers.{FillsKey}
use Rattle.nr_board.specs.Callers.{Caller, Grows}
use Rattle.nr_map.specs.Rounds.{is_cancel, is_fill, is_sent}
use Rattle.nr_serve.specs.Tickets.{sent, sent_by}
use Rattle.nr_serve.specs.declared.try_turns.TryTurn.{TryTurn}
use Rattle.nr_serve.specs.declared.try_turns.TryTurn.TheVariants as turn
use Rattle.nr_serve.specs.Flows.{FlowSeen}
use Rattle.nr_serve.specs.Ends.{IsPast}
use Rattle.nr_serve.specs.Turns.{SpendsOne, TurnsOrFails}
use Rattle.nr_load.specs.Gained.{AreNear, Tells, Gained}

-- A LIST OF ENTRIES
count-append : (test : Entry → Bool) (es fs : List Entry)
    → count_by test (es ++ fs) ≡ count_by test es + count_by test fs
count-append test es fs = sum_by-append (λ (e : Entry). cond (test e) 1 0) es fs

near_both : (keys : ℕ) (es fs : List Entry) → AreNear keys es → AreNear keys fs → AreNear keys (es ++ fs)
near_both keys [] fs a b = b
near_both keys (e ∷ es) fs a b = (a.0, near_both keys es fs a.1 b)

pub tells_none : (keys : ℕ) → Tells keys [] 0 0
tells_none keys = record { near = tt; sent = refl; filled = refl; cancelled = refl }

pub tells_both : (keys : ℕ) (es fs : List Entry) (s f t g : ℕ) → Tells keys es s f → Tells keys fs t g
    → Tells keys (es ++ fs) (s + t) (f + g)
tells_both keys es fs s f t g one two = record {
  near = near_both keys es fs one.near two.near;
  sent = omega (arith, count-append is_sent es fs, one.sent, two.sent);
  filled = omega (arith, count-append is_fill es fs, one.filled, two.filled);
  cancelled = omega (arith, count-append is_cancel es fs, one.cancelled, two.cancelled);
}

pub tells_one : (keys : ℕ) (e : Entry) (s f : ℕ) → call_key e.call < keys → one (is_sent e) ≡ s → one (is_fill e) ≡ f
    → one (is_cancel e) ≡ 0 → Tells keys (e ∷ []) s f
tells_one keys e s f low sends fills cancels = record {
  near = (low, tt);
  sent = omega (arith, count_by-cons is_sent e [], sends);
  filled = omega (arith, count_by-cons is_fill e [], fills);
  cancelled = omega (arith, count_by-cons is_cancel e [], cancels);
}

-- a test of the entry's own key is one of its reply
own_key : (key : ℕ) (b : Bool) → one ((key == key) && b) ≡ one b
own_key key b = ap (λ (same : Bool). one (same && b)) (eq-eqb key key refl)

pub tells_find : (keys by key : ℕ) (answer : Reply) → key < keys → Tells keys (entry by (call.Find key) answer ∷ []) 0 0
tells_find keys by key answer low = tells_one keys _ 0 0 low refl refl refl

pub tells_ask : (keys by key : ℕ) (answer : Reply) → key < keys
    → Tells keys (entry by (call.Ask key) answer ∷ []) (one (is_send answer)) 0
tells_ask keys by key answer low = tells_one keys _ _ 0 low (own_key key (is_send answer)) refl refl

pub tells_fill : (keys by key number : ℕ) (rows : List Row) (answer : Reply) → key < keys
    → Tells keys (entry by (call.Fill key number rows) answer ∷ []) 0 (one (is_done answer))
tells_fill keys by key number rows answer low = tells_one keys _ 0 _ low refl (own_key key (is_done answer)) refl

pub tells_update : (keys by key : ℕ) (batch : List Delta) (answer : Reply) → key < keys
    → Tells keys (entry by (call.Update key batch) answer ∷ []) 0 0
tells_update keys by key batch answer low = tells_one keys _ 0 0 low refl refl refl

pub tells_evict : (keys by key : ℕ) (answer : Reply) → key < keys
    → Tells keys (entry by (call.Evict key) answer ∷ []) 0 0
tells_evict keys by key answer low = tells_one keys _ 0 0 low refl refl refl

-- the requests that were to be sent, as a client counts them
send_one : (by key : ℕ) (answer : Reply)
    → one (is_sent (entry by (call.Ask key) answer)) ≡ length (sent_by (call.Ask key) answer)
send_one by key (reply.Send number) = own_key key true
send_one by key answer = own_key key false

send_here : (by : ℕ) (c : Call) (answer : Reply) → one (is_sent (entry by c answer)) ≡ length (sent_by c answer)
send_here by (call.Ask key) answer = send_one by key answer
send_here by c answer = refl

pub sends_counted : (es : List Entry) → length (sent es) ≡ count_by is_sent es
sends_counted [] = refl
sends_counted (e ∷ es) =
    omega (
      arith,
      length-append (sent_by e.call e.reply) (sent es),
      count_by-cons is_sent e es,
      send_here e.caller e.call e.reply,
      sends_counted es,
    )

-- A CALLER
abbrev pub gained_none : (keys : ℕ) (a b : Caller) → b ≡ a → Gained keys a b 0 0
gained_none keys a b same = record {
  table = ap (λ (c : Caller). c.table) same;
  number = ap (λ (c : Caller). c.number) same;
  entries = [];
  mine = ap (λ (c : Caller). c.mine) same ∙ sym (append-nil a.mine);
  tells = tells_none keys;
}

abbrev pub gained_then : (keys : ℕ) (a b c : Caller) (s f t g : ℕ) → Gained keys a b s f → Gained keys b c t g
    → Gained keys a c (s + t) (f + g)
gained_then keys a b c s f t g one two = record {
  table = two.table ∙ one.table;
  number = two.number ∙ one.number;
  entries = one.entries ++ two.entries;
  mine = two.mine ∙ ap (λ (l : List Entry). l ++ two.entries) one.mine ∙ append_assoc a.mine one.entries two.entries;
  tells = tells_both keys one.entries two.entries s f t g one.tells two.tells;
}

-- the same of an equal number of keys, from an equal caller to an equal caller
abbrev pub gained_as : (keys keys' : ℕ) (a a' b b' : Caller) (s f : ℕ) → keys ≡ keys' → a ≡ a' → b' ≡ b
    → Gained keys a b s f → Gained keys' a' b' s f
gained_as keys keys' a a' b b' s f same from to gained = record {
  table = ap (λ (c : Caller). c.table) to ∙ gained.table ∙ ap (λ (c : Caller). c.table) from;
  number = ap (λ (c : Caller). c.number) to ∙ gained.number ∙ ap (λ (c : Caller). c.number) from;
  entries = gained.entries;
  mine = ap (λ (c : Caller). c.mine) to ∙ gained.mine ∙ ap (λ (c : Caller). c.mine ++ gained.entries) from;
  tells = rw (← same) gained.tells;
}

abbrev pub grown : (steps keys : ℕ) (a b : Caller) (entries : List Entry) (s f : ℕ) → Grows steps entries a b
    → Tells keys entries s f → Gained keys a b s f
grown steps keys a b entries s f grows tells =
    record { table = grows.table; number = grows.number; entries = entries; mine = grows.mine; tells = tells }

abbrev pub fills_of : TryTurn → ℕ
fills_of (turn.Filled key) = 1
fills_of answer = 0

abbrev passes : (keys key number : ℕ) (rows : List Row) (a b : Caller) (fault : FillFault) → IsPast fault → key < keys
    → FillsKey key number rows a b (Err fault) → Gained keys a b 0 0
passes keys key number rows a b (fill.NoSlot counts) past low fills = absurd past
passes keys key number rows a b fault past low fills =
    grown 1 keys a b _ 0 0 fills.0 (tells_fill keys a.number key number rows _ low)

module _ {S : Type 0} (gives : S → (key bound : ℕ) → List Row → S → Type 0) where
  pub near_post : (old new : FlowSeen S) (key : ℕ) (answer : Result (Unit {0}) FillFault)
      (spends : SpendsOne gives key old new answer)
      → spends.post.upquery.key < old.map.shape.keys
  near_post old new key answer spends = rw spends.key_is spends.near

  abbrev pub turns_gain : (old new : FlowSeen S) (answer : TryTurn) → TurnsOrFails gives (λ _ _ _ _. ⊥) old new answer
      → Gained old.map.shape.keys old.writer new.writer 0 (fills_of answer)
  turns_gain old new turn.Idle turns =
      gained_none old.map.shape.keys old.writer new.writer (ap (λ (flow : FlowSeen S). flow.writer) turns.2)
  turns_gain old new (turn.Filled key) turns =
      grown _ old.map.shape.keys old.writer new.writer _ 0 1 turns.answers.fills.gains
      (tells_fill old.map.shape.keys old.writer.number turns.post.upquery.key turns.post.upquery.number
      turns.answers.rows _
      (near_post old new key (Ok tt) turns))
  turns_gain old new (turn.Passed key) turns =
      passes old.map.shape.keys turns.2.post.upquery.key turns.2.post.upquery.number turns.2.answers.rows old.writer
      new.writer turns.0 turns.1 (near_post old new key (Err turns.0) turns.2) turns.2.answers.fills
  turns_gain old new (turn.Kept counts) turns =
      grown _ old.map.shape.keys old.writer new.writer [] 0 0 turns.answers.fills.grows (tells_none old.map.shape.keys)
  turns_gain old new answer turns = absurd turns.ends.failed

-- the requests that a client counted since its opening
pub since_gained : (keys : ℕ) (a b : Caller) (s f : ℕ) → Gained keys a b s f
    → length (sent (drop (length a.mine) b.mine)) ≡ s
since_gained keys a b s f gained =
    rw (gained.mine, drop-append_seam) (sends_counted gained.entries ∙ gained.tells.sent)
