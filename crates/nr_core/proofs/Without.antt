-- What a look and a read of the writer come to, argued once: whatever each of their outcomes has, they have. So a call
-- that ends with no slot has taken every slot once, would be done, and has polled all the retired slots.
use Rattle.std.proofs.Common.{List, ap, false, length, nat_eq, refl, sym, ℕ, ◌+◌, ◌-◌, ◌∙◌, ◌≡◌, [], get_or, ◌≤◌, subst}
use Rattle.std.proofs.Common.{◌*◌, ◌++◌, ◌∷◌, arith, cond, true, ◌%◌}
use Rattle.std.proofs.lemmas.Bool.{eqb-true, ltb-false}
use Rattle.std.specs.Prelude.{Option, Err, None, Ok, Result, Some}
use Rattle.nr_model.specs.Maps.{reply_at, state_of, applied_reply}
use Rattle.nr_model.specs.declared.calls.Reply.{Reply}
use Rattle.nr_model.specs.declared.rows.Row.{Row}
use Rattle.nr_model.specs.declared.states.KeyState.{KeyState}
use Rattle.nr_words.specs.KeyWords.{same_count, has_ask, is_filled, slot_of}
use Rattle.nr_core.proofs.Choices.{on_test}
use Rattle.nr_core.specs.Core.{ShowsState, Core, Reads}
use Rattle.nr_core.specs.Slots.{bound_of, content}
use Rattle.nr_core.specs.States.{retired_at, key_of}
use Rattle.nr_core.specs.Story.{call_of, map_after}
use Rattle.nr_core.specs.Writer.{decided, ended, looked, moved_to, polled, decoded, read_on, renewed, settled, no_slot}
use Rattle.nr_core.specs.Writer.{taking_fresh}
use Rattle.nr_core.specs.declared.calls.NoSlot.{NoSlot}
use Rattle.nr_core.specs.declared.calls.Step.{Step}
use Rattle.nr_core.specs.declared.calls.Step.TheVariants.{Ended, Going}
use Rattle.nr_core.specs.declared.calls.WriterCall.{WriterCall}
use Rattle.nr_core.specs.declared.places.Place.TheVariants.{Idle, Leaving, Reading, Searching, Withdrawing}
use Rattle.nr_core.specs.declared.roles.Desk.{Desk}
use Rattle.nr_core.specs.declared.shape.Shape.{Shape}
use Rattle.nr_model.specs.Histories.{Entry, is_done}
use Rattle.nr_core.specs.Roles.{held}
use Rattle.nr_core.specs.declared.roles.Role.{Role}
use Rattle.nr_core.proofs.ReadThrough.{read_whole}
use Rattle.nr_model.specs.Batches.{applied}
use Rattle.nr_model.specs.declared.batches.ApplyFault.{ApplyFault}
use Rattle.nr_model.specs.declared.batches.ApplyFault.TheVariants.{NoRow, TooMany}
use Rattle.nr_words.specs.SetWords.{decode}
use Rattle.nr_core.specs.declared.calls.WriterCall.TheVariants.{Cancel, Evict, Fill, Find, Replace, Update}
use Rattle.nr_core.proofs.KeyWords.{names_none, names_one}
use Rattle.nr_model.specs.declared.states.KeyState.TheVariants as key
use Rattle.nr_model.specs.declared.calls.Reply.TheVariants as reply
use Rattle.nr_core.specs.declared.calls.WReply.TheVariants as writer

-- What a look and a read of the writer come to, argued once: whatever each of their outcomes has, they have.

-- in each state of its key that is shown so the call would be done
abbrev pub WouldBeDone : Shape → WriterCall → (KeyState → Type 0) → Type 0
WouldBeDone shape call shown =
    (state : KeyState) → shown state → reply_at (bound_of shape) (call_of call) state ≡ reply.Done

-- each outcome of a call that has no slot yet, where its key's state is shown so
pub record OfOutcomes (shape : Shape) (desk : Desk) (shown : KeyState → Type 0)
    (P : WriterCall → Desk × Step → Type 0) : Type 0 where
  pub reads : (call : WriterCall) (slot : ℕ) (got : List ℕ) → P call (moved_to desk (Reading call slot got), Going)
  pub leaves : (key : ℕ) → P (Evict key) (moved_to desk (Leaving key), Going)
  pub withdraws : (key : ℕ) → P (Cancel key) (moved_to desk (Withdrawing key), Going)
  pub replies : (call : WriterCall) (answer : Reply) → is_done answer ≡ false
      → P call (moved_to desk Idle, ended answer)
  pub gives_up : (call : WriterCall) → P call (moved_to desk Idle, Going)
  pub takes : (call : WriterCall) (rows : List Row) → P call (taking_fresh shape desk call rows, Going)
  pub searches : (call : WriterCall) (rows : List Row) → P call (moved_to desk (Searching call rows 0), Going)
  pub none : (call : WriterCall) → shape.slots ≤ desk.fresh → length desk.retired ≡ 0 → WouldBeDone shape call shown
      → P call (moved_to desk Idle, no_slot shape desk)

-- a key's word shows the state; it is of this set
abbrev pub ShownBy : Shape → ℕ → KeyState → Type 0
ShownBy shape word state = (words : List ℕ) × ShowsState shape words word state

abbrev pub OfSet : List Row → KeyState → Type 0
OfSet rows state = (number : ℕ) × (state ≡ key.Rows number rows)

unfilled : (word : ℕ) → is_filled word ≡ true → is_filled word ≡ false → ⊥
unfilled word filled empty = let never : true ≡ false = sym filled ∙ empty in cc

fault_quiet : (fault : ApplyFault) → is_done (applied_reply (Err fault)) ≡ false
fault_quiet NoRow = refl
fault_quiet TooMany = refl

module _ (shape : Shape) (desk : Desk) (P : WriterCall → Desk × Step → Type 0) where
  settled_has : (shown : KeyState → Type 0) → OfOutcomes shape desk shown P → (call : WriterCall) (rows : List Row)
      → WouldBeDone shape call shown → P call (settled shape desk call rows)
  settled_has shown has call rows done = search (arith, on_test, has.takes, has.none, ltb-false, eqb-true, has.searches)

  module _ (word : ℕ) (has : OfOutcomes shape desk (ShownBy shape word) P) where
    replaces : (k : ℕ) (rows : List Row) → is_filled word ≡ true
        → WouldBeDone shape (Replace k rows) (ShownBy shape word)
    replaces k rows filled (key.Rows n old) shows = refl
    replaces k rows filled other shows = absurd (unfilled word filled (names_none word shows.1.0))

    fills : (k number : ℕ) (rows : List Row) → is_filled word ≡ false → has_ask word ≡ true
        → nat_eq (slot_of word) number ≡ true → WouldBeDone shape (Fill k number rows) (ShownBy shape word)
    fills k number rows empty asked own (key.Hole n) shows =
        absurd (omega (arith, eqb-true (word % 2) 1 asked))
    fills k number rows empty asked own (key.Asked n) shows =
        ap (λ v. cond {A = Reply} v reply.Done reply.Stale)
        (ap (λ (m : ℕ). nat_eq m number) (sym shows.1.2) ∙ own)
    fills k number rows empty asked own (key.Rows n old) shows =
        absurd (unfilled word (names_one word shows.1.0 shows.1.1).0 empty)

    pub looked_has : (call : WriterCall) → P call (looked shape desk call word)
    looked_has (Replace k rows) = search (arith, on_test, settled_has, replaces)
    looked_has (Evict k) =
        on_test (P (Evict k)) (is_filled word) (λ _. has.leaves k) (λ _. has.replies (Evict k) reply.Nothing refl)
    looked_has (Fill k number rows) = search (arith, on_test, settled_has, fills)
    looked_has (Cancel k) = search (arith, on_test)
    looked_has call =
        on_test (P call) (is_filled word) (λ _. has.reads call (slot_of word) []) (λ _. has.replies call _ refl)

  -- the last read of a call, which found this set
  pub decided_has : (rows : List Row) → OfOutcomes shape desk (OfSet rows) P → (call : WriterCall)
      → P call (decided shape desk call rows)
  decided_has rows has (Find k) = has.replies (Find k) (reply.Rows rows) refl
  decided_has rows has (Update k batch) = go (applied (bound_of shape) rows batch) refl
    where
      go : (a : Result (List Row) ApplyFault) → applied (bound_of shape) rows batch ≡ a
          → P (Update k batch) (renewed shape desk (Update k batch) a)
      go (Ok new) is =
          settled_has (OfSet rows) has (Update k batch) new
          (λ state shows. ap (reply_at (bound_of shape) (call_of (Update k batch))) shows.1 ∙ ap applied_reply is)
      go (Err fault) is = has.replies (Update k batch) (applied_reply (Err fault)) (fault_quiet fault)
  decided_has rows has other = has.gives_up other

  -- any read, where the words may spell anything
  pub read_has : ((shown : KeyState → Type 0) → OfOutcomes shape desk shown P) → (call : WriterCall) (slot : ℕ)
      (got : List ℕ) → P call (read_on shape desk call slot got)
  read_has has call slot got =
      on_test (P call) (nat_eq (length got) (2 * get_or got 0 0 + 1)) (λ _. by_set (decode got))
      (λ _. (has (λ _. ⊥)).reads call slot got)
    where
      by_set : (found : Option (List Row)) → P call (decoded shape desk call found)
      by_set None = (has (λ _. ⊥)).gives_up call
      by_set (Some rows) = decided_has rows (has (OfSet rows)) call

-- A call that ends with no slot: every slot was taken once, the call would be done, and the polls of this call were of
-- all the retired slots.

pub not_going : (counts : NoSlot) → Going ≡ Ended (writer.NoSlot counts) → ⊥
not_going counts e = cc

pub not_reply : (counts : NoSlot) (answer : Reply) → ended answer ≡ Ended (writer.NoSlot counts) → ⊥
not_reply counts answer e = cc

-- what an outcome with no slot says of the desk before it
pub record NoneLeft (shape : Shape) (desk : Desk) (outcome : Desk × Step) (counts : NoSlot) : Type 0 where
  pub same : outcome.0 ≡ moved_to desk Idle
  pub counted : counts ≡ record { live = shape.slots - length desk.retired; held = length desk.retired }

abbrev pub IsWithout : NoSlot → Desk × Step → Type 0
IsWithout counts outcome = outcome.1 ≡ Ended (writer.NoSlot counts)

module _ (shape : Shape) (desk : Desk) (counts : NoSlot) where
  -- what an outcome with no slot says of the desk and the key of a call that wanted one
  abbrev pub EndsInVain : (KeyState → Type 0) → WriterCall → Desk × Step → Type 0
  EndsInVain shown call outcome =
      IsWithout counts outcome → NoneLeft shape desk outcome counts × (shape.slots ≤ desk.fresh)
      × (length desk.retired ≡ 0) × WouldBeDone shape call shown

  in_vain : (shown : KeyState → Type 0) → OfOutcomes shape desk shown (EndsInVain shown)
  in_vain shown = search (arith, not_going, not_reply)

  -- a look ends so at a fill of an asked key, and where a filled key's set is replaced
  pub look_none : (call : WriterCall) (w : ℕ) → IsWithout counts (looked shape desk call w)
      → NoneLeft shape desk (looked shape desk call w) counts × (shape.slots ≤ desk.fresh)
      × (length desk.retired ≡ 0)
      × ((state : KeyState) (words : List ℕ) → ShowsState shape words w state
      → reply_at (bound_of shape) (call_of call) state ≡ reply.Done)
  look_none call w e = search (arith, looked_has, in_vain)

  -- a last read ends so where an update has a new set
  pub decided_none : (call : WriterCall) (rows : List Row) → IsWithout counts (decided shape desk call rows)
      → NoneLeft shape desk (decided shape desk call rows) counts × (shape.slots ≤ desk.fresh)
      × (length desk.retired ≡ 0)
      × ((number : ℕ) → reply_at (bound_of shape) (call_of call) (key.Rows number rows) ≡ reply.Done)
  decided_none call rows e = search (arith, decided_has, in_vain)

  -- the last poll of a search
  pub polled_none : (call : WriterCall) (rows : List Row) (p found : ℕ)
      → IsWithout counts (polled shape desk call rows p found)
      → NoneLeft shape desk (polled shape desk call rows p found) counts × (length desk.retired ≤ p + 1)
      × (same_count found (retired_at desk p).arrivals ≡ false)
  polled_none call rows p found = search (arith, on_test, not_going, ltb-false)

-- a read, whose words spell the set at its key
pub read_none : {shape : Shape} {words : List ℕ} {roles : List Role} {log : List Entry}
    (core : Core shape words roles log) (desk : Desk) (counts : NoSlot) (call : WriterCall) (slot : ℕ) (got : List ℕ)
    → Reads shape words (map_after shape log) (held roles) (key_of call) slot got
    → let outcome = read_on shape desk call slot (got ++ get_or words (content shape slot (length got)) 0 ∷ []) in
    IsWithout counts outcome
    → NoneLeft shape desk outcome counts × (shape.slots ≤ desk.fresh) × (length desk.retired ≡ 0)
    × (reply_at (bound_of shape) (call_of call) (state_of (map_after shape log) (key_of call)) ≡ reply.Done)
read_none {shape} {words} {roles} {log} core desk counts call slot got reads =
    let got' : List ℕ = got ++ get_or words (content shape slot (length got)) 0 ∷ [] in
    let Ends : Desk × Step → Type 0
    = λ o. IsWithout counts o → NoneLeft shape desk o counts × (shape.slots ≤ desk.fresh) × (length desk.retired ≡ 0)
    × (reply_at (bound_of shape) (call_of call) (state_of (map_after shape log) (key_of call)) ≡ reply.Done) in
    on_test Ends (nat_eq (length got') (2 * get_or got' 0 0 + 1)) (λ last.
    let set_is = read_whole shape words roles log core (key_of call) slot got reads
    (eqb-true (length got') (2 * get_or got' 0 0 + 1) last) in
    subst (λ (o : Option (List Row)). Ends (decoded shape desk call o)) (sym set_is) (λ e.
    let n = decided_none shape desk counts call reads.rows e in
    (n.0, n.1, n.2, ap (reply_at (bound_of shape) (call_of call)) reads.full ∙ n.3 reads.number)))
    (λ _ e. absurd (not_going counts e))
