-- What the look of a call tells the writer, by the word that it found.
use Rattle.std.proofs.Common.{Bool, List, [], ap, arith, eq-eqb, false, ne_eqb, not, subst, sym, true, ℕ, ◌<◌, ◌∙◌, ◌≡◌}
use Rattle.std.proofs.Common.{◌≢◌, ◌≤◌, refl}
use Rattle.std.proofs.lemmas.Bool.{le-ltb, lt-ltb, not-false, not-true}
use Rattle.nr_model.specs.declared.calls.Reply.{Reply}
use Rattle.nr_model.specs.declared.calls.Reply.TheVariants as reply
use Rattle.nr_model.specs.declared.batches.Delta.{Delta}
use Rattle.nr_model.specs.declared.rows.Row.{Row}
use Rattle.nr_model.specs.Maps.{last_number}
use Rattle.nr_words.specs.declared.key_words.KeyParts.{KeyParts}
use Rattle.nr_words.specs.KeyWords.{has_ask, is_filled, parts_of, slot_of}
use Rattle.nr_core.specs.Story.{call_of}
use Rattle.nr_core.specs.Writer.{ended, looked, settled}
use Rattle.nr_core.specs.declared.calls.Step.{Step}
use Rattle.nr_core.specs.declared.calls.Step.TheVariants.{Going}
use Rattle.nr_core.specs.declared.calls.WriterCall.{WriterCall}
use Rattle.nr_core.specs.declared.calls.WriterCall.TheVariants.{Cancel, Evict, Fill, Find, Replace, Update}
use Rattle.nr_core.specs.declared.places.Place.TheVariants.{Idle, Leaving, Reading, Withdrawing}
use Rattle.nr_core.specs.declared.roles.Desk.{Desk}
use Rattle.nr_core.specs.declared.roles.Role.TheVariants.{Writer}
use Rattle.nr_board.specs.Callers.{Table, token}
use Rattle.nr_core.specs.SlotLists.{SlotLists}
use Rattle.nr_board.specs.SlotLists.{desk_with}
use Rattle.nr_core.specs.Marks.{with_polls}
use Rattle.nr_board.specs.WriterSeats.{LeadsIn, MapSeat, RestsAt}

-- the writer rests with its slots at its own map
pub rests_own : (table : Table) (lists : SlotLists) (seat : MapSeat) → RestsAt table lists seat
    → RestsAt (token seat).table lists seat
rests_own table lists seat rests = subst (λ (t : Table). RestsAt t lists seat) (sym rests.writes.own) rests

pub rests_here : (table : Table) (lists : SlotLists) (seat : MapSeat) → (token seat).table ≡ table
    → RestsAt (token seat).table lists seat → RestsAt table lists seat
rests_here table lists seat own rests = subst (λ (t : Table). RestsAt t lists seat) own rests

-- what the parts of the word that was found say
module _ {parts : KeyParts} (word : ℕ) (is : parts ≡ parts_of word) where
  pub is_empty : not parts.filled ≡ true → is_filled word ≡ false
  is_empty empty = ap (λ (p : KeyParts). p.filled) (sym is) ∙ not-true parts.filled empty

  pub is_full : not parts.filled ≡ false → is_filled word ≡ true
  is_full full = ap (λ (p : KeyParts). p.filled) (sym is) ∙ not-false parts.filled full

  pub asked_so : not parts.ask ≡ false → has_ask word ≡ true
  asked_so asked = ap (λ (p : KeyParts). p.ask) (sym is) ∙ not-false parts.ask asked

  pub unasked_so : not parts.ask ≡ true → has_ask word ≡ false
  unasked_so unasked = ap (λ (p : KeyParts). p.ask) (sym is) ∙ not-true parts.ask unasked

  pub filled_so : {filled : Bool} → parts.filled ≡ filled → is_filled word ≡ filled
  filled_so so = ap (λ (p : KeyParts). p.filled) (sym is) ∙ so

  pub slot_so : parts.slot ≡ slot_of word
  slot_so = ap (λ (p : KeyParts). p.slot) is

-- the writer, which was between two calls, has looked at the key of this one
pub record HasLooked (table : Table) (lists : SlotLists) (call : WriterCall) (found : ℕ) (before after : MapSeat) : Type
    0 where
  pub own : (token before).table ≡ table
  pub rests : RestsAt table lists before
  pub leads : LeadsIn 1 table (call_of call) (looked table.shape (desk_with lists Idle) call found) before after
  pub marks : after.me.0.marks ≡ with_polls before.me.0.marks []
  pub heard : after.me.0.heard ≡ before.me.0.heard

pub has_looked : {board : Table} {lists : SlotLists} {given call : WriterCall} {found : ℕ} {before after : MapSeat}
    → RestsAt (token before).table lists before → (token before).table ≡ board → given ≡ call
    → record {
      leads : (desk : Desk) → before.me.0.role ≡ Writer desk
          → LeadsIn 1 board (call_of given) (looked board.shape desk given found) before after;
      marks : after.me.0.marks ≡ with_polls before.me.0.marks [];
      heard : after.me.0.heard ≡ before.me.0.heard;
    }
    → HasLooked board lists call found before after
has_looked {lists = lists} {before = before} rests own call_is told =
    record {
      own = own;
      rests = rests_here _ lists before own rests;
      leads = rw (sym call_is) (told.leads (desk_with lists Idle) rests.writes.role);
      marks = told.marks;
      heard = told.heard;
    }

-- THE OUTCOMES OF LOOKS, by the parts of the word that was found

abbrev Gives : Table → SlotLists → ℕ → WriterCall → Desk × Step → Type 0
Gives table lists word call outcome = looked table.shape (desk_with lists Idle) call word ≡ outcome

abbrev Ends : Table → SlotLists → ℕ → WriterCall → Reply → Type 0
Ends table lists word call answer = Gives table lists word call (desk_with lists Idle, ended answer)

module _ {table : Table} {lists : SlotLists} {key word : ℕ} {before after : MapSeat} {parts : KeyParts} where
  module _ (looks : HasLooked table lists (Find key) word before after) (is : parts ≡ parts_of word) where
    pub find_hole : not parts.filled ≡ true → Ends table lists word (Find key) reply.Hole
    find_hole empty = rw (is_empty word is empty) refl

    pub find_reads : not parts.filled ≡ false
        → Gives table lists word (Find key) (desk_with lists (Reading (Find key) (slot_of word) []), Going)
    find_reads full = rw (is_full word is full) refl

  module _ (looks : HasLooked table lists (Evict key) word before after) (is : parts ≡ parts_of word) where
    pub evict_nothing : not parts.filled ≡ true → Ends table lists word (Evict key) reply.Nothing
    evict_nothing empty = rw (is_empty word is empty) refl

    pub evict_leaves : not parts.filled ≡ false
        → Gives table lists word (Evict key) (desk_with lists (Leaving key), Going)
    evict_leaves full = rw (is_full word is full) refl

  module _ (looks : HasLooked table lists (Cancel key) word before after) (is : parts ≡ parts_of word) where
    pub cancel_filled : parts.filled ≡ true → Ends table lists word (Cancel key) reply.Nothing
    cancel_filled full = rw (filled_so word is full) refl

    module _ (empty : parts.filled ≡ false) where
      pub cancel_unasked : not parts.ask ≡ true → Ends table lists word (Cancel key) reply.Nothing
      cancel_unasked unasked = rw (filled_so word is empty, unasked_so word is unasked) refl

      -- of an asked key, by whether its number is the last one
      pub cancel_worn : not parts.ask ≡ false → last_number ≤ parts.slot → Ends table lists word (Cancel key) reply.Worn
      cancel_worn asked last =
          let late = le-ltb (slot_of word) last_number (omega (arith, last, slot_so word is)) in
          rw (filled_so word is empty, asked_so word is asked, late) refl

      pub cancel_withdraws : not parts.ask ≡ false → parts.slot < last_number
          → Gives table lists word (Cancel key) (desk_with lists (Withdrawing key), Going)
      cancel_withdraws asked early =
          let more = lt-ltb (slot_of word) last_number (omega (arith, early, slot_so word is)) in
          rw (filled_so word is empty, asked_so word is asked, more) refl

  module _ {number : ℕ} {rows : List Row} (looks : HasLooked table lists (Fill key number rows) word before after)
      (is : parts ≡ parts_of word) where
    pub fill_already : parts.filled ≡ true → Ends table lists word (Fill key number rows) reply.Already
    fill_already full = rw (filled_so word is full) refl

    module _ (empty : parts.filled ≡ false) where
      pub fill_not_asked : not parts.ask ≡ true → Ends table lists word (Fill key number rows) reply.NotAsked
      fill_not_asked unasked = rw (filled_so word is empty, unasked_so word is unasked) refl

      -- of an asked key, by the number of its request
      pub fill_stale : not parts.ask ≡ false → parts.slot ≢ number
          → Ends table lists word (Fill key number rows) reply.Stale
      fill_stale asked other =
          let apart = ne_eqb (slot_of word) number (λ e. other (slot_so word is ∙ e)) in
          rw (filled_so word is empty, asked_so word is asked, apart) refl

      pub fill_settles : not parts.ask ≡ false → parts.slot ≡ number
          → Gives table lists word (Fill key number rows)
          (settled table.shape (desk_with lists Idle) (Fill key number rows) rows)
      fill_settles asked own =
          let same = eq-eqb (slot_of word) number (sym (slot_so word is) ∙ own) in
          rw (filled_so word is empty, asked_so word is asked, same) refl

  module _ {rows : List Row} (looks : HasLooked table lists (Replace key rows) word before after)
      (is : parts ≡ parts_of word) where
    pub replace_dropped : not parts.filled ≡ true → Ends table lists word (Replace key rows) reply.Dropped
    replace_dropped empty = rw (is_empty word is empty) refl

    pub replace_settles : not parts.filled ≡ false
        → Gives table lists word (Replace key rows) (settled table.shape (desk_with lists Idle) (Replace key rows) rows)
    replace_settles full = rw (is_full word is full) refl

  module _ {batch : List Delta} (looks : HasLooked table lists (Update key batch) word before after)
      (is : parts ≡ parts_of word) where
    pub update_dropped : not parts.filled ≡ true → Ends table lists word (Update key batch) reply.Dropped
    update_dropped empty = rw (is_empty word is empty) refl

    pub update_reads : not parts.filled ≡ false
        → Gives table lists word (Update key batch)
        (desk_with lists (Reading (Update key batch) (slot_of word) []), Going)
    update_reads full = rw (is_full word is full) refl
