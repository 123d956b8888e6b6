-- What a reader's steps tell of its seat: those by the counts, and those by its own word.
use Rattle.std.proofs.Common.{Bool, refl, cond, nat_eq, suc, ◌+◌, ◌≡◌, ℕ, ◌<◌, true, false, [], ap, sym, subst, arith}
use Rattle.std.proofs.Common.{◌∙◌, Some, ◌⊎◌}
use Rattle.std.proofs.lemmas.Bool.{eqb-true}
use Rattle.std.specs.Prelude.{◌↔◌, ◌&&◌}
use Rattle.nr_model.specs.declared.calls.Call.TheVariants as model
use Rattle.nr_model.specs.declared.calls.Reply.TheVariants as reply
use Rattle.nr_model.specs.Maps.{state_of}
use Rattle.nr_words.specs.KeyWords.{is_filled, slot_of}
use Rattle.nr_core.proofs.Choices.{by_cases}
use Rattle.nr_core.proofs.KeyWords.{names_one}
use Rattle.nr_core.proofs.WordPlaces.{same_content}
use Rattle.nr_core.specs.Marks.{gripped, with_look, Marks, acted}
use Rattle.nr_core.specs.Slots.{content, name_number, names_slot}
use Rattle.nr_core.specs.Steps.{ask_word}
use Rattle.nr_core.specs.Story.{map_after}
use Rattle.nr_core.specs.MarkSteps.{ComparesPuts, found_again}
use Rattle.nr_core.specs.Puts.{put_number}
use Rattle.nr_core.specs.declared.roles.Grip.TheVariants.{Nothing}
use Rattle.nr_core.specs.declared.roles.Role.{Role}
use Rattle.nr_core.specs.declared.roles.Role.TheVariants.{Reader}
use Rattle.nr_core.specs.declared.shape.Shape.{Shape}
use Rattle.nr_board.proofs.Tokens.{MapSeat, seat_grows, seat_rests}
use Rattle.nr_board.specs.Callers.{Gains, Grows, Rests, Table, token}
use Rattle.nr_board.specs.Holds.{HeldAs, HoldsWhatItSays, slot_in}
use Rattle.nr_board.specs.declared.holds.Held.{Held}
use Rattle.nr_board.specs.Kinds.{kind_of, kind_shown}
use Rattle.nr_board.specs.Meetings.{HasPut}
use Rattle.nr_board.specs.declared.answers.KeyKind.TheVariants as kind
use Rattle.nr_board.specs.Plays.{Arrived, Asked, Departed, FoundAgain, Holds, IsIdle, Read}
use Rattle.nr_board.specs.Seats.{HoldsAt, IdlesAt, AnnouncesAt}
use Rattle.nr_board.specs.Views.{grip_of, caller_number, rows_held, slot_held}
use Rattle.nr_board.specs.WordPlays.{Confirmed, HasWord, LookedUp, Said, slot_said}

module _ (table : Table) (before after : MapSeat) (same : after.table_id ≡ before.table_id) where
  -- a reader that holds nothing still does
  pub idles_on : (token after).table ≡ (token before).table → after.me.0.role ≡ before.me.0.role
      → after.me.0.says ≡ before.me.0.says → IdlesAt table before → IdlesAt table after
  idles_on own role says idles =
      record { own = own ∙ idles.own; idle = subst IsIdle (sym role) idles.idle; silent = says ∙ idles.silent }

  pub asked_seat : (key found : ℕ) → IdlesAt table before → Asked key found before.me.0 after.me.0
      → IdlesAt table after × Gains 1 (model.Ask key) (token before) (token after) (ask_word found)
  asked_seat key found idles told =
      let grows = seat_grows before after _ same told.gains in
      (idles_on grows.table told.role told.says idles, grows)

  pub hole_seat : (key found : ℕ) → IdlesAt table before → Arrived key found before.me.0 after.me.0
      → is_filled found ≡ false → IdlesAt table after × Gains 1 (model.Find key) (token before) (token after) reply.Hole
  hole_seat key found idles told empty =
      let hole = told.hole empty in
      let grows = seat_grows before after _ same hole.1 in
      (idles_on grows.table hole.0 told.says idles, grows)

  pub held_seat : (key found : ℕ) → IdlesAt table before → Arrived key found before.me.0 after.me.0
      → is_filled found ≡ true
      → HoldsAt table (content table.shape (slot_of found) 0) after
      × Gains 1 (model.Find key) (token before) (token after) (reply.Rows (rows_held after.me.0.role))
  held_seat key found idles told full =
      let held = told.held full in
      let grows = seat_grows before after _ same held.2 in (
        record {
          own = grows.table ∙ idles.own;
          holds = subst (λ (shape : Shape). Holds shape after.me.0.role) (ap (λ (t : Table). t.shape) idles.own) held.0;
          begin_is = ap (λ (slot : ℕ). content table.shape slot 0) (sym held.1);
        },
        grows,
      )

  pub read_seat : (begin place found : ℕ) → HoldsAt table begin before → Read place found before.me.0 after.me.0
      → HoldsAt table begin after × (rows_held after.me.0.role ≡ rows_held before.me.0.role)
      × Rests 1 (token before) (token after)
  read_seat begin place found holds told =
      let rests = seat_rests before after same told.waits in
      let slot = ap slot_held told.hold in
      let rows = ap rows_held told.hold in (
        record {
          own = rests.table ∙ holds.own;
          holds =
              rw told.hold
              (record { is = refl; inside = holds.holds.inside; row_set = holds.holds.row_set });
          begin_is = holds.begin_is ∙ ap (λ (s : ℕ). content table.shape s 0) (sym slot);
        },
        rows,
        rests,
      )

  pub departed_seat : (begin : ℕ) → HoldsAt table begin before → before.me.0.says ≡ 0 → Departed before.me.0 after.me.0
      → IdlesAt table after × Rests 1 (token before) (token after)
  departed_seat begin holds silent told =
      let rests = seat_rests before after same told.waits in (
        record {
          own = rests.table ∙ holds.own;
          idle = told.role ∙ ap (λ (n : ℕ). Reader n Nothing) (sym (ap caller_number told.role));
          silent = told.says ∙ silent;
        },
        rests,
      )

-- the slot that a reader holds, by where its first content word stands; it is one of the map's
pub held_slot : {table : Table} {seat : MapSeat} (slot : ℕ) → HoldsAt table (content table.shape slot 0) seat
    → slot ≡ slot_held seat.me.0.role
held_slot {table = table} {seat = seat} slot holds =
    same_content table.shape slot 0 (slot_held seat.me.0.role) 0 (omega arith) (omega arith) holds.begin_is

pub held_gripped : {table : Table} {seat : MapSeat} (slot : ℕ) → HoldsAt table (content table.shape slot 0) seat
    → (token seat).holds ≡ Some slot
held_gripped slot holds = ap (λ (r : Role). gripped (grip_of r)) holds.holds.is ∙ ap Some (sym (held_slot slot holds))

pub held_inside : {table : Table} {seat : MapSeat} (slot : ℕ) → HoldsAt table (content table.shape slot 0) seat
    → slot < table.shape.slots
held_inside slot holds = omega (arith, held_slot slot holds, holds.holds.inside)

-- what it holds by its word is the slot that this says
pub held_says : (table : Table) (held : Held) (seat : MapSeat) → HeldAs table held seat → HoldsWhatItSays (token seat)
held_says table held seat so loud =
    let slot = same_content table.shape held.slot 0 (slot_held seat.me.0.role) 0 (omega arith) (omega arith)
    (sym so.begin_is ∙ so.holds.begin_is) in
    so.says ∙ so.said (omega (arith, loud, so.says))
    ∙ ap suc (slot ∙ sym (ap (λ (r : Role). slot_in (gripped (grip_of r))) so.holds.holds.is))

-- the name of a filled word
pub filled_name : (word : ℕ) → is_filled word ≡ true → name_number word ≡ suc (slot_of word)
filled_name word full = ap (λ (b : Bool). cond {A = ℕ} b (slot_of word + 1) 0) full ∙ omega arith

pub names_empty : (held word : ℕ) → is_filled word ≡ false → names_slot held word ≡ false
names_empty held word empty = grind arith

-- a word names the slot that is held exactly where it is filled and the slot is its own
pub names_held : (held word : ℕ) → names_slot held word ≡ (is_filled word && nat_eq (slot_of word) held)
names_held held word = grind arith

-- a key has rows exactly where its word is filled
rows_shown : (word : ℕ) → is_filled word ≡ true → kind_shown word ≡ kind.Rows
rows_shown word full = rw full refl

pub shown_filled : (word : ℕ) → kind_shown word ≡ kind.Rows → is_filled word ≡ true
shown_filled word is = grind arith

-- what a find again tells of the seat, by its answer
module _ (table : Table) (before after : MapSeat) (same : after.table_id ≡ before.table_id) (begin key found : ℕ)
    (holds : HoldsAt table begin before) (told : FoundAgain key found before.me.0 after.me.0)
    (answer : Bool) (names : names_slot (slot_held before.me.0.role) found ≡ answer) where
  pub again_gains : answer ≡ true
      → Gains 1 (model.Find key) (token before) (token after) (reply.Rows (rows_held before.me.0.role))
  again_gains so = seat_grows before after _ same (told.same (names ∙ so))

  pub again_learns : answer ≡ false → Grows 1 [] (token before) (token after)
  again_learns not_so = seat_grows before after _ same (told.other (names ∙ not_so))

  own_table : (token after).table ≡ (token before).table
  own_table =
      by_cases (λ _. (token after).table ≡ (token before).table) answer (λ yes. (again_gains yes).table)
      (λ no. (again_learns no).table)

  pub again_holds : HoldsAt table begin after
  again_holds = record {
    own = own_table ∙ holds.own;
    holds = subst (Holds table.shape) (sym told.role) holds.holds;
    begin_is = holds.begin_is ∙ ap (λ r. content table.shape (slot_held r) 0) (sym told.role);
  }

  pub again_marks : after.me.0.marks ≡ found_again answer (with_look before.me.0.marks key (name_number found))
  again_marks =
      told.marks ∙ ap (λ (b : Bool). found_again b (with_look before.me.0.marks key (name_number found))) names

  -- the key has the put number of the hold exactly where the answer is yes
  pub again_exact : (answer ≡ true) ↔ HasPut key before.me.0.marks.put (token after)
  again_exact =
      let held : ℕ = slot_held before.me.0.role in
      let put : ℕ = before.me.0.marks.put in
      let Compares : Bool → Type 0 = λ b. ComparesPuts b found put (put_number after.me.0.seen key) in
      let kind_is = told.kind
      ∙ ap (λ (t : Table). kind_of (state_of (map_after t.shape after.me.0.seen) key)) (sym own_table) in
      let compares : Compares answer = subst Compares names told.put in (
        (λ yes. (
          sym kind_is
              ∙ rows_shown found (names_one found held (eqb-true (name_number found) (suc held) (names ∙ yes))).0,
          subst Compares yes compares,
        )),
        (λ has.
            let named = filled_name found (shown_filled found (kind_is ∙ has.0)) in
            by_cases (λ (b : Bool). b ≡ true) answer (λ yes. refl)
            (λ no. absurd (subst Compares no compares (omega arith) has.1))),
      )

module _ (table : Table) (before after : MapSeat) (same : after.table_id ≡ before.table_id) where
  -- a first look leaves the table that the token is of
  own_still : (key found : ℕ) → LookedUp key found before.me.0 after.me.0 → (token after).table ≡ (token before).table
  own_still key found told = by_cases (λ (_ : Bool). (token after).table ≡ (token before).table) (is_filled found)
      (λ full. (seat_grows before after _ same (told.named full)).table)
      (λ empty. (seat_grows before after _ same (told.hole empty)).table)

  pub looked_idle : (key found : ℕ) → IdlesAt table before → LookedUp key found before.me.0 after.me.0
      → IdlesAt table after
  looked_idle key found idles told =
      idles_on table before after same (own_still key found told) told.role told.says idles

  pub looked_announces : (slot key found : ℕ) → AnnouncesAt table slot before
      → LookedUp key found before.me.0 after.me.0 → AnnouncesAt table slot after
  looked_announces slot key found at told = record {
    own = own_still key found told ∙ at.own;
    idle = subst IsIdle (sym told.role) at.idle;
    says = told.says ∙ at.says;
  }

  -- what the word says then
  said_own : (says : ℕ) → Said says before.me.0 after.me.0 → (token after).table ≡ (token before).table
  said_own says told = (seat_rests before after same told.waits).table

  said_idle : (says : ℕ) → Said says before.me.0 after.me.0 → IsIdle after.me.0.role
  said_idle says told = told.role ∙ ap (λ (n : ℕ). Reader n Nothing) (sym (ap caller_number told.role))

  pub said_announces : (slot says : ℕ) → (token before).table ≡ table → says ≡ suc slot
      → Said says before.me.0 after.me.0 → AnnouncesAt table slot after
  said_announces slot says own is told =
      record { own = said_own says told ∙ own; idle = said_idle says told; says = told.says_it ∙ is }

  pub said_nothing : (token before).table ≡ table → Said 0 before.me.0 after.me.0 → IdlesAt table after
  said_nothing own told = record { own = said_own 0 told ∙ own; idle = said_idle 0 told; silent = told.says_it }

  has_still : (own : ℕ) → caller_number after.me.0.role ≡ caller_number before.me.0.role
      → (token after).table ≡ (token before).table → HasWord own before.me.0 → HasWord own after.me.0
  has_still own number tables has = record {
    number = number ∙ has.number;
    within = subst (λ (n : ℕ). own < n) (sym (ap (λ (t : Table). t.announcers) tables)) has.within;
  }

  pub said_word : (own says : ℕ) → HasWord own before.me.0 → Said says before.me.0 after.me.0 → HasWord own after.me.0
  said_word own says has told = has_still own (ap caller_number told.role) (said_own says told) has

  -- a second look
  module _ (slot key found : ℕ) (at : AnnouncesAt table slot before)
      (told : Confirmed key found before.me.0 after.me.0) where
    slot_is : slot_said before.me.0 ≡ slot
    slot_is = let says = at.says in omega arith

    names_said : (answer : Bool) → names_slot slot found ≡ answer → names_slot (slot_said before.me.0) found ≡ answer
    names_said answer is = ap (λ (s : ℕ). names_slot s found) slot_is ∙ is

    pub confirmed_held : names_slot slot found ≡ true
        → HoldsAt table (content table.shape slot 0) after
        × Gains 1 (model.Find key) (token before) (token after) (reply.Rows (rows_held after.me.0.role))
    confirmed_held still =
        let held = told.same (names_said true still) in
        let grows = seat_grows before after _ same held.gains in (
          record {
            own = grows.table ∙ at.own;
            holds =
                subst (λ (shape : Shape). Holds shape after.me.0.role) (ap (λ (t : Table). t.shape) at.own) held.holds;
            begin_is = ap (λ (s : ℕ). content table.shape s 0) (sym (held.slot ∙ slot_is));
          },
          grows,
        )

    pub confirmed_other : names_slot slot found ≡ false → LookedUp key found before.me.0 after.me.0
    confirmed_other gone = told.other (names_said false gone)

    pub confirmed_says : after.me.0.says ≡ before.me.0.says
    confirmed_says = grind arith

    pub confirmed_word : (own : ℕ) → HasWord own before.me.0 → HasWord own after.me.0
    confirmed_word own has = by_cases (λ (_ : Bool). HasWord own after.me.0) (names_slot slot found)
        (λ yes.
        let held = told.same (names_said true yes) in
        has_still own held.number (seat_grows before after _ same held.gains).table has)
        (λ no.
        let looked = confirmed_other no in
        has_still own (ap caller_number looked.role) (own_still key found looked) has)

    abbrev looked : Marks
    looked = with_look before.me.0.marks key (name_number found)

    pub confirmed_marks : (names_slot slot found ≡ true) ⊎ (is_filled found ≡ false)
        → after.me.0.marks ≡ acted looked (put_number after.me.0.seen key)
    confirmed_marks answers = grind arith

    pub confirmed_not_yet : names_slot slot found ≡ false → is_filled found ≡ true → after.me.0.marks ≡ looked
    confirmed_not_yet gone full = grind arith
