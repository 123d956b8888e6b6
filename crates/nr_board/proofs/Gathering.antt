-- What a token learns of another, and what it knows of both after a gather.
use Rattle.std.proofs.Common.{◌≡◌, ℕ, ◌+◌, List, [], ◌++◌, length, sym, ap, ◌∙◌, subst, arith, append-nil}
use Rattle.std.proofs.Common.{length-append}
use mathlib.Core.Option.{some}
use lib.ListN.{get_elem?}
use Rattle.atomic_table.specs.Seated.{TableId}
use Rattle.nr_model.specs.Histories.{Entry, entries_of}
use Rattle.nr_core.proofs.Histories.{of-append}
use Rattle.nr_core.specs.declared.places.Place.TheVariants.{Idle}
use Rattle.nr_core.specs.declared.places.Retired.{Retired}
use Rattle.nr_core.specs.declared.roles.Desk.{Desk}
use Rattle.nr_core.specs.declared.roles.Grip.{Grip}
use Rattle.nr_core.specs.declared.roles.Role.TheVariants.{Reader, Writer}
use Rattle.nr_core.specs.declared.shape.Shape.{Shape}
use Rattle.nr_core.proofs.ExactPlace.{gathered_is_known}
use Rattle.nr_core.proofs.ListPlaces.{at_left}
use Rattle.nr_core.specs.Exact.{Lists}
use Rattle.nr_core.specs.Marks.{Marks, Past, past, told_by}
use Rattle.nr_core.specs.Pasts.{Compared, Current}
use Rattle.nr_board.proofs.Tokens.{MapSeat}
use Rattle.nr_board.specs.Callers.{Caller, KnowsOwn, Table, caller_of, map_seen, token}
use Rattle.nr_board.specs.Learning.{HearsOf, Learned, LearnsOf, has_heard}
use Rattle.nr_board.specs.Meetings.{Gathers, HearsNote, Learns, Meets, desk_seen, how_is, known_to, with_step}
use Rattle.nr_board.specs.Notes.{has_noted, note_of, told_by_note}
use Rattle.nr_board.specs.Rule.{StartsWith}
use Rattle.nr_board.specs.Views.{View, desk_of}
use Rattle.nr_core.specs.Core.{AreNumbers}
use Rattle.nr_core.specs.Story.{map_after}
use Rattle.std.proofs.lemmas.List.{nil_from_length}

-- a history that begins with what a caller has seen has that caller's calls
pub begins_with_calls : (log : List Entry) (caller : Caller) → KnowsOwn caller → StartsWith log caller.seen
    → StartsWith (entries_of log caller.number) caller.mine
begins_with_calls log caller own begins = record {
  rest = entries_of begins.rest caller.number;
  is =
      ap (λ (l : List Entry). entries_of l caller.number) begins.is ∙ of-append caller.number caller.seen begins.rest
      ∙ ap (λ (l : List Entry). l ++ entries_of begins.rest caller.number) own;
}

-- a note was heard, and with it the history so far
pub hears_seat : (seat note new : MapSeat) → new.table_id ≡ seat.table_id → has_heard seat.me.0 note.me.0 new.me.0
    → HearsNote 1 (known_to (token note)) (token seat) (token new) × HearsOf note.me.0 seat.me.0 new.me.0
hears_seat seat note new same heard = let told = heard.1 in (
  rw same (record { learns = told.learns seat.table_id; seen = told.told }),
  (told.news, told.pasts, told.of_readers),
)

-- who hears a note has all calls that its maker had made
pub meets_maker : (steps : ℕ) (old maker new : Caller) → KnowsOwn maker → HearsNote steps (known_to maker) old new
    → Meets steps maker old new
meets_maker steps old maker new own hears = record {
  learns = hears.learns;
  seen = hears.seen;
  calls = begins_with_calls new.seen maker own hears.seen;
}

-- the other made the note
pub meets_seat : (seat other note new : MapSeat) → KnowsOwn (token other) → note.me.0 ≡ note_of other.me.0
    → HearsNote 1 (known_to (token note)) (token seat) (token new) → HearsOf note.me.0 seat.me.0 new.me.0
    → Meets 1 (token other) (token seat) (token new) × HearsOf (note_of other.me.0) seat.me.0 new.me.0
meets_seat seat other note new own is hears readers = (
  meets_maker 1 (token seat) (token other) (token new) own (record {
    learns = hears.learns;
    seen = subst (StartsWith new.me.0.seen) (ap (λ (v : View). v.seen) is) hears.seen;
  }),
  subst (λ (v : View). HearsOf v seat.me.0 new.me.0) is readers,
)

-- a list that goes on twice and is itself did not go on
nothing_more : {A : Type 0} (xs ys zs : List A) → xs ≡ (xs ++ ys) ++ zs → ys ≡ []
nothing_more xs ys zs is =
    nil_from_length ys (omega (arith, ap length is, length-append (xs ++ ys) zs, length-append xs ys))

-- a caller that has seen the history has no calls that the history lacks, and the history none that the caller lacks
pub just_calls : (log : List Entry) (caller : Caller) → StartsWith (entries_of log caller.number) caller.mine
    → StartsWith caller.seen log × KnowsOwn caller → entries_of log caller.number ≡ caller.mine
just_calls log caller calls heard =
    let his : List Entry → List Entry = λ l. entries_of l caller.number in let later = heard.0 in
    let longer = ap his later.is ∙ of-append caller.number log later.rest in
    let none
    = nothing_more caller.mine calls.rest (his later.rest)
    (sym heard.1 ∙ longer ∙ ap (λ (l : List Entry). l ++ his later.rest) calls.is) in
    calls.is ∙ ap (λ (l : List Entry). caller.mine ++ l) none ∙ append-nil caller.mine

-- what two views knew of each other
pub record Compares (writer reader heard : View) (desk : Desk) (one : Past) : Type 0 where
  pub known : get_elem? heard.pasts 0 ≡ some one
  pub current : Current desk.retired writer.marks one
  pub lists : Lists desk writer.marks writer.shape heard.seen

compares_so : (writer reader heard told : View) (desk : Desk) (number : ℕ) (grip : Grip) → writer.role ≡ Writer desk
    → reader.role ≡ Reader number grip → heard.role ≡ Writer desk → HearsOf (note_of reader) writer heard
    → HearsOf (note_of heard) reader told
    → Compares writer reader heard desk (past number grip reader.marks)
compares_so writer reader heard told desk number grip writes reads still first second =
    let news = first.0 in
    let noted = told_by_note writer (note_of reader) in
    let asked = told_by_note reader (note_of heard) in
    let learnt = subst (λ r. LearnsOf r noted heard news) writes first.2 in
    let compared = subst (λ r. LearnsOf r asked told second.0) reads second.2 in
    let heard_so
    = subst (λ r. Compared number grip reader.marks (told_by r heard.marks heard.pasts)) still compared.1 in
    let longer : (at : ℕ) (one : Past) → get_elem? news at ≡ some one → get_elem? heard.pasts at ≡ some one
    = λ at one is. ap (λ (l : List Past). get_elem? l at) first.1 ∙ at_left news writer.pasts at one is in
    let known
    = gathered_is_known desk.retired writer.marks (told_by reader.role reader.marks reader.pasts) news heard.pasts
    number grip reader.marks 0 (ap (λ r. get_elem? (told_by r reader.marks reader.pasts) 0) reads) learnt.0
    (λ at one is. (at, longer at one is)) heard_so in record {
      known = longer 0 (past number grip reader.marks) known.0;
      current = known.1;
      lists = learnt.1;
    }

-- what was learnt by other counts of steps
recounted : (steps sum before after : ℕ) (old new : Caller) → new.steps ≡ old.steps + sum
    → Learns steps (record old { steps = before }) (record new { steps = after }) → Learns sum old new
recounted steps sum before after old new count learns = search (learns, count)

-- a seat that made a note is a token that made a step
pub noting_token : (seat noting : MapSeat) → noting.table_id ≡ seat.table_id
    → noting.me ≡ (has_noted seat.me.0, seat.me.1) → token noting ≡ with_step (token seat)
noting_token seat noting id me = λ j. caller_of (id j) (me j).0

pub learns_seat : (at found : ℕ) (seat new : MapSeat) → new.table_id ≡ seat.table_id
    → Learned at found seat.me.0 new.me.0 → Learns 1 (token seat) (token new)
learns_seat at found seat new same learned =
    subst (λ (id : TableId). Learns 1 (token seat) (caller_of id new.me.0)) (sym same) (learned.learns seat.table_id)

-- the writer's numbers are those of the history that it learnt
pub learned_numbers : (table : Table) (seat new : MapSeat) (at found : ℕ) → (token seat).table ≡ table
    → Learned at found seat.me.0 new.me.0
    → (desk : Desk) → seat.me.0.role ≡ Writer desk → AreNumbers table.shape (map_seen (token new)) desk.numbers
learned_numbers table seat new at found own learned desk is =
    subst (λ (p : Shape × Shape). AreNumbers p.0 (map_after p.1 new.me.0.seen) desk.numbers)
    (λ j. ((own j).shape, (sym (learned.learns seat.table_id).table j).shape))
    (subst (λ r. LearnsOf r seat.me.0 new.me.0 learned.news) is learned.of_readers).2

-- and its lists too
pub learned_lists : (table : Table) (seat new : MapSeat) (at found : ℕ) → (token seat).table ≡ table
    → Learned at found seat.me.0 new.me.0 → (desk : Desk) → seat.me.0.role ≡ Writer desk
    → Lists desk seat.me.0.marks table.shape new.me.0.seen
learned_lists table seat new at found own learned desk is =
    rw (sym (λ j. (own j).shape)) (subst (λ r. LearnsOf r seat.me.0 new.me.0 learned.news) is learned.of_readers).1

pub heard_numbers : (table : Table) (seat new : MapSeat) (note : View) → (token seat).table ≡ table
    → Learns 1 (token seat) (token new)
    → HearsOf note seat.me.0 new.me.0 → (desk : Desk) → seat.me.0.role ≡ Writer desk
    → AreNumbers table.shape (map_seen (token new)) desk.numbers
heard_numbers table seat new note own learns hears desk is =
    subst (λ (p : Shape × Shape). AreNumbers p.0 (map_after p.1 new.me.0.seen) desk.numbers)
    (λ j. ((own j).shape, (sym learns.table j).shape))
    (subst (λ r. LearnsOf r (told_by_note seat.me.0 note) new.me.0 hears.0) is hears.2).2

-- the writer, which was between two calls, heard of the reader and the reader of it; each made one note
module _ (writer reader heard lent last told : MapSeat) (fresh : ℕ) (retired : List Retired) (numbers : List ℕ)
    (number : ℕ) (grip : Grip)
    (writes : writer.me.0.role ≡ Writer (record { place = Idle; fresh = fresh; retired = retired; numbers = numbers }))
    (reads : reader.me.0.role ≡ Reader number grip) (stays : heard.me.0.role ≡ writer.me.0.role)
    (first : (lent.table_id ≡ reader.table_id) × (lent.me ≡ (has_noted reader.me.0, reader.me.1)))
    (second : (last.table_id ≡ heard.table_id) × (last.me ≡ (has_noted heard.me.0, heard.me.1)))
    (meets : Meets 1 (token reader) (token writer) (token heard))
    (meets_back : Meets 1 (token heard) (token lent) (token told))
    (hears : HearsOf (note_of reader.me.0) writer.me.0 heard.me.0)
    (hears_back : HearsOf (note_of heard.me.0) lent.me.0 told.me.0) where
  abbrev desk : Desk
  desk = record { place = Idle; fresh = fresh; retired = retired; numbers = numbers }

  writes_still : heard.me.0.role ≡ Writer desk
  writes_still = stays ∙ writes

  compares : Compares writer.me.0 (has_noted reader.me.0) heard.me.0 desk (past number grip reader.me.0.marks)
  compares =
      compares_so writer.me.0 (has_noted reader.me.0) heard.me.0 told.me.0 desk number grip writes reads writes_still
      hears (subst (λ (v : View). HearsOf (note_of heard.me.0) v told.me.0) (λ j. (first.1 j).0) hears_back)

  there : Meets 2 (token reader) (token writer) (with_step (token heard))
  there = record {
    learns = recounted 1 2 writer.me.0.steps heard.me.0.steps (token writer) (with_step (token heard))
        (omega (arith, meets.learns.steps_made)) meets.learns;
    seen = meets.seen;
    calls = meets.calls;
  }

  lends : Meets 1 (token heard) (with_step (token reader)) (token told)
  lends =
      subst (λ (r : Caller). Meets 1 (token heard) r (token told)) (noting_token reader lent first.0 first.1) meets_back

  back : Meets 2 (with_step (token heard)) (token reader) (token told)
  back = record {
    learns = recounted 1 2 (reader.me.0.steps + 1) told.me.0.steps (token reader) (token told)
        (omega (arith, lends.learns.steps_made)) lends.learns;
    seen = lends.seen;
    calls = lends.calls;
  }

  one_is : past number grip reader.me.0.marks ≡ how_is (token reader)
  one_is = grind arith

  gathers_heard : Gathers (token writer) (token reader) (with_step (token heard)) (token told)
  gathers_heard = let log = heard.me.0.seen in let learns = back.learns in let known = compares in record {
    of_reader = there;
    of_writer = back;
    all = ap (entries_of log) (sym learns.number) ∙ just_calls log (token told)
        (rw (learns.number, learns.mine) meets.calls)
        (back.seen, learns.own) ∙ learns.mine;
    place = 0;
    known = known.known ∙ ap some one_is;
    current =
        subst (λ (p : List Retired × Marks × Past). Current p.0 p.1 p.2)
        (λ j. ((desk_of (sym writes_still j)).retired, sym meets.learns.marks j, one_is j)) known.current;
    lists =
        subst (λ (p : Desk × Marks × Shape). Lists p.0 p.1 p.2 log)
        (λ j. (desk_at j, sym meets.learns.marks j, (sym meets.learns.table j).shape)) known.lists;
  }
    where
      desk_at : desk ≡ desk_seen (token heard)
      desk_at = grind arith

  pub gathers_seats : Gathers (token writer) (token reader) (token last) (token told)
  gathers_seats = rw (noting_token heard last second.0 second.1) gathers_heard
