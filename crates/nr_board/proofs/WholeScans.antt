-- A whole scan, word by word, as the writer's seat makes it: in a search, and between two calls.
use Rattle.std.proofs.lemmas.Bool.{false≢true}
use Rattle.std.proofs.Common.{◌≡◌, ℕ, suc, ◌+◌, ◌<◌, ◌≤◌, List, [], ◌∷◌, ◌++◌, Bool, length, get_or, refl, sym}
use Rattle.std.proofs.Common.{ap, ◌∙◌, subst, arith}
use mathlib.Core.Logic.{dite}
use mathlib.Core.Option.{some, some-ne-none}
use native.Mathlib.Decide.{ℕ_discrete}
use lib.ListN.{get_elem?}
use Rattle.nr_core.proofs.Sums.{only-is, only-le, only-other, some_term}
use Rattle.nr_core.specs.Roles.{retirements}
use Rattle.nr_core.specs.Sums.{only}
use Rattle.nr_core.specs.declared.places.Retired.{Retired}
use Rattle.nr_core.specs.declared.roles.Desk.{Desk}
use Rattle.nr_core.specs.declared.roles.Role.TheVariants.{Writer}
use Rattle.nr_core.specs.Marks.{with_scan}
use Rattle.nr_board.proofs.WordLoads.{heard_of_at, unsaid_few, words_begin, words_many, words_more, words_told}
use Rattle.nr_board.specs.Flags.{Flagged, OthersFlagged}
use Rattle.nr_board.specs.Scans.{heard_from}
use Rattle.nr_board.specs.Callers.{Table, token}
use Rattle.nr_board.specs.Plays.{Room}
use Rattle.nr_core.specs.declared.places.Place.TheVariants.{Idle}
use Rattle.nr_board.specs.SearchSeats.{HearsWord, ScansAt, SearchesIn, SearchesOn}
use Rattle.nr_board.specs.SlotLists.{desk_with}
use Rattle.nr_board.specs.Views.{View}
use Rattle.nr_board.specs.WordLoads.{heard_of, word_load}
use Rattle.nr_board.specs.WriterSeats.{MapSeat, RestsAt}
use Rattle.nr_core.specs.SlotLists.{SlotLists}
use Rattle.nr_core.specs.declared.shape.Shape.{Shape}
use Rattle.nr_board.specs.WholeScans.{LoadedTo, NoneFlagged, RestsHearing, ScannedTo, announced}
use Rattle.nr_board.proofs.Passes.{searches_on}
use Rattle.nr_board.proofs.PollNotes.{is_retired}
use Rattle.nr_board.proofs.ScannedWords.{announced_wide, flags_more, keep_so, misses_none, more_flags}

-- the retired slots are different slots of the map
module _ (shape : Shape) (desk : Desk) (room : Room shape desk) where
  pub retired_inside : (slot : ℕ) → 0 < retirements slot desk.retired → slot < shape.slots
  retired_inside slot waits =
      let t = some_term (λ (x : Retired). only slot x.slot) desk.retired waits in
      subst (λ (s : ℕ). s < shape.slots) (only-is slot t.1.slot t.3) (room.inside t.0 t.1 t.2)

  pub retired_once : (slot : ℕ) → retirements slot desk.retired ≤ 1
  retired_once slot = at_most desk.retired slot room.apart
    where
      Apart : List Retired → Type 0
      Apart l =
          (one other : ℕ) (a b : Retired) → get_elem? l one ≡ some a → get_elem? l other ≡ some b → a.slot ≡ b.slot
          → one ≡ other

      at_most : (l : List Retired) (slot : ℕ) → Apart l → retirements slot l ≤ 1
      at_most [] slot apart = omega arith
      at_most (x ∷ l) slot apart =
          let rest
          = at_most l slot
          (λ one other a b at_a at_b same.
          let e = apart (suc one) (suc other) a b at_a at_b same in omega arith) in
          let most = only-le slot x.slot in
          dite (ℕ_discrete (retirements slot l) 0) (λ none. omega arith)
          (λ more. let t = some_term (λ (y : Retired). only slot y.slot) l (omega arith) in
          let other
          = only-other slot x.slot
          (λ e. let clash = apart 0 (suc t.0) x t.1 refl t.2 (e ∙ sym (only-is slot t.1.slot t.3)) in
          absurd (omega arith)) in
          omega arith)

-- the scan so far, as the writer's seat makes it
pub record ScanGoes (table : Table) (retired : List Retired) (before now : MapSeat) (flags : List Bool)
    (own : ℕ) : Type 0 where
  pub own_table : now.table_id ≡ before.table_id
  pub loaded : LoadedTo retired before.me.0 now.me.0 flags own
  pub wide : length flags ≡ table.shape.slots
  pub others : OthersFlagged retired flags

-- a load of a reader's own word leaves all but what it hears and notes
abbrev Loads : Desk → ℕ → ℕ → View → View → Type 0
Loads desk own found old new =
    new
    ≡ record old {
      steps = old.steps + 1;
      marks = with_scan old.marks new.marks.polls (old.marks.loads ++ word_load own found ∷ []);
      heard = heard_from desk own found old.heard 0 old.shape.slots;
    }

goes_none : {table : Table} {retired : List Retired} {seat : MapSeat} {flags : List Bool} → NoneFlagged retired flags
    → length flags ≡ table.shape.slots → OthersFlagged retired flags → ScanGoes table retired seat seat flags 0
unfolding words_begin
goes_none {retired = retired} {seat = seat} none wide others =
    let view = seat.me.0 in
    let more : view.steps ≡ view.steps + 0 = omega arith in record {
      own_table = refl;
      loaded = record {
        rest = λ j. record view { steps = more j };
        words = words_begin retired view.shape.slots view.marks.loads view.heard;
        flags_tell = none;
      };
      wide = wide;
      others = others;
    }

module _ {table : Table} {before now next : MapSeat} {flags : List Bool} {own : ℕ} (found : ℕ) (desk : Desk)
    (room : Room table.shape desk) (so_far : ScanGoes table desk.retired before now flags own)
    (sized : now.me.0.shape ≡ table.shape) (same : next.table_id ≡ now.table_id)
    (told : Loads desk own found now.me.0 next.me.0) where
  goes_on : ScanGoes table desk.retired before next (announced found flags) (own + 1)
  unfolding words_more
  goes_on =
      let loaded = so_far.loaded in
      let loads = ap (λ (v : View). v.marks.loads) told in
      let heard = ap (λ (v : View). v.heard) told in
      let steps : before.me.0.steps + own + 1 ≡ before.me.0.steps + (own + 1) = omega arith in record {
        own_table = same ∙ so_far.own_table;
        loaded = record {
          rest =
              told
              ∙ (λ j.
              record (loaded.rest j) {
                steps = (loaded.rest j).steps + 1;
                marks = with_scan (loaded.rest j).marks next.me.0.marks.polls (sym loads j);
                heard = sym heard j;
              })
              ∙ (λ j.
              record before.me.0 {
                steps = steps j;
                marks = with_scan before.me.0.marks next.me.0.marks.polls next.me.0.marks.loads;
                heard = next.me.0.heard;
              });
          words =
              words_more desk own found before.me.0.shape.slots before.me.0.marks.loads now.me.0.marks.loads
              next.me.0.marks.loads now.me.0.heard next.me.0.heard loaded.words loads
              (heard ∙ ap (λ (v : View). heard_from desk own found now.me.0.heard 0 v.shape.slots) loaded.rest);
          flags_tell =
              flags_more desk.retired flags loaded.words.words found
              (λ slot waits. omega (arith, retired_inside table.shape desk room slot waits, so_far.wide))
              loaded.flags_tell;
        };
        wide = announced_wide found flags ∙ so_far.wide;
        others = λ slot none. more_flags found flags slot (so_far.others slot none);
      }

-- what the flags tell after all words
pub scan_flagged : {table : Table} {retired : List Retired} {before now : MapSeat} {flags : List Bool}
    → 0 < table.announcers → before.me.0.shape ≡ table.shape
    → ((slot : ℕ) → 0 < retirements slot retired → slot < table.shape.slots)
    → ScanGoes table retired before now flags table.announcers → Flagged table retired now.me.0.heard flags
scan_flagged {table = table} {retired = retired} {before = before} {now = now} {flags = flags} some_words sized inside
    goes =
    let so_far = goes.loaded.words in
    let each = so_far.each in
    let told : (slot : ℕ) → get_or now.me.0.heard slot 0 ≡ heard_of retired so_far.words slot
    = λ slot. let is = heard_of_at retired so_far.words before.me.0.shape.slots slot in
    let within = inside slot in
    rw (so_far.tell some_words, is, sized) (grind arith) in record {
      wide = goes.wide;
      whole = λ slot unset. let is = told slot in let tell = goes.loaded.flags_tell slot in
          let few = unsaid_few slot so_far.words in let set = goes.others slot in grind arith;
      stuck = λ slot flag. let is = told slot in let tell = goes.loaded.flags_tell slot in
          let few = unsaid_few slot so_far.words in grind arith;
      others = goes.others;
    }

-- IN A SEARCH

pub record SearchScans (table : Table) (lists : SlotLists) (before now : MapSeat) (flags : List Bool)
    (own : ℕ) : Type 0 where
  pub goes : ScanGoes table lists.retired before now flags own
  pub search : SearchesIn table lists now
  pub scanned : ScannedTo lists.retired before.me.0 now.me.0 flags own

pub scan_begins : (table : Table) (lists : SlotLists) (seat : MapSeat) (flags : List Bool) → SearchesIn table lists seat
    → NoneFlagged lists.retired flags → length flags ≡ table.shape.slots → OthersFlagged lists.retired flags
    → SearchScans table lists seat seat flags 0
scan_begins table lists seat flags search none wide others = let goes = goes_none none wide others in record {
  goes = goes;
  search = search;
  scanned = record {
    loaded = goes.loaded;
    keep = record {
      many =
          sym
          (misses_none lists.retired flags
          (λ at entry there. none entry.slot (is_retired lists.retired at entry there)));
      apart = λ reader. omega arith;
      each = λ at note there. absurd (some-ne-none note (sym there));
      slots = λ slot flagged. absurd (false≢true (sym (none slot flagged.0) ∙ flagged.1));
    };
  };
}

pub scan_goes : {table : Table} {lists : SlotLists} {before now next : MapSeat} {flags : List Bool} {own : ℕ}
    (found : ℕ) → SearchScans table lists before now flags own → next.table_id ≡ now.table_id
    → SearchesOn own found now.me.0 next.me.0 → SearchScans table lists before next (announced found flags) (own + 1)
scan_goes {table = table} {before = before} {now = now} {next = next} {flags = flags} {own = own} found so_far same
    tells =
    let search = so_far.search.search in
    let desk = search.desk in
    let told = tells desk search.call search.rows search.role search.place in
    let sized = ap (λ (t : Table). t.shape) search.own in
    let listed = so_far.search.retired in
    let goes
    = goes_on found desk search.room
    (subst (λ (l : List Retired). ScanGoes table l before now flags own) (sym listed) so_far.goes) sized same
    told.same in
    let keep
    = keep_so desk before.me.0 now.me.0 next.me.0 flags own found (retired_once table.shape desk search.room)
    (λ slot waits. rw sized (retired_inside table.shape desk search.room slot waits))
    (so_far.goes.wide ∙ ap (λ (s : Shape). s.slots) (sym sized))
    (subst (λ (l : List Retired). ScannedTo l before.me.0 now.me.0 flags own) (sym listed) so_far.scanned) told in
    record {
      goes = rw (sym listed) goes;
      search =
          searches_on so_far.search
          (λ j. record { id = same j; shape = (told.same j).shape; announcers = (told.same j).announcers })
          (ap (λ (v : View). v.role) told.same);
      scanned = rw (sym listed) (record { loaded = goes.loaded; keep = keep });
    }

pub search_flagged : {table : Table} {lists : SlotLists} {before now : MapSeat} {flags : List Bool}
    → 0 < table.announcers → SearchesIn table lists before → SearchScans table lists before now flags table.announcers
    → Flagged table lists.retired now.me.0.heard flags
search_flagged {table = table} some_words search so_far =
    scan_flagged some_words (ap (λ (t : Table). t.shape) search.search.own)
    (rw (sym search.retired) (retired_inside table.shape search.search.desk search.search.room)) so_far.goes

-- BETWEEN TWO CALLS

pub record RestingScan (table : Table) (lists : SlotLists) (before now : MapSeat) (flags : List Bool)
    (own : ℕ) : Type 0 where
  pub goes : ScanGoes table lists.retired before now flags own
  pub polls : now.me.0.marks.polls ≡ before.me.0.marks.polls

pub resting_scan_begins : (table : Table) (lists : SlotLists) (seat : MapSeat) (flags : List Bool)
    → NoneFlagged lists.retired flags → length flags ≡ table.shape.slots → OthersFlagged lists.retired flags
    → RestingScan table lists seat seat flags 0
resting_scan_begins table lists seat flags none wide others = record { goes = goes_none none wide others; polls = refl }

module _ {table : Table} {lists : SlotLists} {before now : MapSeat} {flags : List Bool} {own : ℕ}
    (rests : RestsAt table lists before) (so_far : RestingScan table lists before now flags own) where
  own_is : (token now).table ≡ table
  own_is =
      let rest = so_far.goes.loaded.rest in
      (λ j. record { id = so_far.goes.own_table j; shape = (rest j).shape; announcers = (rest j).announcers })
      ∙ rests.writes.own

  role_is : now.me.0.role ≡ Writer (desk_with lists Idle)
  role_is = ap (λ (v : View). v.role) so_far.goes.loaded.rest ∙ rests.writes.role

  -- each word may be loaded
  pub resting_scan_at : (word : ℕ) → word < table.announcers → ScansAt table word now
  resting_scan_at word low =
      record { own_table = own_is; desk = desk_with lists Idle; role = role_is; within = low }

  pub resting_scan_goes : {next : MapSeat} (found : ℕ) → next.table_id ≡ now.table_id
      → HearsWord own found now.me.0 next.me.0 → RestingScan table lists before next (announced found flags) (own + 1)
  resting_scan_goes {next = next} found same hears =
      let desk = desk_with lists Idle in
      let told = hears desk role_is in
      let polls = ap (λ (v : View). v.marks.polls) told in
      let loads : Loads desk own found now.me.0 next.me.0
      = told
      ∙ (λ j.
      record now.me.0 {
        steps = now.me.0.steps + 1;
        marks = with_scan now.me.0.marks (sym polls j) (now.me.0.marks.loads ++ word_load own found ∷ []);
        heard = heard_from desk own found now.me.0.heard 0 now.me.0.shape.slots;
      }) in record {
        goes = goes_on found desk rests.writes.room so_far.goes (ap (λ (t : Table). t.shape) own_is) same loads;
        polls = polls ∙ so_far.polls;
      }

-- and the words that were loaded are what it heard by
module _ {table : Table} {lists : SlotLists} {before now : MapSeat} {flags : List Bool}
    (rests : RestsAt table lists before) (some_words : 0 < table.announcers)
    (so_far : RestingScan table lists before now flags table.announcers) where
  pub resting_scan_hears : RestsHearing table.announcers lists.retired before.me.0 now.me.0
  resting_scan_hears =
      let loaded = so_far.goes.loaded in
      let told
      = words_told table.announcers lists.retired before.me.0.shape.slots before.me.0.marks.loads now.me.0.marks.loads
      now.me.0.heard some_words loaded.words in
      let many : before.me.0.steps + table.announcers ≡ before.me.0.steps + length told.0
      = ap (λ (n : ℕ). before.me.0.steps + n) (sym (words_many told.1)) in (
        told.0,
        told.1,
        loaded.rest
            ∙ (λ j.
            record before.me.0 {
              steps = many j;
              marks = with_scan before.me.0.marks (so_far.polls j) (told.2 j);
              heard = now.me.0.heard;
            }),
      )

  pub resting_flagged : Flagged table lists.retired now.me.0.heard flags
  resting_flagged =
      scan_flagged some_words (ap (λ (t : Table). t.shape) rests.writes.own)
      (retired_inside table.shape (desk_with lists Idle) rests.writes.room) so_far.goes
