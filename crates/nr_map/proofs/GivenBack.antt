-- A caller that lets no set be overwritten, call by call: each slot's set has the rows of its put number, and so has
-- each that came out.
use Rattle.std.proofs.lemmas.Grind.{common_steps, get_or-set_at}
use Rattle.std.proofs.Common.{Bool, inl, ◌≤◌, ◌⊎◌, List, [], ap, append-nil, arith, cond, false, get_or}
use Rattle.std.proofs.Common.{get_or-set_other, inr, length, length-append, length-set, map, refl, subst, suc, sym}
use Rattle.std.proofs.Common.{true, zero, ℕ, ⊎_elim, ◌++◌, ◌+◌, ◌<◌, ◌∙◌, ◌∷◌, ◌≡◌, ◌≢◌, lt-ltb, All, nat_lt}
use Rattle.std.proofs.lemmas.List.{length-replicate, map-append}
use Rattle.std.proofs.lemmas.List.Elements.{All-append, All-head, All-nil, All-push, All-tail, All-weaker}
use Rattle.std.proofs.Math.Seq.{get_or-append_seam}
use lib.ListN.{get_elem?}
use mathlib.Core.Logic.{dite}
use mathlib.Core.Option.{some, some-injective, some-ne-none}
use native.Mathlib.Decide.{ℕ_discrete}
use Rattle.nr_core.specs.declared.shape.Shape.{Shape}
use Rattle.nr_model.specs.Strays.{count_of_put}
use Rattle.nr_model.specs.declared.calls.Call.{Call}
use Rattle.nr_model.specs.declared.rows.Row.{Row}
use Rattle.nr_core.specs.Marks.{is_reaped, set_in}
use Rattle.nr_core.specs.Puts.{put_count}
use Rattle.nr_board.specs.declared.answers.Reaped.TheVariants as reaped
use Rattle.nr_board.specs.declared.answers.Reclaimed.{Reclaimed}
use Rattle.nr_board.specs.declared.answers.Reclaimed.TheVariants as reclaimed
use Rattle.nr_board.specs.Callers.{Caller}
use Rattle.nr_board.specs.Reaping.{ReapsIn}
use Rattle.nr_board.specs.Reclaiming.{HandsOutAt}
use Rattle.nr_board.specs.SlotLists.{lists_of}
use Rattle.nr_board.specs.WriterAnswers.{Publishes}
use Rattle.nr_map.specs.GivenBack.{Cancels, Deals, EachSetComesOutOnce, Evicts, FillRefused, Fills, Goes, Lacks}
use Rattle.nr_map.specs.GivenBack.{LearnsMore, Opens, Quiet, ReapHeld, ReapNothing, Reaps, ReplaceRefused, Replaces}
use Rattle.nr_map.specs.GivenBack.{Rests, Run, UpdateRefused, Updates, given_by, rows_put}
use Rattle.nr_map.specs.Reclaims.{Ledger, had_number}
use Rattle.nr_map.specs.Remains.{Given, given_at, numbers}
use Rattle.nr_map.proofs.Keeping.{KeepsSets, cancel_keeps, evict_keeps, fill_keeps, kept_ledger, lacks_keeps}
use Rattle.nr_map.proofs.Keeping.{learns_keeps, quiet_keeps, replace_keeps, rests_keeps, update_keeps}
use Rattle.nr_map.proofs.Ledgers.{ledger_goes_on, number_is, opening_begins_lem, put_now, reaped_once_lem, ready_there}
use Rattle.nr_map.proofs.Ledgers.{stands_once}
use Rattle.nr_map.proofs.Standing.{count_both}
use Rattle.nr_map.proofs.Remainders.{StandsIn, rest_comes_out_once_lem, rest_stands}

given_one : (P : Given → Type 0) (l : List Given) → All P l → (at : ℕ) (one : Given) → get_elem? l at ≡ some one → P one
given_one P [] all at one there = absurd (some-ne-none one (sym there))
given_one P (x ∷ l) all zero one there = subst P (some-injective x one there) (All-head P x l all)
given_one P (x ∷ l) all (suc at) one there = given_one P l (All-tail P x l all) at one there

-- THE BOOKS

-- a set that came out has the rows of its put number
abbrev HasItsRows : List (List Row) → Given → Type 0
HasItsRows put one = (one.number < length put) × (one.rows ≡ rows_put put one.number)

-- what stands between any two calls of such a caller
record Books (writer : Caller) (put : List (List Row)) (given : List Given) : Type 0 where
  writes : writer.number ≡ 0
  ledger : Ledger writer (numbers given)
  count : length put ≡ put_count writer.mine
  many : length writer.marks.sets ≡ writer.table.shape.slots
  stand : (slot : ℕ) → slot < writer.fresh → is_reaped writer.marks slot ≡ false
      → set_in writer.marks slot ≡ rows_put put (get_or writer.marks.puts slot 0)
  gave : All (HasItsRows put) given

-- one set more
more_rows : (put : List (List Row)) (rows : List Row) (one : Given) → HasItsRows put one
    → HasItsRows (put ++ rows ∷ []) one
more_rows put rows one has = grind (arith, common_steps)

-- the set of a slot has its rows
stands_so : (writer : Caller) (put : List (List Row)) (given : List Given) (slot : ℕ) → Books writer put given
    → slot < writer.fresh → is_reaped writer.marks slot ≡ false → HasItsRows put (given_at writer slot)
stands_so writer put given slot books low kept = (
  omega (
    arith,
    (stands_once writer (numbers given) slot (get_or writer.marks.puts slot 0) books.ledger low refl kept).0,
    books.count,
  ),
  books.stand slot low kept,
)

-- A PUT

module _ (steps : ℕ) (call : Call) (rows : List Row) (old new : Caller) (put : List (List Row)) (given : List Given)
    (published : Publishes steps call rows old new) (books : Books old put given) where
  its_number : published.number ≡ length put
  its_number = number_is steps call rows old new (numbers given) books.writes published books.ledger ∙ sym books.count

  -- any other slot that was taken was taken before
  taken_before : (slot : ℕ) → slot < new.fresh → slot ≢ published.slot → slot < old.fresh
  taken_before slot low other = ⊎_elim
      (λ fresh. dite (ℕ_discrete slot old.fresh) (λ same. absurd (other (same ∙ sym fresh.1)))
      (λ apart. omega (arith, published.fresh, fresh.3)))
      (λ taken. omega (arith, published.fresh, taken.6)) published.took

  stand_now : (slot : ℕ) → slot < new.fresh → is_reaped new.marks slot ≡ false
      → set_in new.marks slot ≡ rows_put (put ++ rows ∷ []) (get_or new.marks.puts slot 0)
  stand_now slot low kept = dite (ℕ_discrete slot published.slot)
      (λ same.
      let inside : published.slot < length old.marks.sets = omega (arith, published.inside, books.many) in
      let number : get_or new.marks.puts slot 0 ≡ length put = rw same (published.put ∙ its_number) in
      rw (number, get_or-append_seam put rows [] [], published.marks)
      (get_or-set_at old.marks.sets published.slot slot rows [] same inside))
      (λ other.
      let before = taken_before slot low other in
      let was
      = rw (published.marks, get_or-set_other old.marks.reaped published.slot slot false false other) at kept in
      rw (
        published.marks,
        get_or-set_other old.marks.sets published.slot slot rows [] other,
        get_or-set_other old.marks.puts published.slot slot published.number 0 other,
      )
      (more_rows put rows (given_at old slot) (stands_so old put given slot books before was)).1)

  put_goes_on : (out : List Given) → numbers out ≡ had_number old published.slot
      → All (HasItsRows put) out → Books new (put ++ rows ∷ []) (given ++ out)
  put_goes_on out had rows_had = record {
    writes = published.gains.number ∙ books.writes;
    ledger =
        rw (map-append (λ (one : Given). one.number) given out, had)
        (ledger_goes_on steps call rows old new (numbers given) books.writes published books.ledger);
    count =
        omega (
          arith,
          length-append put (rows ∷ []),
          books.count,
          put_now steps call rows old new (numbers given) books.writes published books.ledger,
        );
    many =
        rw (published.gains.table, published.marks) (length-set old.marks.sets published.slot rows ∙ books.many);
    stand = stand_now;
    gave =
        All-weaker (HasItsRows put) (HasItsRows (put ++ rows ∷ [])) (more_rows put rows) (given ++ out)
        (All-append (HasItsRows put) given out books.gave rows_had);
  }

nothing_had : (slot fresh number : ℕ) (reaped : Bool) → (fresh ≤ slot) ⊎ (reaped ≡ true)
    → [] ≡ cond (nat_lt slot fresh) (cond reaped [] (number ∷ [])) []
nothing_had slot fresh number reaped none = grind arith

-- what a reclaiming call gives out is what its slot had
module _ {Room : Type 0} (shows : Room → List Row → Type 0) (before after : Room) (steps : ℕ) {total : ℕ} {call : Call}
    {rows : List Row} {old new : Caller} {put : List (List Row)} {given : List Given} (books : Books old put given)
    (published : Publishes total call rows old new) where
  gave_back : (answer : Reclaimed)
      → HandsOutAt shows old.table (lists_of old) old.marks published.slot before after steps answer
      → Books new (put ++ rows ∷ []) (given ++ given_by old published.slot answer)
  gave_back reclaimed.Set hands =
      let low : published.slot < old.fresh = omega (arith, published.inside, hands.0) in
      let one = given_at old published.slot in
      put_goes_on _ _ _ old new put given published books (one ∷ [])
      (rw (lt-ltb published.slot old.fresh low, hands.1) refl)
      (All-push (HasItsRows put) [] one (All-nil (HasItsRows put))
      (stands_so old put given published.slot books low hands.1))
  gave_back reclaimed.Nothing hands =
      put_goes_on _ _ _ old new put given published books []
      (nothing_had published.slot old.fresh _ _
      (⊎_elim
      (λ fresh. ⊎_elim (λ took. inl (omega (arith, took.1))) (λ took. absurd (omega (arith, took.0)))
      published.took) inr hands.0))
      (All-nil (HasItsRows put))

-- A REAP

module _ {Room : Type 0} (shows : Room → List Row → Type 0) (old new : Caller) (before after : Room)
    (put : List (List Row)) (given : List Given) (books : Books old put given) where
  reap_goes_on : (reaps : ReapsIn shows old before new after reaped.Set)
      → Books new (put ++ []) (given ++ given_at old reaps.entry.slot ∷ [])
  reap_goes_on reaps =
      let entry = reaps.entry in let is = reaps.new_is in
      let slot : ℕ = entry.slot in
      let one = given_at old slot in
      let there = ready_there old reaps.scanned reaps.held reaps.later entry reaps.split in
      let low = books.ledger.taken slot (inr (there.0, entry, there.1, refl)) in
      let has = stands_so old put given slot books low there.2 in
      let ledger
      = reaped_once_lem reaps.held reaps.later entry (reaps.earlier ++ reaps.notes) _ reaps.scanned _ old new
      (numbers given) reaps.split is books.ledger in
      rw (append-nil put, is) (record {
        writes = books.writes;
        ledger = rw (map-append (λ (it : Given). it.number) given (one ∷ [])) (rw is at ledger);
        count = books.count;
        many = books.many;
        stand = λ other near kept. dite (ℕ_discrete other slot)
            (λ same. absurd
            (let gone
            = get_or-set_at old.marks.reaped slot other true false same
            (omega (arith, low, books.ledger.slots.1, books.ledger.slots.2)) in cc))
            (λ apart. books.stand other near
            (sym (get_or-set_other old.marks.reaped slot other true false apart) ∙ kept));
        gave = All-push (HasItsRows put) given one books.gave has;
      })

-- CALLS THAT LEAVE THE SETS

books_stay : {old new : Caller} {put : List (List Row)} {given : List Given} → KeepsSets old new → Books old put given
    → Books new (put ++ []) (given ++ [])
books_stay {old} {new} {put} {given} kept books =
    rw (append-nil put, append-nil given) (record {
      writes = kept.number ∙ books.writes;
      ledger = kept_ledger old new (numbers given) kept books.ledger;
      count = books.count ∙ sym kept.many;
      many = rw (kept.sets, kept.table) books.many;
      stand = λ slot low flag.
          rw (kept.sets, kept.puts) (books.stand slot (rw kept.fresh at low) (rw kept.reaped at flag));
      gave = books.gave;
    })

-- EVERY RUN

module _ {Room : Type 0} (shows : Room → List Row → Type 0) where
  deal_goes_on : {old new : Caller} {more put : List (List Row)} {out given : List Given} → Books old put given
      → Deals shows old more out new → Books new (put ++ more) (given ++ out)
  deal_goes_on books (Fills key number rows old new before after back done) =
      gave_back shows before after done.steps books done.published back done.gives
  deal_goes_on books (FillRefused key number rows _ _ _ _ fault says) =
      books_stay (fill_keeps key number rows fault says.0) books
  deal_goes_on books (Updates bound key batch old new before after back done) =
      gave_back shows before after done.steps books done.published back done.gives
  deal_goes_on books (UpdateRefused bound key batch _ _ _ _ fault says) =
      books_stay (update_keeps bound key batch fault says.0) books
  deal_goes_on books (Replaces key rows old new before after back done) =
      gave_back shows before after done.steps books done.published back done.gives
  deal_goes_on books (ReplaceRefused key rows _ _ _ _ fault says) =
      books_stay (replace_keeps key rows fault says.0) books
  deal_goes_on books (Reaps old new before after done) = reap_goes_on shows old new before after _ _ books done
  deal_goes_on books (ReapHeld _ _ _ _ says) = books_stay (rests_keeps _ _ _ _ says.8) books
  deal_goes_on books (ReapNothing old _ _ _ says) =
      books_stay (rests_keeps old.steps old.marks.polls old.marks.loads old.heard says.1) books
  deal_goes_on books (Evicts key _ _ answer says) = books_stay (evict_keeps key answer says) books
  deal_goes_on books (Cancels key _ _ answer says) = books_stay (cancel_keeps key answer says) books
  deal_goes_on books (Quiet steps call answer _ _ quiet gains stays) =
      books_stay (quiet_keeps steps call answer quiet gains stays) books
  deal_goes_on books (Lacks steps call counts _ _ without) = books_stay (lacks_keeps steps call counts without) books
  deal_goes_on books (LearnsMore steps _ _ says) = books_stay (learns_keeps steps says) books
  deal_goes_on books (Rests steps old _ says) =
      books_stay (rests_keeps (old.steps + steps) old.marks.polls old.marks.loads old.heard says) books

  run_books : {writer : Caller} {put : List (List Row)} {given : List Given} → Run shows writer put given
      → Books writer put given
  run_books (Opens shape words map writer readers opened) =
      rw opened.writes (record {
        writes = refl;
        ledger = rw opened.writes at (opening_begins_lem shape words map writer readers opened);
        count = refl;
        many = length-replicate shape.slots [] ∙ ap (λ (s : Shape). s.slots) (sym opened.sizes);
        stand = λ slot low kept. absurd (omega arith);
        gave = All-nil (HasItsRows []);
      })
  run_books (Goes old new put more given out run deal) = deal_goes_on (run_books run) deal

  pub each_set_comes_out_once_lem : EachSetComesOutOnce shows
  each_set_comes_out_once_lem writer put given rest left run apart out = let books = run_books run in record {
    once = λ number low. omega (
      arith,
      rest_comes_out_once_lem shows writer (numbers given) left rest number books.ledger apart out
          (omega (arith, books.count)),
      ap (λ (l : List ℕ). count_of_put l number) (map-append (λ (one : Given). one.number) given rest),
      count_both number (numbers given) (numbers rest),
    );
    rows = given_one (HasItsRows put) (given ++ rest)
        (All-append (HasItsRows put) given rest books.gave
        (All-weaker (StandsIn writer) (HasItsRows put)
        (λ one stands. subst (HasItsRows put) (sym stands.3)
        (stands_so writer put given stands.0 books stands.1 stands.2))
        rest (subst (λ (c : Caller). All (StandsIn c) rest) apart.writer_is (rest_stands shows out))));
  }
