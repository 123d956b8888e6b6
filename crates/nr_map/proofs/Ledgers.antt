-- The sets that stand in slots and those that were let go, call by call: a call that puts a set lets go of the one that
-- its slot had, and a reap of the one that it gives out.
use Rattle.std.proofs.Common.{Bool, List, [], ap, arith, cond, false, get_or, get_or-set_other, get_or-set_same, inl}
use Rattle.std.proofs.Common.{inr, length, length-set, refl, set, subst, suc, sym, take, true, zero, ℕ, ⊎_elim, ◌++◌}
use Rattle.std.proofs.Common.{◌+◌, ◌<◌, ◌∙◌, ◌∷◌, ◌≡◌, ◌≤◌, ◌≢◌, ◌⊎◌, nat_lt, replicate, le-ltb, lt-ltb}
use Rattle.std.proofs.lemmas.Grind.{get_or-set_at}
use Rattle.std.proofs.lemmas.List.{get_or-replicate, get_or_past, length-replicate}
use lib.ListN.{get_elem?}
use mathlib.Core.Logic.{dite}
use mathlib.Core.Option.{some, some-injective, some-ne-none}
use native.Mathlib.Decide.{dec_le, ℕ_discrete}
use Rattle.nr_core.proofs.Sums.{at_remove, at_snoc, below-change, below-same, below-term, only-other, only-same}
use Rattle.nr_core.proofs.Sums.{total-append}
use Rattle.nr_core.specs.Sums.{below, only}
use Rattle.nr_core.specs.declared.places.Retired.{Retired}
use Rattle.nr_core.specs.declared.shape.Shape.{Shape}
use Rattle.nr_model.specs.Histories.{Entry, IsLegal, entries_of, is_done}
use Rattle.nr_model.specs.Maps.{PartialMap, call_key, next, reply_to}
use Rattle.nr_model.specs.Strays.{count_of_put}
use Rattle.nr_model.specs.declared.calls.Call.{Call}
use Rattle.nr_model.specs.declared.calls.Call.TheVariants as model
use Rattle.nr_model.specs.declared.calls.Reply.TheVariants as reply
use Rattle.nr_model.specs.declared.rows.Row.{Row}
use Rattle.nr_core.specs.Story.{entry}
use Rattle.nr_core.specs.Marks.{Marks}
use Rattle.nr_core.specs.Pasts.{Living}
use Rattle.nr_core.specs.Puts.{put_count, puts_set}
use Rattle.nr_board.specs.Callers.{Caller, map_at_opening}
use Rattle.nr_board.specs.Entries.{AreCallers, is_reading}
use Rattle.nr_board.specs.Reaping.{ready_to}
use Rattle.nr_board.specs.SlotLists.{not_passed}
use Rattle.nr_board.specs.WriterAnswers.{Publishes, Retires, RetiresOne}
use Rattle.nr_map.specs.Reclaims.{Ledger, LedgerStays, OpeningBegins, ReapedOnce, had_number, standing, unreaped}
use Rattle.nr_map.proofs.Standing.{count_both, count_cons, count_had, count_standing, stands_at, stands_nowhere}
use Rattle.nr_map.proofs.Standing.{stands_there}

-- THE WRITER'S PUTS ARE ITS OWN ENTRIES'

reading_puts_none : (map : PartialMap) (call : Call) → is_reading call ≡ true → is_done (reply_to map call) ≡ false
reading_puts_none map call reads = grind arith

own_step : (shape : Shape) (map : PartialMap) (e : Entry) (log : List Entry) → IsLegal map (e ∷ log)
    → AreCallers shape (e ∷ log) → put_count log ≡ put_count (entries_of log 0)
    → put_count (e ∷ log) ≡ put_count (entries_of (e ∷ log) 0)
own_step shape map e log legal callers rest = grind (arith, reading_puts_none map e.call)

own_puts : (shape : Shape) (map : PartialMap) (log : List Entry) → IsLegal map log → AreCallers shape log
    → put_count log ≡ put_count (entries_of log 0)
own_puts shape map [] legal callers = refl
own_puts shape map (e ∷ log) legal callers =
    own_step shape map e log legal callers (own_puts shape (next map e.call) log legal.1 callers.1)

some_inside : (l : List ℕ) (i x : ℕ) → get_or l i 0 ≡ suc x → i < length l
some_inside l i x is = grind (arith, get_or_past)

-- LIVING SLOTS WERE TAKEN

-- a retired slot was retired before, or a key named it
pub one_retired : (key : ℕ) (old : Caller) (mid after : List Retired) → RetiresOne key old mid after
    → (at : ℕ) (e : Retired) → get_elem? after at ≡ some e → Living mid old.marks e.slot
one_retired key old mid after one at e there = ⊎_elim (λ before. inr (at, e, before, refl))
    (λ now.
    let named = one.named ∙ ap (λ (x : Retired). suc x.slot) now in
    inl (key, some_inside old.marks.names key e.slot named, named))
    (at_snoc mid _ e at (ap (λ (l : List Retired). get_elem? l at) (sym one.retires) ∙ there))

same_retired : (old : Caller) (mid after : List Retired) → after ≡ mid → (at : ℕ) (e : Retired)
    → get_elem? after at ≡ some e → Living mid old.marks e.slot
same_retired old mid after same at e there =
    inr (at, e, ap (λ (l : List Retired). get_elem? l at) (sym same) ∙ there, refl)

was_retired : (call : Call) (old : Caller) (mid after : List Retired) → Retires call old mid after
    → (at : ℕ) (e : Retired) → get_elem? after at ≡ some e → Living mid old.marks e.slot
was_retired (model.Find key) old mid after retires = same_retired old mid after retires
was_retired (model.Ask key) old mid after retires = same_retired old mid after retires
was_retired (model.Fill key number rows) old mid after retires = same_retired old mid after retires.1
was_retired (model.Cancel key) old mid after retires = same_retired old mid after retires
was_retired call old mid after retires = one_retired (call_key call) old mid after retires

-- a slot lived before the call that named another at a key, or it is that one
pub lived : (old new : Caller) (mid : List Retired) (key name slot : ℕ)
    → new.marks.names ≡ set old.marks.names key name
    → ((at : ℕ) (e : Retired) → get_elem? new.retired at ≡ some e → Living mid old.marks e.slot)
    → Living new.retired new.marks slot → Living mid old.marks slot ⊎ (name ≡ suc slot)
lived old new mid key name slot names_are was = ⊎_elim
    (λ named.
    let names = old.marks.names in
    let near : named.0 < length names = omega (arith, named.1, ap length names_are, length-set names key name) in
    let is = rw names_are at named.2 in
    dite (ℕ_discrete named.0 key)
    (λ same. inr (sym (get_or-set_at names key named.0 name 0 same (omega arith)) ∙ is))
    (λ other. inl (inl (named.0, near, sym (get_or-set_other names key named.0 name 0 other) ∙ is))))
    (λ retired. inl (subst (Living mid old.marks) retired.3 (was retired.0 retired.1 retired.2)))

-- THE LAWS

pub ledger_stays_lem : LedgerStays
ledger_stays_lem old new gone table fresh puts reaped living many ledger = record {
  slots = rw (puts, fresh, reaped, table) ledger.slots;
  taken = λ slot lives. rw fresh (ledger.taken slot (living slot lives));
  put = λ number low. rw (fresh, puts, reaped) (ledger.put number (omega arith));
  later = λ number high. rw (fresh, puts, reaped) (ledger.later number (omega arith));
}

-- what stands, slot by slot
count_stands : (writer : Caller) (gone : List ℕ) (number : ℕ) → Ledger writer gone
    → count_of_put (standing writer) number
    ≡ below (stands_at number writer.marks.puts writer.marks.reaped) writer.fresh
count_stands writer gone number ledger =
    count_standing number writer.marks.puts writer.marks.reaped writer.fresh
    (omega (arith, ledger.slots.0, ledger.slots.1))

-- the put number of a set that stands
pub stands_once : (writer : Caller) (gone : List ℕ) (slot number : ℕ) → Ledger writer gone → slot < writer.fresh
    → get_or writer.marks.puts slot 0 ≡ number
    → get_or writer.marks.reaped slot false ≡ false → (number < put_count writer.mine) × (count_of_put gone number ≡ 0)
stands_once writer gone slot number ledger low is kept =
    let puts = writer.marks.puts in
    let flags = writer.marks.reaped in
    let here : only number (get_or puts slot 0) ≡ 1 = ap (only number) is ∙ only-same number in
    let one = stands_there number puts flags slot kept in
    let some = below-term (stands_at number puts flags) writer.fresh slot low in
    let stands = count_stands writer gone number ledger in
    dite (dec_le (put_count writer.mine) number) (λ high. absurd (let none = ledger.later number high in omega arith))
    (λ low'. let all = ledger.put number (omega arith) in (omega arith, omega arith))

module _ (steps : ℕ) (call : Call) (rows : List Row) (old new : Caller) (gone : List ℕ) (writes : old.number ≡ 0)
    (published : Publishes steps call rows old new) (ledger : Ledger old gone) where
  pub put_now : put_count new.mine ≡ put_count old.mine + 1
  put_now = ap put_count published.gains.mine ∙ total-append puts_set old.mine (entry old.number call reply.Done ∷ [])

  pub number_is : published.number ≡ put_count old.mine
  number_is = let gains = published.gains in
      let all = own_puts old.table.shape (map_at_opening old.table) new.seen gains.legal gains.callers in
      let mine = rw (gains.number, writes) at gains.own in
      omega (arith, all, ap put_count mine, published.count, put_now)

  puts_are : new.marks.puts ≡ set old.marks.puts published.slot published.number
  puts_are = ap (λ (m : Marks). m.puts) published.marks

  flags_are : new.marks.reaped ≡ set old.marks.reaped published.slot false
  flags_are = ap (λ (m : Marks). m.reaped) published.marks

  -- what the call changed: where its slot stood, and that nothing but its number came
  record Moved : Type 0 where
    more : old.fresh ≤ new.fresh
    room : new.fresh ≤ old.table.shape.slots
    low : published.slot < new.fresh
    living : (slot : ℕ) → Living published.mid.retired old.marks slot → Living old.retired old.marks slot
    counts : (number : ℕ)
        → below (stands_at number new.marks.puts new.marks.reaped) new.fresh
        + count_of_put (had_number old published.slot) number
        ≡ below (stands_at number old.marks.puts old.marks.reaped) old.fresh + only number published.number

  moved : Moved
  moved = ⊎_elim
      (λ fresh.
      let grown : new.fresh ≡ suc old.fresh = omega (arith, published.fresh, fresh.3) in
      let first : nat_lt slot old.fresh ≡ false = le-ltb slot old.fresh (omega (arith, fresh.1)) in record {
        more = omega arith;
        room = omega (arith, fresh.0);
        low = omega (arith, fresh.1);
        living = λ at lives. subst (λ (l : List Retired). Living l old.marks at) fresh.4 lives;
        counts = λ number. omega (
          arith,
          ap (below (after number)) grown,
          below-same (before number) (after number) old.fresh (λ k low. others number k (omega (arith, low, fresh.1))),
          ap (after number) (sym fresh.1),
          here number,
          had number,
          ap (λ (b : Bool). cond {A = ℕ} b (before number slot) 0) first,
        );
      })
      (λ taken.
      let grown : new.fresh ≡ old.fresh = published.fresh ∙ taken.6 in
      let low : slot < old.fresh = omega (arith, published.inside, taken.0) in
      let again : nat_lt slot old.fresh ≡ true = lt-ltb slot old.fresh low in record {
        more = omega arith;
        room = omega (arith, ledger.slots.1);
        low = omega arith;
        living = λ at lives. ⊎_elim inl
            (λ retired.
            let was
            = at_remove old.retired taken.1 retired.0 retired.1
            (ap (λ (l : List Retired). get_elem? l retired.0) (sym taken.7) ∙ retired.2) in
            inr (was.0, retired.1, was.1, retired.3))
            lives;
        counts = λ number. omega (
          arith,
          ap (below (after number)) grown,
          below-change (before number) (after number) old.fresh slot low (others number),
          here number,
          had number,
          ap (λ (b : Bool). cond {A = ℕ} b (before number slot) 0) again,
        );
      })
      published.took
    where
      slot : ℕ
      slot = published.slot

      before : ℕ → ℕ → ℕ
      before number = stands_at number old.marks.puts old.marks.reaped

      after : ℕ → ℕ → ℕ
      after number = stands_at number new.marks.puts new.marks.reaped

      others : (number k : ℕ) → k ≢ slot → before number k ≡ after number k
      others number k other =
          let put = get_or-set_other old.marks.puts slot k published.number 0 other in
          let flag = get_or-set_other old.marks.reaped slot k false false other in
          sym
          ((λ j. stands_at number (puts_are j) (flags_are j) k)
          ∙ (λ j. cond {A = ℕ} (flag j) 0 (only number (put j))))

      here : (number : ℕ) → after number slot ≡ only number published.number
      here number =
          stands_there number new.marks.puts new.marks.reaped slot
          (ap (λ (l : List Bool). get_or l slot false) flags_are
          ∙ get_or-set_same old.marks.reaped slot false false (omega (arith, published.inside, ledger.slots.2)))
          ∙ ap (only number) published.put

      had : (number : ℕ)
          → count_of_put (had_number old slot) number ≡ cond {A = ℕ} (nat_lt slot old.fresh) (before number slot) 0
      had number =
          count_had number (get_or old.marks.puts slot 0) (nat_lt slot old.fresh) (get_or old.marks.reaped slot false)

  still_taken : (slot : ℕ) → Living new.retired new.marks slot → slot < new.fresh
  still_taken slot lives = let more = moved.more in ⊎_elim
      (λ before. let low = ledger.taken slot (moved.living slot before) in omega arith)
      (λ here. omega (arith, moved.low))
      (lived old new published.mid.retired (call_key call) (suc published.slot) slot
      (ap (λ (m : Marks). m.names) published.marks)
      (was_retired call old published.mid.retired new.retired published.retires) lives)

  pub ledger_goes_on : Ledger new (gone ++ had_number old published.slot)
  ledger_goes_on = record {
    slots = (
      long,
      rw published.gains.table moved.room,
      rw (published.gains.table, flags_are) (length-set old.marks.reaped published.slot false ∙ ledger.slots.2),
    );
    taken = still_taken;
    put = λ number low. dite (ℕ_discrete published.number number)
        (λ same.
        let one = ap (only number) same ∙ only-same number in
        let none = ledger.later number (omega (arith, number_is)) in
        omega (arith, counts number))
        (λ other.
        let none = only-other number published.number other in
        let one = ledger.put number (omega (arith, number_is, put_now)) in
        omega (arith, counts number));
    later = λ number high.
        let none = only-other number published.number (λ same. omega (arith, number_is, put_now)) in
        let before = ledger.later number (omega (arith, put_now)) in
        omega (arith, counts number);
  }
    where
      long : length new.marks.puts ≡ new.table.shape.slots
      long =
          rw (published.gains.table, puts_are)
          (length-set old.marks.puts published.slot published.number ∙ ledger.slots.0)

      counts : (number : ℕ)
          → count_of_put (standing new) number + count_of_put (gone ++ had_number old published.slot) number
          ≡ count_of_put (standing old) number + count_of_put gone number + only number published.number
      counts number =
          omega (
            arith,
            count_standing number new.marks.puts new.marks.reaped new.fresh
                (rw (long, published.gains.table) moved.room),
            count_stands old gone number ledger,
            moved.counts number,
            count_both number gone (had_number old published.slot),
          )

-- A REAP

-- a slot that waits is retired, and not passed by
waits_there : (passes : ℕ → Bool) (retired : List Retired) (place : ℕ) (entry : Retired)
    → get_elem? (not_passed passes retired) place ≡ some entry
    → (at : ℕ) × (get_elem? retired at ≡ some entry) × (passes entry.slot ≡ false)
waits_there passes [] place entry there = absurd (some-ne-none entry (sym there))
waits_there passes (e ∷ retired) place entry there =
    waits (λ at rest. let t = waits_there passes retired at entry rest in (suc t.0, t.1, t.2)) (passes e.slot) refl
    place there
  where
    waits : ((place : ℕ) → get_elem? (not_passed passes retired) place ≡ some entry
        → (at : ℕ) × (get_elem? (e ∷ retired) at ≡ some entry) × (passes entry.slot ≡ false))
        → (b : Bool) → passes e.slot ≡ b → (place : ℕ)
        → get_elem? (cond b (not_passed passes retired) (e ∷ not_passed passes retired)) place ≡ some entry
        → (at : ℕ) × (get_elem? (e ∷ retired) at ≡ some entry) × (passes entry.slot ≡ false)
    waits deeper true _ place there = deeper place there
    waits deeper false kept zero there =
        (0, there, ap (λ (x : Retired). passes x.slot) (sym (some-injective e entry there)) ∙ kept)
    waits deeper false kept (suc place) there = deeper place there

-- what stands between two lists
at_seam : {A : Type 0} (l : List A) (a : A) (m : List A) → get_elem? (l ++ a ∷ m) (length l) ≡ some a
at_seam [] a m = refl
at_seam (x ∷ l) a m = at_seam l a m

-- a slot whose set is ready to be reaped was not reaped
pub ready_there : (old : Caller) (scanned : List ℕ) (held later : List Retired) (entry : Retired)
    → ready_to old scanned ≡ held ++ entry ∷ later
    → (at : ℕ) × (get_elem? old.retired at ≡ some entry) × (get_or old.marks.reaped entry.slot false ≡ false)
ready_there old scanned held later entry is =
    let there
    = waits_there _ old.retired (length held) entry
    (ap (λ (l : List Retired). get_elem? l (length held)) is ∙ at_seam held entry later) in
    (there.0, there.1, let passed = there.2 in grind arith)

pub reaped_once_lem : ReapedOnce
reaped_once_lem held later entry notes steps scanned loads old new gone waits is ledger =
    let there = ready_there old scanned held later entry waits in
    let slot : ℕ = entry.slot in
    let puts = old.marks.puts in
    let flags = old.marks.reaped in
    let n : ℕ = get_or puts slot 0 in
    let low = ledger.taken slot (inr (there.0, entry, there.1, refl)) in
    let fits : old.fresh ≤ length puts = omega (arith, ledger.slots.0, ledger.slots.1) in
    let counts : (number : ℕ)
    → count_of_put (unreaped (take old.fresh puts) (set flags slot true)) number + count_of_put (gone ++ n ∷ []) number
    ≡ count_of_put (standing old) number + count_of_put gone number
    = λ number. omega (
      arith,
      count_standing number puts flags old.fresh fits,
      count_standing number puts (set flags slot true) old.fresh fits,
      below-change (stands_at number puts flags) (stands_at number puts (set flags slot true)) old.fresh slot low
          (λ k other. ap (λ (b : Bool). cond {A = ℕ} b 0 (only number (get_or puts k 0)))
          (sym (get_or-set_other flags slot k true false other))),
      stands_there number puts flags slot there.2,
      stands_nowhere number puts (set flags slot true) slot
          (get_or-set_same flags slot true false (omega (arith, low, ledger.slots.1, ledger.slots.2))),
      count_both number gone (n ∷ []),
      count_cons number n [],
    ) in
    subst (λ (c : Caller). Ledger c (gone ++ n ∷ [])) (sym is) (record {
      slots = (ledger.slots.0, ledger.slots.1, length-set flags slot true ∙ ledger.slots.2);
      taken = ledger.taken;
      put = λ number near. counts number ∙ ledger.put number near;
      later = λ number far. counts number ∙ ledger.later number far;
    })

-- THE OPENING

zeros : (n i : ℕ) → ◌≡◌ {A = ℕ} (get_or (replicate n 0) i 0) 0
zeros n i = grind (arith, get_or-replicate {A = ℕ}, get_or_past {X = ℕ}, length-replicate {A = ℕ})

pub opening_begins_lem : OpeningBegins
opening_begins_lem shape words map writer readers opened =
    let size : shape.slots ≡ map.shape.slots = ap (λ (s : Shape). s.slots) (sym opened.sizes) in
    subst (λ (c : Caller). Ledger c []) (sym opened.writes) (record {
      slots = (length-replicate shape.slots 0 ∙ size, omega arith, length-replicate shape.slots false ∙ size);
      taken = λ slot lives. ⊎_elim
          (λ named. absurd (let none = zeros shape.keys named.0 in let is = named.2 in omega arith))
          (λ retired. absurd (some-ne-none retired.1 (sym retired.2))) lives;
      put = λ number low. absurd (omega arith);
      later = λ number high.
          let none = count_standing number (replicate shape.slots 0) (replicate shape.slots false) 0 (omega arith) in
          omega arith;
    })
