-- A load whose gets were all made comes to its report.
use Rattle.std.proofs.Common.{◌≡◌, ◌<◌, ◌≤◌, ℕ, suc, zero, ◌+◌, ◌*◌, true, List, [], ◌∷◌, ◌++◌, length, map, get_or}
use Rattle.std.proofs.Common.{replicate, refl, sym, ap, ◌∙◌, arith, Option, None}
use Rattle.std.specs.List.{count_by}
use Rattle.std.proofs.Math.Nat.{mul-suc, mul_comm}
use Rattle.std.proofs.lemmas.List.{length-map, length-replicate}
use Rattle.nr_model.specs.declared.states.KeyState.TheVariants.{Hole}
use Rattle.nr_model.specs.Histories.{Entry, entries_of}
use Rattle.nr_core.specs.declared.shape.Shape.{Shape}
use Rattle.nr_core.specs.Sums.{total}
use Rattle.nr_core.specs.Marks.{no_marks}
use Rattle.nr_board.specs.Callers.{Caller, Table, map_at_opening}
use Rattle.nr_map.specs.Opened.{newcomer}
use Rattle.nr_map.specs.Rounds.{is_fill, is_sent}
use Rattle.nr_load.specs.Balance.{of_all}
use Rattle.nr_load.specs.declared.fault.LoadFault.{LoadFault}
use Rattle.nr_load.specs.declared.load.LoadReport.{LoadReport}
use Rattle.nr_load.specs.declared.load.Plan.{Plan}
use Rattle.nr_load.specs.declared.threads.Joined.{Joined}
use Rattle.nr_load.specs.declared.workers.Outcome.{Outcome}
use Rattle.nr_load.specs.Base.{FindsRows, Rounds}
use Rattle.nr_load.specs.Ends.{Ended}
use Rattle.nr_load.specs.Faults.{earlier}
use Rattle.nr_load.specs.Gained.{Tells}
use Rattle.nr_load.specs.Outcomes.{Serves, ServesFirst, answered_in, earliest, made_in, reader_of, sends_in}
use Rattle.nr_load.specs.Reports.{ComesTo, IsAccount, MakesAll, shape_of_plan}
use Rattle.nr_load.proofs.Settling.{all_sent, few_answered, new_writer, reader_at, writer_filled, none_of, served_sum}
use Rattle.nr_load.proofs.Finding.{Obeys, finds_rows, opens_with_base, rounds_lead}

abbrev answered_of : Outcome → ℕ
answered_of outcome = outcome.worked.answered

-- of outcomes none told a fault
none_earliest : (fault : Option LoadFault) (os : List Outcome) → earliest fault os ≡ None → fault ≡ None
none_earliest fault [] none = none
none_earliest fault (o ∷ os) none =
    (none_of fault o.worked.fault (none_earliest (earlier fault o.worked.fault) os none)).0

most_made : (seed gets : ℕ) (rs : List Caller) (os : List Outcome) → ServesFirst seed gets rs os
    → made_in os ≤ gets * length rs
most_made seed gets = served_sum (λ o. o.worked.made) gets seed gets (λ r o serves. serves.made)

-- an outcome is of a reader that made all its gets; at its place are that reader, the one that came back, and how many
-- gets were answered
record Placed (seed gets : ℕ) (was is : Caller → Caller) (answered : ℕ → ℕ) : Type 0 where
  pub reader : Caller
  pub outcome : Outcome
  pub serves : Serves seed gets reader outcome
  pub made : outcome.worked.made ≡ gets
  pub faultless : outcome.worked.fault ≡ None
  pub was_reader : (other : Caller) → was other ≡ reader
  pub is_reader : (other : Caller) → is other ≡ outcome.reader
  pub told : (other : ℕ) → answered other ≡ outcome.worked.answered

-- none made more than its gets, so where all made as many as that each made all
placed : (seed gets : ℕ) (fault : Option LoadFault) (rs : List Caller) (os : List Outcome) → earliest fault os ≡ None
    → ServesFirst seed gets rs os
    → length os ≡ length rs → made_in os ≡ gets * length rs → (at : ℕ) → at < length rs
    → Placed seed gets (get_or rs at) (get_or (map reader_of os) at) (get_or (map answered_of os) at)
placed seed gets fault [] os none serves same all at low = absurd (omega (arith, low))
placed seed gets fault (r ∷ rs) [] none serves same all at low = absurd (omega (arith, same))
placed seed gets fault (r ∷ rs) (o ∷ os) none serves same all zero low = record {
  reader = r;
  outcome = o;
  serves = serves.0;
  made = omega (arith, all, most_made seed gets rs os serves.1, serves.0.made, mul-suc gets (length rs));
  faultless = (none_of fault o.worked.fault (none_earliest (earlier fault o.worked.fault) os none)).1;
  was_reader = λ other. refl;
  is_reader = λ other. refl;
  told = λ other. refl;
}
placed seed gets fault (r ∷ rs) (o ∷ os) none serves same all (suc at) low =
    placed seed gets (earlier fault o.worked.fault) rs os none serves.1 (omega (arith, same))
    (omega (arith, all, most_made seed gets rs os serves.1, serves.0.made, mul-suc gets (length rs))) at (omega arith)

total_answered : (os : List Outcome) → total (λ count. count) (map answered_of os) ≡ answered_in os
total_answered [] = refl
total_answered (o ∷ os) = omega (arith, total_answered os)

module _ (t : Table) (plan : Plan) (joined : Joined) (e : Ended t plan.seed plan.gets joined)
    (sizes : t.shape ≡ shape_of_plan plan) (report : LoadReport)
    (account : IsAccount t joined.flowed.writer (map reader_of joined.outcomes.items) report.asked)
    (whole : joined.is_whole ≡ true) where
  readers_are : t.shape.readers ≡ plan.readers
  readers_are = ap (λ (s : Shape). s.readers) sizes

  keys_are : t.shape.keys ≡ plan.keys
  keys_are = ap (λ (s : Shape). s.keys) sizes

  makes_all : earliest None joined.outcomes.items ≡ None → made_in joined.outcomes.items ≡ plan.readers * plan.gets
      → (at other : ℕ) → at < plan.readers
      → MakesAll plan t (at + 1) (get_or (map answered_of joined.outcomes.items) at other)
      (entries_of account.history (at + 1))
  makes_all none all at other low =
      let many : length e.readers ≡ plan.readers = e.opened.count ∙ readers_are in
      let turned : plan.gets * length e.readers ≡ plan.readers * plan.gets
      = ap (λ (n : ℕ). plan.gets * n) many ∙ mul_comm plan.gets plan.readers in
      let place
      = placed plan.seed plan.gets None e.readers joined.outcomes.items none e.served (e.whole whole) (all ∙ sym turned)
      at (omega (arith, low, many)) in
      let draws = place.serves.works in
      let first : Caller = newcomer t 0 no_marks in
      let inside : at < length (map reader_of joined.outcomes.items)
      = omega (arith, low, length-map joined.outcomes.items reader_of, e.whole whole, many) in
      let new : place.reader ≡ newcomer t (at + 1) no_marks
      = sym (place.was_reader first) ∙ reader_at _ _ _ joined e at first (omega (arith, low, many)) in
      let keys : place.reader.table.shape.keys ≡ plan.keys = ap (λ (r : Caller). r.table.shape.keys) new ∙ keys_are in
      let number : place.reader.number ≡ at + 1 = ap (λ (r : Caller). r.number) new in
      record {
        old = draws.old;
        new = draws.new;
        begins = draws.begins ∙ new;
        empty = draws.empty;
        generator = draws.generator;
        works = rw (place.told other) (rw (keys, place.made, number, place.faultless) at draws.works);
        all = account.reads at first inside ∙ ap (λ (r : Caller). r.mine) (place.is_reader first ∙ sym draws.ends);
      }

  -- all the writer's calls are those that the dataflow gained
  writes_all : entries_of account.history 0 ≡ e.flowed.gained.entries
  writes_all =
      account.writes ∙ e.flowed.gained.mine
      ∙ ap (λ (l : List Entry). l ++ e.flowed.gained.entries) (new_writer _ _ _ joined e)

  writer_keys : e.writer.table.shape.keys ≡ t.shape.keys
  writer_keys = ap (λ (c : Caller). c.table.shape.keys) e.opened.writes

  writes : Tells plan.keys (entries_of account.history 0) 0 (count_by is_fill account.history)
  writes =
      rw (writes_all, account.counts is_fill, writer_filled _ _ _ joined e, ← keys_are, ← writer_keys)
      e.flowed.gained.tells

  rounds : joined.flowed.fault ≡ None → joined.flowed.fills ≡ report.fills
      → (turns : ℕ) × (base : List ℕ) × Rounds 0 plan.keys turns (entries_of account.history 0) report.fills base
  rounds faultless fills =
      let number : e.writer.number ≡ 0 = ap (λ (c : Caller). c.number) e.opened.writes in
      rw writes_all (rw (number, writer_keys, keys_are, fills) at (e.flowed.rounds faultless))

  finds : joined.flowed.fault ≡ None → FindsRows (replicate plan.keys 0) account.history
  finds faultless =
      let told = e.flowed.rounds faultless in
      let obeys : Obeys (replicate t.shape.keys 0) (entries_of account.history 0)
      = rw (writes_all, ← writer_keys) (rounds_lead _ _ told.0 _ _ told.1 told.2).0 in
      rw (← keys_are)
      (finds_rows t.shape account.history (map_at_opening t) (replicate t.shape.keys 0)
      (omega (arith, ap (λ (s : Shape). s.rows) sizes)) (length-replicate t.shape.keys (Hole t.shape.first_number))
      (length-replicate t.shape.keys 0)
      (opens_with_base t) account.callers obeys account.legal)

  -- the numbers of a report of such a load are those of its one history
  pub comes : earliest None joined.outcomes.items ≡ None → joined.flowed.fault ≡ None
      → made_in joined.outcomes.items ≡ plan.readers * plan.gets
      → report.gets ≡ plan.readers * plan.gets → report.answered ≡ answered_in joined.outcomes.items
      → report.sends ≡ sends_in joined.outcomes.items
      → report.fills ≡ of_all is_fill joined.flowed.writer (map reader_of joined.outcomes.items)
      → joined.flowed.fills ≡ report.fills → report.sends ≡ report.fills + report.asked → ComesTo plan report
  comes none faultless all gets answered sends fills told balance = record {
    map = t;
    sizes = sizes;
    history = account.history;
    legal = account.legal;
    callers = account.callers;
    answers = map answered_of joined.outcomes.items;
    each = length-map joined.outcomes.items answered_of ∙ e.whole whole ∙ e.opened.count ∙ readers_are;
    works = makes_all none all;
    writes = writes;
    rounds = rounds faultless told;
    finds = finds faultless;
    gets = gets;
    answered = answered ∙ sym (total_answered joined.outcomes.items);
    few = omega (arith, gets, answered, few_answered t plan.seed plan.gets joined e plan.readers readers_are);
    sends = sends ∙ sym (all_sent t plan.seed plan.gets joined e) ∙ sym (account.counts is_sent);
    fills = fills ∙ sym (account.counts is_fill);
    asked = account.pends;
    balance = balance;
  }
