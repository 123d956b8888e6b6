-- The steps of a token, put together.
use Rattle.std.proofs.Common.{◌≡◌, ℕ, ◌+◌, List, [], ◌++◌, sym, ap, ◌∙◌, subst, refl, arith, append_assoc, append-nil}
use Rattle.atomic_table.specs.Seated.{TableId}
use Rattle.atomic_table.specs.declared.shared.Seat.{Seat}
use Rattle.nr_model.specs.Histories.{Entry, IsLegal, entries_of}
use Rattle.nr_board.specs.Callers.{Caller, Grows, IsSound, Rests, Table, caller_of, map_at_opening, token}
use Rattle.nr_board.specs.Plays.{Advances, Waits}
use Rattle.nr_board.specs.Rule.{StartsWith}
use Rattle.nr_board.specs.Entries.{AreCallers}
use Rattle.nr_board.specs.Views.{View}

abbrev pub MapSeat : Type 0
MapSeat = Seat (Unit {0}) View

-- what a play tells of a seat's views, it tells of the token
pub seat_grows : (before after : MapSeat) (entries : List Entry) → after.table_id ≡ before.table_id
    → Advances entries before.me.0 after.me.0 → Grows 1 entries (token before) (token after)
seat_grows before after entries same advances = rw same (advances before.table_id)

pub seat_rests : (before after : MapSeat) → after.table_id ≡ before.table_id → Waits before.me.0 after.me.0
    → Rests 1 (token before) (token after)
seat_rests before after same waits =
    subst (λ (id : TableId). Rests 1 (token before) (caller_of id after.me.0)) (sym same) (waits before.table_id)

pub rests_none : (caller : Caller) → Rests 0 caller caller
rests_none caller = let same : caller.steps ≡ caller.steps + 0 = omega arith in assumption

pub rests_both : (m n sum : ℕ) (a b c : Caller) → sum ≡ m + n → Rests m a b → Rests n b c → Rests sum a c
rests_both m n sum a b c is first then = record {
  table = then.table ∙ first.table;
  number = then.number ∙ first.number;
  seen = then.seen ∙ first.seen;
  mine = then.mine ∙ first.mine;
  steps_made = omega (arith, first.steps_made, then.steps_made);
  pasts = then.pasts ∙ first.pasts;
  loaded_ahead = then.loaded_ahead ∙ first.loaded_ahead;
}

pub grows_rests : (m n sum : ℕ) (a : Caller) (entries : List Entry) (b c : Caller) → sum ≡ m + n → Grows m entries a b
    → Rests n b c → Grows sum entries a c
grows_rests m n sum a entries b c is first then = record {
  table = then.table ∙ first.table;
  number = then.number ∙ first.number;
  between = first.between;
  seen = then.seen ∙ first.seen;
  mine = then.mine ∙ first.mine;
  legal = subst (IsLegal (map_at_opening a.table)) (sym then.seen) first.legal;
  own = (λ j. entries_of (then.seen j) (then.number j)) ∙ first.own ∙ sym then.mine;
  callers = subst (AreCallers a.table.shape) (sym then.seen) first.callers;
  steps_made = omega (arith, first.steps_made, then.steps_made);
  pasts = then.pasts ∙ first.pasts;
  loaded_ahead = then.loaded_ahead ∙ first.loaded_ahead;
}

pub grows_both : {m n sum : ℕ} {a b : Caller} {entries : List Entry} {c : Caller} → sum ≡ m + n → Grows m [] a b
    → Grows n entries b c → Grows sum entries a c
grows_both {a = a} {entries = entries} {c = c} is first then = record {
  table = then.table ∙ first.table;
  number = then.number ∙ first.number;
  between = first.between ++ then.between;
  seen =
      then.seen
      ∙ ap (λ (l : List Entry). (l ++ then.between) ++ entries) (first.seen ∙ append-nil (a.seen ++ first.between))
      ∙ ap (λ (l : List Entry). l ++ entries) (append_assoc a.seen first.between then.between);
  mine = then.mine ∙ ap (λ (l : List Entry). l ++ entries) (first.mine ∙ append-nil a.mine);
  legal = subst (λ (t : Table). IsLegal (map_at_opening t) c.seen) first.table then.legal;
  own = then.own;
  callers = subst (λ (t : Table). AreCallers t.shape c.seen) first.table then.callers;
  steps_made = omega (arith, first.steps_made, then.steps_made);
  pasts = then.pasts ∙ first.pasts;
  loaded_ahead = then.loaded_ahead ∙ first.loaded_ahead;
}

-- no step, where what is known is legal
pub grows_none : {caller : Caller} → IsSound caller → Grows 0 [] caller caller
grows_none {caller = caller} knows = record {
  table = refl;
  number = refl;
  between = [];
  seen = sym (append-nil (caller.seen ++ []) ∙ append-nil caller.seen);
  mine = sym (append-nil caller.mine);
  legal = knows.legal;
  own = knows.own;
  callers = knows.callers;
  steps_made = omega arith;
  pasts = refl;
  loaded_ahead = refl;
}

-- what grew begins with what it was
pub grows_from : {steps : ℕ} {old : Caller} {entries : List Entry} {new : Caller} → Grows steps entries old new
    → StartsWith new.seen old.seen
grows_from {old = old} {entries = entries} grows =
    record { rest = grows.between ++ entries; is = grows.seen ∙ append_assoc old.seen grows.between entries }

-- what begins a beginning of a history begins the history, and a longer one
pub starts_through : {first mid last : List Entry} → StartsWith mid first → StartsWith last mid → StartsWith last first
starts_through {first = first} begun more = record {
  rest = begun.rest ++ more.rest;
  is = more.is ∙ ap (λ (l : List Entry). l ++ more.rest) begun.is ∙ append_assoc first begun.rest more.rest;
}

pub starts_more : {log seen : List Entry} → StartsWith log seen → (entries : List Entry)
    → StartsWith (log ++ entries) seen
starts_more begins entries = starts_through begins (record { rest = entries; is = refl })
