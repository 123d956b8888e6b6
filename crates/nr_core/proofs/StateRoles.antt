-- The roles of a state's callers: the writer first, then the readers, who know the set that they found beside what they
-- hold.
use Rattle.std.proofs.Common.{Bool, List, [], ap, append-nil, arith, cond, eq-eqb, get_or, get_or-set_other, sym, ◌-◌}
use Rattle.std.proofs.Common.{get_or-set_same, length, length-set, ne_eqb, refl, set, subst, suc, ℕ, ◌++◌, ◌+◌, ◌<◌}
use Rattle.std.proofs.Common.{◌∙◌, ◌∷◌, ◌≡◌, ◌≢◌, ◌≤◌, nat_eq}
use Rattle.std.specs.Prelude.{None, Some}
use lib.ListN.{get_elem?}
use mathlib.Core.Logic.{dite}
use mathlib.Core.Option.{some, some-injective}
use native.Mathlib.Decide.{ℕ_discrete}
use Rattle.nr_model.specs.Histories.{Entry, entries_of}
use Rattle.nr_model.specs.declared.calls.Call.{Call}
use Rattle.nr_model.specs.declared.calls.Reply.{Reply}
use Rattle.nr_model.specs.declared.rows.Row.{Row}
use Rattle.nr_core.proofs.Histories.{of-append}
use Rattle.nr_core.proofs.Sums.{at_set, here_after}
use Rattle.nr_core.specs.Accounts.{on}
use Rattle.nr_core.specs.Core.{Core}
use Rattle.nr_core.specs.Roles.{grips, held, holds, keeps}
use Rattle.nr_core.specs.States.{State}
use Rattle.nr_core.specs.Story.{entry}
use Rattle.nr_core.specs.Sums.{total}
use Rattle.nr_core.specs.declared.places.Hold.{Hold}
use Rattle.nr_core.specs.declared.roles.Desk.{Desk}
use Rattle.nr_core.specs.declared.roles.Grip.{Grip}
use Rattle.nr_core.specs.declared.roles.Grip.TheVariants.{Nothing, On}
use Rattle.nr_core.specs.declared.roles.Role.{Role}
use Rattle.nr_core.specs.declared.roles.Role.TheVariants.{Reader, Writer}
use Rattle.nr_core.proofs.ListPlaces.{set_other}
use Rattle.nr_core.specs.declared.operation.Operation.{Operation}
use Rattle.nr_core.proofs.Holders.{same_grip}
use Rattle.nr_core.specs.declared.places.Hold.TheVariants as hold
use Rattle.nr_model.specs.declared.calls.Call.TheVariants as model
use Rattle.nr_model.specs.declared.calls.Reply.TheVariants as reply

abbrev pub erased : Grip → Hold
erased Nothing = hold.Nothing
erased (On s rows b) = hold.On s (cond b (Some (length rows)) None)

pub record Fit (n : ℕ) (roles : List Role) (holds : List Hold) (desk : Desk) : Type 0 where
  pub size : length holds ≡ n
  pub callers : length roles ≡ suc n
  pub writer : get_elem? roles 0 ≡ some (Writer desk)
  pub readers : (i : ℕ) → i < n
      → (x : Grip) × (get_elem? roles (suc i) ≡ some (Reader (suc i) x)) × (get_or holds i hold.Nothing ≡ erased x)

-- the reader of that number and what it holds
pub reader_of : {n : ℕ} {roles : List Role} {holds : List Hold} {desk : Desk} → Fit n roles holds desk → (r : ℕ)
    → 0 < r → r ≤ n
    → (x : Grip) × (get_elem? roles r ≡ some (Reader r x)) × (get_or holds (r - 1) hold.Nothing ≡ erased x)
reader_of {roles = roles} f r low high =
    let number : suc (r - 1) ≡ r = omega arith in
    let o = f.readers (r - 1) (omega arith) in
    (o.0, subst (λ (c : ℕ). get_elem? roles c ≡ some (Reader c o.0)) number o.1, o.2)

pub fit_reader : (n : ℕ) (roles : List Role) (holds : List Hold) (desk : Desk) → Fit n roles holds desk → (i : ℕ)
    → i < n → (x : Grip) (y : Hold) → y ≡ erased x → Fit n (set roles (suc i) (Reader (suc i) x)) (set holds i y) desk
fit_reader n roles holds desk f i near x y e = let size = f.size in let callers = f.callers in record {
  size = length-set holds i y ∙ f.size;
  callers = length-set roles (suc i) (Reader (suc i) x) ∙ f.callers;
  writer = set_other roles (suc i) 0 (Reader (suc i) x) (Writer desk) (λ z. omega arith) f.writer;
  readers = λ j low. dite (ℕ_discrete j i)
      (λ same. (
        x,
        rw same (let o = f.readers i near in here_after roles (suc i) (Reader (suc i) o.0) (Reader (suc i) x) o.1),
        cc (get_or-set_same holds i y hold.Nothing (omega arith)),
      ))
      (λ ne.
      let o = f.readers j low in (
        o.0,
        set_other roles (suc i) (suc j) (Reader (suc i) x) (Reader (suc j) o.0) (λ z. ne (omega arith)) o.1,
        get_or-set_other holds i j y hold.Nothing ne ∙ o.2,
      ));
}

pub fit_writer : (n : ℕ) (roles : List Role) (holds : List Hold) (desk desk' : Desk) → Fit n roles holds desk
    → Fit n (set roles 0 (Writer desk')) holds desk'
fit_writer n roles holds desk desk' f = let callers = f.callers in record {
  size = f.size;
  callers = length-set roles 0 (Writer desk') ∙ f.callers;
  writer = here_after roles 0 (Writer desk) (Writer desk') f.writer;
  readers = λ j low.
      let o = f.readers j low in
      (o.0, set_other roles 0 (suc j) (Writer desk') (Reader (suc j) o.0) (λ z. omega arith) o.1, o.2);
}

-- the caller's last call is a find of this set
abbrev pub Found : List Entry → ℕ → List Row → Type 0
Found log c rows =
    (k : ℕ) × (before : List Entry) × (entries_of log c ≡ before ++ entry c (model.Find k) (reply.Rows rows) ∷ [])

abbrev pub AllFound : List Role → List Entry → Type 0
AllFound roles log =
    (j s : ℕ) (rows : List Row) (b : Bool) → get_elem? roles (suc j) ≡ some (Reader (suc j) (On s rows b))
    → Found log (suc j) rows

pub record IsCoreState (state : State) (log : List Entry) : Type 0 where
  pub roles : List Role
  pub core : Core state.shape state.words roles log
  pub fit : Fit state.shape.readers roles state.holds state.desk
  pub found : AllFound roles log

pub found_quiet : (log es : List Entry) (c : ℕ) (rows : List Row) → entries_of es c ≡ [] → Found log c rows
    → Found (log ++ es) c rows
found_quiet log es c rows none f = search (arith, f.0, f.1, of-append, append-nil, f.2)

pub no_grip : (s : ℕ) (rows : List Row) (b : Bool) → Nothing ≡ On s rows b → ⊥
no_grip s rows b e = cc

pub same_rows : (s t : ℕ) (rows m : List Row) (b b' : Bool) → On s rows b ≡ On t m b' → rows ≡ m
same_rows s t rows m b b' e = cc

-- a role that changes at one place
pub found_set : (roles : List Role) (log es : List Entry) (i : ℕ) (x : Grip) → AllFound roles log
    → ((j : ℕ) → j ≢ i → entries_of es (suc j) ≡ [])
    → ((s : ℕ) (rows : List Row) (b : Bool) → x ≡ On s rows b → Found (log ++ es) (suc i) rows)
    → AllFound (set roles (suc i) (Reader (suc i) x)) (log ++ es)
found_set roles log es i x all quiet own j s rows b e = search (arith, same_grip, found_quiet, at_set)

pub found_writer : (roles : List Role) (log es : List Entry) (desk : Desk) → AllFound roles log
    → ((c : ℕ) → entries_of es c ≡ cond (nat_eq 0 c) es []) → AllFound (set roles 0 (Writer desk)) (log ++ es)
found_writer roles log es desk all own j s rows b e = search (arith, found_quiet, ne_eqb, at_set)

-- the set that a reader found last
pub found_of : (state : State) (log : List Entry) (is_core : IsCoreState state log) (r : ℕ) → 0 < r → (s : ℕ)
    (rows : List Row) (b : Bool)
    → get_elem? is_core.roles r ≡ some (Reader r (On s rows b)) → Found log r rows
found_of state log is_core r low s rows b there =
    let number : suc (r - 1) ≡ r = omega arith in
    subst (λ (c : ℕ). Found log c rows) number
    (is_core.found (r - 1) s rows b
    (subst (λ (c : ℕ). get_elem? is_core.roles c ≡ some (Reader c (On s rows b))) (sym number) there))

-- a reader's event leads to such a state, if the reader's hold and the set that it found are its role's
pub after_reader : (state : State) (log : List Entry) (is_core : IsCoreState state log) (r : ℕ) → 0 < r
    → r ≤ state.shape.readers
    → (words : List ℕ) (holds : List Hold) (made : List Operation) (x : Grip) (y : Hold)
    → holds ≡ set state.holds (r - 1) y → y ≡ erased x → (es : List Entry)
    → Core state.shape words (set is_core.roles r (Reader r x)) (log ++ es)
    → ((c : ℕ) → r ≢ c → entries_of es c ≡ [])
    → ((s : ℕ) (rows : List Row) (b : Bool) → x ≡ On s rows b → Found (log ++ es) r rows)
    → IsCoreState (record { shape = state.shape; words = words; holds = holds; desk = state.desk; made = made })
    (log ++ es)
after_reader state log is_core r low high words holds made x y holds_so is es core quiet own =
    let roles = is_core.roles in let i : ℕ = r - 1 in let number : suc i ≡ r = omega arith in record {
      roles = set roles r (Reader r x);
      core = core;
      fit =
          rw holds_so
          (subst (λ (c : ℕ). Fit state.shape.readers (set roles c (Reader c x)) (set state.holds i y) state.desk) number
          (fit_reader state.shape.readers roles state.holds state.desk is_core.fit i (omega arith) x y is));
      found =
          subst (λ (c : ℕ). AllFound (set roles c (Reader c x)) (log ++ es)) number
          (found_set roles log es i x is_core.found (λ j ne. quiet (suc j) (λ z. ne (omega arith)))
          (λ s rows b e. subst (λ (c : ℕ). Found (log ++ es) c rows) (sym number) (own s rows b e)));
    }

pub one_other : (c n : ℕ) (call : Call) (y : Reply) → c ≢ n → entries_of (entry c call y ∷ []) n ≡ []
one_other c n call y ne = ap (λ b. cond {A = List Entry} b (entry c call y ∷ []) []) (ne_eqb c n ne)

pub one_same : (c n : ℕ) (call : Call) (y : Reply) → c ≡ n → entries_of (entry c call y ∷ []) n ≡ entry c call y ∷ []
one_same c n call y e = ap (λ b. cond {A = List Entry} b (entry c call y ∷ []) []) (eq-eqb c n e)

pub found_now : (log : List Entry) (c k : ℕ) (rows : List Row)
    → Found (log ++ entry c (model.Find k) (reply.Rows rows) ∷ []) c rows
found_now log c k rows = let e = entry c (model.Find k) (reply.Rows rows) in (
  k,
  entries_of log c,
  cc (of-append c log (e ∷ []), one_same c c (model.Find k) (reply.Rows rows) refl),
)

weights : (s : ℕ) (rest : List Role) (l : List Hold) (i : ℕ) → length rest ≡ length l
    → ((j : ℕ) → j < length l
    → (x : Grip) × (get_elem? rest j ≡ some (Reader (suc (i + j)) x)) × (get_or l j hold.Nothing ≡ erased x))
    → (total (holds s) rest ≡ total (on s) l) × (total (keeps s) rest ≡ 0)
weights s [] [] i size at_each = (refl, refl)
weights s [] (y ∷ l) i size at_each = absurd (omega arith)
weights s (u ∷ rest) [] i size at_each = absurd (omega arith)
weights s (u ∷ rest) (y ∷ l) i size at_each =
    let o = at_each 0 (omega arith) in
    let role : u ≡ Reader (suc (i + 0)) o.0 = some-injective u (Reader (suc (i + 0)) o.0) o.1 in
    let more
    = weights s rest l (suc i) (omega arith)
    (λ j low.
    let p = at_each (suc j) (omega arith) in
    (p.0, p.1 ∙ ap (λ (c : ℕ). some (Reader (suc c) p.0)) (omega arith), p.2)) in
    (omega (arith, more.0, ap (holds s) role, ap (on s) o.2, same_weight o.0), omega (arith, more.1, ap (keeps s) role))
  where
    same_weight : (x : Grip) → grips s x ≡ on s (erased x)
    same_weight Nothing = refl
    same_weight (On t rows b) = refl

pub state_sums : (state : State) (roles : List Role) → Fit state.shape.readers roles state.holds state.desk → (s : ℕ)
    → (held roles s ≡ total (on s) state.holds) × (total (keeps s) roles ≡ keeps s (Writer state.desk))
state_sums state roles f s = go roles f.callers f.writer f.readers
  where
    go : (l : List Role) → length l ≡ suc state.shape.readers → get_elem? l 0 ≡ some (Writer state.desk)
        → ((i : ℕ) → i < state.shape.readers → (x : Grip) × (get_elem? l (suc i) ≡ some (Reader (suc i) x))
        × (get_or state.holds i hold.Nothing ≡ erased x))
        → (held l s ≡ total (on s) state.holds) × (total (keeps s) l ≡ keeps s (Writer state.desk))
    go [] size w r = absurd (omega arith)
    go (u ∷ rest) size w r =
        let role : u ≡ Writer state.desk = some-injective u (Writer state.desk) w in
        let t
        = weights s rest state.holds 0 (omega arith)
        (λ j low.
        let o = r j (omega arith) in
        (o.0, o.1 ∙ ap (λ (c : ℕ). some (Reader (suc c) o.0)) (omega arith), o.2)) in
        (omega (arith, t.0, ap (holds s) role), omega (arith, t.1, ap (keeps s) role))
