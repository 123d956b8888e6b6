-- Put numbers of a history that grows by an entry.
use Rattle.std.proofs.Common.{List, [], ap, append-nil, arith, cond, false, nat_eq, ℕ, ◌++◌, ◌+◌, ◌∙◌, ◌∷◌, ◌≡◌, ◌≤◌}
use Rattle.std.proofs.Common.{subst, sym}
use Rattle.std.specs.Prelude.{◌&&◌}
use Rattle.nr_model.specs.Histories.{Entry, is_done}
use Rattle.nr_model.specs.Maps.{call_key}
use Rattle.nr_core.proofs.Sums.{total-append}
use Rattle.nr_core.specs.Puts.{put_count, put_from, put_number, puts_at, puts_set}

put-append : (key next last : ℕ) (es fs : List Entry)
    → put_from key next last (es ++ fs) ≡ put_from key (next + put_count es) (put_from key next last es) fs
put-append key next last [] fs = let same : next ≡ next + 0 = omega arith in ap (λ (y : ℕ). put_from key y last fs) same
put-append key next last (e ∷ es) fs = let a : ℕ = puts_set e in let q : ℕ = cond (puts_at key e) next last in
    let same : next + a + put_count es ≡ next + (a + put_count es) = omega arith in
    put-append key (next + a) q es fs ∙ ap (λ (y : ℕ). put_from key y (put_from key (next + a) q es) fs) same

pub put_more : (log : List Entry) (e : Entry) (key : ℕ)
    → put_number (log ++ e ∷ []) key ≡ cond (puts_at key e) (put_count log) (put_number log key)
put_more log e key = search (arith, put-append)

pub count_more : (log : List Entry) (e : Entry) → put_count (log ++ e ∷ []) ≡ put_count log + puts_set e
count_more log e = let t = total-append puts_set log (e ∷ []) in omega arith

-- a history that goes on has put no fewer
pub count_grows : (log more : List Entry) → put_count log ≤ put_count (log ++ more)
count_grows log more = let t = total-append puts_set log more in omega arith

-- an entry that puts nothing
pub quiet_number : (log : List Entry) (e : Entry) (key : ℕ) → is_done e.reply ≡ false
    → put_number (log ++ e ∷ []) key ≡ put_number log key
quiet_number log e key z =
    put_more log e key ∙ ap (λ b. cond (b && nat_eq (call_key e.call) key) (put_count log) (put_number log key)) z

pub quiet_count : (log : List Entry) (e : Entry) → is_done e.reply ≡ false → put_count (log ++ e ∷ []) ≡ put_count log
quiet_count log e z =
    omega (arith, count_more log e, ap (λ b. cond {A = ℕ} b 1 0) z)

pub nil_number : (log : List Entry) (key : ℕ) → put_number (log ++ []) key ≡ put_number log key
nil_number log key = ap (λ l. put_number l key) (append-nil log)

pub nil_count : (log : List Entry) → put_count (log ++ []) ≡ put_count log
nil_count log = ap put_count (append-nil log)

-- a step that puts nothing leaves the put numbers
abbrev pub QuietEnd : List Entry → List Entry → Type 0
QuietEnd log entries =
    ((k : ℕ) → put_number (log ++ entries) k ≡ put_number log k) × (put_count (log ++ entries) ≡ put_count log)

pub nothing_ends : (log : List Entry) → QuietEnd log []
nothing_ends log = (nil_number log, nil_count log)

pub none_end : (log entries : List Entry) → entries ≡ [] → QuietEnd log entries
none_end log entries none = subst (QuietEnd log) (sym none) (nothing_ends log)

pub one_ends : (log entries : List Entry) (e : Entry) → entries ≡ e ∷ [] → is_done e.reply ≡ false
    → QuietEnd log entries
one_ends log entries e is quiet =
    subst (QuietEnd log) (sym is) ((λ k. quiet_number log e k quiet), quiet_count log e quiet)
