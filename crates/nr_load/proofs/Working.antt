-- A worker's gets follow one another, and send no more requests than they have tries.
use Rattle.std.proofs.Common.{◌≡◌, ℕ, suc, ◌+◌, ◌≤◌, List, length, length-set, refl, sym, ap, ◌∙◌, subst, arith, Option}
use Rattle.std.proofs.Common.{None, Some, zero, ◌*◌, ◌<◌, [], ◌∷◌, ◌++◌}
use Rattle.std.proofs.Math.Nat.{mul-suc}
use Rattle.rand_pcg.specs.Lcg.{Lcg}
use Rattle.nr_model.specs.declared.rows.Row.{Row}
use Rattle.nr_model.specs.declared.calls.Reply.{Reply}
use Rattle.nr_model.specs.declared.calls.Reply.TheVariants as reply
use Rattle.nr_model.specs.Histories.{Entry}
use Rattle.nr_board.specs.Callers.{Caller}
use Rattle.nr_serve.specs.declared.hands.Hands.{Hands}
use Rattle.nr_serve.specs.declared.answers.Got.{Got}
use Rattle.nr_serve.specs.declared.answers.Got.TheVariants.{Rows, GaveUp, Barred}
use Rattle.nr_serve.specs.declared.answers.Got.TheVariants as got
use Rattle.nr_serve.specs.declared.answers.Requested.{Requested}
use Rattle.nr_serve.specs.declared.answers.Requested.TheVariants.{NotMade, Sent}
use Rattle.nr_serve.specs.Gets.{Ends, MayEnd, found, miss, misses, requested}
use Rattle.nr_load.specs.declared.fault.LoadFault.{LoadFault}
use Rattle.nr_load.specs.Drawn.{drawn, drawn_on}
use Rattle.nr_load.specs.Works.{GetsKey, Judged, Works, answers, of_gets}
use Rattle.nr_load.specs.Gained.{Gained, Tells}
use Rattle.nr_load.proofs.Gaining.{tells_ask, tells_both, tells_find, tells_none, gained_none, gained_then}

-- GETS THAT FOLLOW ONE ANOTHER
-- whatever gets follow, they go on these
abbrev pub Begins : ℕ → ℕ → ℕ → Lcg → ℕ → List ℕ → Hands → List ℕ → Hands → Lcg → Type 0
Begins tries keys made g answered known old known' now g' =
    (n a : ℕ) (fault : Option LoadFault) (end : Hands) (h : Lcg) → Works tries keys n known' g' now h end a fault
    → Works tries keys (made + n) known g old h end (answered + a) fault

-- what was begun stands for itself
pub ends : (tries keys made : ℕ) (g : Lcg) (answered : ℕ) (known : List ℕ) (old : Hands) (known' : List ℕ) (now : Hands)
    (g' : Lcg)
    → Begins tries keys made g answered known old known' now g'
    → Works tries keys made known g old g' now answered None
ends tries keys made g answered known old known' now g' begun =
    let m : made + 0 ≡ made = omega arith in
    let a : answered + 0 ≡ answered = omega arith in
    rw (m, a) at (begun 0 0 None now g' (refl, refl, refl, refl))

-- one get more
module _ (tries keys made : ℕ) (g : Lcg) (answered : ℕ) (known : List ℕ) (old : Hands) (known' : List ℕ)
    (now mid : Hands) (g' : Lcg) (got : Got) (rows : List Row) (known'' : List ℕ)
    (begun : Begins tries keys made g answered known old known' now g')
    (gets : GetsKey tries (drawn keys g') now mid got rows) where
  pub goes_on : Judged (drawn keys g') got rows known' known'' None
      → Begins tries keys (made + 1) g (answered + answers got) known old known'' mid (drawn_on g')
  goes_on judged n a fault end h w =
      let m : made + suc n ≡ made + 1 + n = omega arith in
      let b : answered + (answers got + a) ≡ answered + answers got + a = omega arith in
      rw (← m, ← b)
      (begun (suc n) (answers got + a) fault end h
      (got, mid, a, rows, None, fault, known'', gets, judged, refl, refl, w))

  -- a fault ends them
  pub ends_with : (fault : LoadFault) → Judged (drawn keys g') got rows known' known'' (Some fault)
      → Works tries keys (made + 1) known g old (drawn_on g') mid (answered + answers got) (Some fault)
  ends_with fault judged =
      let b : answered + (answers got + 0) ≡ answered + answers got = omega arith in
      rw (← b)
      (begun 1 (answers got + 0) (Some fault) mid (drawn_on g') (
        got,
        mid,
        0,
        rows,
        Some fault,
        None,
        known'',
        gets,
        judged,
        (refl, refl, refl),
        refl,
        (refl, refl, refl, refl),
      ))

pub answers_one : (got : Got) → answers got ≤ 1
answers_one Rows = omega arith
answers_one got = omega arith

-- what is known has a number for each key still
pub judged_long : (key : ℕ) (known : List ℕ) (got : Got) (rows : List Row) (told : Option LoadFault) (known' : List ℕ)
    → Judged key got rows known known' told → length known' ≡ length known
judged_long key known Rows rows None known' judged =
    ap (λ (l : List ℕ). length l) judged.3 ∙ length-set known key judged.0
judged_long key known got rows told known' judged = ap (λ (l : List ℕ). length l) judged.1

-- no get tells a want of memory
pub judged_told : (key : ℕ) (known : List ℕ) (got : Got) (rows : List Row) (fault : LoadFault) (known' : List ℕ)
    → Judged key got rows known known' (Some fault) → of_gets (Some fault) ≡ Some fault
judged_told key known Rows rows fault known' judged = rw judged.0
judged_told key known GaveUp rows fault known' judged = let is = judged.0 in absurd (cc)
judged_told key known Barred rows fault known' judged =
    subst (λ (it : Option LoadFault). of_gets it ≡ it) (sym judged.0) refl

-- THE REQUESTS THAT THEY SEND
-- at most that many requests that were to be sent, and no fill
record IsFew (keys : ℕ) (entries : List Entry) (most : ℕ) : Type 0 where
  pub count : ℕ
  pub low : count ≤ most
  pub tells : Tells keys entries count 0

few_find : (keys by key : ℕ) (answer : Reply) → key < keys → IsFew keys (found by key answer ∷ []) 0
few_find keys by key answer low = record { count = 0; low = omega arith; tells = tells_find keys by key answer low }

few_requested : (keys by key : ℕ) (request : Requested) → key < keys → IsFew keys (requested by key request) 1
few_requested keys by key NotMade low = record { count = 0; low = omega arith; tells = tells_none keys }
few_requested keys by key (Sent number) low =
    record { count = 1; low = omega arith; tells = tells_ask keys by key (reply.Send number) low }
few_requested keys by key request low = record { count = 0; low = omega arith; tells = tells_ask keys by key _ low }

few_both : (keys : ℕ) (es fs : List Entry) (m n most : ℕ) → m + n ≤ most → IsFew keys es m → IsFew keys fs n
    → IsFew keys (es ++ fs) most
few_both keys es fs m n most enough one two =
    record {
      count = one.count + two.count;
      low = omega (arith, enough, one.low, two.low);
      tells = tells_both keys es fs one.count 0 two.count 0 one.tells two.tells;
    }

few_misses : (keys by key : ℕ) (requests : List Requested) → key < keys
    → IsFew keys (misses by key requests) (length requests)
few_misses keys by key [] low = record { count = 0; low = omega arith; tells = tells_none keys }
few_misses keys by key (request ∷ requests) low =
    few_both keys (miss by key request) (misses by key requests) 1 (length requests) (length (request ∷ requests))
    (omega arith)
    (few_both keys (found by key reply.Hole ∷ []) (requested by key request) 0 1 1 (omega arith)
    (few_find keys by key reply.Hole low) (few_requested keys by key request low))
    (few_misses keys by key requests low)

-- a get ends within its tries, by a find or by nothing
few_last : (keys key tries : ℕ) (g : Got) (missed : ℕ) (between : Hands) (before : List Row) (last : List Entry)
    (new : Hands) (rows : List Row)
    → key < keys → MayEnd tries g missed → Ends key g between before last new rows
    → (missed ≤ tries) × IsFew keys last 0
few_last keys key tries got.Rows missed between before last new rows low few e = (
  omega (arith, few),
  rw e.0 (few_find keys between.reader.number key (reply.Rows rows) low),
)
few_last keys key tries got.GaveUp missed between before last new rows low few e = (
  omega (arith, few),
  rw e.0 (record { count = 0; low = omega arith; tells = tells_none keys }),
)
few_last keys key tries got.Barred missed between before last new rows low few e = (
  omega (arith, few),
  rw e.1 (few_find keys between.reader.number key (reply.Rows e.0) low),
)

-- of all that a caller did meanwhile
pub record GainedFew (keys : ℕ) (old new : Caller) (most : ℕ) : Type 0 where
  pub count : ℕ
  pub low : count ≤ most
  pub gained : Gained keys old new count 0

gets_few : (tries keys key : ℕ) (old : Hands) (g : Got) (rows : List Row) (new : Hands) → key < keys
    → GetsKey tries key old new g rows → GainedFew keys old.reader new.reader tries
gets_few tries keys key old g rows new near gets =
    let get = gets.gets in
    let by : ℕ = old.reader.number in
    let last
    = few_last keys key tries g (length get.requests) get.between gets.before get.last new rows near get.few
    get.ends in
    let all
    = few_both keys (misses by key get.requests) get.last (length get.requests) 0 tries (omega (arith, last.0))
    (few_misses keys by key get.requests near) last.1 in
    record {
      count = all.count;
      low = all.low;
      gained = record {
        table = get.moves.makes.table;
        number = get.moves.makes.number;
        entries = misses by key get.requests ++ get.last;
        mine = get.moves.makes.mine;
        tells = all.tells;
      };
    }

drawn_near : (keys : ℕ) (g : Lcg) → 0 < keys → drawn keys g < keys
unfolding drawn
drawn_near keys g some = omega arith

pub works_few : (tries keys made : ℕ) (g : Lcg) (answered : ℕ) (known : List ℕ) (fault : Option LoadFault)
    (old new : Hands) (g' : Lcg)
    → 0 < keys
    → Works tries keys made known g old g' new answered fault → GainedFew keys old.reader new.reader (tries * made)
works_few tries keys zero g answered known fault old new g' some w =
    record {
      count = 0;
      low = omega arith;
      gained = gained_none keys old.reader new.reader (ap (λ (hands : Hands). hands.reader) w.2);
    }
works_few tries keys (suc more) g answered known fault old new g' some w =
    let one = gets_few tries keys _ old w.0 w.3 w.1 (drawn_near keys g some) w.7 in
    let rest = works_few tries keys more (drawn_on g) w.2 w.6 w.5 w.1 new g' some w.11 in
    record {
      count = one.count + rest.count;
      low = omega (arith, one.low, rest.low, mul-suc tries more);
      gained = gained_then keys old.reader w.1.reader new.reader one.count 0 rest.count 0 one.gained rest.gained;
    }
