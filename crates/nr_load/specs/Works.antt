-- A worker's gets, in order.
use Rattle.std.specs.Prelude.{◌≡◌, ◌≤◌, ℕ, zero, suc, ◌+◌, List, [], ◌∷◌, slice_index, slice_set, Option, None, Some}
use Rattle.nr_model.specs.declared.rows.Row.{Row}
use Rattle.rand_pcg.specs.Lcg.{Lcg}
use Rattle.nr_serve.specs.declared.answers.Got.{Got}
use Rattle.nr_serve.specs.declared.answers.Got.TheVariants.{Rows, GaveUp, Barred}
use Rattle.nr_serve.specs.declared.hands.Hands.{Hands}
use Rattle.nr_serve.specs.Gets.{Gets}
use Rattle.nr_load.specs.declared.fault.LoadFault.{LoadFault}
use Rattle.nr_load.specs.declared.fault.LoadFault.TheVariants as faults
use Rattle.nr_load.specs.Base.{row_of}
use Rattle.nr_load.specs.Drawn.{drawn, drawn_on}

abbrev pub answers : Got → ℕ
answers Rows = 1
answers GaveUp = 0
answers Barred = 0

-- rows that are news: the one row of the key, not below what was known of it; from then on that is known
abbrev pub AreNews : ℕ → List Row → List ℕ → List ℕ → Type 0
AreNews key rows known known' =
    (x : ℕ) × (rows ≡ row_of key x ∷ []) × (slice_index known key ≤ x) × (known' ≡ slice_set known key x)

-- what is told of a get, by how it ended and its rows
abbrev pub Judged : ℕ → Got → List Row → List ℕ → List ℕ → Option LoadFault → Type 0
Judged key Rows rows known known' None = AreNews key rows known known'
Judged key Rows rows known known' (Some fault) =
    (fault ≡ faults.WrongRows) × (known' ≡ known) × ((later : List ℕ) → AreNews key rows known later → ⊥)
Judged key GaveUp rows known known' fault = (fault ≡ None) × (known' ≡ known)
Judged key Barred rows known known' fault = (fault ≡ Some faults.Barred) × (known' ≡ known)

-- one get of the key, which left these rows
pub record GetsKey (tries key : ℕ) (old new : Hands) (got : Got) (rows : List Row) : Type 0 where
  pub before : List Row
  pub gets : Gets key tries old before new rows got

-- the fault of all gets is that of this one, which is the last then, or that of the others
abbrev pub TellsOne : Option LoadFault → Option LoadFault → Option LoadFault → ℕ → Type 0
TellsOne None others all more = all ≡ others
TellsOne (Some fault) others all more = (all ≡ Some fault) × (others ≡ None) × (more ≡ 0)

-- a get of each of the next that many drawn keys, in order, and nothing else; that many were answered with rows, and a
-- fault of one was told, which is the last
abbrev pub Works : (tries keys made : ℕ) → List ℕ → Lcg → Hands → Lcg → Hands → (answered : ℕ) → Option LoadFault
    → Type 0
Works tries keys zero known generator old generator' new answered fault =
    (answered ≡ 0) × (fault ≡ None) × (new ≡ old) × (generator' ≡ generator)
Works tries keys (suc more) known generator old generator' new answered fault =
    (got : Got) × (mid : Hands) × (rest : ℕ) × (rows : List Row) × (told : Option LoadFault)
    × (others : Option LoadFault) × (known' : List ℕ)
    × GetsKey tries (drawn keys generator) old mid got rows
    × Judged (drawn keys generator) got rows known known' told
    × TellsOne told others fault more
    × (answered ≡ answers got + rest)
    × Works tries keys more known' (drawn_on generator) mid generator' new rest others

-- the fault of a worker's gets, where it isn't the want of memory before them
abbrev pub of_gets : Option LoadFault → Option LoadFault
of_gets None = None
of_gets (Some faults.Memory) = None
of_gets (Some faults.Thread) = Some faults.Thread
of_gets (Some faults.Barred) = Some faults.Barred
of_gets (Some faults.WrongRows) = Some faults.WrongRows
