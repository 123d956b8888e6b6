-- What the threads of the workers give back.
use Rattle.std.specs.Prelude.{◌≡◌, ◌≤◌, ℕ, ◌*◌, List, [], ◌∷◌, Option, None, false, replicate}
use Rattle.std.specs.declared.thread.PromisedHandle.{PromisedHandle}
use Rattle.rand_pcg.specs.Lcg.{Lcg}
use Rattle.nr_core.specs.Sums.{total}
use Rattle.nr_board.specs.Callers.{Caller}
use Rattle.nr_serve.specs.declared.hands.Hands.{Hands}
use Rattle.nr_load.specs.declared.fault.LoadFault.{LoadFault}
use Rattle.nr_load.specs.declared.workers.Outcome.{Outcome}
use Rattle.nr_load.specs.declared.workers.Serving.{Serving}
use Rattle.nr_load.specs.Drawn.{stream_of}
use Rattle.nr_load.specs.Faults.{earlier}
use Rattle.nr_load.specs.Gained.{Gained}
use Rattle.nr_load.specs.Works.{Works, of_gets}

-- the gets of a reader, of the keys that its own generator drew
pub record DrawsItsOwn (seed : ℕ) (reader : Caller) (outcome : Outcome) : Type 0 where
  pub old : Hands
  pub new : Hands
  pub begins : old.reader ≡ reader
  pub empty : old.kept ≡ None
  pub ends : new.reader ≡ outcome.reader
  pub generator : Lcg
  pub works : Works 1000000 reader.table.shape.keys outcome.worked.made (replicate reader.table.shape.keys 0)
      (stream_of seed reader.number) old generator new outcome.worked.answered (of_gets outcome.worked.fault)

-- what a worker says of the reader that it was given
pub record Serves (seed gets : ℕ) (reader : Caller) (outcome : Outcome) : Type 0 where
  pub works : DrawsItsOwn seed reader outcome
  pub gained : Gained reader.table.shape.keys reader outcome.reader outcome.sends 0
  pub few : outcome.sends ≤ 1000000 * gets
  pub made : outcome.worked.made ≤ gets
  pub answered : outcome.worked.answered ≤ gets
  pub all : outcome.worked.stopped ≡ false → outcome.worked.fault ≡ None → outcome.worked.made ≡ gets

-- the first readers have their outcomes, in order
abbrev pub ServesFirst : ℕ → ℕ → List Caller → List Outcome → Type 0
ServesFirst seed gets readers [] = Unit {0}
ServesFirst seed gets [] (outcome ∷ outcomes) = ⊥
ServesFirst seed gets (reader ∷ readers) (outcome ∷ outcomes) =
    Serves seed gets reader outcome × ServesFirst seed gets readers outcomes

-- the handle carries the promise of that reader's worker
abbrev pub Carries : ℕ → ℕ → Caller → PromisedHandle Outcome Serving → Type 0
Carries seed gets reader handle =
    (handle.promise.seed ≡ seed) × (handle.promise.gets ≡ gets) × (handle.promise.reader.value ≡ reader)

-- the first readers have their handles, in order
abbrev pub CarriesFirst : ℕ → ℕ → List Caller → List (PromisedHandle Outcome Serving) → Type 0
CarriesFirst seed gets readers [] = Unit {0}
CarriesFirst seed gets [] (handle ∷ handles) = ⊥
CarriesFirst seed gets (reader ∷ readers) (handle ∷ handles) =
    Carries seed gets reader handle × CarriesFirst seed gets readers handles

-- each handle was joined, and its promise is kept, in order
abbrev pub KeptBy : List (PromisedHandle Outcome Serving) → List Outcome → Type 0
KeptBy [] [] = Unit {0}
KeptBy [] (outcome ∷ outcomes) = ⊥
KeptBy (handle ∷ handles) [] = ⊥
KeptBy (handle ∷ handles) (outcome ∷ outcomes) =
    Serves handle.promise.seed handle.promise.gets handle.promise.reader.value outcome × KeptBy handles outcomes

abbrev pub reader_of : Outcome → Caller
reader_of outcome = outcome.reader

abbrev pub sends_in : List Outcome → ℕ
sends_in = total (λ outcome. outcome.sends)

abbrev pub made_in : List Outcome → ℕ
made_in = total (λ outcome. outcome.worked.made)

abbrev pub answered_in : List Outcome → ℕ
answered_in = total (λ outcome. outcome.worked.answered)

-- of that fault and those of the outcomes the first named
abbrev pub earliest : Option LoadFault → List Outcome → Option LoadFault
earliest fault [] = fault
earliest fault (outcome ∷ outcomes) = earliest (earlier fault outcome.worked.fault) outcomes
