-- What a whole scan tells: each reader's word is loaded once, in order, and of a retired slot those readers are heard
-- that come before the first whose word says it.
use Rattle.std.specs.Prelude.{◌≡◌, ℕ, zero, suc, ◌<◌, ◌==◌, if◌then◌else◌, nat_lt, List, [], ◌∷◌, ◌++◌, length}
use Rattle.nr_core.specs.Roles.{retirements}
use Rattle.nr_core.specs.declared.places.Retired.{Retired}
use Rattle.nr_core.specs.Marks.{OfWord, LoggedLoad}

-- readers count from 1, their words from 0
abbrev pub word_load : ℕ → ℕ → LoggedLoad
word_load own word = OfWord (suc own) word

-- loads of the words of readers, one after the other from that one on
abbrev pub loads_of : ℕ → List ℕ → List LoggedLoad
loads_of own [] = []
loads_of own (word ∷ words) = word_load own word ∷ loads_of (suc own) words

-- how many words come before the first that says the slot
abbrev pub unsaid : ℕ → List ℕ → ℕ
unsaid slot [] = 0
unsaid slot (word ∷ words) = (if word == suc slot then 0 else suc (unsaid slot words))

-- of how many readers a slot is heard by these words; of one that isn't retired of none
abbrev pub heard_of : List Retired → List ℕ → ℕ → ℕ
heard_of retired words slot = (if nat_lt 0 (retirements slot retired) then unsaid slot words else 0)

-- so of that many slots from that one on
abbrev pub heard_by : List Retired → List ℕ → ℕ → ℕ → List ℕ
heard_by retired words slot zero = []
heard_by retired words slot (suc more) = heard_of retired words slot ∷ heard_by retired words (suc slot) more

-- so many words were loaded, which are all loads that were made, and tell what was heard
pub record WordsTell (readers : ℕ) (retired : List Retired) (slots : ℕ) (loads : List LoggedLoad)
    (heard : List ℕ) : Type 0 where
  pub words : List ℕ
  pub each : length words ≡ readers
  pub loads_are : loads ≡ loads_of 0 words
  pub tell : heard ≡ heard_by retired words 0 slots

-- so far: before the first load nothing is told
pub record WordsSoFar (readers : ℕ) (retired : List Retired) (slots : ℕ) (before now : List LoggedLoad)
    (heard : List ℕ) : Type 0 where
  pub words : List ℕ
  pub each : length words ≡ readers
  pub loads_are : now ≡ before ++ loads_of 0 words
  pub tell : 0 < readers → heard ≡ heard_by retired words 0 slots
