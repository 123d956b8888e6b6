-- Output: what a loop of writes adds to what a writer holds.
use Rattle.std.specs.Prelude.{ℕ, ◌≡◌, ◌<◌, List, [], ◌∷◌, ◌++◌, length, Option, Result, Ok, Err, MatchResult}
use Rattle.std.specs.Io.KnownBytes.{Appends}
use Rattle.nr_text.specs.Lines.{line_feed}
use Rattle.nr_text.specs.declared.fault.RunFault.{RunFault}
use Rattle.nr_text.specs.declared.fault.RunFault.TheVariants as faults

-- a beginning of all, with something missing
abbrev pub IsCutShort : List ℕ → List ℕ → Type 0
IsCutShort all front = (rest : List ℕ) × (all ≡ front ++ rest) × (0 < length rest)

-- some of the bytes from their beginning are added, and not all
abbrev pub AppendsSome : Option (List ℕ) → Option (List ℕ) → List ℕ → Type 0
AppendsSome held holds bytes = (sent : List ℕ) × IsCutShort bytes sent × Appends held holds sent

-- the bytes are added: all of them on `Ok`, else some, by a fault of the writer
abbrev pub Sends : {X : Type 0} → Option (List ℕ) → Option (List ℕ) → List ℕ → Result X RunFault → Type 0
Sends held holds bytes result =
    MatchResult result (λ _. Appends held holds bytes) (λ fault. (fault ≡ faults.Write) × AppendsSome held holds bytes)

-- The reply and a line feed are added: all of it on `Ok`, some by a fault of the writer, nothing where memory is
-- refused.
abbrev pub SendsReply : {X : Type 0} → Option (List ℕ) → Option (List ℕ) → List ℕ → Result X RunFault → Type 0
SendsReply held holds reply (Ok _) = Appends held holds (reply ++ line_feed ∷ [])
SendsReply held holds reply (Err faults.Write) = AppendsSome held holds (reply ++ line_feed ∷ [])
SendsReply held holds reply (Err faults.Memory) = holds ≡ held
SendsReply held holds reply (Err faults.Read) = ⊥
SendsReply held holds reply (Err faults.TooMuch) = ⊥
