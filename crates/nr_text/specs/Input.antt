-- Input: the bytes that were read and not yet taken, and what taking a line does to them.
use Rattle.std.specs.Prelude.{ℕ, ◌≡◌, ◌+◌, ◌<◌, ◌≤◌, Bool, true, false, List, [], ◌∷◌, ◌++◌, length, take, drop, Option}
use Rattle.std.specs.Prelude.{Some, None, Result, Ok, Err}
use Rattle.std.specs.Io.KnownBytes.{prepend_known, Consumes, Keeps, IsAtEnd}
use Rattle.nr_text.specs.Lines.{HasNoFeed, line_feed}
use Rattle.nr_text.specs.declared.fault.RunFault.{RunFault}
use Rattle.nr_text.specs.declared.fault.RunFault.TheVariants as faults
use Rattle.nr_text.specs.declared.line.Line.{Line}
use Rattle.nr_text.specs.Limits.{longest_line}
use Rattle.nr_text.specs.declared.input.Input.{Input}
use Rattle.nr_text.specs.declared.input.TheConstants.{CHUNK}
use Rattle.nr_text.specs.declared.input.LineEnd.{LineEnd}
use Rattle.nr_text.specs.declared.input.LineEnd.TheVariants as ends

-- a line is kept: its bytes, or that it has more of them than a line may have
abbrev pub IsKeptLine : Bool → List ℕ → List ℕ → Type 0
IsKeptLine true kept bytes = longest_line < length bytes
IsKeptLine false kept bytes = kept ≡ bytes

abbrev pub StandsFor : Line → List ℕ → Type 0
StandsFor line bytes = IsKeptLine line.is_too_long (take line.len line.bytes) bytes

-- the bytes that were read and not yet taken
abbrev pub pending_bytes : Input → List ℕ
pending_bytes input = drop input.at (take input.filled input.chunk)

-- all that may still be taken: what is pending, and then what the reader has left
abbrev pub unread : Input → Option (List ℕ) → Option (List ℕ)
unread input left = prepend_known (pending_bytes input) left

-- how many bytes may still be taken before the input is too much
abbrev pub allowance : Input → ℕ
allowance input = length (pending_bytes input) + input.left

-- nothing is pending, and the reader is at its end
abbrev pub IsSpent : Input → Option (List ℕ) → Type 0
IsSpent input left = (pending_bytes input ≡ []) × IsAtEnd left

-- one more read of an input whose limit is reached: `true` never, `false` only at the end, too much only where a byte
-- came
abbrev pub Probes : Option (List ℕ) → Option (List ℕ) → Result Bool RunFault → Type 0
Probes had left (Ok true) = ⊥
Probes had left (Ok false) = Keeps had left × IsAtEnd left
Probes had left (Err faults.Read) = Keeps had left
Probes had left (Err faults.TooMuch) = (last : List ℕ) × (length last ≡ 1) × Consumes had left last
Probes had left (Err faults.Write) = ⊥
Probes had left (Err faults.Memory) = ⊥

-- one read behind all that is pending, by its answer: whether bytes came
abbrev pub Refills : Input → Input → Option (List ℕ) → Option (List ℕ) → Result Bool RunFault → Type 0
Refills old new had left (Ok true) =
    Keeps had (unread new left) × (allowance old ≡ allowance new) × (new.at ≡ 0) × (0 < new.filled)
    × (new.filled ≤ CHUNK)
Refills old new had left (Ok false) = Keeps had left × (allowance old ≡ allowance new) × IsSpent new left
Refills old new had left (Err faults.Read) = Keeps had left × (pending_bytes new ≡ [])
Refills old new had left (Err faults.TooMuch) =
    (last : List ℕ) × (length last ≡ 1) × Consumes had left last × (allowance old ≡ 0) × (pending_bytes new ≡ [])
Refills old new had left (Err faults.Write) = ⊥
Refills old new had left (Err faults.Memory) = ⊥

-- the bytes that went by a call for the next byte, by its answer
abbrev pub GivesByte : Input → Input → Option (List ℕ) → Result (Option ℕ) RunFault → List ℕ → Type 0
GivesByte old new left (Ok (Some b)) taken = (taken ≡ b ∷ []) × (allowance old ≡ allowance new + 1)
GivesByte old new left (Ok None) taken = (taken ≡ []) × (allowance old ≡ allowance new) × IsSpent new left
GivesByte old new left (Err faults.Read) taken = (taken ≡ []) × (pending_bytes new ≡ [])
GivesByte old new left (Err faults.TooMuch) taken = (length taken ≡ 1) × (allowance old ≡ 0) × (pending_bytes new ≡ [])
GivesByte old new left (Err faults.Write) taken = ⊥
GivesByte old new left (Err faults.Memory) taken = ⊥

-- a byte, or the end, is taken from the input
abbrev pub TakesByte : Input → Input → Option (List ℕ) → Option (List ℕ) → Result (Option ℕ) RunFault → Type 0
TakesByte old new had left result =
    (taken : List ℕ) × Consumes (unread old had) (unread new left) taken × GivesByte old new left result taken

-- the bytes that went by a call for the next line, by its answer
abbrev pub GivesLine : Input → Input → Option (List ℕ) → Line → Result LineEnd RunFault → List ℕ → Type 0
GivesLine old new left line (Ok ends.LineFeed) taken =
    (bytes : List ℕ) × HasNoFeed bytes × (taken ≡ bytes ++ line_feed ∷ []) × StandsFor line bytes
    × (allowance old ≡ allowance new + length taken)
GivesLine old new left line (Ok ends.InputEnd) taken =
    HasNoFeed taken × (0 < length taken) × StandsFor line taken × (allowance old ≡ allowance new + length taken)
    × IsSpent new left
GivesLine old new left line (Ok ends.NoLine) taken = (taken ≡ []) × (allowance old ≡ allowance new) × IsSpent new left
GivesLine old new left line (Err faults.Read) taken = HasNoFeed taken × (pending_bytes new ≡ [])
GivesLine old new left line (Err faults.TooMuch) taken =
    (bytes : List ℕ) × HasNoFeed bytes × (length bytes ≡ allowance old) × (last : List ℕ) × (length last ≡ 1)
    × (taken ≡ bytes ++ last) × (pending_bytes new ≡ [])
GivesLine old new left line (Err faults.Write) taken = ⊥
GivesLine old new left line (Err faults.Memory) taken = ⊥

-- a line, or the end, is taken from the input
abbrev pub TakesLine : Input → Input → Option (List ℕ) → Option (List ℕ) → Line → Result LineEnd RunFault → Type 0
TakesLine old new had left line result =
    (taken : List ℕ) × Consumes (unread old had) (unread new left) taken × GivesLine old new left line result taken
