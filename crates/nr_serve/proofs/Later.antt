-- What a guest knows stays so.
use Rattle.std.proofs.Common.{◌≡◌, ◌≢◌, ◌≤◌, ◌+◌, ℕ, List, [], ◌++◌, arith, append_assoc, append-nil, slice_index}
use Rattle.nr_serve.specs.Counts.{GuestSeen, IsLaterOf, OnlyLooks, Raises, closed_at}
use Rattle.nr_serve.specs.Hands.{last_count}

pub later_both : (a b c : GuestSeen) → IsLaterOf a b → IsLaterOf b c → IsLaterOf a c
later_both a b c one two = grind arith

pub looks_none : (a : GuestSeen) → OnlyLooks a a
looks_none a = grind arith

pub looks_both : (a b c : GuestSeen) → OnlyLooks a b → OnlyLooks b c → OnlyLooks a c
looks_both a b c one two = grind arith

pub raises_none : (a : GuestSeen) → Raises [] a a
raises_none a = grind (arith, append-nil)

pub raises_both : (a b c : GuestSeen) (first second : List ℕ) → Raises first a b → Raises second b c
    → Raises (first ++ second) a c
raises_both a b c first second one two = grind (arith, append_assoc)

-- a look raises nothing
pub looks_raise : (a b : GuestSeen) → OnlyLooks a b → Raises [] a b
looks_raise a b looks = grind (arith, append-nil)

pub raises_then_looks : (a b c : GuestSeen) (places : List ℕ) → Raises places a b → OnlyLooks b c → Raises places a c
raises_then_looks a b c places raises looks = grind arith

-- the lobby was closed, where a count stood that near to the last number
pub raises_then_closes : (a b c : GuestSeen) (place count : ℕ) → Raises [] a b → place ≢ closed_at
    → slice_index b.seen place ≡ count → last_count ≤ count + 1
    → IsLaterOf b c → c.raised ≡ b.raised → Raises [] a c
raises_then_closes a b c place count raises is_count found last later same = grind arith

-- a step that raised those counts and closed nothing
pub raises_then_steps : (a b c : GuestSeen) (places : List ℕ) → Raises [] a b → IsLaterOf b c → c.closes ≡ b.closes
    → c.raised ≡ b.raised ++ places → Raises places a c
raises_then_steps a b c places raises later closes raised = grind (arith, append_assoc, append-nil)
