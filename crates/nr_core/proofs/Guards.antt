-- What the refusal of an event tells, where there is none.
use Rattle.std.proofs.Common.{Bool, cond, refl, true, ℕ, ◌<◌, ◌≡◌, ◌≤◌}
use Rattle.std.proofs.lemmas.Bool.{leb-true, ltb-true}
use Rattle.std.specs.Prelude.{None, Option, Some, nat_le, nat_lt, ◌&&◌}
use Rattle.nr_core.proofs.Choices.{by_cases}
use Rattle.nr_core.specs.Refusals.{has_reader, if_busy, has_key}
use Rattle.nr_core.specs.declared.calls.Refusal.{Refusal}
use Rattle.nr_core.specs.declared.places.Place.{Place}
use Rattle.nr_core.specs.declared.places.Place.TheVariants.{Idle}
use Rattle.nr_core.specs.declared.shape.Shape.{Shape}
use Rattle.nr_core.specs.declared.calls.Refusal.TheVariants as refuse

pub no_some : (o : Option Refusal) (why : Refusal) → o ≡ Some why → o ≡ None → ⊥
no_some o why e n = cc

pub guard : (b : Bool) (o : Option Refusal) (why : Refusal) → cond b o (Some why) ≡ None → (b ≡ true) × (o ≡ None)
guard b o why =
    by_cases (λ v. cond v o (Some why) ≡ None → (v ≡ true) × (o ≡ None)) b (λ _ e. (refl, e))
    (λ _ e. absurd (no_some (Some why) why refl e))

pub both : (a b : Bool) → (a && b) ≡ true → (a ≡ true) × (b ≡ true)
both a b =
    by_cases (λ v. (v && b) ≡ true → (v ≡ true) × (b ≡ true)) a (λ _ e. (refl, e))
    (λ _ e. absurd (cc))

-- a reader that the machine has
reader_in : (shape : Shape) (reader : ℕ) → has_reader shape reader ≡ true → (0 < reader) × (reader ≤ shape.readers)
reader_in shape reader e =
    let b = both (nat_lt 0 reader) (nat_le reader shape.readers) e in
    (ltb-true 0 reader b.0, leb-true reader shape.readers b.1)

-- what an event that is not refused tells of its reader and its key
pub at_reader : (shape : Shape) (reader : ℕ) (rest : Option Refusal)
    → cond (has_reader shape reader) rest (Some refuse.OutOfRange) ≡ None
    → (0 < reader) × (reader ≤ shape.readers) × (rest ≡ None)
at_reader shape reader rest ok =
    let g = guard (has_reader shape reader) rest refuse.OutOfRange ok in
    let r = reader_in shape reader g.0 in
    (r.0, r.1, g.1)

pub at_key : (shape : Shape) (key : ℕ) (rest : Option Refusal)
    → cond (has_key shape key) rest (Some refuse.OutOfRange) ≡ None → (key < shape.keys) × (rest ≡ None)
at_key shape key rest ok =
    let g = guard (has_key shape key) rest refuse.OutOfRange ok in
    (ltb-true key shape.keys g.0, g.1)

pub at_reader_key : (shape : Shape) (reader key : ℕ) (rest : Option Refusal)
    → cond (has_reader shape reader && has_key shape key) rest (Some refuse.OutOfRange) ≡ None
    → (0 < reader) × (reader ≤ shape.readers) × (key < shape.keys) × (rest ≡ None)
at_reader_key shape reader key rest ok =
    let g = guard (has_reader shape reader && has_key shape key) rest refuse.OutOfRange ok in
    let b = both (has_reader shape reader) (has_key shape key) g.0 in
    let r = reader_in shape reader b.0 in
    (r.0, r.1, ltb-true key shape.keys b.1, g.1)

pub is_idle : (place : Place) → if_busy place ≡ None → place ≡ Idle
is_idle Idle e = refl
is_idle other e = absurd (no_some (Some refuse.Busy) refuse.Busy refl e)
