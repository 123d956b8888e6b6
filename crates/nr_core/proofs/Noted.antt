-- What is noted of the slots once another note stands in the place of one.
use Rattle.std.proofs.Common.{List, Bool, false, ℕ, zero, suc, ◌+◌, ◌<◌, ◌∷◌, ◌≡◌, get_or, length, replicate, set}
use Rattle.std.proofs.Common.{ap, arith, refl, rules, slice_index, sym, ◌∙◌}
use Rattle.std.proofs.lemmas.List.{get_or-map, get_or-set_other, length-map, map-set}
use Rattle.std.proofs.Math.Seq.{map-set_same}
use Rattle.nr_core.specs.declared.slot_notes.SlotNote.{SlotNote}
use Rattle.nr_core.specs.SlotLists.{CountsFewer, CountsMore}
use Rattle.nr_core.specs.SlotNotes.{reaped_of, retirements_of}

abbrev is_reaped : SlotNote → Bool
is_reaped note = note.reaped

abbrev count : SlotNote → ℕ
count note = note.retirements

-- no slot was reaped yet
pub none_reaped : (slots : ℕ)
    → reaped_of (replicate slots (record { reaped = false; retirements = 0 })) ≡ replicate slots false
none_reaped zero = refl
none_reaped (suc slots) = ap (λ it. false ∷ it) (none_reaped slots)

pub reaped_long : (notes : List SlotNote) → length (reaped_of notes) ≡ length notes
reaped_long notes = length-map notes is_reaped

pub counts_long : (old new : List SlotNote) → length new ≡ length old
    → length (retirements_of new) ≡ length (retirements_of old)
counts_long old new long = omega (arith, long, length-map old count, length-map new count)

pub reaped_set : (notes : List SlotNote) (slot : ℕ) (note : SlotNote)
    → reaped_of (set notes slot note) ≡ set (reaped_of notes) slot note.reaped
reaped_set = map-set is_reaped

-- a slot is counted once more, or not any more
counts_more : (counts : List ℕ) (slot more : ℕ) → (slot < length counts → more ≡ slice_index counts slot + 1)
    → CountsMore slot counts (set counts slot more)
counts_more counts slot more is = search (rules, get_or-set_other)

counts_none : (counts : List ℕ) (slot : ℕ) → (slot < length counts → slice_index counts slot ≡ 1)
    → CountsFewer slot counts (set counts slot 0)
counts_none counts slot is = search (rules, get_or-set_other)

module _ (notes : List SlotNote) (slot : ℕ) (old note : SlotNote) (is : old ≡ get_or notes slot old) where
  pub reaped_same : note.reaped ≡ old.reaped → reaped_of (set notes slot note) ≡ reaped_of notes
  reaped_same same = map-set_same is_reaped notes slot note old (search same)

  pub retirements_same : note.retirements ≡ old.retirements
      → retirements_of (set notes slot note) ≡ retirements_of notes
  retirements_same same = map-set_same count notes slot note old (search same)

  pub retirements_there : slot < length notes → slice_index (retirements_of notes) slot ≡ old.retirements
  retirements_there inside = get_or-map count notes slot old 0 inside ∙ ap count (sym is)

  there : slot < length (retirements_of notes) → slice_index (retirements_of notes) slot ≡ old.retirements
  there inside = retirements_there (omega (arith, inside, length-map notes count))

  pub notes_more : note.retirements ≡ old.retirements + 1
      → CountsMore slot (retirements_of notes) (retirements_of (set notes slot note))
  notes_more more =
      rw (map-set count notes slot note)
      (counts_more (retirements_of notes) slot note.retirements (λ inside. omega (arith, there inside, more)))

  pub notes_none : old.retirements ≡ 1 → note.retirements ≡ 0
      → CountsFewer slot (retirements_of notes) (retirements_of (set notes slot note))
  notes_none one none =
      rw (map-set count notes slot note, none)
      (counts_none (retirements_of notes) slot (λ inside. omega (arith, there inside, one)))
