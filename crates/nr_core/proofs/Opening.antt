-- At the opening all that stands between steps stands: every key is a hole, every slot is free.
use Rattle.std.proofs.Common.{List, [], ap, arith, false, get_or, length, refl, replicate, subst, suc, sym, zero, ℕ}
use Rattle.std.proofs.Common.{◌*◌, ◌++◌, ◌+◌, ◌<◌, ◌∙◌, ◌∷◌, ◌≡◌}
use Rattle.std.proofs.Math.ListN.{get_or-append}
use Rattle.std.proofs.lemmas.List.{get_or-replicate, length-append, length-replicate, get_or-append-add}
use lib.ListN.{get_elem?}
use mathlib.Core.Option.{some, some-injective, some-ne-none}
use Rattle.nr_model.specs.declared.states.KeyState.{KeyState}
use Rattle.nr_words.specs.KeyWords.{hole_word}
use Rattle.nr_words.specs.Places.{total_of}
use Rattle.nr_core.proofs.Frames.{unused-free}
use Rattle.nr_core.proofs.KeyWords.{hole_is}
use Rattle.nr_core.proofs.StateRoles.{IsCoreState, no_grip}
use Rattle.nr_core.proofs.Holders.{same_grip}
use Rattle.nr_core.proofs.Sums.{below-same, below-zero, only-zero}
use Rattle.nr_core.specs.Core.{AreNumbers, Knows, ShowsState}
use Rattle.nr_core.specs.Roles.{held, holds, is_reader, is_writer, keeps, readers_from}
use Rattle.nr_core.specs.Sizes.{IsShape}
use Rattle.nr_words.specs.Opening.{repeated}
use Rattle.nr_core.specs.Slots.{departures, layout, name_number, named, words_at_opening, slot_room, content}
use Rattle.nr_core.specs.States.{opening_state, opening_desk}
use Rattle.nr_core.specs.Story.{map_after, opening_map}
use Rattle.nr_core.specs.Sums.{only, total}
use Rattle.nr_core.specs.declared.roles.Grip.TheVariants.{Nothing, On}
use Rattle.nr_core.specs.declared.roles.Role.{Role}
use Rattle.nr_core.specs.declared.roles.Role.TheVariants.{Reader, Writer}
use Rattle.nr_core.specs.declared.shape.Shape.{Shape}
use Rattle.nr_core.specs.StepLaws.{OpeningLaw}
use Rattle.nr_core.specs.declared.places.Hold.TheVariants as hold
use Rattle.nr_model.specs.declared.states.KeyState.TheVariants as key

pub none_named : (shape : Shape) (words : List ℕ) (slot : ℕ)
    → ((key : ℕ) → key < shape.keys → name_number (get_or words key 0) ≡ 0) → named shape words slot ≡ 0
none_named shape words slot none =
    below-same (λ key. only (suc slot) (name_number (get_or words key 0))) (λ _. 0) shape.keys
    (λ key l. ap (only (suc slot)) (none key l) ∙ only-zero slot)
    ∙ below-zero shape.keys

no_weight : (g : Role → ℕ) → ((c : ℕ) → g (Reader c Nothing) ≡ 0) → (n i : ℕ) → total g (readers_from i n) ≡ 0
no_weight g none zero i = refl
no_weight g none (suc n) i = omega (arith, none (suc i), no_weight g none n (suc i))

all_readers : (n i : ℕ) → (total is_reader (readers_from i n) ≡ n) × (length (readers_from i n) ≡ n)
all_readers zero i = (refl, refl)
all_readers (suc n) i = let t = all_readers n (suc i) in (omega (arith, t.0), omega (arith, t.1))

reader_at : (n i j : ℕ) → j < n → get_elem? (readers_from i n) j ≡ some (Reader (suc (i + j)) Nothing)
reader_at zero i j low = absurd (omega arith)
reader_at (suc n) i zero low = ap (λ (c : ℕ). some (Reader c Nothing)) (omega arith)
reader_at (suc n) i (suc j) low =
    reader_at n (suc i) j (omega arith) ∙ ap (λ (c : ℕ). some (Reader c Nothing)) (omega arith)

only_readers : (n i j : ℕ) (u : Role) → get_elem? (readers_from i n) j ≡ some u → (c : ℕ) × (Reader c Nothing ≡ u)
only_readers zero i j u e = absurd (some-ne-none u (sym e))
only_readers (suc n) i zero u e = (suc i, some-injective (Reader (suc i) Nothing) u e)
only_readers (suc n) i (suc j) u e = only_readers n (suc i) j u e

past : (a l : List ℕ) (i j : ℕ) → i ≡ length a + j → get_or (a ++ l) i 0 ≡ get_or l j 0
past a l i j e = rw e (get_or-append-add a l j 0)

-- a word of a slot at the opening
each_word : (room n slot : ℕ) (block : List ℕ) (i j : ℕ) → length block ≡ suc room → j < suc room → slot < n
    → i ≡ suc room * slot + j → get_or (repeated n block) i 0 ≡ get_or block j 0
each_word room zero slot block i j size inside low e = absurd (omega arith)
each_word room (suc n) zero block i j size inside low e = let same : i ≡ j = omega arith in
    ap (λ (m : ℕ). get_or (block ++ repeated n block) m 0) same
    ∙ get_or-append block (repeated n block) 0 j (omega arith)
each_word room (suc n) (suc slot) block i j size inside low e =
    past block (repeated n block) i (suc room * slot + j) (omega arith)
    ∙ each_word room n slot block (suc room * slot + j) j size inside (omega arith) refl

-- at the opening the first content word of each slot is 0
pub blank_at_opening : (shape : Shape) (slot : ℕ) → slot < shape.slots
    → get_or (words_at_opening shape) (content shape slot 0) 0 ≡ 0
blank_at_opening shape slot near =
    let hole : ℕ = hole_word shape.first_number false in
    let room : ℕ = slot_room shape in
    let block : List ℕ = shape.first_count ∷ replicate room 0 in
    past (replicate shape.keys hole) (repeated shape.slots block) (content shape slot 0) (suc room * slot + 1)
    (omega (arith, length-replicate {A = ℕ} shape.keys hole))
    ∙ each_word room shape.slots slot block (suc room * slot + 1) 1 (ap suc (length-replicate room 0)) (omega arith)
    near refl
    ∙ get_or-replicate room 0 0 0 (omega arith)

length-repeated : (room n : ℕ) (b : List ℕ) → length b ≡ suc room → length (repeated n b) ≡ suc room * n
length-repeated room zero b size = omega arith
length-repeated room (suc n) b size = omega (arith, length-append b (repeated n b), length-repeated room n b size)

-- every key has the first number
first_numbers : (shape : Shape) → AreNumbers shape (opening_map shape) (replicate shape.keys shape.first_number)
first_numbers shape = search (arith, length-replicate, get_or-replicate)

-- the writer, and that many readers
pub core_opens : OpeningLaw
core_opens shape fits n few =
    let words = words_at_opening shape in
    let slot = shape.first_count ∷ replicate (slot_room shape) 0 in
    let roles = Writer (opening_desk shape) ∷ readers_from 0 n in
    let all = all_readers n 0 in
    let hole : ℕ = hole_word shape.first_number false in
    let is_hole = hole_is shape.first_number (omega arith) in
    let key_hole : (k : ℕ) → k < shape.keys → get_or words k 0 ≡ hole
    = λ k near. get_or-append (replicate shape.keys hole) (repeated shape.slots slot) 0 k
    (omega (arith, length-replicate {A = ℕ} shape.keys hole)) ∙ get_or-replicate shape.keys k hole 0 near in
    let wide : length words ≡ total_of (layout shape) = omega (
      arith,
      length-append (replicate shape.keys hole) (repeated shape.slots slot),
      length-replicate {A = ℕ} shape.keys hole,
      length-repeated
          (slot_room shape) shape.slots slot (ap suc (length-replicate (slot_room shape) 0)),
    ) in
    let dep : (s : ℕ) → s < shape.slots → get_or words (departures shape s) 0 ≡ shape.first_count
    = λ s near. past (replicate shape.keys hole) (repeated shape.slots slot) (departures shape s)
    (suc (slot_room shape) * s)
    (omega (arith, length-replicate {A = ℕ} shape.keys hole))
    ∙ each_word (slot_room shape) shape.slots s slot (suc (slot_room shape) * s) 0
    (ap suc (length-replicate (slot_room shape) 0)) (omega arith) near (omega arith) in
    let nobody_holds : (s : ℕ) → held roles s ≡ 0 = λ s. omega (arith, no_weight (holds s) (λ c. refl) n 0) in
    let nameless : (k : ℕ) → k < shape.keys → name_number (get_or words k 0) ≡ 0
    = λ k near. ap name_number (key_hole k near) ∙ is_hole.0 in
    record {
      fits = fits;
      wide = wide;
      legal = tt;
      shows = λ k near. subst (λ (p : ℕ × KeyState). ShowsState shape words p.0 p.1)
          (λ j. (
            sym (key_hole k near) j,
            sym (get_or-replicate shape.keys k (key.Hole shape.first_number) (key.Hole 0) near) j,
          ))
          is_hole;
      places = λ s near. omega (
        arith,
        none_named shape words s nameless,
        no_weight (keeps s) (λ c. refl) n 0,
        unused-free s 0
            (omega arith),
      );
      counts = λ k s near e. absurd (omega (arith, nameless k near));
      knows = λ j u.
          elim j as (λ v. get_elem? roles v ≡ some u → Knows shape words (map_after shape []) (held roles) u) [
            | zero ↦ λ e. subst (Knows shape words (map_after shape []) (held roles))
                (some-injective (Writer (opening_desk shape)) u e)
                (record {
                  place = tt;
                  room = omega arith;
                  free = λ s _ near. (nobody_holds s, dep s near);
                  retired = λ i x e. absurd
                      (some-ne-none x (sym e));
                  numbers = first_numbers shape;
                })
            | suc
                j ↦ λ e.
                let c = only_readers n 0 j u e in subst (Knows shape words (map_after shape []) (held roles)) c.1 tt
          ];
      one = omega (arith, no_weight is_writer (λ c. refl) n 0);
      few = omega (arith, all.0);
    }

pub opening_core : (shape : Shape) → IsShape shape → IsCoreState (opening_state shape) []
opening_core shape fits = record {
  roles = Writer (opening_desk shape) ∷ readers_from 0 shape.readers;
  core = core_opens shape fits shape.readers (omega arith);
  fit = record {
    size = length-replicate shape.readers hold.Nothing;
    callers = omega (arith, (all_readers shape.readers 0).1);
    writer = refl;
    readers = λ i low. (
      Nothing,
      reader_at shape.readers 0 i low ∙ ap (λ (c : ℕ). some (Reader (suc c) Nothing)) (omega arith),
      get_or-replicate shape.readers i hold.Nothing hold.Nothing low,
    );
  };
  found = λ j s rows b e.
      let c = only_readers shape.readers 0 j (Reader (suc j) (On s rows b)) e in
      absurd (no_grip s rows b (same_grip c.1));
}
