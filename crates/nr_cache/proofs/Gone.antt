-- An id's value that is taken was there, and is gone then.
use Rattle.std.proofs.Common.{◌≡◌, ◌≢◌, ◌<◌, ◌==◌, ℕ, inl, inr, Bool, true, false, cond, Option, Some, None}
use Rattle.std.proofs.Common.{refl, sym, ap, ◌∙◌, subst, arith}
use Rattle.std.proofs.lemmas.Bool.{cases_eq}
use Rattle.nr_core.proofs.Choices.{on_test}
use Rattle.nr_board.specs.Callers.{Caller, map_seen}
use Rattle.nr_board.specs.WriterAnswers.{EvictsKey}
use Rattle.nr_board.specs.declared.answers.Evict.TheVariants as evict
use Rattle.nr_ids.specs.Answers.{FindsWay}
use Rattle.nr_ids.specs.Events.{IsAbsent, name_of}
use Rattle.nr_ids.specs.Tokens.{Token}
use Rattle.nr_ids.proofs.Calls.{clerk_looks, clerk_names}
use Rattle.nr_ids.proofs.Logs.{cond_else, cond_same, one_way}
use Rattle.nr_ids.proofs.Through.{way_looks}
use Rattle.nr_idmap.specs.IdChoices.{StaysButClerk}
use Rattle.nr_idmap.specs.IdLaws.{NamedIsOwedOrResident, UnnamedIsAbsent}
use Rattle.nr_idmap.specs.IdWrites.{EvictsId, EvictsWay}
use Rattle.nr_idmap.specs.Keepers.{IsTied, Keeper, name_at, owed_at}
use Rattle.nr_idmap.specs.Tags.{IsResident}
use Rattle.nr_cache.specs.Places.{HasValue, IsGone, OwesNone, TakesValue, Unnames}
use Rattle.nr_cache.proofs.Ways.{not_passed_over}
use Rattle.nr_cache.proofs.WriterCalls.{called, writes}

-- A LOOK-UP
-- the clerk's looks change no name
pub looked_names : (id : ℕ) (old : Keeper) (mid : Token) (found : Option ℕ) → IsTied old
    → FindsWay id old.clerk mid found → (way : ℕ) → name_of mid.seen way ≡ name_at old way
looked_names id old mid found tied finds k =
    let looked = way_looks id old.clerk mid found finds in
    clerk_looks old.clerk looked.0 old.clerk.number mid k tied.names.1 looked.1

pub found_named : {id way : ℕ} {old : Keeper} {mid : Token} → IsTied old → FindsWay id old.clerk mid (Some way)
    → name_at old way ≡ id
found_named {id} {way} {old} {mid} tied finds =
    sym (looked_names id old mid (Some way) tied finds way) ∙ finds.1.has

-- that way alone has the id's name
pub found_there : {id way : ℕ} {old : Keeper} {mid : Token} (there : ℕ) → IsTied old
    → FindsWay id old.clerk mid (Some way) → 0 < id → name_at old there ≡ id → way ≡ there
found_there {id} {way} {old} there tied finds real named =
    one_way old.table.directory.plan old.clerk.seen way there id tied.legal real (found_named tied finds) named

pub found_none : {id : ℕ} {old : Keeper} {mid : Token} → IsTied old → FindsWay id old.clerk mid None
    → IsAbsent old.clerk.seen id
found_none {id} {old} {mid} tied finds way named =
    finds.1 way (looked_names id old mid None tied finds way ∙ named)

-- A NAMED WAY HAS A VALUE
pub has_value : {id : ℕ} {keeper : Keeper} (way : ℕ) → NamedIsOwedOrResident → IsTied keeper
    → owed_at keeper way ≡ None → 0 < id → name_at keeper way ≡ id → HasValue id keeper
has_value {id} {keeper} way law tied none real named =
    elim (law keeper way tied (omega (arith, real, named))) [
      | inl owed ↦ let is = sym none ∙ owed.1 in absurd (cc (is))
      | inr had ↦ (had.0, subst (λ (n : ℕ). IsResident (map_seen keeper.writer) n had.0) named had.1)
    ]

pub is_gone : {id : ℕ} {keeper : Keeper} → UnnamedIsAbsent → IsTied keeper → IsAbsent keeper.clerk.seen id
    → IsGone id keeper
is_gone {id} {keeper} law tied absent = (law keeper id tied absent).0

-- a look-up leaves it as it was
pub value_before : {id : ℕ} {old new : Keeper} → StaysButClerk old new → HasValue id new → HasValue id old
value_before {id} stays had = (had.0, subst (λ (w : Caller). IsResident (map_seen w) id had.0) stays.writer had.1)

-- AN EVICTION
-- the way has no name any more, and the others' names stay
module _ {id way : ℕ} {old new : Keeper} (tied : IsTied old) (evicts : EvictsWay id way old new) where
  names : (k : ℕ) → name_at new k ≡ cond (way == k) 0 (name_at old k)
  names k =
      clerk_names evicts.mid _ new.clerk k
      ((way_looks id old.clerk evicts.mid (Some way) evicts.finds).1.number ∙ tied.names.1) evicts.unnames.grows
      ∙ ap (λ (n : ℕ). cond (way == k) 0 n) (looked_names id old evicts.mid (Some way) tied evicts.finds k)

  pub unnamed_at : (k : ℕ) → way ≡ k → name_at new k ≡ 0
  unnamed_at k same = names k ∙ cond_same 0 (name_at old k) way k same

  -- nor has one that had none
  pub none_still : (k : ℕ) → name_at old k ≡ 0 → name_at new k ≡ 0
  none_still k was = names k ∙ on_test (λ (n : ℕ). n ≡ 0) (way == k) (λ same. refl) (λ other. was)

  pub named_before : (k name : ℕ) → 0 < name → name_at new k ≡ name → (way ≢ k) × (name_at old k ≡ name)
  named_before k name real named = elim (cases_eq way k) [
    | inl same ↦ absurd (omega (arith, unnamed_at k same, named, real))
    | inr other ↦ (other, sym (names k ∙ cond_else 0 (name_at old k) way k other) ∙ named)
  ]

-- a way with the id's name is not passed over
pub passed_over : {id way : ℕ} {old new : Keeper} → IsTied old → IsTied new → owed_at new way ≡ None → 0 < id
    → FindsWay id old.clerk new.clerk (Some way) → EvictsKey way old.writer new.writer evict.Nothing → ⊥
passed_over {new = new} tied later none real finds evicts =
    not_passed_over new later (called (writes tied) evicts.0) refl real finds.1.has none

pub takes_some : {id : ℕ} {old new : Keeper} → NamedIsOwedOrResident → IsTied old → OwesNone old → 0 < id
    → new.asker ≡ old.asker → EvictsId id old new evict.Evicted → TakesValue id old new true
takes_some law tied none real stays evicts =
    (has_value evicts.0 law tied (none evicts.0) real (found_named tied evicts.1.finds), evicts, stays)

pub takes_none : {id : ℕ} {old new : Keeper} → UnnamedIsAbsent → IsTied old → IsTied new → OwesNone new → 0 < id
    → new.asker ≡ old.asker → EvictsId id old new evict.Nothing → TakesValue id old new false
takes_none law tied later none real stays (inl absent) =
    (is_gone law tied (found_none tied absent.0), inl absent, stays)
takes_none law tied later none real stays (inr (way, finds, evicts)) =
    absurd (passed_over tied later (none way) real finds evicts)

-- then the id is gone
pub gone_after : (id : ℕ) {old new : Keeper} (had : Bool) → UnnamedIsAbsent → IsTied old → IsTied new → OwesNone new
    → 0 < id → TakesValue id old new had → IsGone id new
gone_after id true law tied later none real takes =
    is_gone law later (λ k named.
    let was = named_before tied takes.1.1 k id real named in
    was.0 (found_there k tied takes.1.1.finds real was.1))
gone_after id false law tied later none real (gone, inl absent, stays) = is_gone law later absent.0.1
gone_after id false law tied later none real (gone, inr (way, finds, evicts), stays) =
    absurd (passed_over tied later (none way) real finds evicts)

-- an eviction after a look-up takes the name of the way that was found, and no other changes
pub unnames_one : {id way taken : ℕ} {old mid new : Keeper} → IsTied old → IsTied mid → 0 < id
    → FindsWay id old.clerk mid.clerk (Some way) → EvictsWay id taken mid new → Unnames id old new
unnames_one {id} {way} {taken} {old} {mid} tied later real found evicts =
    let first = way_looks id old.clerk mid.clerk (Some way) found in
    let more = way_looks id mid.clerk evicts.mid (Some taken) evicts.finds in
    let same = looked_names id old mid.clerk (Some way) tied found in
    record {
      directory = evicts.unnames.grows.directory ∙ more.1.directory ∙ first.1.directory;
      gone = λ k named. unnamed_at later evicts k (found_there k later evicts.finds real (same k ∙ named));
      before = λ k name some named. sym (same k) ∙ (named_before later evicts k name some named).1;
    }
