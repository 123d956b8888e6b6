-- Upqueries that were kept: all are left, or one is given up.
use Rattle.std.proofs.Common.{◌≡◌, ◌⊎◌, ℕ, inr}
use Rattle.nr_idmap.specs.Keepers.{Keeper, OwesSame, Owed, Sent}
use Rattle.nr_c.specs.declared.id_writer_side.IdWriterSide.{IdWriterSide}
use Rattle.nr_c.specs.declared.kept_upquery.NrUpquery.{NrUpquery}
use Rattle.nr_c.specs.IdLive.{OwesAll}
use Rattle.nr_c.specs.IdUpqueries.{EndsKept}
use Rattle.nr_c.specs.Ledgers.{Entries, GivesUp}

-- a live handle's call, with a number above 0, by which its side turned
pub turns : {closed zero low stays became : Type 0} → low → stays → became
    → closed ⊎ (zero ⊎ (low × (stays × became)))
turns low stays became = inr (inr (low, (stays, became)))

pub owes_all : {became : Keeper → Keeper → ℕ → Type 0} {old new : IdWriterSide} {code : ℕ}
    → OwesSame old.writer new.writer → new.writer.asker ≡ old.writer.asker → new.ledger ≡ old.ledger
    → became old.writer new.writer code → OwesAll became old new code
owes_all owes asker keeps made = record { became_so = made; owes = owes; asker = asker; keeps = keeps }

module _ {Answer : Type 0} {code_of : Answer → ℕ} {ends : Owed → Answer → Type 0}
    {kept : ℕ → Answer → Entries → Entries} {wanted : NrUpquery} {upquery : Sent} {old new rest : Entries} {code : ℕ}
    (gives_up : GivesUp wanted upquery old rest) (answer : Answer) (code_is : code ≡ code_of answer)
    (ended : ends upquery.owed answer) (keeps : new ≡ kept wanted.count answer rest) where
  pub ends_kept : EndsKept code_of ends kept wanted old new code
  ends_kept = record {
    upquery = upquery;
    rest = rest;
    gives_up = gives_up;
    answer = answer;
    code_is = code_is;
    ended = ended;
    keeps = keeps;
  }

  -- of the handle's own map, by a fill of rows that an id may have
  pub fill_ends : {stranger own refused fits stale : Type 0} → own → fits
      → stranger ⊎ (own × (refused ⊎ (fits × (stale ⊎ EndsKept code_of ends kept wanted old new code))))
  fill_ends is_own fits = inr (is_own, inr (fits, inr ends_kept))
