-- A handle that is lent as a `Handle`, and one whose token is lent.
use mathlib.Core.List.{[], ◌∷◌}
use base.Fml.{Fml}
use denote.RattleType.{RattleType}
use denote.Ref.{MutBor}
use denote.Follow.{follows}
use Rattle.nr_c.specs.declared.handle.Handle.{Handle}
use Rattle.nr_c.specs.contracts.handle.Handle.{the_row}

abbrev pub with_token : {X : Type 0} → Handle X → X → Handle X
with_token h t = record { ptr = h.ptr; alloc = h.alloc; live = t ∷ [] }

-- once the borrow r ends, the handle behind b has the last token written through r
abbrev pub follows_token : (R : RattleType) → MutBor (Handle R.Denot) → MutBor R.Denot → Fml
follows_token R b r = follows (the_row R) R b.ghost_name r.ghost_name (with_token b.now)

-- a type of handle that C has, what it leads to, and each of them as the other's
pub record Named : Type 2 where
  pub row : RattleType
  pub side : RattleType
  pub of : Handle side.Denot → row.Denot
  pub to : row.Denot → Handle side.Denot

-- once the borrow r ends, the handle behind b is what r was last
abbrev pub follows_handle : (N : Named) → MutBor N.row.Denot → MutBor (Handle N.side.Denot) → Fml
follows_handle N b r = follows N.row (the_row N.side) b.ghost_name r.ghost_name N.of

-- once the borrow r ends, the handle behind b has the last side written through r
abbrev pub follows_side : (N : Named) → MutBor N.row.Denot → MutBor N.side.Denot → Fml
follows_side N b r = follows N.row N.side b.ghost_name r.ghost_name (λ t. N.of (with_token (N.to b.now) t))
