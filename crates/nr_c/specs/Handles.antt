-- What a handle owns: the same as a box of its token, or nothing, and then it is null.
use mathlib.Core.List.{List, [], ◌∷◌}
use base.Fml.{Fml, feq, ffalse}
use base.Stored.{Coded}
use denote.RattleType.{RattleType}
use denote.RawPtr.{Ptr, null_ptr}
use Rattle.std.specs.Box.Ownership.{box_owns}
use Rattle.std.specs.Global.{Global}
use Rattle.std_heap.specs.contracts.GlobalAllocator.TheImpl.{ghosts}

abbrev pub handle_owns : (R : RattleType) → Global → Ptr → List R.Denot → Fml
handle_owns R a p [] = feq Ptr p null_ptr
handle_owns R a p (t ∷ []) = box_owns (ghosts.dealloc_token a) R p t
handle_owns R a p (t ∷ u ∷ ts) = ffalse

abbrev pub side_coded : (R : RattleType) → Coded R.Denot
side_coded R = R.coded
