-- A handle may change threads where what it leads to may.
use mathlib.Core.List.{List, [], ◌∷◌}
use mathlib.Core.Path.{◌≡◌, subst}
use base.Shift.{Keyless}
use denote.Exit.{Kept, hidden, under}
use denote.Memory.{lone}
use denote.Param.Send.{AllSend, IsSend, Quiet, owning_send, struct_send}
use denote.RattleType.{RattleType}
use denote.RawPtr.{Ptr}
use denote.Struct.Owning.{Owning, fields, row, shape, to}
use denote.Struct.Struct.{exits_of}
use mir.Raw.{raw}
use Rattle.std.specs.Global.{Global}
use Rattle.std.proofs.Crossing as heap
use Rattle.std_alloc.proofs.SendSync.{lies, quiet}
use Rattle.nr_c.specs.Handles.{handle_owns}

pub quiet_live : (R : RattleType) → IsSend R → (a : Global) (p : Ptr) (l : List R.Denot) → Keyless (handle_owns R a p l)
quiet_live R token a p [] = tt
quiet_live R token a p (t ∷ u ∷ ts) = tt
quiet_live R token a p (t ∷ []) = (lies R token p t, heap.frees.frees a (raw (lone R.mir)) p)

-- and a struct that owns so much, since nothing is seen of it at its end
pub handle_send : (T : Owning) → AllSend (fields T)
    → ((k : Kept) → hidden (under (to T) (exits_of k (fields T))) ≡ T.exit k)
    → ((d : T.D) → Keyless (T.heap d)) → IsSend (row T)
handle_send T all shut still =
    owning_send T all still
    (λ k. subst Quiet (shut k) (quiet (to T) (exits_of k (fields T)) ((struct_send (shape T) all).leaving k)))
