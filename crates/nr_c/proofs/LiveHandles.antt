-- That a handle is live, as the `Handle` that it is lent as.
use Rattle.std.proofs.Common.{◌≡◌, ◌∙◌, List, [], ◌∷◌, ap, sym}

pub still_live : {Handle Side : Type 0} (live : Handle → List Side) {one other : Handle} → one ≡ other
    → ((side : Side) × (live one ≡ side ∷ [])) → (side : Side) × (live other ≡ side ∷ [])
still_live live same (side, is) = (side, sym (ap live same) ∙ is)
