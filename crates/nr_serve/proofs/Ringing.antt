-- A client's rings are as many as its posts, over several steps.
use Rattle.std.proofs.Common.{◌≡◌, ◌∷◌, [], ◌++◌, ◌+◌, length-append, refl, arith}
use Rattle.std.proofs.lemmas.List.{replicate-append-replicate}
use Rattle.nr_trigger.specs.declared.post.Upquery.{Upquery}
use Rattle.nr_trigger.specs.Tokens.{PosterSeen}
use Rattle.nr_serve.specs.Counts.{GuestSeen, OnlyLooks, Raises, rung_at}
use Rattle.nr_serve.specs.Rings.{RingsFor}
use Rattle.nr_serve.proofs.Later.{looks_raise, raises_both, raises_none}

-- nothing was posted, and the guest only looked
pub rings_none : (a b : PosterSeen) (g h : GuestSeen) → b.posted ≡ a.posted → OnlyLooks g h → RingsFor a g b h
rings_none a b g h same looks = grind (arith, looks_raise)

-- one upquery was posted, and the bell rung
pub rings_once : (a b : PosterSeen) (g h : GuestSeen) (upquery : Upquery) → b.posted ≡ a.posted ++ upquery ∷ []
    → Raises (rung_at ∷ []) g h → RingsFor a g b h
rings_once a b g h upquery more raises = grind (arith, length-append)

pub rings_both : {a b c : PosterSeen} {g h i : GuestSeen} → RingsFor a g b h → RingsFor b h c i → RingsFor a g c i
rings_both {g = g} {h = h} {i = i} one two =
    let raises = raises_both g h i _ _ one.raises two.raises in
    let times = replicate-append-replicate one.count two.count rung_at in
    record { count = one.count + two.count; posted = grind arith; raises = rw times at raises }

-- the poster posted nothing
pub rings_same : (a b : PosterSeen) (g : GuestSeen) → b.posted ≡ a.posted → RingsFor a g b g
rings_same a b g same = grind (arith, raises_none)

-- the guest looked
pub rings_looks : {a b : PosterSeen} {g h i : GuestSeen} → RingsFor a g b h → OnlyLooks h i → RingsFor a g b i
rings_looks {b = b} {h = h} {i = i} rings looks = rings_both rings (rings_none b b h i refl looks)
