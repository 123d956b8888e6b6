-- Look-ups of ids and of their ways' marks.
use Rattle.std.proofs.Common.{◌≡◌, ℕ, ◌<◌, ◌⊎◌, ⊎_elim, inl, inr, List, [], ◌∷◌, ◌++◌, refl, subst, append_assoc}
use Rattle.std.proofs.Common.{get_or, Bool, true, false, Option, Some, None, arith}
use Rattle.std.specs.Prelude.{IfSome}
use Rattle.std.specs.List.{All}
use Rattle.std.proofs.lemmas.List.Elements.{All-map}
use Rattle.nr_ids.specs.Events.{Event, name_of}
use Rattle.nr_ids.specs.Laws.{FindsWhatItHeard}
use Rattle.nr_ids.specs.Marks.{SetsMark}
use Rattle.nr_ids.specs.Rule.{BeginsWith}
use Rattle.nr_ids.specs.Tokens.{Grows, Known, Token}
use Rattle.nr_idmap.specs.declared.finds.NamedWay.{NamedWay}
use Rattle.nr_idmap.specs.IdFinds.{LooksForWay}
use Rattle.nr_idmap.specs.IdLoads.{key_named, LooksUpEach, keys_named}
use Rattle.nr_idmap.specs.IdHeard.{IsUnnamedSince}
use Rattle.nr_idmap.specs.IdWalks.{IsNear}

pub one_more_looked : (ids : List ℕ) (ways : List (Option NamedWay)) (id : ℕ) (found : Option NamedWay)
    (old mid new : Token) → LooksUpEach ids ways old mid → LooksForWay id mid new found
    → LooksUpEach (ids ++ id ∷ []) (ways ++ found ∷ []) old new
one_more_looked [] [] id found old mid new looked looks =
    (new, subst (λ (t : Token). LooksForWay id t new found) looked looks, refl)
one_more_looked (first ∷ ids) (at ∷ ways) id found old mid new looked looks =
    (looked.0, looked.1, one_more_looked ids ways id found looked.0 mid new looked.2 looks)
one_more_looked ids ways id found old mid new looked looks = absurd looked

-- a way that the map has a key for has that key
pub key_inside : (bound : ℕ) (at : Option NamedWay) → 0 < bound → IfSome at (λ named. named.way < bound)
    → key_named at < bound
key_inside bound at some near = grind arith

pub keys_inside : (bound : ℕ) (ways : List (Option NamedWay)) → 0 < bound → All (IsNear bound) ways
    → All (λ (key : ℕ). key < bound) (keys_named ways)
keys_inside bound ways some near =
    All-map (λ (key : ℕ). key < bound) key_named ways
    (λ place other low. key_inside bound (get_or ways place other) some (near place other low))

-- where an id's name stands
abbrev pub way_named : Option NamedWay → Option ℕ
way_named None = None
way_named (Some at) = Some at.way

-- a name that was taken was taken before later events too
pub unnamed_on : (told : List Event) (way : ℕ) (seen more : List Event) → IsUnnamedSince told way seen
    → IsUnnamedSince told way (more ++ seen)
unnamed_on told way seen more gone = (
  more ++ gone.0,
  rw (gone.1, append_assoc),
  (more ++ gone.2.0, gone.2.1, rw (gone.2.2, append_assoc)),
)

-- after a look or another step
pub grown_on : (told : List Event) (way : ℕ) (acts : List Event) (old new : Token) → Grows acts old new
    → IsUnnamedSince told way old.seen → IsUnnamedSince told way new.seen
grown_on told way acts old new grows gone =
    rw grows.seen (unnamed_on told way old.seen grows.rest gone)

pub set_on : (told : List Event) (way at : ℕ) (marked : Bool) (old new : Token) → SetsMark at marked old new
    → IsUnnamedSince told way old.seen → IsUnnamedSince told way new.seen
set_on told way at true old new same gone = rw same gone
set_on told way at false old new grows gone = grown_on told way _ old new grows gone

-- a token that heard of a way's name looks it up there, unless the name was taken since
pub looks_there : FindsWhatItHeard → (note : Known) (id way : ℕ) (old new : Token) (there : Option NamedWay) → 0 < id
    → name_of note.seen way ≡ id → BeginsWith old.seen note.seen → LooksForWay id old new there
    → IsUnnamedSince note.seen way new.seen ⊎ (way_named there ≡ Some way)
looks_there law note id way old new None real named heard looked =
    grind (arith, law note id way old new None real named heard looked)
looks_there law note id way old new (Some at) real named heard looked = ⊎_elim
    (λ (is : Some at.way ≡ Some way). inr is)
    (λ gone. inl (grown_on note.seen way _ looked.0 new looked.2.looks gone))
    (law note id way old looked.0 (Some at.way) real named heard looked.1)
