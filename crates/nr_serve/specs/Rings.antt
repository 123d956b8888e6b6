-- A client rings the bell for what it posts, and a dataflow reads it before it looks.
use Rattle.std.specs.Prelude.{◌≡◌, ◌+◌, ℕ, length, replicate}
use Rattle.nr_trigger.specs.Tokens.{PosterSeen, TakerSeen}
use Rattle.nr_serve.specs.declared.hands.Hands.{Hands}
use Rattle.nr_serve.specs.Counts.{GuestSeen, Raises, rung_at}

-- the guest rang the bell once for each ticket that was posted meanwhile, and raised nothing else
pub record RingsFor (old : PosterSeen) (before : GuestSeen) (new : PosterSeen) (after : GuestSeen) : Type 0 where
  pub count : ℕ
  pub posted : length new.posted ≡ length old.posted + count
  pub raises : Raises (replicate count rung_at) before after

abbrev pub Rings : Hands → GuestSeen → Hands → GuestSeen → Type 0
Rings old before new after = RingsFor old.poster before new.poster after

-- how often the bell was rung when it was read, and the taker then
pub record RungSeen : Type 0 where
  pub rings : ℕ
  pub taker : TakerSeen
