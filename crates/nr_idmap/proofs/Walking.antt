-- What a hand holds that finds an id anew, or goes on from set to set.
use Rattle.std.proofs.Common.{◌≡◌, ℕ, ◌<◌, ◌≤◌, inl, inr, arith, false, Option, Some, List}
use Rattle.nr_model.specs.declared.rows.Row.{Row}
use Rattle.nr_model.specs.Rows.{IsRowSet}
use Rattle.nr_board.specs.declared.answers.Found.{Found}
use Rattle.nr_board.specs.declared.answers.Found.TheVariants as answer
use Rattle.nr_map.specs.FirstRows.{FindsTaggedFirst}
use Rattle.nr_map.specs.Hands.{FindsAndReads, FindsKept, Handed, KeepsAnew}
use Rattle.nr_map.specs.LoadsAhead.{LoadsKey}
use Rattle.nr_map.specs.Tagged.{FindsTaggedKept}
use Rattle.nr_map.specs.declared.tagged.Tagged.{Tagged}
use Rattle.nr_map.specs.declared.tagged.Tagged.TheVariants as tagged
use Rattle.nr_idmap.specs.declared.hands.Holding.{Holding}
use Rattle.nr_idmap.specs.IdFinds.{line_of}
use Rattle.nr_idmap.specs.IdHands.{HasTagged, HoldsWay, IdHanded, IsIdHand, id_held, with_line_loaded}
use Rattle.nr_idmap.specs.IdWalks.{held_kept, id_kept}
use Rattle.nr_idmap.proofs.Finding.{line_loaded}

-- a hand that loaded the line of the id's group, and holds what it held
pub line_held : (id key : ℕ) (old : IdHanded) (loaded : Handed) → key ≡ line_of id old.ids
    → (loads : LoadsKey key old.hand.reader loaded.reader) → (loaded.key ≡ old.hand.key) × (loaded.rows ≡ old.hand.rows)
    → loaded ≡ (with_line_loaded id loads.0 old).hand
line_held id key old loaded line loads held = λ i. record {
  reader = line_loaded id key old.ids old.hand.reader loaded.reader line loads i;
  key = held.0 i;
  rows = held.1 i;
}

-- a find that keeps what it found, into sorted rows: these are what the hand holds
abbrev pub KeepsIn : ℕ → Handed → List Row → Handed → List Row → Found → Type 0
KeepsIn way old before new set told =
    FindsKept (λ (sorted : List Row) (rows : List Row). sorted ≡ rows) way old before new set told

pub kept_set : (way : ℕ) (old new : Handed) (before set : List Row) → KeepsIn way old before new set answer.Rows
    → set ≡ new.rows
kept_set way old new before set keeps = grind arith

pub kept_reads : (way : ℕ) (old new : Handed) (before set : List Row) → KeepsIn way old before new set answer.Rows
    → (more : ℕ) × FindsAndReads more way old new
kept_reads way old new before set (inl again) = (_, inl again.0)
kept_reads way old new before set (inr anew) = (_, inr (anew.0, anew.1.0))

-- one that goes on holds a set of the way, for no id
pub held_id : (way : ℕ) (answer : Tagged) → id_held (held_kept way answer) ≡ id_kept answer
held_id way answer = grind arith

-- whatever it read of the set that it found, and wherever that went
abbrev pub Keeps : ℕ → Handed → Handed → Tagged → Type 0
Keeps key old new tagged.Hole = KeepsAnew key old new false
Keeps key old new _ = (more : ℕ) × FindsAndReads more key old new

pub kept_so : {Room : Type 0} (shows : Room → List Row → Type 0) (tag : Row) (key : ℕ) (old new : Handed)
    (before room : Room) (answer : Tagged) → FindsTaggedKept shows tag key old before new room answer
    → Keeps key old new answer
kept_so shows tag key old new before room tagged.Rows finds = (_, finds.2)
kept_so shows tag key old new before room tagged.Other finds = (_, finds.0.1)
kept_so shows tag key old new before room tagged.Hole finds = finds.0

pub kept_first : (tag : Row) (key : ℕ) (old new : Handed) (before cells : List Row) (count : ℕ) (answer : Tagged)
    → FindsTaggedFirst tag key old before new cells count answer → Keeps key old new answer
kept_first tag key old new before cells count tagged.Rows finds = (_, finds.2)
kept_first tag key old new before cells count tagged.Other finds = (_, finds.0.1)
kept_first tag key old new before cells count tagged.Hole finds = finds.0

pub held_row_set : (hand : Handed) (sorted : List Row) (held : Option Holding) → IsIdHand hand sorted held → (key : ℕ)
    → hand.key ≡ Some key → IsRowSet 255 hand.rows
held_row_set hand sorted held holds key is = grind arith

-- What it holds then is a row set of the key, since what it held was a row set, and what the key has is one.
module _ (key : ℕ) (old new : Handed) (sorted : List Row) (near : key < new.reader.table.shape.keys)
    (few : old.reader.table.shape.rows ≤ 255)
    (had : (other : ℕ) → old.key ≡ Some other → IsRowSet 255 old.rows) where
  reads_key : (more : ℕ) → FindsAndReads more key old new → new.key ≡ Some key
  reads_key more reads = grind arith

  reads_row_set : (more : ℕ) → FindsAndReads more key old new → IsRowSet 255 new.rows
  reads_row_set more reads = grind (arith, had key)

  -- and where it is for an id it must have the id's tag
  pub reads_hold : (id more : ℕ) → FindsAndReads more key old new → (0 < id → HasTagged id new.rows sorted)
      → HoldsWay (record { id = id; way = key }) new sorted
  reads_hold id more reads set =
      record { key_is = reads_key more reads; near = near; row_set = reads_row_set more reads; set = set }

  pub walks_hold : (answer : Tagged) → Keeps key old new answer → IsIdHand new sorted (held_kept key answer)
  walks_hold tagged.Hole keeps = keeps.1.4.key_is
  walks_hold answer keeps = reads_hold 0 keeps.0 keeps.1 (λ some. absurd (omega (arith, some)))
