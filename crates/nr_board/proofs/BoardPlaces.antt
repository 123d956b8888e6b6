-- Where the words of a slot stand in the board's table: inside it, and at places that fit a word.
use Rattle.std.proofs.Common.{◌≡◌, ◌∙◌, ℕ, ◌+◌, ◌*◌, ◌^◌, ◌<◌, ◌≤◌, ap, subst, sym, arith}
use Rattle.nr_words.specs.Places.{total_of}
use Rattle.nr_core.proofs.WordPlaces.{content_inside, departures_inside}
use Rattle.nr_core.specs.Sizes.{IsShape}
use Rattle.nr_core.specs.Slots.{content, departures, layout, slot_room}
use Rattle.nr_core.specs.declared.shape.Shape.{Shape}
use Rattle.nr_board.specs.Announcing.{own_words, says_at}
use Rattle.nr_board.specs.Callers.{Table}

-- what the board keeps of its table, whose rule goes by that shape and which has that many words
pub record Stands (board : Table) (key : Shape) (words : ℕ) : Type 0 where
  pub key_is : key ≡ board.shape
  pub size : words ≡ total_of (layout board.shape) + own_words board.announcers
  pub some_key : 0 < board.shape.keys
  pub few : board.shape.keys < 2 ^ 32
  pub fits : IsShape board.shape

pub stands : {shown board : Table} {key : Shape} {words : ℕ} → shown ≡ board
    → (key ≡ shown.shape) × (words ≡ total_of (layout shown.shape) + own_words shown.announcers)
    × (0 < shown.shape.keys) × (shown.shape.keys < 2 ^ 32) × IsShape shown.shape
    × (shown.announcers ≤ shown.shape.readers)
    → Stands board key words
stands {key = key} {words = words} is kept =
    subst (λ (board : Table). Stands board key words) is
    (record { key_is = kept.0; size = kept.1; some_key = kept.2; few = kept.3; fits = kept.4 })

-- a token of the board's map stands at the board's table
pub same_id : {mine shown board : Table} → mine ≡ board → shown ≡ board → mine.id ≡ shown.id
same_id own is = ap (λ (t : Table). t.id) (own ∙ sym is)

module _ {board : Table} {key : Shape} {words : ℕ} (stand : Stands board key words) where
  pub own_shape : {mine : Table} → mine ≡ board → mine.shape ≡ key
  own_shape own = ap (λ (t : Table). t.shape) own ∙ sym stand.key_is

  -- all places fit
  pub total_fits : total_of (layout board.shape) < 2 ^ 64
  total_fits = grind arith

  pub key_in : {place : ℕ} → place < board.shape.keys → place < words
  key_in near = omega (arith, near, stand.size)

  pub key_near : {key_at : ℕ} → key_at < board.shape.keys → key_at < key.keys
  key_near near = omega (arith, near, ap (λ (s : Shape). s.keys) stand.key_is)

  -- where a reader's own word lies
  module _ (own : ℕ) where
    pub said_at : {place : ℕ} → place ≡ says_at board.shape own → place ≡ says_at key own
    said_at is = is ∙ ap (λ (s : Shape). says_at s own) (sym stand.key_is)

    pub said_in : own < board.announcers → {place : ℕ} → place ≡ says_at board.shape own → place < words
    said_in within is = omega (arith, is, stand.size)

  module _ (slot : ℕ) (near : slot < board.shape.slots) where
    -- a content word, counted from the first one
    module _ (begin index : ℕ) (begin_is : begin ≡ content board.shape slot 0) where
      pub content_at : begin + index ≡ content key slot index
      content_at = omega (arith, begin_is) ∙ ap (λ (s : Shape). content s slot index) (sym stand.key_is)

      pub content_in : index < slot_room board.shape → begin + index < words
      content_in inside = omega (arith, begin_is, content_inside board.shape slot index near inside, stand.size)

      pub content_fits : index < slot_room board.shape → begin + index < 2 ^ 64
      content_fits inside = omega (arith, begin_is, content_inside board.shape slot index near inside, total_fits)

    -- the departure word, which stands before the content
    pub departures_at : {place : ℕ} → place ≡ departures board.shape slot → place ≡ departures key slot
    departures_at is = is ∙ ap (λ (s : Shape). departures s slot) (sym stand.key_is)

    pub departures_in : {place : ℕ} → place ≡ departures board.shape slot → place < words
    departures_in is = omega (arith, is, departures_inside board.shape slot near, stand.size)
