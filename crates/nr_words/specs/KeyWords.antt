-- What a key's word says: whether the key is asked, whether it is filled, which slot it names or, where it is not
-- filled, its ticket number, and how many readers have arrived, modulo 2^40.
use Rattle.std.specs.Prelude.{ℕ, ◌+◌, ◌*◌, ◌/◌, ◌%◌, ◌^◌, ◌==◌, Bool, true, false, if◌then◌else◌, bit_or, Option, Some}
use Rattle.std.specs.Prelude.{None}
use Rattle.std.specs.Int.{from_bool}
use Rattle.nr_words.specs.declared.key_words.KeyParts.{KeyParts}
use Rattle.nr_words.specs.declared.key_words.TheConstants.{ARRIVE}

-- the word that packs those parts
abbrev pub key_word : KeyParts → ℕ
key_word parts = from_bool parts.ask + 2 * from_bool parts.filled + 4 * parts.slot + 2 ^ 24 * parts.arrivals

-- the word that fills a key with a slot whose departures are these: its arrivals begin there, so that nobody holds the
-- slot
abbrev pub naming : ℕ → ℕ → ℕ
naming slot departed = key_word (record { ask = false; filled = true; slot = slot; arrivals = departed % 2 ^ 40 })

-- the word of a key without rows, asked or not, that has the number: nobody has arrived yet
abbrev pub hole_word : ℕ → Bool → ℕ
hole_word number ask = key_word (record { ask = ask; filled = false; slot = number; arrivals = 0 })

-- the parts of a word
abbrev pub has_ask : ℕ → Bool
has_ask word = word % 2 == 1

abbrev pub is_filled : ℕ → Bool
is_filled word = word / 2 % 2 == 1

abbrev pub slot_of : ℕ → ℕ
slot_of word = word / 4 % 2 ^ 22

abbrev pub arrivals_of : ℕ → ℕ
arrivals_of word = word / 2 ^ 24

abbrev pub parts_of : ℕ → KeyParts
parts_of word = record { ask = has_ask word; filled = is_filled word; slot = slot_of word; arrivals = arrivals_of word }

-- the slot that a word names, if it is filled
abbrev pub name_of : ℕ → Option ℕ
name_of word = (if is_filled word then Some (slot_of word) else None)

-- the ticket number that a word carries, if it is not filled
abbrev pub number_in : ℕ → Option ℕ
number_in word = (if is_filled word then None else Some (slot_of word))

-- the word after one more reader has arrived
abbrev pub with_arrival : ℕ → ℕ
with_arrival word = (word + ARRIVE) % 2 ^ 64

-- the word after the key was asked for
abbrev pub with_ask : ℕ → ℕ
with_ask word = bit_or word 1

-- the arrivals at a slot and its departures agree, as far as a key's word counts
abbrev pub same_count : ℕ → ℕ → Bool
same_count arrivals departures = arrivals % 2 ^ 40 == departures % 2 ^ 40
