-- The commands of scripts: the one that a line's words spell.
use Rattle.std.specs.Prelude.{ℕ, ◌&&◌, nat_lt, nat_le, if◌then◌else◌, Bool, true, false, List, [], ◌∷◌, length, Option}
use Rattle.std.specs.Prelude.{Some, None, codes, option_and_then, option_map}
use Rattle.std.specs.List.{list_all}
use Rattle.std.specs.Str.{bytes_eq}
use Rattle.nr_script.specs.declared.command.Command.{Command}
use Rattle.nr_script.specs.declared.command.Command.TheVariants.{Open, Find, Ask, Fill, FillAs, Update, Replace, Evict}
use Rattle.nr_script.specs.declared.command.Command.TheVariants.{Cancel, Look, Pin, Show, Again, Unpin}
use Rattle.nr_text.specs.Grammar.{number, filling, filling_as, updating}
use Rattle.nr_text.specs.Opening.{opening_of_words}

-- the bytes of a name
abbrev pub is_name_byte : ℕ → Bool
is_name_byte b = nat_le 33 b && nat_le b 126

-- a word for a key, before it is known what stands for the script's keys: one byte or more
abbrev pub key : List ℕ → Option (List ℕ)
key word = if nat_lt 0 (length word) && list_all is_name_byte word then Some word else None

-- a reader and a key, a key alone, a reader alone
abbrev pub reader_and_key : (ℕ → List ℕ → Command) → List (List ℕ) → Option Command
reader_and_key command (reader ∷ word ∷ []) =
    option_and_then (λ r. option_map (λ k. command r k) (key word)) (number reader)
reader_and_key command other = None

abbrev pub key_alone : (List ℕ → Command) → List (List ℕ) → Option Command
key_alone command (word ∷ []) = option_map command (key word)
key_alone command other = None

abbrev pub reader_alone : (ℕ → Command) → List (List ℕ) → Option Command
reader_alone command (reader ∷ []) = option_map command (number reader)
reader_alone command other = None

-- the command of a line's words
abbrev pub reading : List ℕ → List (List ℕ) → Option Command
reading name more =
    if bytes_eq name (codes "find") then reader_and_key Find more
    else if bytes_eq name (codes "ask") then reader_and_key Ask more
    else if bytes_eq name (codes "pin") then reader_and_key Pin more
    else if bytes_eq name (codes "show") then reader_alone Show more
    else if bytes_eq name (codes "again") then reader_and_key Again more
    else if bytes_eq name (codes "unpin") then reader_alone Unpin more
    else None

abbrev pub script_command : List (List ℕ) → Option Command
script_command [] = None
script_command (name ∷ more) =
    if bytes_eq name (codes "open") then option_map (λ opening. Open false opening) (opening_of_words more)
    else if bytes_eq name (codes "open-named") then option_map (λ opening. Open true opening) (opening_of_words more)
    else if bytes_eq name (codes "fill") then filling key Fill more
    else if bytes_eq name (codes "fill-as") then filling_as key FillAs more
    else if bytes_eq name (codes "update") then updating key Update more
    else if bytes_eq name (codes "replace") then filling key Replace more
    else if bytes_eq name (codes "evict") then key_alone Evict more
    else if bytes_eq name (codes "cancel") then key_alone Cancel more
    else if bytes_eq name (codes "look") then key_alone Look more
    else reading name more
