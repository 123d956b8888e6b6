-- Histories of calls with their replies.
use Rattle.std.specs.Prelude.{ℕ, ◌≡◌, ◌==◌, ◌&&◌, Bool, true, false, List, [], ◌∷◌}
use Rattle.std.specs.List.{count_by, filter, fold}
use Rattle.nr_model.specs.declared.calls.Call.{Call}
use Rattle.nr_model.specs.declared.calls.Call.TheVariants.{Ask, Fill, Cancel}
use Rattle.nr_model.specs.declared.calls.Reply.{Reply}
use Rattle.nr_model.specs.declared.calls.Reply.TheVariants as reply
use Rattle.nr_model.specs.Maps.{PartialMap, reply_to, next}

-- one call with its reply; caller 0 is the writer, the others are the readers
pub record Entry : Type 0 where
  pub caller : ℕ
  pub call : Call
  pub reply : Reply

-- the map after the entries, oldest first, from that map on
abbrev pub after : PartialMap → List Entry → PartialMap
after map history = fold (λ m e. next m e.call) map history

-- each entry's reply is the map's after the entries before it
abbrev pub IsLegal : PartialMap → List Entry → Type 0
IsLegal map [] = Unit {0}
IsLegal map (e ∷ history) = (e.reply ≡ reply_to map e.call) × IsLegal (next map e.call) history

-- the entries of one caller
abbrev pub entries_of : List Entry → ℕ → List Entry
entries_of history caller = filter (λ e. e.caller == caller) history

-- the call is a request of the key; a fill of the key; a cancel of the key
abbrev pub asks : ℕ → Call → Bool
asks key (Ask k) = k == key
asks key _ = false

abbrev pub fills_key : ℕ → Call → Bool
fills_key key (Fill k number rows) = k == key
fills_key key _ = false

abbrev pub cancels_key : ℕ → Call → Bool
cancels_key key (Cancel k) = k == key
cancels_key key _ = false

abbrev pub is_send : Reply → Bool
is_send (reply.Send n) = true
is_send _ = false

abbrev pub is_done : Reply → Bool
is_done reply.Done = true
is_done _ = false

abbrev pub is_cancelled : Reply → Bool
is_cancelled reply.Cancelled = true
is_cancelled _ = false

-- how often a request of the key was answered Send, a fill of it Done, and a cancel of it Cancelled
abbrev pub sends : List Entry → ℕ → ℕ
sends history key = count_by (λ e. asks key e.call && is_send e.reply) history

abbrev pub fills : List Entry → ℕ → ℕ
fills history key = count_by (λ e. fills_key key e.call && is_done e.reply) history

abbrev pub cancels : List Entry → ℕ → ℕ
cancels history key = count_by (λ e. cancels_key key e.call && is_cancelled e.reply) history
