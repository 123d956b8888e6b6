-- A key has one request under way at most, and rows for one that was cancelled come too late for ever.
use Rattle.std.specs.Prelude.{◌≡◌, ◌≢◌, ◌<◌, ◌≤◌, ◌+◌, ◌&&◌, ℕ, Bool, true, List, [], ◌∷◌, ◌++◌}
use Rattle.nr_model.specs.declared.calls.Call.TheVariants.{Fill}
use Rattle.nr_model.specs.declared.calls.Reply.TheVariants as reply
use Rattle.nr_model.specs.declared.rows.Row.{Row}
use Rattle.nr_model.specs.Histories.{Entry, IsLegal, after, asks, cancels, cancels_key, fills, is_cancelled, is_send}
use Rattle.nr_model.specs.Maps.{number_of, opening, state_of}

-- a request of the key that was to be sent, and a cancel that took one back
abbrev pub is_sent : ℕ → Entry → Bool
is_sent key entry = asks key entry.call && is_send entry.reply

abbrev pub took_back : ℕ → Entry → Bool
took_back key entry = cancels_key key entry.call && is_cancelled entry.reply

-- between two requests of a key that are sent the key is filled, or its request cancelled
abbrev pub OneAtATime : Type 0
OneAtATime =
    (keys bound first_number key : ℕ) (before between : List Entry) (one two : Entry) →
    IsLegal (opening keys bound first_number) (((before ++ one ∷ []) ++ between) ++ two ∷ []) →
    key < keys →
    is_sent key one ≡ true →
    is_sent key two ≡ true →
    0 < fills between key + cancels between key

-- once a request was cancelled, no fill by its ticket number or an earlier one is done
abbrev pub CancelledIsStale : Type 0
CancelledIsStale =
    (keys bound first_number key number : ℕ) (rows : List Row) (before between : List Entry) (cancel fill : Entry) →
    IsLegal (opening keys bound first_number) (((before ++ cancel ∷ []) ++ between) ++ fill ∷ []) →
    key < keys →
    took_back key cancel ≡ true →
    number ≤ number_of (state_of (after (opening keys bound first_number) before) key) →
    fill.call ≡ Fill key number rows →
    fill.reply ≢ reply.Done
