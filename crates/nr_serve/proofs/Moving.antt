-- The calls of a caller, and the moves of a client's hands, put together; and that a client stays what it is by them.
use Rattle.std.proofs.Common.{◌≡◌, ℕ, ◌+◌, List, [], ◌∷◌, ◌++◌, refl, arith, append_assoc, append-nil, ◌≤◌}
use Rattle.std.proofs.Common.{length-append, Option}
use Rattle.std.proofs.Math.Seq.{drop-append_seam}
use Rattle.nr_model.specs.declared.calls.Call.{Call}
use Rattle.nr_model.specs.declared.calls.Reply.{Reply}
use Rattle.nr_model.specs.Histories.{Entry}
use Rattle.nr_core.specs.Story.{entry}
use Rattle.nr_board.specs.Callers.{Caller, Gains, Table}
use Rattle.nr_map.specs.Tickets.{Request}
use Rattle.nr_trigger.specs.declared.post.Upquery.{Upquery}
use Rattle.nr_trigger.specs.Tokens.{PosterSeen, Queue}
use Rattle.nr_serve.specs.Callers.{Makes}
use Rattle.nr_serve.specs.declared.hands.Hands.{Hands}
use Rattle.nr_serve.specs.Hands.{Moves, last_count, IsReady}
use Rattle.nr_serve.specs.Tickets.{Posts, sent}
use Rattle.nr_serve.specs.Clients.{IsServing}

pub makes_none : (a : Caller) → Makes 0 [] a a
makes_none a = grind (arith, append-nil)

pub makes_by_gains : (steps : ℕ) (a : Caller) (call : Call) (reply : Reply) (b : Caller) → Gains steps call a b reply
    → Makes steps (entry a.number call reply ∷ []) a b
makes_by_gains steps a call reply b gains = grind (arith, append_assoc)

pub makes_both : {m n sum : ℕ} {a b c : Caller} {es fs : List Entry} → sum ≡ m + n → Makes m es a b → Makes n fs b c
    → Makes sum (es ++ fs) a c
makes_both is one two = grind (arith, append_assoc)

pub sent-append : (es fs : List Entry) → sent (es ++ fs) ≡ sent es ++ sent fs
sent-append [] fs = refl
sent-append (e ∷ es) fs = rw (sent-append es fs, append_assoc)

pub posts_none : (kept : Option Request) (poster : PosterSeen) → Posts [] poster kept poster kept
posts_none kept poster = grind (arith, append-nil)

posts_both : {k₀ k₁ k₂ : Option Request} {p₀ p₁ p₂ : PosterSeen} {s₁ s₂ : List Upquery} → Posts s₁ p₀ k₀ p₁ k₁
    → Posts s₂ p₁ k₁ p₂ k₂ → Posts (s₁ ++ s₂) p₀ k₀ p₂ k₂
posts_both one two = grind (arith, append_assoc)

pub moves_both : {m n sum : ℕ} {a b c : Hands} {es fs : List Entry} → sum ≡ m + n → Moves m es a b → Moves n fs b c
    → Moves sum (es ++ fs) a c
moves_both {a = a} {b = b} {c = c} {es = es} {fs = fs} is one two =
    let makes = makes_both is one.makes two.makes in
    let posts = posts_both one.posts two.posts in
    record { makes = makes; posts = rw sent-append posts; sends = grind (arith, sent-append, length-append) }

pub moves_none : (a : Hands) → a.sends ≤ last_count → Moves 0 [] a a
moves_none a small = record { makes = makes_none a.reader; posts = posts_none a.kept a.poster; sends = omega arith }

pub serves_on : (map : Table) (queue : Queue) (opened old new : Hands) (steps : ℕ) (entries : List Entry)
    → IsServing map queue opened old → IsReady map queue new → Moves steps entries old new
    → IsServing map queue opened new
serves_on map queue opened old new steps entries serving ready moves =
    grind (arith, append_assoc, drop-append_seam, sent-append, length-append)
