use Rattle.std.proofs.Common.{◌≡◌, ◌∙◌, ℕ, zero, suc, ◌+◌, ◌-◌, ◌++◌, List, [], ◌∷◌, length, take, take_all, replicate}
use Rattle.std.proofs.Common.{ap, sym, append_assoc, append-nil, add-one, arith, false, rules}
use Rattle.nr_words.specs.Opening.{repeated}
use Rattle.nr_words.specs.KeyWords.{hole_word}
use Rattle.nr_words.specs.SetWords.{content_words}
use Rattle.nr_words.proofs.opening.opening_words.Goals as goal

-- one more copy may as well stand behind the others
repeated_behind : {A : Type 0} (n : ℕ) (xs : List A) → xs ++ repeated n xs ≡ repeated n xs ++ xs
repeated_behind zero xs = append-nil xs
repeated_behind (suc n) xs = ap (λ more. xs ++ more) (repeated_behind n xs) ∙ sym (append_assoc xs (repeated n xs) xs)

repeated_once_more : {A : Type 0} (before : List A) (n : ℕ) (xs so_far more : List A)
    → so_far ≡ before ++ repeated n xs → more ≡ so_far ++ xs → more ≡ before ++ repeated (n + 1) xs
repeated_once_more before n xs so_far more laid e =
    rw (e, laid, add-one, append_assoc) (ap (λ rest. before ++ rest) (sym (repeated_behind n xs)))

-- a word put behind others, and that many zeros behind it
one_and_zeros : (before with_one after : List ℕ) (one room long had : ℕ) → with_one ≡ before ++ one ∷ []
    → long ≡ length with_one → long ≡ had
    → after ≡ take (long + room) with_one ++ replicate (long + room - had) 0 → after ≡ before ++ one ∷ replicate room 0
one_and_zeros before with_one after one room long had put count same grown =
    let whole : take (long + room) with_one ≡ with_one = take_all (long + room) with_one (omega arith) in
    let rest : long + room - had ≡ room = omega arith in
    rw (grown, whole, rest, put) (append_assoc before (one ∷ []) (replicate room 0))

pub loop-slot-preserved : goal.loop-slot-preserved
loop-slot-preserved c =
    let was = c.loop-slot.words.items in
    let long : c.len.result ≡ length c.push.new.self.items = search rules in
    let laid
    = one_and_zeros was _ _ c.args.first_count c.content_words-content_words.result _ _ c.in_ok-push.ensures.items
    long c.len.ensures c.in_ok-resize-2.ensures.items in
    let room : c.content_words-content_words.result ≡ content_words c.args.layout.rows
    = c.content_words-content_words.ensures in
    repeated_once_more (replicate c.args.layout.keys (hole_word c.args.first_number false)) c.loop-slot._slot _ _ _
    c.loop-slot.invariant (rw room at laid)
