-- A part written over the bytes of a message, and what stands before and behind it.
use Rattle.std.proofs.Common.{◌≡◌, ℕ, ◌+◌, ◌≤◌, List, ◌++◌, length, take, drop, sym, ap, ◌∙◌, arith, length-take-le}
use Rattle.std.proofs.Math.Seq.{drop-append_seam}
use Rattle.std.proofs.lemmas.List.{take-take, take-append-le, take_all}

-- what stood before the part is as it was
pub before : (old new part : List ℕ) (at n : ℕ) → take (at + length part) new ≡ take at old ++ part → at ≤ length old → n ≤ at → take n new ≡ take n old
before old new part at n e within h =
    let early : n ≤ at + length part = omega arith in
    let long : n ≤ length (take at old) = omega (arith, length-take-le at old within) in
    sym (take-take n (at + length part) new early) ∙ ap (take n) e
    ∙ take-append-le n (take at old) part long ∙ take-take n at old h

-- a part at the end stands there
pub behind : (old new part : List ℕ) (at : ℕ) → take (at + length part) new ≡ take at old ++ part → at ≤ length old → length new ≡ at + length part → drop at new ≡ part
behind old new part at e within size =
    let place : at ≡ length (take at old) = sym (length-take-le at old within) in
    let whole : new ≡ take at old ++ part = sym (take_all (at + length part) new (omega arith)) ∙ e in
    (λ i. drop (place i) (whole i)) ∙ drop-append_seam (take at old) part

at_end : (new : List ℕ) (part : List ℕ) (at n m : ℕ) (front : List ℕ) → take (at + n) new ≡ front → at + n ≡ m → take m new ≡ front
at_end new part at n m front e h = ap (λ k. take k new) (sym h) ∙ e

-- 16, 4 and 2 bytes one behind the other, and a part behind the next byte
pub head_of : (first second third fourth a b d e : List ℕ) → length a ≡ 16 → length b ≡ 4 → length d ≡ 2 → take (0 + length a) first ≡ a → take (16 + length b) second ≡ take 16 first ++ b → take (20 + length d) third ≡ take 20 second ++ d → take (23 + length e) fourth ≡ take 23 third ++ e → 23 ≤ length third → take 22 fourth ≡ a ++ b ++ d
head_of first second third fourth a b d e la lb ld ea eb ed ee long =
    let one : take 16 first ≡ a = at_end first a 0 (length a) 16 _ ea (omega arith) in
    let two : take 20 second ≡ a ++ b = at_end second b 16 (length b) 20 _ eb (omega arith) ∙ ap (λ l. l ++ b) one in
    let three : take 22 third ≡ (a ++ b) ++ d = at_end third d 20 (length d) 22 _ ed (omega arith) ∙ ap (λ l. l ++ d) two in
    before third fourth e 23 22 ee long (omega arith) ∙ three
