-- Numbers: a number has one spelling, and each spelling is read as its number.
use Rattle.std.proofs.Common.{◌≡◌, ℕ, zero, suc, ◌+◌, ◌-◌, ◌*◌, ◌^◌, ◌<◌, ◌≤◌, ◌==◌, Bool, true, false, not, nat_lt, nat_le, List, [], ◌∷◌, ◌++◌, length, take, get_or, Ok, refl, sym, ap, subst, ◌∙◌, arith, rules}
use Rattle.std.specs.Prelude.{decimal}
use Rattle.std.specs.Char.{is_ascii_digit}
use Rattle.std.specs.List.{list_all}
use Rattle.std.proofs.lemmas.Bool.{and_parts, and_from, le-ltb, ltb-false, leb-true, ne_eqb, eq-eqb}
use Rattle.std.proofs.lemmas.Bool.Decides.{nat_tests}
use Rattle.std.proofs.Math.Nat.{pow-suc, pow-le-pow_right}
use Rattle.std.proofs.lemmas.Fmt.{digits_decimal, digits_value-decimal, decimal-digits_value, decimal_nonempty, length-decimal-le, first_decimal, decimal_digit}
use Rattle.std.proofs.lemmas.Str.Parse.{IsNumeralModel, numerals_by_fold}
use Rattle.der_values.specs.Next.{is_empty}
use Rattle.der_values.proofs.Values.{bind_ok, ok_is, guard_ok}
use Rattle.session_text.specs.declared.shape.ShapeFault.{ShapeFault}
use Rattle.session_text.specs.Unread.{Unread}
use Rattle.session_text.specs.Words.{ends_word, word_at, separator_on, leads_with_zero, is_number, number_on, number_of, number_in, number_at}
use Rattle.session_text.proofs.Passing.{Passes}
use Rattle.session_text.proofs.WordLemmas.{IsPlain, word_again, word_takes, separator_again, separator_takes}

own : IsNumeralModel (λ ds. list_all is_ascii_digit ds ≡ true) (number_on 0)
own = numerals_by_fold _ (search rules) number_on (search rules)

some_digits : (ds : List ℕ) → 0 < length ds → is_empty ds ≡ false
some_digits [] h = absurd (omega arith)
some_digits (d ∷ ds) h = refl

no_zero : (ds : List ℕ) → 48 < get_or ds 0 0 → leads_with_zero ds ≡ false
no_zero [] h = refl
no_zero (d ∷ []) h = refl
no_zero (d ∷ e ∷ ds) h = ne_eqb d 48 (λ same. omega arith)

alone : (ds : List ℕ) → leads_with_zero ds ≡ false → is_empty ds ≡ false → get_or ds 0 0 ≡ 48 → length ds ≡ 1
alone [] h some first = absurd cc
alone (d ∷ []) h some first = refl
alone (d ∷ e ∷ ds) h some first = absurd (let t : (d == 48) ≡ true = eq-eqb d 48 first in cc)

nonempty : (ds : List ℕ) → is_empty ds ≡ false → 0 < length ds
nonempty [] h = absurd cc
nonempty (d ∷ ds) h = omega arith

pub plain_digits : (ds : List ℕ) → list_all is_ascii_digit ds ≡ true → IsPlain ds
plain_digits [] h = refl
plain_digits (d ∷ ds) h =
    let p = and_parts (is_ascii_digit d) _ h in
    let digit = p.0 in
    let e : nat_lt 32 d ≡ true = grind (arith, nat_tests) in
    and_from _ _ e (plain_digits ds p.1)

-- ---- a number's spelling

pub record Numeral (n : ℕ) : Type 0 where
  pub digits : list_all is_ascii_digit (decimal n) ≡ true
  pub tells : is_number (decimal n) ≡ true
  pub value : number_of (decimal n) ≡ n

leads : (n : ℕ) → n < 2 ^ 64 → leads_with_zero (decimal n) ≡ false
leads zero small = rw (decimal_digit 0 (omega arith)) refl
leads (suc n) small = no_zero (decimal (suc n)) (first_decimal (suc n) (omega arith) small)

pub numeral : (n : ℕ) → n < 2 ^ 64 → Numeral n
numeral n small =
    let digits = digits_decimal own n small in
    let some = some_digits (decimal n) (decimal_nonempty n small) in
    let short : nat_le (length (decimal n)) 20 ≡ true = le-leb _ _ (length-decimal-le 20 n (omega arith) (omega arith) small) in
    let lead = leads n small in
    record { digits = digits; tells = rw (digits, some, short, lead) refl; value = digits_value-decimal own n small }
  where
    le-leb : (a b : ℕ) → a ≤ b → nat_le a b ≡ true
    le-leb a b h = grind (arith, nat_tests)

pub spelled : (word : List ℕ) → is_number word ≡ true → number_of word < 2 ^ 64 → word ≡ decimal (number_of word)
spelled word h small =
    let p = and_parts _ (not (leads_with_zero word)) h in
    let q = and_parts _ (nat_le (length word) 20) p.0 in
    let r = and_parts (list_all is_ascii_digit word) (not (is_empty word)) q.0 in
    let some = not_true (is_empty word) r.1 in
    sym (decimal-digits_value own word r.0 (nonempty word some) (alone word (not_true (leads_with_zero word) p.1) some) small)
  where
    not_true : (b : Bool) → not b ≡ true → b ≡ false
    not_true true h = cc
    not_true false h = refl

-- ---- readings

pub record NumberTaken (most separator : ℕ) (before : Unread) (n : ℕ) (after : Unread) : Type 0 where
  pub is : before.bytes ≡ decimal n ++ separator ∷ after.bytes
  pub within : n ≤ most

pub number_takes : (most separator : ℕ) (before : Unread) (n : ℕ) (after : Unread) → most < 2 ^ 64 → number_at most separator before ≡ Ok (n, after) → NumberTaken most separator before n after
unfolding number_at number_in
number_takes most separator before n after small e =
    let a = bind_ok (word_at before) _ _ e in
    let b = bind_ok (number_in before.place most a.0.0) _ _ a.2 in
    let g = guard_ok (not (is_number a.0.0)) _ _ _ b.1 in
    let l = guard_ok (nat_lt most (number_of a.0.0)) _ _ _ g.1 in
    let within = ltb-false most (number_of a.0.0) l.0 in
    let value : number_of a.0.0 ≡ b.0 = ok_is {F = ShapeFault} _ _ l.1 in
    let c = bind_ok (separator_on separator a.0.1.place a.0.1.bytes) _ _ b.2 in
    let same = ok_is {A = ℕ × Unread} {F = ShapeFault} _ _ c.2 in
    let text = spelled a.0.0 (not_false (is_number a.0.0) g.0) (omega arith) ∙ ap (λ (m : ℕ). decimal m) value in
    let read = word_takes before a.0.0 a.0.1 a.1 ∙ ap (λ (t : List ℕ). t ++ a.0.1.bytes) text ∙ ap (λ (t : List ℕ). decimal b.0 ++ t) (separator_takes separator a.0.1.place a.0.1.bytes c.0.0 c.0.1 c.1) in
    subst (λ (y : ℕ × Unread). NumberTaken most separator before y.0 y.1) same (record { is = read; within = rw (← value) within })
  where
    not_false : (b : Bool) → not b ≡ false → b ≡ true
    not_false true h = refl
    not_false false h = cc

pub number_again : (place most separator n : ℕ) (tail : List ℕ) → n ≤ most → most < 2 ^ 64 → ends_word separator ≡ true
    → Passes n tail (number_at most separator (record { place = place; bytes = decimal n ++ separator ∷ tail }))
unfolding number_at number_in
number_again place most separator n tail within small ends =
    let text = numeral n (omega arith) in
    let word = word_again place (decimal n) separator tail (plain_digits (decimal n) text.digits) ends in
    let behind = separator_again separator word.place tail in
    let few : nat_lt most n ≡ false = le-ltb most n within in
    record { place = behind.place; is = rw (word.is, text.tells, text.value, few, behind.is) refl }

-- ---- the value, digit by digit

pub below_more : (n i d : ℕ) → n < 10 ^ i → d < 10 → n * 10 + d < 10 ^ (i + 1)
below_more n i d low small =
    let e : suc i ≡ i + 1 = omega arith in
    subst (λ k. n * 10 + d < 10 ^ k) e (omega (arith, pow-suc 10 i))

pub fits : (n i : ℕ) → n < 10 ^ i → i < 20 → n < 10000000000000000000
fits n i low few = let h : 10 ^ i ≤ 10 ^ 19 = pow-le-pow_right {n = 10} (omega arith) {i = i} {j = 19} (omega arith) in omega arith

next : (number : ℕ) (text : List ℕ) (i : ℕ) → i < length text → number_on number (take (suc i) text) ≡ number_on number (take i text) * 10 + (get_or text i 0 - 48)
next number [] i low = absurd (omega arith)
next number (d ∷ text) zero low = refl
next number (d ∷ text) (suc i) low = next (number * 10 + (d - 48)) text i (omega arith)

pub number_more : (text : List ℕ) (i : ℕ) → i < length text → number_of (take (i + 1) text) ≡ number_of (take i text) * 10 + (get_or text i 0 - 48)
number_more text i low =
    let e : suc i ≡ i + 1 = omega arith in
    subst (λ k. number_of (take k text) ≡ number_of (take i text) * 10 + (get_or text i 0 - 48)) e (next 0 text i low)

pub record Digit (b : ℕ) : Type 0 where
  pub from : 48 ≤ b
  pub until : b ≤ 57

digit : (b : ℕ) → is_ascii_digit b ≡ true → Digit b
digit b h = record { from = grind (arith, nat_tests); until = grind (arith, nat_tests) }

pub digit_at : (text : List ℕ) (i : ℕ) → list_all is_ascii_digit text ≡ true → i < length text → Digit (get_or text i 0)
digit_at [] i h low = absurd (omega arith)
digit_at (b ∷ text) zero h low = digit b (and_parts (is_ascii_digit b) _ h).0
digit_at (b ∷ text) (suc i) h low = digit_at text i (and_parts (is_ascii_digit b) _ h).1 (omega arith)

pub record Numbered (word : List ℕ) : Type 0 where
  pub digits : list_all is_ascii_digit word ≡ true
  pub short : length word ≤ 20

pub numbered : (word : List ℕ) → is_number word ≡ true → Numbered word
numbered word h =
    let p = and_parts _ (not (leads_with_zero word)) h in
    let q = and_parts _ (nat_le (length word) 20) p.0 in
    let r = and_parts (list_all is_ascii_digit word) (not (is_empty word)) q.0 in
    record { digits = r.0; short = leb-true (length word) 20 q.1 }
