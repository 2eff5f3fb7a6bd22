-- The pieces of a text of the right shape.
use Rattle.std.proofs.Common.{◌≡◌, ℕ, suc, ◌+◌, ◌-◌, true, List, [], ◌∷◌, ◌++◌, ◌&&◌, length, take, drop, length-append, refl, sym, ap, ◌∙◌, arith}
use Rattle.std.specs.Prelude.{nat_eq, nat_lt, codes, ◌==◌}
use Rattle.std.specs.Cmp.Lexicographic.{pointwise, bytes_decides}
use Rattle.std.specs.List.{list_all, ends_with}
use Rattle.std.specs.Char.{is_ascii_digit}
use Rattle.std.proofs.Math.Seq.{take-append_seam, drop-append_seam}
use Rattle.std.proofs.lemmas.List.{take-append-drop, drop-drop}
use Rattle.std.proofs.lemmas.Bool.Decides.{nat_tests}
use Rattle.civil_moment.specs.Moment.{are_digits, digits_text, fraction_text, time_text}
use Rattle.civil_moment.proofs.Digits.{byte_range, values-length}
use Rattle.std.specs.Cmp.{first_so, second_so}
use Rattle.civil_moment.specs.Fault.{before_last, is_point_and_digits, has_shape, values, fields_in, fraction_in}

pub before_last-is : (text body : List ℕ) (last : ℕ) → text ≡ body ++ last ∷ [] → length body + 1 ≡ length text → before_last text ≡ body
before_last-is text body last is long =
    let e : length text - 1 ≡ length body = omega arith in
    (λ i. take (e i) (is i)) ∙ take-append_seam body (last ∷ [])

-- the shape of what stands behind the fourteen digits
pub tail_shape : (text body tail : List ℕ) → before_last text ≡ body → tail ≡ drop 14 body → has_shape text ≡ true → is_point_and_digits tail ≡ true
tail_shape text body tail is behind h =
    let rest = second_so _ (is_point_and_digits (drop 14 (before_last text))) h in
    (λ i. is_point_and_digits ((behind ∙ ap (drop 14) (sym is)) i)) ∙ rest

pub fraction_behind : (text body tail digits : List ℕ) → before_last text ≡ body → tail ≡ drop 14 body → digits ≡ drop 1 tail → values digits ≡ fraction_in text
fraction_behind text body tail digits is behind after =
    ap values (after ∙ ap (drop 1) (behind ∙ ap (drop 14) (sym is)) ∙ drop-drop 1 14 (before_last text))

-- ---- bytes and the values of their digits

text_again : (text : List ℕ) → list_all is_ascii_digit text ≡ true → digits_text (values text) ≡ text
text_again [] h = refl
text_again (b ∷ text) h =
    let r = byte_range b (first_so (is_ascii_digit b) (list_all is_ascii_digit text) h) in
    let e : 48 + (b - 48) ≡ b = omega arith in
    λ i. e i ∷ text_again text (second_so (is_ascii_digit b) (list_all is_ascii_digit text) h) i

values_again : (digits : List ℕ) → values (digits_text digits) ≡ digits
values_again [] = refl
values_again (d ∷ digits) =
    let e : 48 + d - 48 ≡ d = omega arith in λ i. e i ∷ values_again digits i

values_digits : (text : List ℕ) → list_all is_ascii_digit text ≡ true → are_digits (values text) ≡ true
values_digits [] h = refl
values_digits (b ∷ text) h =
    let r = byte_range b (first_so (is_ascii_digit b) (list_all is_ascii_digit text) h) in
    let e : nat_lt (b - 48) 10 ≡ true = grind (arith, nat_tests) in
    λ i. e i && values_digits text (second_so (is_ascii_digit b) (list_all is_ascii_digit text) h) i

text_digits : (digits : List ℕ) → are_digits digits ≡ true → list_all is_ascii_digit (digits_text digits) ≡ true
text_digits [] h = refl
text_digits (d ∷ digits) h =
    let low = first_so (nat_lt d 10) (are_digits digits) h in
    let e : is_ascii_digit (48 + d) ≡ true = grind (arith, nat_tests) in
    λ i. e i && text_digits digits (second_so (nat_lt d 10) (are_digits digits) h) i

pub text-length : (digits : List ℕ) → length (digits_text digits) ≡ length digits
text-length [] = refl
text-length (d ∷ digits) = ap suc (text-length digits)

-- ---- a text of the right shape is spelled by its own digits

last_byte : (text : List ℕ) → ends_with nat_eq text (codes "Z") ≡ true → text ≡ before_last text ++ codes "Z"
last_byte text h =
    let e = (bytes_decides (codes "Z") (drop (length text - 1) text)).0 h in
    sym (take-append-drop (length text - 1) text) ∙ ap (λ l. before_last text ++ l) (sym e)

tail_digits : (tail : List ℕ) → is_point_and_digits tail ≡ true → list_all is_ascii_digit (drop 1 tail) ≡ true
tail_digits [] h = refl
tail_digits (p ∷ []) h = refl
tail_digits (p ∷ d ∷ digits) h = second_so (p == 46) (list_all is_ascii_digit (d ∷ digits)) h

tail_text : (tail : List ℕ) → is_point_and_digits tail ≡ true → fraction_text (values (drop 1 tail)) ≡ tail
tail_text [] h = refl
tail_text (p ∷ []) h = cc
tail_text (p ∷ d ∷ digits) h =
    let rest = text_again (d ∷ digits) (tail_digits (p ∷ d ∷ digits) h) in
    let point = first_so (p == 46) (list_all is_ascii_digit (d ∷ digits)) h in
    let e : 46 ≡ p = grind (arith, nat_tests) in
    λ i. e i ∷ rest i

pub record Pieces (text : List ℕ) : Type 0 where
  pub spelled : text ≡ time_text (fields_in text) (fraction_in text)
  pub fourteen : length (fields_in text) ≡ 14
  pub digits : (are_digits (fields_in text) && are_digits (fraction_in text)) ≡ true

pub pieces : (text : List ℕ) → has_shape text ≡ true → Pieces text
pieces text h =
    let body = before_last text in
    let front = take 14 body in
    let tail = drop 14 body in
    let point = second_so _ (is_point_and_digits tail) h in
    let three = first_so _ (is_point_and_digits tail) h in
    let all = second_so _ (list_all is_ascii_digit front) three in
    let two = first_so _ (list_all is_ascii_digit front) three in
    let long = second_so (ends_with nat_eq text (codes "Z")) (length front == 14) two in
    let last = first_so (ends_with nat_eq text (codes "Z")) (length front == 14) two in
    let behind : values (drop 1 tail) ≡ fraction_in text = ap values (drop-drop 1 14 body) in
    let fraction = sym (ap fraction_text behind) ∙ tail_text tail point in
    let halves : digits_text (values front) ++ fraction_text (fraction_in text) ≡ body = (λ i. text_again front all i ++ fraction i) ∙ take-append-drop 14 body in
    let size : length front ≡ 14 = grind (arith, nat_tests) in
    record {
      spelled = last_byte text last ∙ ap (λ l. l ++ codes "Z") (sym halves);
      fourteen = values-length front ∙ size;
      digits = λ i. values_digits front all i && (ap are_digits (sym behind) ∙ values_digits (drop 1 tail) (tail_digits tail point)) i;
    }

-- ---- what is spelled has the right shape, and these digits

ends_so : (body : List ℕ) → ends_with nat_eq (body ++ codes "Z") (codes "Z") ≡ true
ends_so body =
    let e : length (body ++ codes "Z") - 1 ≡ length body = omega (arith, length-append body (codes "Z")) in
    ap (λ k. pointwise nat_eq (codes "Z") (drop k (body ++ codes "Z"))) e ∙ ap (pointwise nat_eq (codes "Z")) (drop-append_seam body (codes "Z"))

point_so : (fraction : List ℕ) → are_digits fraction ≡ true → is_point_and_digits (fraction_text fraction) ≡ true
point_so [] h = refl
point_so (d ∷ fraction) h = text_digits (d ∷ fraction) h

behind_point : (fraction : List ℕ) → drop 1 (fraction_text fraction) ≡ digits_text fraction
behind_point [] = refl
behind_point (d ∷ fraction) = refl

pub record Reads (fields fraction : List ℕ) : Type 0 where
  pub shape : has_shape (time_text fields fraction) ≡ true
  pub fields_same : fields_in (time_text fields fraction) ≡ fields
  pub fraction_same : fraction_in (time_text fields fraction) ≡ fraction

pub reads : (fields fraction : List ℕ) → length fields ≡ 14 → (are_digits fields && are_digits fraction) ≡ true → Reads fields fraction
reads fields fraction long h =
    let text = time_text fields fraction in
    let front = digits_text fields in
    let tail = fraction_text fraction in
    let body : before_last text ≡ front ++ tail = before_last-is text (front ++ tail) 90 refl (sym (length-append (front ++ tail) (codes "Z"))) in
    let size : length front ≡ 14 = text-length fields ∙ long in
    let first : take 14 (before_last text) ≡ front = (λ i. take (sym size i) (body i)) ∙ take-append_seam front tail in
    let rest : drop 14 (before_last text) ≡ tail = (λ i. drop (sym size i) (body i)) ∙ drop-append_seam front tail in
    let after : drop 15 (before_last text) ≡ digits_text fraction = sym (drop-drop 1 14 (before_last text)) ∙ ap (drop 1) rest ∙ behind_point fraction in
    let digits = first_so (are_digits fields) (are_digits fraction) h in
    let more = second_so (are_digits fields) (are_digits fraction) h in
    let a : ends_with nat_eq text (codes "Z") ≡ true = ends_so (front ++ tail) in
    let b : (length (take 14 (before_last text)) == 14) ≡ true = ap (λ t. length t == 14) first ∙ ap (λ n. n == 14) size in
    let c : list_all is_ascii_digit (take 14 (before_last text)) ≡ true = ap (list_all is_ascii_digit) first ∙ text_digits fields digits in
    let d : is_point_and_digits (drop 14 (before_last text)) ≡ true = ap is_point_and_digits rest ∙ point_so fraction more in
    record {
      shape = λ i. a i && b i && c i && d i;
      fields_same = ap values first ∙ values_again fields;
      fraction_same = ap values after ∙ values_again fraction;
    }
