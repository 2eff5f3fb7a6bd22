-- No two texts say one moment.
use Rattle.std.proofs.Common.{◌≡◌, ℕ, zero, suc, ◌+◌, ◌-◌, ◌*◌, ◌<◌, ◌≤◌, Bool, true, false, ◌&&◌, List, [], ◌∷◌, ◌++◌, length, take, drop, length-append, length-drop, length-take-le, refl, sym, ap, ◌∙◌, arith, pos}
use Rattle.std.specs.Prelude.{◌==◌, nat_eq, nat_lt, nat_le, not, codes, replicate}
use Rattle.std.specs.List.{ends_with}
use Rattle.std.specs.Cmp.{first_so, second_so}
use Rattle.std.specs.Cmp.Lexicographic.{pointwise}
use Rattle.std.proofs.lemmas.List.{take-append-drop, drop-drop, length-map, length-replicate}
use Rattle.std.proofs.lemmas.List.Folds.{list_all-append}
use Rattle.std.proofs.lemmas.Bool.Decides.{nat_tests}
use Rattle.std.proofs.lemmas.Int.{ints}
use Rattle.jiff_core.specs.declared.civil.date.Date.{Date}
use Rattle.jiff_core.proofs.DateLemmas.{epoch_day_injective}
use Rattle.civil_moment.specs.declared.moment.Moment.{Moment}
use Rattle.civil_moment.specs.Calendar.{is_date, is_time, day_number, second_number}
use Rattle.civil_moment.specs.Moment.{Text, longest_time, digits_text, fraction_text, time_text, number, number_on, are_digits, is_fraction, is_civil, nanos_of, seconds_of, year_of, month_of, day_of, hour_of, minute_of, second_of}
use Rattle.civil_moment.proofs.Counting.{counted, date_tells}

-- ---- digits by their number

same_digits : (m n : ℕ) (xs ys : List ℕ) → length xs ≡ length ys → are_digits xs ≡ true → are_digits ys ≡ true → number_on m xs ≡ number_on n ys → (m ≡ n) × (xs ≡ ys)
same_digits m n [] [] long a b e = (e, refl)
same_digits m n [] (y ∷ ys) long a b e = absurd (omega arith)
same_digits m n (x ∷ xs) [] long a b e = absurd (omega arith)
same_digits m n (x ∷ xs) (y ∷ ys) long a b e =
    let h = same_digits (m * 10 + x) (n * 10 + y) xs ys (omega arith) (second_so (nat_lt x 10) (are_digits xs) a) (second_so (nat_lt y 10) (are_digits ys) b) e in
    let xt = first_so (nat_lt x 10) (are_digits xs) a in
    let yt = first_so (nat_lt y 10) (are_digits ys) b in
    let low : x < 10 = grind (arith, nat_tests) in
    let small : y < 10 = grind (arith, nat_tests) in
    let first : x ≡ y = omega (arith, h.0) in
    (omega (arith, h.0), λ i. first i ∷ h.1 i)

digits_taken : (k : ℕ) (xs : List ℕ) → are_digits xs ≡ true → are_digits (take k xs) ≡ true
digits_taken k xs h =
    first_so _ (are_digits (drop k xs)) (sym (list_all-append (λ d. nat_lt d 10) (take k xs) (drop k xs)) ∙ ap are_digits (take-append-drop k xs) ∙ h)

digits_dropped : (k : ℕ) (xs : List ℕ) → are_digits xs ≡ true → are_digits (drop k xs) ≡ true
digits_dropped k xs h =
    second_so (are_digits (take k xs)) _ (sym (list_all-append (λ d. nat_lt d 10) (take k xs) (drop k xs)) ∙ ap are_digits (take-append-drop k xs) ∙ h)

-- ---- the fourteen digits by their six numbers

pub record Fourteen (xs ys : List ℕ) : Type 0 where
  pub first : length xs ≡ 14
  pub second : length ys ≡ 14
  pub first_digits : are_digits xs ≡ true
  pub second_digits : are_digits ys ≡ true

piece_same : (k c : ℕ) (xs ys : List ℕ) → Fourteen xs ys → k + c ≤ 14 → number (take c (drop k xs)) ≡ number (take c (drop k ys)) → take c (drop k xs) ≡ take c (drop k ys)
piece_same k c xs ys f within e =
    let a = length-take-le c (drop k xs) (omega (arith, length-drop k xs, f.first)) in
    let b = length-take-le c (drop k ys) (omega (arith, length-drop k ys, f.second)) in
    (same_digits 0 0 (take c (drop k xs)) (take c (drop k ys)) (a ∙ sym b)
    (digits_taken c (drop k xs) (digits_dropped k xs f.first_digits)) (digits_taken c (drop k ys) (digits_dropped k ys f.second_digits)) e).1

rebuilt : (k c : ℕ) (xs ys : List ℕ) → take c (drop k xs) ≡ take c (drop k ys) → drop (k + c) xs ≡ drop (k + c) ys → drop k xs ≡ drop k ys
rebuilt k c xs ys front back =
    sym (take-append-drop c (drop k xs))
    ∙ (λ i. front i ++ (drop-drop c k xs ∙ back ∙ sym (drop-drop c k ys)) i)
    ∙ take-append-drop c (drop k ys)

empty : (xs : List ℕ) → length xs ≡ 0 → xs ≡ []
empty [] e = refl
empty (x ∷ xs) e = absurd (omega arith)

same_fields : (xs ys : List ℕ) → Fourteen xs ys → year_of xs ≡ year_of ys → month_of xs ≡ month_of ys → day_of xs ≡ day_of ys → hour_of xs ≡ hour_of ys → minute_of xs ≡ minute_of ys → second_of xs ≡ second_of ys → xs ≡ ys
same_fields xs ys f y m d h mi s =
    let end : drop 14 xs ≡ drop 14 ys = empty (drop 14 xs) (omega (arith, length-drop 14 xs, f.first)) ∙ sym (empty (drop 14 ys) (omega (arith, length-drop 14 ys, f.second))) in
    let six = rebuilt 12 2 xs ys (piece_same 12 2 xs ys f (omega arith) s) end in
    let five = rebuilt 10 2 xs ys (piece_same 10 2 xs ys f (omega arith) mi) six in
    let four = rebuilt 8 2 xs ys (piece_same 8 2 xs ys f (omega arith) h) five in
    let three = rebuilt 6 2 xs ys (piece_same 6 2 xs ys f (omega arith) d) four in
    let two = rebuilt 4 2 xs ys (piece_same 4 2 xs ys f (omega arith) m) three in
    rebuilt 0 4 xs ys (piece_same 0 4 xs ys f (omega arith) y) two

-- ---- the date by its number

date_value : (y m d : ℕ) → is_date y m d ≡ true → Date
date_value y m d h =
    let t = date_tells y m d h in
    record {
      year = pos y;
      month = m;
      day = d;
      year_in = (omega (arith, ints), omega (arith, ints, t.1));
      month_in = (t.2, t.3);
      day_in = (t.4, t.5);
    }

same_date : (y m d z n e : ℕ) → is_date y m d ≡ true → is_date z n e ≡ true → day_number y m d ≡ day_number z n e → (y ≡ z) × (m ≡ n) × (d ≡ e)
unfolding date_value
same_date y m d z n e h g same =
    let t = date_tells y m d h in
    let u = date_tells z n e g in
    let p = epoch_day_injective (date_value y m d h) (date_value z n e g) (counted y m d t.0 t.4 ∙ ap pos same ∙ sym (counted z n e u.0 u.4)) in
    (omega (arith, ints, p.0), p.1, p.2)

pub record Times (h m s : ℕ) : Type 0 where
  pub hour : h < 24
  pub minute : m < 60
  pub second : s < 60

pub time_tells : (h m s : ℕ) → is_time h m s ≡ true → Times h m s
time_tells h m s e = record { hour = grind (arith, nat_tests); minute = grind (arith, nat_tests); second = grind (arith, nat_tests) }

same_civil : (xs ys : List ℕ) → Fourteen xs ys → is_civil xs ≡ true → is_civil ys ≡ true → seconds_of xs ≡ seconds_of ys → xs ≡ ys
same_civil xs ys f a b e =
    let xd = first_so (is_date (year_of xs) (month_of xs) (day_of xs)) _ a in
    let yd = first_so (is_date (year_of ys) (month_of ys) (day_of ys)) _ b in
    let xt = time_tells (hour_of xs) (minute_of xs) (second_of xs) (second_so (is_date (year_of xs) (month_of xs) (day_of xs)) _ a) in
    let yt = time_tells (hour_of ys) (minute_of ys) (second_of ys) (second_so (is_date (year_of ys) (month_of ys) (day_of ys)) _ b) in
    let p = parts (day_number (year_of xs) (month_of xs) (day_of xs)) (hour_of xs) (minute_of xs) (second_of xs)
    (day_number (year_of ys) (month_of ys) (day_of ys)) (hour_of ys) (minute_of ys) (second_of ys) xt yt e in
    let q = same_date (year_of xs) (month_of xs) (day_of xs) (year_of ys) (month_of ys) (day_of ys) xd yd p.0 in
    same_fields xs ys f q.0 q.1 q.2 p.1 p.2 p.3
  where
    parts : (d h m s e i n t : ℕ) → Times h m s → Times i n t → 86400 * d + second_number h m s ≡ 86400 * e + second_number i n t → (d ≡ e) × (h ≡ i) × (m ≡ n) × (s ≡ t)
    parts d h m s e i n t x y same = (omega arith, omega arith, omega arith, omega arith)

-- ---- the fraction by its billionths

kept : Bool → ℕ → List ℕ → List ℕ
kept true d [] = []
kept true d (x ∷ xs) = d ∷ x ∷ xs
kept false d xs = d ∷ xs

-- without the zeros at the end
strip : List ℕ → List ℕ
strip [] = []
strip (d ∷ ds) = kept (d == 0) d (strip ds)

no_zeros : (n : ℕ) → strip (replicate n 0) ≡ []
unfolding strip kept
no_zeros zero = refl
no_zeros (suc n) = ap (kept true 0) (no_zeros n)

kept_more : (b : Bool) (d e : ℕ) (f : List ℕ) → kept b d (e ∷ f) ≡ d ∷ e ∷ f
unfolding kept
kept_more true d e f = refl
kept_more false d e f = refl

ends_cons : (d e : ℕ) (f : List ℕ) → ends_with nat_eq (d ∷ e ∷ f) (0 ∷ []) ≡ ends_with nat_eq (e ∷ f) (0 ∷ [])
ends_cons d e f =
    let k : length (d ∷ e ∷ f) - 1 ≡ suc (length f) = omega arith in
    let j : length (e ∷ f) - 1 ≡ length f = omega arith in
    ap (λ n. pointwise nat_eq (0 ∷ []) (drop n (d ∷ e ∷ f))) k ∙ sym (ap (λ n. pointwise nat_eq (0 ∷ []) (drop n (e ∷ f))) j)

stripped : (f : List ℕ) (n : ℕ) → ends_with nat_eq f (0 ∷ []) ≡ false → strip (f ++ replicate n 0) ≡ f
unfolding strip kept
stripped [] n h = no_zeros n
stripped (d ∷ []) n h =
    let one : length (d ∷ []) - 1 ≡ 0 = omega arith in
    let last : (nat_eq 0 d && true) ≡ false = sym (ap (λ k. pointwise nat_eq (0 ∷ []) (drop k (d ∷ []))) one) ∙ h in
    let e : (d == 0) ≡ false = grind (arith, nat_tests) in
    (λ i. kept (e i) d (no_zeros n i))
stripped (d ∷ e ∷ f) n h =
    ap (kept (d == 0) d) (stripped (e ∷ f) n (sym (ends_cons d e f) ∙ h)) ∙ kept_more (d == 0) d e f

pub record Fits (f : List ℕ) : Type 0 where
  pub most : length f ≤ 9
  pub last : ends_with nat_eq f (0 ∷ []) ≡ false

fits : (f : List ℕ) → is_fraction f ≡ true → Fits f
fits f h =
    let a = first_so (nat_le (length f) 9) (not (ends_with nat_eq f (0 ∷ []))) h in
    let b = second_so (nat_le (length f) 9) (not (ends_with nat_eq f (0 ∷ []))) h in
    record { most = grind (arith, nat_tests); last = untrue (ends_with nat_eq f (0 ∷ [])) b }
  where
    untrue : (b : Bool) → not b ≡ true → b ≡ false
    untrue true e = sym e
    untrue false e = refl

zeros_digits : (n : ℕ) → are_digits (replicate n 0) ≡ true
zeros_digits zero = refl
zeros_digits (suc n) = zeros_digits n

pub filled_length : (f : List ℕ) → length f ≤ 9 → length (f ++ replicate (9 - length f) 0) ≡ 9
filled_length f few = length-append f (replicate (9 - length f) 0) ∙ omega (arith, length-replicate {A = ℕ} (9 - length f) 0)

pub filled_digits : (f : List ℕ) → are_digits f ≡ true → are_digits (f ++ replicate (9 - length f) 0) ≡ true
filled_digits f h = list_all-append (λ d. nat_lt d 10) f (replicate (9 - length f) 0) ∙ (λ i. h i && zeros_digits (9 - length f) i)

same_fraction : (f g : List ℕ) → is_fraction f ≡ true → is_fraction g ≡ true → are_digits f ≡ true → are_digits g ≡ true → nanos_of f ≡ nanos_of g → f ≡ g
same_fraction f g a b c d e =
    let x = fits f a in
    let y = fits g b in
    let same = (same_digits 0 0 (f ++ replicate (9 - length f) 0) (g ++ replicate (9 - length g) 0)
    (filled_length f x.most ∙ sym (filled_length g y.most)) (filled_digits f c) (filled_digits g d) e).1 in
    sym (stripped f (9 - length f) x.last) ∙ ap strip same ∙ stripped g (9 - length g) y.last

-- ---- the length of the text

fraction_length : (f : List ℕ) → length (fraction_text f) ≤ length f + 1
fraction_length [] = omega arith
fraction_length (d ∷ f) = omega (arith, length-map f (λ (x : ℕ). 48 + x))

pub time_length : (moment : Moment) (text : List ℕ) → Text text moment → length text ≤ longest_time
time_length moment text t =
    let few = (fits t.fraction t.shortest).most in
    let digits = length-map t.fields (λ (x : ℕ). 48 + x) in
    let joined = length-append (digits_text t.fields ++ fraction_text t.fraction) (codes "Z") in
    omega (arith, ap length t.spelled, joined, length-append (digits_text t.fields) (fraction_text t.fraction), digits, t.fourteen, fraction_length t.fraction, few)

-- ---- the text by its moment

pub one_text : (moment : Moment) (a b : List ℕ) → Text a moment → Text b moment → a ≡ b
one_text moment a b t u =
    let x = first_so (are_digits t.fields) (are_digits t.fraction) t.digits in
    let y = first_so (are_digits u.fields) (are_digits u.fraction) u.digits in
    let seconds = sym t.seconds ∙ u.seconds in
    let fields = same_civil t.fields u.fields record { first = t.fourteen; second = u.fourteen; first_digits = x; second_digits = y } t.civil u.civil (omega (arith, ints, seconds)) in
    let fraction = same_fraction t.fraction u.fraction t.shortest u.shortest
    (second_so (are_digits t.fields) (are_digits t.fraction) t.digits) (second_so (are_digits u.fields) (are_digits u.fraction) u.digits) (sym t.nanos ∙ u.nanos) in
    t.spelled ∙ (λ i. time_text (fields i) (fraction i)) ∙ sym u.spelled
