-- What the writer writes says its moment.
use Rattle.std.proofs.Common.{◌≡◌, ◌≢◌, ℕ, zero, suc, ◌+◌, ◌-◌, ◌*◌, ◌/◌, ◌%◌, ◌^◌, ◌<◌, ◌≤◌, true, false, ◌&&◌, List, [], ◌∷◌, ◌++◌, length, drop, length-append, append_assoc, refl, sym, ap, subst, ◌∙◌, arith, pos, to_z, of_z, w64}
use Rattle.std.specs.Prelude.{nat_eq, nat_lt, nat_le, not, codes, replicate, unsigned_abs}
use Rattle.std.specs.List.{ends_with}
use Rattle.std.specs.Cmp.Lexicographic.{pointwise}
use Rattle.std.proofs.Math.Seq.{drop-append_seam}
use Rattle.std.proofs.Math.Nat.{pow-suc}
use Rattle.std.proofs.lemmas.List.{map-append, append-nil}
use Rattle.std.proofs.lemmas.List.Folds.{list_all-append}
use Rattle.std.proofs.lemmas.Bool.Decides.{nat_tests}
use Rattle.std.proofs.lemmas.Int.{ints}
use Rattle.civil_moment.specs.declared.moment.Moment.{Moment}
use Rattle.civil_moment.specs.Calendar.{is_date, is_time, day_number, second_number}
use Rattle.civil_moment.specs.Moment.{Text, AddsTime, digits_text, fraction_text, time_text, number, number_on, are_digits, is_fraction, is_civil, seconds_of, year_of, month_of, day_of, hour_of, minute_of, second_of}
use Rattle.civil_moment.specs.Inside.{places, shortest}
use Rattle.civil_moment.proofs.Places.{fraction_less, fraction_whole}
use Rattle.civil_moment.proofs.Counting.{date_tells}
use Rattle.jiff_core.proofs.CalendarLemmas.{days_in_month_bounds}

-- ---- numbers of joined digits

number_on-append : (m : ℕ) (xs ys : List ℕ) → number_on m (xs ++ ys) ≡ number_on (number_on m xs) ys
number_on-append m [] ys = refl
number_on-append m (x ∷ xs) ys = number_on-append (m * 10 + x) xs ys

number_on-zeros : (m j : ℕ) → number_on (m * 10) (replicate j 0) ≡ number_on m (replicate j 0) * 10
number_on-zeros m zero = refl
number_on-zeros m (suc j) =
    let a : m * 10 * 10 + 0 ≡ (m * 10) * 10 = omega arith in
    let b : m * 10 ≡ m * 10 + 0 = omega arith in
    ap (λ n. number_on n (replicate j 0)) a ∙ number_on-zeros (m * 10) j ∙ ap (λ n. number_on n (replicate j 0) * 10) b

one_zero_more : (xs : List ℕ) (j : ℕ) → number (xs ++ replicate (suc j) 0) ≡ number (xs ++ replicate j 0) * 10
one_zero_more xs j =
    let a : number xs * 10 + 0 ≡ number xs * 10 = omega arith in
    number_on-append 0 xs (replicate (suc j) 0) ∙ ap (λ n. number_on n (replicate j 0)) a
    ∙ number_on-zeros (number xs) j ∙ ap (λ n. n * 10) (sym (number_on-append 0 xs (replicate j 0)))

-- ---- the digits of a number

number_places : (k n : ℕ) → n < 10 ^ k → number (places k n) ≡ n
unfolding places
number_places zero n low = omega arith
number_places (suc k) n low =
    let h = number_places k (n / 10) (omega (arith, pow-suc 10 k)) in
    number_on-append 0 (places k (n / 10)) (n % 10 ∷ []) ∙ ap (λ m. m * 10 + n % 10) h ∙ omega arith

places_digits : (k n : ℕ) → are_digits (places k n) ≡ true
unfolding places
places_digits zero n = refl
places_digits (suc k) n =
    let last : are_digits (n % 10 ∷ []) ≡ true = grind (arith, nat_tests) in
    list_all-append (λ d. nat_lt d 10) (places k (n / 10)) (n % 10 ∷ []) ∙ (λ i. places_digits k (n / 10) i && last i)

places_length : (k n : ℕ) → length (places k n) ≡ k
unfolding places
places_length zero n = refl
places_length (suc k) n = length-append (places k (n / 10)) (n % 10 ∷ []) ∙ omega (arith, places_length k (n / 10))

ends_not : (xs : List ℕ) (d : ℕ) → d ≢ 0 → ends_with nat_eq (xs ++ d ∷ []) (0 ∷ []) ≡ false
ends_not xs d some =
    let k : length (xs ++ d ∷ []) - 1 ≡ length xs = omega (arith, length-append xs (d ∷ [])) in
    let e : nat_eq 0 d ≡ false = grind (arith, nat_tests) in
    ap (λ n. pointwise nat_eq (0 ∷ []) (drop n (xs ++ d ∷ []))) k ∙ ap (pointwise nat_eq (0 ∷ [])) (drop-append_seam xs (d ∷ [])) ∙ ap (λ b. b && true) e

places_end : (k n : ℕ) → n % 10 ≢ 0 → ends_with nat_eq (places (suc k) n) (0 ∷ []) ≡ false
unfolding places
places_end k n some = ends_not (places k (n / 10)) (n % 10) some

-- ---- the digits of a fraction

pub record Short (k n : ℕ) (digits : List ℕ) : Type 0 where
  pub most : length digits ≤ k
  pub all : are_digits digits ≡ true
  pub last : ends_with nat_eq digits (0 ∷ []) ≡ false
  pub value : number (digits ++ replicate (k - length digits) 0) ≡ n

by_zero : {G : Type 0} (n : ℕ) → (n ≡ 0 → G) → (n ≢ 0 → G) → G
by_zero zero f g = f refl
by_zero (suc n) f g = g (λ e. omega arith)

short : (k n : ℕ) → n < 10 ^ k → Short k n (shortest k n)
unfolding shortest
short zero n low = record { most = omega arith; all = refl; last = refl; value = omega arith }
short (suc k) n low =
    by_zero (n % 10)
    (λ e.
    let h = short k (n / 10) (omega (arith, pow-suc 10 k)) in
    let ds = shortest k (n / 10) in
    let more : suc k - length ds ≡ suc (k - length ds) = omega (arith, h.most) in
    let less : suc k - 1 ≡ k = omega arith in
    let same : ds ≡ shortest (suc k) n = ap (λ m. shortest m (n / 10)) (sym less) ∙ fraction_less (suc k) n (omega arith) e in
    subst (Short (suc k) n) same record {
      most = omega (arith, h.most);
      all = h.all;
      last = h.last;
      value = ap (λ j. number (ds ++ replicate j 0)) more ∙ one_zero_more ds (k - length ds) ∙ ap (λ m. m * 10) h.value ∙ omega arith;
    })
    (λ e.
    let ds = places (suc k) n in
    let long = places_length (suc k) n in
    let none : suc k - length ds ≡ 0 = omega (arith, long) in
    subst (Short (suc k) n) (sym (fraction_whole (suc k) n (omega arith) e)) record {
      most = omega (arith, long);
      all = places_digits (suc k) n;
      last = places_end k n e;
      value = ap (λ j. number (ds ++ replicate j 0)) none ∙ ap number (append-nil ds) ∙ number_places (suc k) n low;
    })

-- ---- the text

abbrev pub written_fields : ℕ → ℕ → ℕ → ℕ → ℕ → ℕ → List ℕ
written_fields year month day hour minute second =
    ((((places 4 year ++ places 2 month) ++ places 2 day) ++ places 2 hour) ++ places 2 minute) ++ places 2 second

pub joined : (a b c d e f : List ℕ) → ((((digits_text a ++ digits_text b) ++ digits_text c) ++ digits_text d) ++ digits_text e) ++ digits_text f ≡ digits_text (((((a ++ b) ++ c) ++ d) ++ e) ++ f)
joined a b c d e f =
    let t = λ (x : ℕ). 48 + x in
    let two = sym (map-append t a b) in
    let three = ap (λ l. l ++ digits_text c) two ∙ sym (map-append t (a ++ b) c) in
    let four = ap (λ l. l ++ digits_text d) three ∙ sym (map-append t ((a ++ b) ++ c) d) in
    let five = ap (λ l. l ++ digits_text e) four ∙ sym (map-append t (((a ++ b) ++ c) ++ d) e) in
    ap (λ l. l ++ digits_text f) five ∙ sym (map-append t ((((a ++ b) ++ c) ++ d) ++ e) f)

both_digits : (xs ys : List ℕ) → are_digits xs ≡ true → are_digits ys ≡ true → are_digits (xs ++ ys) ≡ true
both_digits xs ys h g = list_all-append (λ d. nat_lt d 10) xs ys ∙ (λ i. h i && g i)

fields_digits : (y m d h mi s : ℕ) → are_digits (written_fields y m d h mi s) ≡ true
fields_digits y m d h mi s =
    let two = both_digits (places 4 y) (places 2 m) (places_digits 4 y) (places_digits 2 m) in
    let three = both_digits (places 4 y ++ places 2 m) (places 2 d) two (places_digits 2 d) in
    let four = both_digits ((places 4 y ++ places 2 m) ++ places 2 d) (places 2 h) three (places_digits 2 h) in
    let five = both_digits (((places 4 y ++ places 2 m) ++ places 2 d) ++ places 2 h) (places 2 mi) four (places_digits 2 mi) in
    both_digits ((((places 4 y ++ places 2 m) ++ places 2 d) ++ places 2 h) ++ places 2 mi) (places 2 s) five (places_digits 2 s)

fields_length : (y m d h mi s : ℕ) → length (written_fields y m d h mi s) ≡ 14
unfolding places
fields_length y m d h mi s = refl

written_year : (y m d h mi s : ℕ) → y < 10000 → year_of (written_fields y m d h mi s) ≡ y
unfolding places
written_year y m d h mi s low = number_places 4 y low

written_month : (y m d h mi s : ℕ) → m < 100 → month_of (written_fields y m d h mi s) ≡ m
unfolding places
written_month y m d h mi s low = number_places 2 m low

written_day : (y m d h mi s : ℕ) → d < 100 → day_of (written_fields y m d h mi s) ≡ d
unfolding places
written_day y m d h mi s low = number_places 2 d low

written_hour : (y m d h mi s : ℕ) → h < 100 → hour_of (written_fields y m d h mi s) ≡ h
unfolding places
written_hour y m d h mi s low = number_places 2 h low

written_minute : (y m d h mi s : ℕ) → mi < 100 → minute_of (written_fields y m d h mi s) ≡ mi
unfolding places
written_minute y m d h mi s low = number_places 2 mi low

written_second : (y m d h mi s : ℕ) → s < 100 → second_of (written_fields y m d h mi s) ≡ s
unfolding places
written_second y m d h mi s low = number_places 2 s low

fraction_fits : (n : ℕ) (ds : List ℕ) → Short 9 n ds → is_fraction ds ≡ true
fraction_fits n ds h =
    let few = h.most in
    let a : nat_le (length ds) 9 ≡ true = grind (arith, nat_tests) in
    λ i. a i && not (h.last i)

time_fits : (h mi s : ℕ) → h < 24 → mi < 60 → s < 60 → is_time h mi s ≡ true
time_fits h mi s a b c = grind (arith, nat_tests)

abbrev pub fields_at : ℕ → ℕ → ℕ → ℕ → List ℕ
fields_at y m d n = written_fields y m d (n % 86400 / 60 / 60) (n % 86400 / 60 % 60) (n % 86400 % 60)

pub written : (moment : Moment) (text : List ℕ) (y m d n : ℕ) → moment.seconds ≡ pos n → is_date y m d ≡ true → day_number y m d ≡ n / 86400 → text ≡ time_text (fields_at y m d n) (shortest 9 moment.nanos) → Text text moment
written moment text y m d n second date day spelled =
    let fields = fields_at y m d n in
    let told = date_tells y m d date in
    let month = days_in_month_bounds (pos y) m in
    let yy = written_year y m d (n % 86400 / 60 / 60) (n % 86400 / 60 % 60) (n % 86400 % 60) (omega (arith, told.1)) in
    let mm = written_month y m d (n % 86400 / 60 / 60) (n % 86400 / 60 % 60) (n % 86400 % 60) (omega (arith, told.3)) in
    let dd = written_day y m d (n % 86400 / 60 / 60) (n % 86400 / 60 % 60) (n % 86400 % 60) (omega (arith, told.5, month.0)) in
    let hh = written_hour y m d (n % 86400 / 60 / 60) (n % 86400 / 60 % 60) (n % 86400 % 60) (omega arith) in
    let mi = written_minute y m d (n % 86400 / 60 / 60) (n % 86400 / 60 % 60) (n % 86400 % 60) (omega arith) in
    let ss = written_second y m d (n % 86400 / 60 / 60) (n % 86400 / 60 % 60) (n % 86400 % 60) (omega arith) in
    let fraction = short 9 moment.nanos moment.below_second in
    let time = time_fits (n % 86400 / 60 / 60) (n % 86400 / 60 % 60) (n % 86400 % 60) (omega arith) (omega arith) (omega arith) in
    let civil : is_civil fields ≡ true = (λ i. is_date (yy i) (mm i) (dd i) && is_time (hh i) (mi i) (ss i)) ∙ (λ i. date i && time i) in
    let whole : 86400 * day_number y m d + second_number (n % 86400 / 60 / 60) (n % 86400 / 60 % 60) (n % 86400 % 60) ≡ n = omega (arith, day) in
    let all : seconds_of fields ≡ n = (λ i. 86400 * day_number (yy i) (mm i) (dd i) + second_number (hh i) (mi i) (ss i)) ∙ whole in
    record {
      fields = fields;
      fraction = shortest 9 moment.nanos;
      spelled = spelled;
      fourteen = fields_length y m d (n % 86400 / 60 / 60) (n % 86400 / 60 % 60) (n % 86400 % 60);
      digits = λ i. fields_digits y m d (n % 86400 / 60 / 60) (n % 86400 / 60 % 60) (n % 86400 % 60) i && fraction.all i;
      shortest = fraction_fits moment.nanos (shortest 9 moment.nanos) fraction;
      civil = civil;
      seconds = second ∙ ap pos (sym all);
      nanos = sym fraction.value;
    }

-- the pieces, pushed one after another
regroup : (t a b c d e f g z : List ℕ) → (((((((t ++ a) ++ b) ++ c) ++ d) ++ e) ++ f) ++ g) ++ z ≡ t ++ (((((((a ++ b) ++ c) ++ d) ++ e) ++ f) ++ g) ++ z)
regroup t a b c d e f g z = simp append_assoc

pushed : (a b c d e f fraction t0 t1 t2 t3 t4 t5 t6 t7 t8 : List ℕ) → t1 ≡ t0 ++ digits_text a → t2 ≡ t1 ++ digits_text b → t3 ≡ t2 ++ digits_text c → t4 ≡ t3 ++ digits_text d → t5 ≡ t4 ++ digits_text e → t6 ≡ t5 ++ digits_text f → t7 ≡ t6 ++ fraction_text fraction → t8 ≡ t7 ++ codes "Z" → t8 ≡ t0 ++ time_text (((((a ++ b) ++ c) ++ d) ++ e) ++ f) fraction
pushed a b c d e f fraction t0 t1 t2 t3 t4 t5 t6 t7 t8 e1 e2 e3 e4 e5 e6 e7 e8 =
    let two = e2 ∙ ap (λ l. l ++ digits_text b) e1 in
    let three = e3 ∙ ap (λ l. l ++ digits_text c) two in
    let four = e4 ∙ ap (λ l. l ++ digits_text d) three in
    let five = e5 ∙ ap (λ l. l ++ digits_text e) four in
    let six = e6 ∙ ap (λ l. l ++ digits_text f) five in
    e8 ∙ ap (λ l. l ++ codes "Z") (e7 ∙ ap (λ l. l ++ fraction_text fraction) six)
    ∙ regroup t0 (digits_text a) (digits_text b) (digits_text c) (digits_text d) (digits_text e) (digits_text f) (fraction_text fraction) (codes "Z")
    ∙ ap (λ l. t0 ++ ((l ++ fraction_text fraction) ++ codes "Z")) (joined a b c d e f)

pub added : (moment : Moment) (y m d n : ℕ) (t0 t1 t2 t3 t4 t5 t6 t7 t8 : List ℕ) → moment.seconds ≡ pos n → is_date y m d ≡ true → day_number y m d ≡ n / 86400
    → t1 ≡ t0 ++ digits_text (places 4 y) → t2 ≡ t1 ++ digits_text (places 2 m) → t3 ≡ t2 ++ digits_text (places 2 d)
    → t4 ≡ t3 ++ digits_text (places 2 (n % 86400 / 60 / 60)) → t5 ≡ t4 ++ digits_text (places 2 (n % 86400 / 60 % 60)) → t6 ≡ t5 ++ digits_text (places 2 (n % 86400 % 60))
    → t7 ≡ t6 ++ fraction_text (shortest 9 moment.nanos) → t8 ≡ t7 ++ codes "Z" → AddsTime t0 t8 moment
added moment y m d n t0 t1 t2 t3 t4 t5 t6 t7 t8 second date day e1 e2 e3 e4 e5 e6 e7 e8 = record {
  time = time_text (fields_at y m d n) (shortest 9 moment.nanos);
  says = written moment (time_text (fields_at y m d n) (shortest 9 moment.nanos)) y m d n second date day refl;
  added = pushed _ _ _ _ _ _ (shortest 9 moment.nanos) t0 t1 t2 t3 t4 t5 t6 t7 t8 e1 e2 e3 e4 e5 e6 e7 e8;
}

-- behind no text, the time is the text
pub said : (moment : Moment) (none text : List ℕ) → none ≡ [] → AddsTime none text moment → Text text moment
said moment none text is a = subst (λ (t : List ℕ). Text t moment) (sym (a.added ∙ ap (λ l. l ++ a.time) is)) a.says

-- the seconds as the writer's unsigned number
pub unsigned_seconds : (moment : Moment) → moment.seconds ≡ pos (unsigned_abs (to_z w64 (of_z w64 moment.seconds)))
unsigned_seconds moment = let low = moment.from_1970 in let top = moment.until_9999 in omega (arith, ints, low, top)
