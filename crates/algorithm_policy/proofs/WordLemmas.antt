-- Words of a policy text, and what they decode to.
use Rattle.std.proofs.Common.{◌≡◌, ℕ, ◌+◌, ◌*◌, ◌/◌, ◌%◌, ◌<◌, ◌≤◌, ◌==◌, Bool, true, not, ◌&&◌, ◌||◌, nat_lt, nat_le, List, [], ◌∷◌, length, slice_index, Option, Some, None, is_some, is_none, unwrap_or, Result, Ok, Err, is_ok, ◌↔◌, ◌≢◌, inl, inr, cond, MatchOption, IfOk, IfSome, false, refl, sym, ap, ◌∙◌, arith}
use Rattle.std.specs.List.{list_all}
use Rattle.std.specs.Result.{result_unwrap_or, result_ok}
use Rattle.std.proofs.lemmas.Bool.{agree_below_at, and_parts, eqb-true, ltb-true, leb-true, cases_eq, false_from_ne_true}
use Rattle.std.proofs.lemmas.Bool.Decides.{nat_tests}
use Rattle.civil_moment.specs.Fault.{first_fault as time_fault}
use Rattle.civil_moment.specs.declared.fault.TimeFault.{TimeFault}
use Rattle.civil_moment.specs.declared.moment.Moment.{Moment}
use Rattle.hash_kit.specs.HssKey.{key_fault}
use Rattle.hash_kit.specs.declared.key.KeyFault.{KeyFault}
use Rattle.hash_kit.specs.declared.key.KeyFault.TheVariants.{KeyShape}
use Rattle.hex.specs.declared.error.FromHexError.{FromHexError}
use Rattle.hex.specs.Hex.{IsBytes, decode_of, decode_sized, decode_pairs, hex_digit_value, pair_value, encode_with, encode_lower, lower_digits}
use Rattle.hex.proofs.HexLemmas.{decode_of-even, decode_of-ok, decode_sized-twice, decode_sized-other}
use Rattle.hex.proofs.Pairs.{cons_byte, decode_pairs-ok_pair}
use Rattle.algorithm_policy.specs.Words.{is_lower_digit, is_hex, bytes_of, is_sid, is_time, is_key}

-- ---- hexadecimal digits

-- a digit, and the place that it has among the sixteen
pub record Digit (c : ℕ) : Type 0 where
  pub value : ℕ
  pub few : value < 16
  pub reads : hex_digit_value c ≡ Some value
  pub writes : slice_index lower_digits value ≡ c

abbrev value_of : ℕ → ℕ
value_of c = unwrap_or (hex_digit_value c) 0

abbrev is_good : ℕ → Bool
is_good c = not (is_lower_digit c) || (nat_lt (value_of c) 16 && is_some (hex_digit_value c) && (slice_index lower_digits (value_of c) == c))

some_value : (o : Option ℕ) → is_some o ≡ true → o ≡ Some (unwrap_or o 0)
some_value (Some v) h = refl
some_value None h = cc h

so : (a b : Bool) → a ≡ true → (not a || b) ≡ true → b ≡ true
so true b h k = k
so false b h k = cc h

pub digit : (c : ℕ) → is_lower_digit c ≡ true → Digit c
digit c h =
    let below : c < 103 = grind (arith, nat_tests) in
    let good = so (is_lower_digit c) _ h (agree_below_at is_good (λ d. true) 103 c refl below) in
    let parts = and_parts _ (slice_index lower_digits (value_of c) == c) good in
    let few = and_parts (nat_lt (value_of c) 16) (is_some (hex_digit_value c)) parts.0 in
    record {
      value = value_of c;
      few = ltb-true (value_of c) 16 few.0;
      reads = some_value (hex_digit_value c) few.1;
      writes = eqb-true (slice_index lower_digits (value_of c)) c parts.1;
    }

-- pairs of digits decode, and their bytes are written as these digits
pairs : (i : ℕ) (s : List ℕ) → length s % 2 ≡ 0 → list_all is_lower_digit s ≡ true
    → (bytes : List ℕ) × (decode_pairs i s ≡ Ok bytes) × (encode_with lower_digits bytes ≡ s)
unfolding decode_pairs encode_with
pairs i [] even h = ([], refl, refl)
pairs i (a ∷ []) even h = absurd (omega arith)
pairs i (a ∷ b ∷ rest) even h =
    let first = and_parts (is_lower_digit a) _ h in
    let second = and_parts (is_lower_digit b) _ first.1 in
    let x = digit a first.0 in
    let y = digit b second.0 in
    let few = y.few in
    let ih = pairs (i + 2) rest (omega arith) second.1 in
    let pair : pair_value a b i ≡ Ok (x.value * 16 + y.value) = rw (x.reads, y.reads) refl in
    let high : (x.value * 16 + y.value) / 16 ≡ x.value = omega arith in
    let low : (x.value * 16 + y.value) % 16 ≡ y.value = omega arith in (
      (x.value * 16 + y.value) ∷ ih.0,
      decode_pairs-ok_pair i a b _ rest pair ∙ ap (cons_byte (x.value * 16 + y.value)) ih.1,
      λ j. (ap (slice_index lower_digits) high ∙ x.writes) j ∷ (ap (slice_index lower_digits) low ∙ y.writes) j ∷ ih.2 j,
    )

-- what a word in hexadecimal decodes to
pub record Decoded (word : List ℕ) : Type 0 where
  pub decodes : decode_of word ≡ Ok (bytes_of word)
  pub long : length word ≡ 2 * length (bytes_of word)
  pub bytes : IsBytes (bytes_of word)
  pub again : encode_lower (bytes_of word) ≡ word

value_is : (word bytes : List ℕ) → decode_of word ≡ Ok bytes → bytes_of word ≡ bytes
unfolding bytes_of
value_is word bytes h = ap (λ (r : Result (List ℕ) _). result_unwrap_or r []) h

pub decoded : (word : List ℕ) → is_hex word ≡ true → Decoded word
decoded word h =
    let both = and_parts (length word % 2 == 0) _ h in
    let even = eqb-true (length word % 2) 0 both.0 in
    let p = pairs 0 word even both.1 in
    let is = decode_of-even word even ∙ p.1 in
    let value = value_is word p.0 is in
    let ok = decode_of-ok word p.0 is in
    record {
      decodes = is ∙ ap Ok (sym value);
      long = ok.2 ∙ ap (λ b. 2 * length b) (sym value);
      bytes = rw value ok.3;
      again = ap encode_lower value ∙ p.2;
    }

-- decoding gives the word's bytes
pub decodes_to : (word bytes : List ℕ) → decode_of word ≡ Ok bytes → bytes ≡ bytes_of word
decodes_to word bytes h = sym (value_is word bytes h)

-- ---- what a reader's answer says

none_is_ok : {A F : Type 0} (fault : Option F) (answer : Result A F) → ((f : F) → (answer ≡ Err f) ↔ (fault ≡ Some f)) → is_none fault ≡ is_ok answer
none_is_ok None (Ok x) h = refl
none_is_ok (Some f) (Ok x) h = let e = (h f).1 refl in cc
none_is_ok None (Err e) h = let f = (h e).0 refl in cc
none_is_ok (Some f) (Err e) h = refl

-- the bytes, where they are so many
pub sized : (word : List ℕ) (n : ℕ) (r : Result (List ℕ) FromHexError) (o : Option (List ℕ)) → is_hex word ≡ true → r ≡ decode_sized word n → o ≡ result_ok r
    → MatchOption o (length (bytes_of word) ≢ n) (λ bytes. bytes ≡ bytes_of word)
sized word n r o h is value =
    let d = decoded word h in
    elim (cases_eq (length (bytes_of word)) n) [
      | inl same ↦
          let ok = decode_sized-twice word n (d.long ∙ ap (λ k. 2 * k) same) ∙ d.decodes in
          rw (value, is, ok) refl
      | inr other ↦
          let long = d.long in
          let even : length word % 2 ≡ 0 = omega arith in
          let half : length word / 2 ≡ length (bytes_of word) = omega arith in
          let err = decode_sized-other word n even (λ e. other (sym half ∙ e)) in
          rw (value, is, err) other
    ]

pub time_found : (text : List ℕ) (answer : Result Moment TimeFault) → ((f : TimeFault) → (answer ≡ Err f) ↔ (time_fault text ≡ Some f)) → is_time text ≡ is_ok answer
unfolding is_time
time_found text answer h = none_is_ok (time_fault text) answer h

pub key_found : (bytes : List ℕ) (answer : Result (List ℕ) KeyFault) → ((f : KeyFault) → (answer ≡ Err f) ↔ (key_fault bytes ≡ Some f)) → is_key bytes ≡ is_ok answer
unfolding is_key
key_found bytes answer h = none_is_ok (key_fault bytes) answer h

-- a key has 60 bytes
pub key_long : (bytes : List ℕ) → is_key bytes ≡ true → length bytes ≡ 60
unfolding is_key
key_long bytes h = eqb-true (length bytes) 60 (shaped (length bytes == 60) _ _ h)
  where
    shaped : (a b : Bool) (rest : Option KeyFault) → is_none (cond (not (a && b)) (Some KeyShape) rest) ≡ true → a ≡ true
    shaped true b rest h = refl
    shaped false b rest h = cc h

-- an identifier has at most 1,024 bytes
pub sid_short : (bytes : List ℕ) → is_sid bytes ≡ true → length bytes ≤ 1024
unfolding is_sid
sid_short bytes h = leb-true (length bytes) 1024 (and_parts (nat_le (length bytes) 1024) _ h).0

pub no_sid : (word : List ℕ) → is_hex word ≡ true → 2048 < length word → is_sid (bytes_of word) ≡ false
no_sid word h long = false_from_ne_true (is_sid (bytes_of word)) (λ is.
    let short = sid_short (bytes_of word) is in
    let twice = (decoded word h).long in
    omega arith)

-- the value, where there is one
pub some_of_ok : {T F : Type 0} (P : T → Type 0) (r : Result T F) (o : Option T) → o ≡ result_ok r → IfOk r P → IfSome o P
some_of_ok P (Ok x) o e h = rw e h
some_of_ok P (Err f) o e h = rw e tt

-- decoding a word in hexadecimal fails for want of memory alone
pub only_memory : (word : List ℕ) (e : FromHexError) → is_hex word ≡ true → decode_of word ≡ Err e → ⊥
only_memory word e h err = let ok = (decoded word h).decodes in cc
