-- Lines as words, and policy_lines as lines.
use Rattle.std.proofs.Common.{◌≡◌, ℕ, ◌+◌, ◌/◌, ◌%◌, ◌<◌, ◌≤◌, ◌==◌, Bool, true, false, nat_lt, List, [], ◌∷◌, ◌++◌, slice_index, All, Some, None, is_none, suc, Result, cond, refl, ap, ◌∙◌, arith}
use Rattle.std.specs.Prelude.{codes}
use Rattle.std.specs.List.{list_all, AllByRecursion}
use Rattle.std.specs.Option.{option_map}
use Rattle.std.specs.Result.{result_unwrap_or}
use Rattle.std.proofs.lemmas.Bool.{and_parts, and_from, ltb-true, lt-ltb, eq-eqb, ne_eqb, agree_below_at}
use Rattle.std.proofs.lemmas.Bool.Decides.{nat_tests}
use Rattle.std.proofs.lemmas.List.Sums.{AllPass-from_list_all}
use Rattle.std.proofs.lemmas.List.Splits.{slice_split_at, slice_split_none}
use Rattle.civil_moment.specs.declared.moment.Moment.{Moment}
use Rattle.civil_moment.specs.Moment.{Text, digits_text, fraction_text}
use Rattle.civil_moment.proofs.FirstFault.{no_fault}
use Rattle.hash_kit.specs.Algorithm.{word_of, algorithm_named}
use Rattle.hash_kit.specs.declared.algorithm.HashAlg.{HashAlg}
use Rattle.hash_kit.specs.declared.algorithm.HashAlg.TheVariants.{Sha256, Sha384, Sha512}
use Rattle.hex.specs.Hex.{IsBytes, encode_with, encode_lower, lower_digits}
use Rattle.hex.proofs.HexLemmas.{decode_of-encode_lower, length-encode_with}
use Rattle.algorithm_policy.specs.declared.policy_line.PolicyLine.{PolicyLine}
use Rattle.algorithm_policy.specs.declared.policy_line.PolicyLine.TheVariants.{Hash, Authority}
use Rattle.algorithm_policy.specs.declared.fault.PolicyKind.TheVariants.{Date}
use Rattle.algorithm_policy.specs.Words.{is_name_byte, is_name, is_lower_digit, is_hex, bytes_of, is_sid, is_key, is_cert, is_time}
use Rattle.algorithm_policy.specs.Text.{joined, LineText}
use Rattle.algorithm_policy.specs.Fault.{Line, hash, authority, signer, form_of, words, word_fault, subject_of}
use Rattle.algorithm_policy.specs.Inside.{IsPolicyLine, line_subject}
use Rattle.algorithm_policy.proofs.PlaceLemmas.{all_joined}
use Rattle.algorithm_policy.proofs.PolicyLineLemmas.{none_wrong}

-- ---- words without a separator

abbrev pub is_plain : List ℕ → Bool
is_plain = list_all (λ b. nat_lt 32 b)

-- no byte of them is one that is smaller
no_byte : (bound c b : ℕ) → c ≤ bound → nat_lt bound b ≡ true → (b == c) ≡ false
no_byte bound c b le h = let lt = ltb-true bound b h in ne_eqb b c (λ e. omega arith)

pub none_at : (bound c : ℕ) (text : List ℕ) → c ≤ bound → list_all (λ b. nat_lt bound b) text ≡ true → All (λ b. (b == c) ≡ false) text
none_at bound c text le h = let all = AllPass-from_list_all (λ b. nat_lt bound b) text h in (λ k d lt. no_byte bound c _ le (all k d lt))

abbrev Plain : List (List ℕ) → Type 0
Plain = AllByRecursion (λ x. is_plain x ≡ true)

-- plain words are the words of the line that they are joined to
pub words_again : (w : List ℕ) (ws : List (List ℕ)) → AllByRecursion (λ x. is_plain x ≡ true) (w ∷ ws) → words (joined (w ∷ ws)) ≡ w ∷ ws
words_again w [] h = slice_split_none (λ b. b == 32) w (none_at 32 32 w (omega arith) h.0)
words_again w (v ∷ ws) h =
    slice_split_at (λ b. b == 32) w 32 (joined (v ∷ ws)) (none_at 32 32 w (omega arith) h.0) refl ∙ ap (λ l. w ∷ l) (words_again v ws h.1)

weaker : (w : List ℕ) → is_plain w ≡ true → list_all (λ b. nat_lt 31 b) w ≡ true
weaker [] h = refl
weaker (b ∷ w) h =
    let p = and_parts (nat_lt 32 b) _ h in
    let lt = ltb-true 32 b p.0 in
    and_from (nat_lt 31 b) _ (lt-ltb 31 b (omega arith)) (weaker w p.1)

-- a line of plain words has no line feed
pub no_feed : (w : List ℕ) (ws : List (List ℕ)) → AllByRecursion (λ x. is_plain x ≡ true) (w ∷ ws) → list_all (λ b. nat_lt 31 b) (joined (w ∷ ws)) ≡ true
no_feed w [] h = weaker w h.0
no_feed w (v ∷ ws) h =
    all_joined (λ b. nat_lt 31 b) w (32 ∷ joined (v ∷ ws))
    ∙ and_from _ _ (weaker w h.0) (no_feed v ws h.1)

-- ---- the words of a line are plain

name_byte : (b : ℕ) → is_name_byte b ≡ true → nat_lt 32 b ≡ true
name_byte b h = lt-ltb 32 b (grind (arith, nat_tests))

name_bytes : (w : List ℕ) → list_all is_name_byte w ≡ true → is_plain w ≡ true
name_bytes [] h = refl
name_bytes (b ∷ w) h = let p = and_parts (is_name_byte b) _ h in and_from _ _ (name_byte b p.0) (name_bytes w p.1)

pub plain_name : (w : List ℕ) → is_name w ≡ true → is_plain w ≡ true
plain_name w h = name_bytes w (and_parts _ (list_all is_name_byte w) h).1

digit_plain : (d : ℕ) → d < 16 → nat_lt 32 (slice_index lower_digits d) ≡ true
digit_plain d h = agree_below_at (λ n. nat_lt 32 (slice_index lower_digits n)) (λ n. true) 16 d refl h

pub plain_hex : (xs : List ℕ) → IsBytes xs → is_plain (encode_lower xs) ≡ true
unfolding encode_with
plain_hex [] h = refl
plain_hex (b ∷ xs) h =
    let small : b < 256 = h 0 in
    and_from _ _ (digit_plain (b / 16) (omega arith)) (and_from _ _ (digit_plain (b % 16) (omega arith)) (plain_hex xs (λ k. h (suc k))))

digits_plain : (digits : List ℕ) → is_plain (digits_text digits) ≡ true
digits_plain [] = refl
digits_plain (d ∷ digits) = and_from _ _ (lt-ltb 32 (48 + d) (omega arith)) (digits_plain digits)

fraction_plain : (fraction : List ℕ) → is_plain (fraction_text fraction) ≡ true
fraction_plain [] = refl
fraction_plain (d ∷ rest) = digits_plain (d ∷ rest)

pub plain_time : (time : List ℕ) (moment : Moment) → Text time moment → is_plain time ≡ true
plain_time time moment t =
    ap is_plain t.spelled
    ∙ all_joined _ (digits_text t.fields ++ fraction_text t.fraction) (codes "Z")
    ∙ and_from _ _ (all_joined _ (digits_text t.fields) (fraction_text t.fraction) ∙ and_from _ _ (digits_plain t.fields) (fraction_plain t.fraction)) refl

-- ---- the line that says this is read as this

-- the words, of the form that is theirs
abbrev pub form_with : PolicyLine → List ℕ → Line
form_with (Hash alg end) time = hash alg time
form_with (Authority s) time = authority s.name (encode_lower s.sid) (encode_lower s.key) (encode_lower s.cert) time

lower_bytes : (xs : List ℕ) → IsBytes xs → is_hex (encode_lower xs) ≡ true
unfolding encode_with
lower_bytes xs h = and_from _ _ (eq-eqb _ 0 (let e = length-encode_with lower_digits xs in omega (arith, e))) (digits xs h)
  where
    lower : (d : ℕ) → d < 16 → is_lower_digit (slice_index lower_digits d) ≡ true
    lower d h = agree_below_at (λ n. is_lower_digit (slice_index lower_digits n)) (λ n. true) 16 d refl h

    digits : (xs : List ℕ) → IsBytes xs → list_all is_lower_digit (encode_with lower_digits xs) ≡ true
    digits [] h = refl
    digits (b ∷ xs) h =
        let small : b < 256 = h 0 in
        and_from _ _ (lower (b / 16) (omega arith)) (and_from _ _ (lower (b % 16) (omega arith)) (digits xs (λ k. h (suc k))))

pub bytes_again : (xs : List ℕ) → IsBytes xs → bytes_of (encode_lower xs) ≡ xs
unfolding bytes_of
bytes_again xs h = ap (λ (r : Result (List ℕ) _). result_unwrap_or r []) (decode_of-encode_lower xs h)

pub timed : (time : List ℕ) (moment : Moment) → Text time moment → is_time time ≡ true
unfolding is_time
timed time moment t = ap is_none (no_fault time moment t)

named_again : (alg : HashAlg) → algorithm_named (word_of alg) ≡ Some alg
named_again Sha256 = refl
named_again Sha384 = refl
named_again Sha512 = refl

-- what holds of such a line
pub record Again (line : List ℕ) (said : PolicyLine) (time : List ℕ) : Type 0 where
  pub form : form_of (words line) ≡ Some (form_with said time)
  pub sound : word_fault (form_with said time) ≡ None
  pub subject : subject_of (form_with said time) ≡ line_subject said
  pub no_feed : list_all (λ b. nat_lt 31 b) line ≡ true

pub again : (line : List ℕ) (said : PolicyLine) → IsPolicyLine said → (t : LineText line said) → Again line said t.time
again line (Hash alg end) is t =
    let time = t.time in
    let plain : Plain (codes "hash" ∷ word_of alg ∷ time ∷ []) = (refl, (plain_word alg, (plain_time time end t.end, tt))) in
    record {
      form =
          ap (λ l. form_of (words l)) t.spelled
          ∙ ap form_of (words_again (codes "hash") (word_of alg ∷ time ∷ []) plain)
          ∙ ap (option_map (λ a. hash a time)) (named_again alg);
      sound = ap (λ b. cond b None (Some Date)) (timed time end t.end);
      subject = refl;
      no_feed = ap (list_all (λ b. nat_lt 31 b)) t.spelled ∙ no_feed (codes "hash") (word_of alg ∷ time ∷ []) plain;
    }
  where
    plain_word : (alg : HashAlg) → is_plain (word_of alg) ≡ true
    plain_word Sha256 = refl
    plain_word Sha384 = refl
    plain_word Sha512 = refl
again line (Authority s) is t =
    let time = t.time in
    let ws = s.name ∷ encode_lower s.sid ∷ encode_lower s.key ∷ encode_lower s.cert ∷ time ∷ [] in
    let plain : Plain (codes "authority" ∷ ws) = (refl, (plain_name s.name is.name, (plain_hex s.sid is.sid_bytes, (plain_hex s.key is.key_bytes, (plain_hex s.cert is.cert_bytes, (plain_time time s.end t.end, tt)))))) in
    record {
      form = ap (λ l. form_of (words l)) t.spelled ∙ ap form_of (words_again (codes "authority") ws plain);
      sound =
          none_wrong s.name (encode_lower s.sid) (encode_lower s.key) (encode_lower s.cert) time record {
            name = is.name;
            hex = and_from _ _ (and_from _ _ (lower_bytes s.sid is.sid_bytes) (lower_bytes s.key is.key_bytes)) (lower_bytes s.cert is.cert_bytes);
            sid = ap is_sid (bytes_again s.sid is.sid_bytes) ∙ is.sid;
            key = ap is_key (bytes_again s.key is.key_bytes) ∙ is.key;
            cert = ap is_cert (bytes_again s.cert is.cert_bytes) ∙ is.cert;
            end = timed time s.end t.end;
          };
      subject = ap (signer s.name) (bytes_again s.sid is.sid_bytes);
      no_feed = ap (list_all (λ b. nat_lt 31 b)) t.spelled ∙ no_feed (codes "authority") ws plain;
    }
