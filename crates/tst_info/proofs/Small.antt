-- Parts of at most 2 ^ 31 bytes in all fit into a spelling.
use Rattle.std.proofs.Common.{ℕ, ◌+◌, ◌≤◌, ◌<◌, ◌^◌, Bool, true, false, List, [], ◌∷◌, ◌++◌, length, Option, Some, None, ap, arith}
use Rattle.std.specs.Prelude.{codes, nat_le}
use Rattle.std.specs.Cmp.{first_so}
use Rattle.std.proofs.lemmas.Bool.Decides.{nat_tests}
use Rattle.std.proofs.lemmas.List.{length-append, length-map}
use Rattle.civil_moment.specs.declared.moment.Moment.{Moment}
use Rattle.civil_moment.specs.Moment.{Text, digits_text, fraction_text}
use Rattle.der_values.specs.Value.{value, bytes_or_none}
use Rattle.der_values.specs.Algorithm.{Name, name_contents}
use Rattle.der_values.proofs.Values.{value_length}
use Rattle.der_values.proofs.Lengths.{content_shorter}
use Rattle.tst_info.specs.Imprint.{imprint_text}
use Rattle.tst_info.specs.Spelling.{flag_text, nonce_text}
use Rattle.tst_info.specs.Info.{tst_contents}
use Rattle.tst_info.specs.Request.{request_contents}

-- the bytes of a name, an imprint and a nonce, without headers
abbrev pub sizes : Name → List ℕ → Option (List ℕ) → ℕ
sizes hash imprint nonce = length hash.oid + length (bytes_or_none hash.params) + length imprint + length (bytes_or_none nonce)

imprint_length : (hash : Name) (imprint : List ℕ) → length (imprint_text hash imprint) ≤ length hash.oid + length (bytes_or_none hash.params) + length imprint + 18
imprint_length hash imprint =
    omega (
      arith,
      length-append (value 48 (name_contents hash)) (value 4 imprint),
      value_length 48 (name_contents hash),
      value_length 4 imprint,
      length-append (value 6 hash.oid) (bytes_or_none hash.params),
      value_length 6 hash.oid,
    )

nonce_length : (nonce : Option (List ℕ)) → length (nonce_text nonce) ≤ length (bytes_or_none nonce) + 6
nonce_length None = omega arith
nonce_length (Some n) = value_length 2 n

flag_length : (flag : Bool) → length (flag_text flag) ≤ 7
flag_length false = omega arith
flag_length true = value_length 1 (255 ∷ [])

pub request_is_small : (hash : Name) (imprint : List ℕ) (nonce : Option (List ℕ)) → sizes hash imprint nonce ≤ 2 ^ 31
    → length (request_contents (record { hash = hash; imprint = imprint; nonce = nonce })) < 2 ^ 32
request_is_small hash imprint nonce small =
    let version = value 2 (1 ∷ []) in
    let whole = value 48 (imprint_text hash imprint) in
    omega (
      arith,
      small,
      length-append (version ++ whole) (nonce_text nonce),
      length-append version whole,
      value_length 2 (1 ∷ []),
      value_length 48 (imprint_text hash imprint),
      imprint_length hash imprint,
      nonce_length nonce,
    )

content_longer : (nonce : Option (List ℕ)) → length (bytes_or_none nonce) ≤ length (nonce_text nonce)
content_longer None = omega arith
content_longer (Some n) = content_shorter 2 n

-- and a request is no shorter than they are
pub sizes_within_request : (hash : Name) (imprint : List ℕ) (nonce : Option (List ℕ)) → sizes hash imprint nonce ≤ length (request_contents (record { hash = hash; imprint = imprint; nonce = nonce }))
sizes_within_request hash imprint nonce =
    let version = value 2 (1 ∷ []) in
    let whole = value 48 (imprint_text hash imprint) in
    omega (
      arith,
      length-append (version ++ whole) (nonce_text nonce),
      length-append version whole,
      content_longer nonce,
      content_shorter 48 (imprint_text hash imprint),
      length-append (value 48 (name_contents hash)) (value 4 imprint),
      content_shorter 48 (name_contents hash),
      content_shorter 4 imprint,
      length-append (value 6 hash.oid) (bytes_or_none hash.params),
      content_shorter 6 hash.oid,
    )

-- ---- a time has at most 25 bytes

fraction_length : (fraction : List ℕ) → length (fraction_text fraction) ≤ length fraction + 1
fraction_length [] = omega arith
fraction_length (d ∷ ds) = omega (arith, length-append (codes ".") (digits_text (d ∷ ds)), length-map (d ∷ ds) (λ digit. 48 + digit))

pub time_length : (text : List ℕ) (moment : Moment) → Text text moment → length text ≤ 25
time_length text moment t =
    let few : length t.fraction ≤ 9 = let e = first_so (nat_le (length t.fraction) 9) _ t.shortest in grind (arith, nat_tests) in
    let digits = digits_text t.fields in
    omega (
      arith,
      few,
      ap length t.spelled,
      t.fourteen,
      length-map t.fields (λ digit. 48 + digit),
      fraction_length t.fraction,
      length-append (digits ++ fraction_text t.fraction) (codes "Z"),
      length-append digits (fraction_text t.fraction),
    )

pub tst_is_small : (policy : List ℕ) (hash : Name) (imprint serial : List ℕ) (moment : Moment) (ordering : Bool) (nonce : Option (List ℕ)) → length policy + length serial + sizes hash imprint nonce ≤ 2 ^ 31
    → (text : List ℕ) → Text text moment → length (tst_contents (record { policy = policy; hash = hash; imprint = imprint; serial = serial; time = text; ordering = ordering; nonce = nonce })) < 2 ^ 32
tst_is_small policy hash imprint serial moment ordering nonce small text said =
    let version = value 2 (1 ∷ []) in
    let a = value 6 policy in
    let b = value 48 (imprint_text hash imprint) in
    let c = value 2 serial in
    let d = value 24 text in
    let e = flag_text ordering in
    omega (
      arith,
      small,
      time_length text moment said,
      length-append (version ++ a ++ b ++ c ++ d ++ e) (nonce_text nonce),
      length-append (version ++ a ++ b ++ c ++ d) e,
      length-append (version ++ a ++ b ++ c) d,
      length-append (version ++ a ++ b) c,
      length-append (version ++ a) b,
      length-append version a,
      value_length 2 (1 ∷ []),
      value_length 6 policy,
      value_length 48 (imprint_text hash imprint),
      imprint_length hash imprint,
      value_length 2 serial,
      value_length 24 text,
      flag_length ordering,
      nonce_length nonce,
    )
