-- The parts of a reply have a spelling.
use Rattle.std.proofs.Common.{◌≡◌, ℕ, ◌+◌, ◌<◌, ◌≤◌, ◌^◌, false, List, [], ◌∷◌, length, take, Option, inr, refl, sym, ap, subst, ◌∙◌, arith, length-append}
use Rattle.std.proofs.lemmas.Bool.{cond_both}
use Rattle.std.proofs.lemmas.Bool.Decides.{nat_tests}
use Rattle.std.specs.Prelude.{nat_lt, ◌/◌, ◌%◌}
use Rattle.civil_moment.specs.declared.moment.Moment.{Moment}
use Rattle.civil_moment.specs.Moment.{Text}
use Rattle.hash_kit.specs.declared.algorithm.HashAlg.{HashAlg}
use Rattle.der_values.specs.Value.{length_octets, value, bytes_or_none}
use Rattle.der_values.specs.Typed.{has_excess, IsInteger}
use Rattle.der_values.proofs.Values.{value_length}
use Rattle.lms_sign.specs.declared.secret.HssSecret.{HssSecret}
use Rattle.lms_sign.specs.Hss.{hss_signature}
use Rattle.tst_info.specs.Request.{ToStamp}
use Rattle.tst_info.specs.Info.{tst_contents, with_text, WritesTst, HasTstSpelling}
use Rattle.tst_info.specs.Response.{response_contents, IsToken}
use Rattle.tst_info.proofs.Rewritable.{a_request_can_be_written}
use Rattle.tst_info.proofs.Small.{sizes_within_request}
use Rattle.cms_signed.specs.Text.{ToSign, attributes_text, token_contents, token_text, IsSid, HasText}
use Rattle.cms_signed.proofs.Room.{token_length, short_has_text}
use Rattle.trial_authority.specs.Key.{trial_key, certificate_of, sid_of}
use Rattle.trial_authority.specs.Reply.{Asks, positive, info_with, info_of, to_sign_of, signature_of, token_of}
use Rattle.trial_authority.proofs.Lengths.{length-signature, length-certificate, length-identifier, positive_length, info_short}

-- ---- the TSTInfo

no_excess : (n : ℕ) → 128 ≤ n → n < 2 ^ 15 → has_excess (n / 256 ∷ n % 256 ∷ []) ≡ false
no_excess n least most = grind (arith, nat_tests)

pub positive_is : (n : ℕ) → n < 2 ^ 15 → IsInteger (positive n)
positive_is n most =
    cond_both (nat_lt n 128) (n ∷ []) (n / 256 ∷ n % 256 ∷ []) IsInteger
    (λ e. record { some = λ f. cc; fewest = refl })
    (λ e. record { some = λ f. cc; fewest = no_excess n (grind (arith, nat_tests)) most })

pub contents_short : (request : List ℕ) (asked : ToStamp) (alg : HashAlg) (serial : List ℕ) (now : Moment) (text : List ℕ) → Asks request asked alg → length serial ≤ 2 → Text text now
    → length (tst_contents (with_text text (info_with asked serial now))) ≤ 4196
contents_short request asked alg serial now text asks few said =
    let written = a_request_can_be_written request asked asks.reads in
    omega (arith, info_short asked serial now text few said, sizes_within_request asked.hash asked.imprint asked.nonce, written.1, asks.short)

pub info_spelled : (request : List ℕ) (asked : ToStamp) (alg : HashAlg) (serial : List ℕ) (now : Moment) → Asks request asked alg → length serial ≤ 2 → IsInteger serial
    → HasTstSpelling (info_with asked serial now)
info_spelled request asked alg serial now asks few is =
    let written = (a_request_can_be_written request asked asks.reads).0 in
    record {
      policy = record { some = λ e. cc; whole = refl };
      hash = record { oid = written.hash.oid; params = tt };
      serial = is;
      nonce = written.nonce;
      short = λ text said. omega (arith, contents_short request asked alg serial now text asks few said);
    }

pub info_length : (request : List ℕ) (asked : ToStamp) (alg : HashAlg) (index : ℕ) (now : Moment) (info : List ℕ) → Asks request asked alg → WritesTst info (info_of asked index now) → length info ≤ 4202
info_length request asked alg index now info asks says =
    let contents = tst_contents (with_text says.text (info_of asked index now)) in
    omega (arith, ap length says.is, value_length 48 contents, contents_short request asked alg (positive (index + 1)) now says.text asks (positive_length (index + 1)) says.said)

-- ---- the token

pub sid_is : (seed : List ℕ) → sid_of seed ≡ value 0x80 (take 20 (certificate_of seed))
unfolding value length_octets
sid_is seed = rw (length-identifier seed) refl

pub is_sid : (seed : List ℕ) → IsSid (sid_of seed)
is_sid seed = record {
  tag = 0x80;
  content = take 20 (certificate_of seed);
  spells = record { low_tag = λ e. omega arith; short = omega (arith, length-identifier seed); is = sid_is seed };
  known = inr refl;
}

pub has_text : (seed : List ℕ) (index : ℕ) (info : List ℕ) → length info ≤ 8192 → HasText (to_sign_of seed info) (signature_of seed index info)
has_text seed index info few =
    let message = value 0x31 (attributes_text (to_sign_of seed info)) in
    short_has_text (to_sign_of seed info) (signature_of seed index info) (is_sid seed) (omega (arith, length-certificate seed)) (omega (arith, length-certificate seed))
    (omega (arith, few, length-identifier seed, length-signature seed index message))

pub contents_length : (seed : List ℕ) (index : ℕ) (info : List ℕ) → length info ≤ 8192 → length (token_contents (to_sign_of seed info) (signature_of seed index info)) ≤ 13482
contents_length seed index info few =
    let message = value 0x31 (attributes_text (to_sign_of seed info)) in
    omega (arith, few, length-identifier seed, length-signature seed index message, token_length (to_sign_of seed info) (signature_of seed index info) (omega (arith, length-certificate seed)))

pub is_token : (seed : List ℕ) (index : ℕ) (info : List ℕ) → length info ≤ 8192 → IsToken (token_of seed index info)
is_token seed index info few = record {
  content = token_contents (to_sign_of seed info) (signature_of seed index info);
  spells = record { low_tag = λ e. omega arith; short = omega (arith, contents_length seed index info few); is = refl };
}

pub token_short : (seed : List ℕ) (index : ℕ) (info : List ℕ) → length info ≤ 8192 → length (token_of seed index info) ≤ 13488
token_short seed index info few =
    omega (arith, contents_length seed index info few, value_length 0x30 (token_contents (to_sign_of seed info) (signature_of seed index info)))

-- the same of what is equal to its parts
module _ (seed info content sid cert signature : List ℕ) (index : ℕ) (message : List ℕ) (key : HssSecret) (key_is : key ≡ trial_key seed) (content_is : content ≡ info) (cert_is : cert ≡ certificate_of seed)
    (sid_at : sid ≡ 0x80 ∷ 0x14 ∷ take 20 cert) (message_is : message ≡ value 0x31 (attributes_text (record { content = content; sid = sid; cert_hash = cert }))) (signature_is : signature ≡ hss_signature key index message) where
  sid_same : sid ≡ sid_of seed
  sid_same = sid_at ∙ ap (λ (b : List ℕ). 0x80 ∷ 0x14 ∷ take 20 b) cert_is

  same : record { content = content; sid = sid; cert_hash = cert } ≡ to_sign_of seed info
  same = λ i. record { content = content_is i; sid = sid_same i; cert_hash = cert_is i }

  signature_same : signature ≡ signature_of seed index info
  signature_same = signature_is ∙ ap (λ (k : HssSecret). hss_signature k index message) key_is ∙ ap (hss_signature (trial_key seed) index) (message_is ∙ ap (λ (u : ToSign). value 0x31 (attributes_text u)) same)

  pub parts_have_text : length info ≤ 8192 → HasText (record { content = content; sid = sid; cert_hash = cert }) signature
  parts_have_text few = subst (λ (u : ToSign). HasText u signature) (sym same) (subst (λ (s : List ℕ). HasText (to_sign_of seed info) s) (sym signature_same) (has_text seed index info few))

  pub parts_text : token_text (record { content = content; sid = sid; cert_hash = cert }) signature ≡ token_of seed index info
  parts_text = λ i. token_text (same i) (signature_same i)

-- ---- the response

pub response_short : (status : ℕ) (token : Option (List ℕ)) (most : ℕ) → length (bytes_or_none token) ≤ most → length (response_contents status token) ≤ most + 16
response_short status token most few =
    let number = value 2 (status ∷ []) in
    omega (arith, few, value_length 2 (status ∷ []), value_length 48 number, length-append (value 48 number) (bytes_or_none token))
