-- A request that was read can be written: its parts have a spelling, which is no longer than the bytes.
use Rattle.std.proofs.Common.{◌≡◌, ℕ, ◌≤◌, Bool, List, [], ◌∷◌, ◌++◌, length, Option, Some, None, refl, ap, subst, ◌∙◌, arith}
use Rattle.std.specs.Prelude.{IfSome}
use Rattle.std.proofs.lemmas.List.{append-nil, length-append}
use Rattle.der_values.specs.Value.{value}
use Rattle.der_values.specs.Typed.{IsInteger}
use Rattle.der_values.specs.Shape.{tagged, unchecked, is_integer, unread, spell_optional, spell}
use Rattle.der_values.specs.Grammar.{ValidValue, ValidOptional, Valid}
use Rattle.der_values.specs.Algorithm.{name_of, IsName, name_contents}
use Rattle.der_values.proofs.Lengths.{content_shorter}
use Rattle.der_values.proofs.Accepted.{version_is, name_again, integer_is, name_is}
use Rattle.tst_info.specs.declared.fault.TstFault.{TstFault}
use Rattle.tst_info.specs.Checks.{StampCheck, der, stamp_checks}
use Rattle.tst_info.specs.Imprint.{imprint_shape, ImprintParts, imprint_text}
use Rattle.tst_info.specs.Spelling.{nonce_text}
use Rattle.tst_info.specs.Request.{ToStamp, wishes_shape, WishesParts, request_contents_shape, RequestParts, request_of, ReadsRequest, request_contents, HasRequestSpelling}

-- ---- single values

nonce_is : (taken : Bool) (σ τ : Unit {0}) (place : ℕ) (o : Option (List ℕ)) → ValidOptional (ValidValue stamp_checks (tagged 2) is_integer (Valid stamp_checks unread) (spell {C = StampCheck} unread)) taken σ place o τ → IfSome o IsInteger
unfolding spell
nonce_is taken σ τ place None v = tt
nonce_is taken σ τ place (Some n) v = integer_is stamp_checks σ place n v.before v.header_passes

-- ---- the imprint

imprint_is : (σ τ : Unit {0}) (place : ℕ) (p : ImprintParts) → ValidValue stamp_checks (tagged 48) unchecked (Valid stamp_checks imprint_shape) (spell imprint_shape) σ place p τ → IsName (name_of p.0)
unfolding Valid spell
imprint_is σ τ place p v = name_is stamp_checks v.inside.1.before _ p.0 v.inside.1.after v.inside.1.inside

imprint_again : (p : ImprintParts) → spell imprint_shape p ≡ imprint_text (name_of p.0) p.1.0
unfolding spell
imprint_again p =
    ap (λ name. value 48 name ++ (value 4 p.1.0 ++ [])) (name_again StampCheck p.0) ∙ ap (λ rest. value 48 (name_contents (name_of p.0)) ++ rest) (append-nil (value 4 p.1.0))

nonce_again : (o : Option (List ℕ)) → spell_optional (λ (n : List ℕ). value 2 n) o ≡ nonce_text o
nonce_again None = refl
nonce_again (Some n) = refl

-- ---- a request

wishes_longer : (w : WishesParts) → length (nonce_text w.1.0) ≤ length (spell wishes_shape w)
unfolding spell
wishes_longer w =
    let policy = spell_optional (λ (n : List ℕ). value 6 n) w.0 in
    let nonce = spell_optional (λ (n : List ℕ). value 2 n) w.1.0 in
    let flag = spell_optional (λ (n : List ℕ). value 1 n) w.1.1.0 in
    let extensions = spell_optional (λ (n : List ℕ). value 160 n) w.1.1.1.0 in
    omega (arith, ap length (nonce_again w.1.0), length-append policy (nonce ++ (flag ++ (extensions ++ []))), length-append nonce (flag ++ (extensions ++ [])))

request_longer : (p : RequestParts) → p.0 ≡ 1 ∷ [] → length (request_contents (request_of p)) ≤ length (spell request_contents_shape p)
unfolding spell
request_longer p one =
    let version = value 2 (1 ∷ []) in
    let imprint = value 48 (imprint_text (name_of p.1.0.0) p.1.0.1.0) in
    omega (
      arith,
      wishes_longer p.1.1,
      ap (λ c. length (value 2 c)) one,
      ap (λ c. length (value 48 c)) (imprint_again p.1.0),
      length-append (version ++ imprint) (nonce_text p.1.1.1.0),
      length-append version imprint,
      length-append (value 2 p.0) (value 48 (spell imprint_shape p.1.0) ++ spell wishes_shape p.1.1),
      length-append (value 48 (spell imprint_shape p.1.0)) (spell wishes_shape p.1.1),
    )

request_can_be_written : (σ τ : Unit {0}) (place : ℕ) (p : RequestParts) → ValidValue stamp_checks (tagged 48) unchecked (Valid stamp_checks request_contents_shape) (spell request_contents_shape) σ place p τ
    → HasRequestSpelling (request_of p) × (length (request_contents (request_of p)) ≤ length (spell request_contents_shape p))
unfolding Valid spell
request_can_be_written σ τ place p v =
    let longer = request_longer p (version_is {F = TstFault} der _ _ p.0 v.inside.1.before v.inside.1.header_passes) in (
      record {
        hash = imprint_is _ _ _ p.1.0 v.inside.2.1;
        nonce = nonce_is _ _ _ _ p.1.1.1.0 v.inside.2.2.2.1;
        short = omega (arith, longer, v.short);
      },
      longer,
    )

pub a_request_can_be_written : (bytes : List ℕ) (q : ToStamp) → ReadsRequest bytes q → HasRequestSpelling q × (length (request_contents q) ≤ length bytes)
unfolding Valid spell
a_request_can_be_written bytes q m =
    let w = request_can_be_written _ _ _ m.parts.0 m.valid.1 in
    let whole : length (spell request_contents_shape m.parts.0) ≤ length bytes = omega (arith, ap length m.spelled, length-append (value 48 (spell request_contents_shape m.parts.0)) [], content_shorter 48 (spell request_contents_shape m.parts.0)) in
    let P : ToStamp → Type 0 = λ x. HasRequestSpelling x × (length (request_contents x) ≤ length bytes) in
    subst P m.named (w.0, omega (arith, whole, w.1))
