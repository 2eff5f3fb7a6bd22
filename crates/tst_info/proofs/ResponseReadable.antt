-- A written response is answered as its status and its token say.
use Rattle.std.proofs.Common.{◌≡◌, ◌≢◌, ℕ, ◌+◌, ◌<◌, ◌≤◌, ◌%◌, ◌^◌, Bool, true, false, List, [], ◌∷◌, ◌++◌, length, Option, Some, None, Ok, Err, ◌==◌, nat_le, nat_lt, if◌then◌else◌, refl, sym, ap, subst, ◌∙◌, arith}
use Rattle.std.specs.Prelude.{IfSome}
use Rattle.std.specs.Borrow.{Bor}
use Rattle.std.specs.Option.{option_map}
use Rattle.std.proofs.lemmas.Bool.Decides.{nat_tests}
use Rattle.std.proofs.lemmas.List.{append-nil}
use Rattle.der_values.specs.Input.{Item}
use Rattle.der_values.specs.Value.{value, bytes_or_none}
use Rattle.der_values.specs.Next.{next_of, expect_of, contents}
use Rattle.der_values.specs.Typed.{integer_of}
use Rattle.der_values.specs.Shape.{unchecked, checked, spell}
use Rattle.der_values.specs.Reading.{read}
use Rattle.der_values.specs.Grammar.{Valid, from_start}
use Rattle.der_values.proofs.Values.{value_again}
use Rattle.der_values.proofs.Lengths.{first_shorter}
use Rattle.der_values.proofs.Written.{item, value_valid}
use Rattle.tst_info.specs.declared.fault.RespFault.{RespFault}
use Rattle.tst_info.specs.declared.fault.RespFault.TheVariants.{NotGranted, NoToken}
use Rattle.tst_info.specs.Response.{granted, status_shape, response_contents_shape, response_shape, granted_of, token_next_of, response_checks, ResponseParts, ReadsResponse, response_first_fault, response_contents, response_text, IsToken, granted_token, answer_to, Answers}

-- ---- a value that stands in front

expect_again : (tag place : ℕ) (content after : List ℕ) → tag % 32 ≢ 31 → length content < 2 ^ 32
    → expect_of tag (record { place = place; left = value tag content ++ after }) ≡ Ok (item place tag content, record { place = place + length (value tag content); left = after })
unfolding expect_of next_of
expect_again tag place content after low short = rw (value_again place tag content after low short) (rw (same tag) refl) where
  same : (n : ℕ) → (n == n) ≡ true
  same n = grind arith

expect_alone : (tag place : ℕ) (content : List ℕ) → tag % 32 ≢ 31 → length content < 2 ^ 32
    → expect_of tag (record { place = place; left = value tag content }) ≡ Ok (item place tag content, record { place = place + length (value tag content); left = [] })
expect_alone tag place content low short =
    subst (λ (left : List ℕ). expect_of tag (record { place = place; left = left }) ≡ Ok (item place tag content, record { place = place + length (value tag content); left = [] })) (append-nil (value tag content)) (expect_again tag place content [] low short)

-- ---- the status

abbrev number : ℕ → ℕ → Item
number place status = item place 2 (status ∷ [])

grants : (place status : ℕ) → status ≤ 127 → nat_le status 1 ≡ true → granted_of (number place status) ≡ Ok tt
unfolding granted_of integer_of
grants place status octet e = let low : nat_lt 127 status ≡ false = grind (arith, nat_tests) in rw low (rw e refl)

refuses : (place status : ℕ) → status ≤ 127 → nat_le status 1 ≡ false → granted_of (number place status) ≡ Err (NotGranted status)
unfolding granted_of integer_of
refuses place status octet e = let low : nat_lt 127 status ≡ false = grind (arith, nat_tests) in rw low (rw e refl)

-- the contents of the first part
abbrev status_text : ℕ → List ℕ
status_text status = value 2 (status ∷ [])

status_refused : (place status : ℕ) → status ≤ 127 → nat_le status 1 ≡ false → read response_checks status_shape tt (record { place = place; left = status_text status }) ≡ Err (NotGranted status)
unfolding read
status_refused place status octet e = rw (expect_alone 2 place (status ∷ []) (λ f. omega arith) (omega arith)) (rw (refuses place status octet e) refl)

status_granted : (place status : ℕ) → status ≤ 127 → nat_le status 1 ≡ true → read response_checks status_shape tt (record { place = place; left = status_text status }) ≡ Ok ((status ∷ [], []), tt)
unfolding read
status_granted place status octet e = rw (expect_alone 2 place (status ∷ []) (λ f. omega arith) (omega arith)) (rw (grants place status octet e) refl)

-- ---- the SEQUENCE

abbrev inside : ℕ → List ℕ → ℕ
inside place content = (contents (item place 48 content)).place

contents_refused : (place status : ℕ) (rest : List ℕ) → status ≤ 127 → nat_le status 1 ≡ false → length (status_text status) < 2 ^ 32
    → read response_checks response_contents_shape tt (record { place = place; left = value 48 (status_text status) ++ rest }) ≡ Err (NotGranted status)
unfolding read
contents_refused place status rest octet e short =
    rw (expect_again 48 place (status_text status) rest (λ f. omega arith) short) (rw (status_refused (inside place (status_text status)) status octet e) refl)

contents_tokenless : (place status : ℕ) → status ≤ 127 → nat_le status 1 ≡ true → length (status_text status) < 2 ^ 32
    → read response_checks response_contents_shape tt (record { place = place; left = value 48 (status_text status) ++ [] }) ≡ Err NoToken
unfolding read token_next_of
contents_tokenless place status octet e short =
    rw (expect_again 48 place (status_text status) [] (λ f. omega arith) short) (rw (status_granted (inside place (status_text status)) status octet e) refl)

read_refused : (content : List ℕ) (e : RespFault) → length content < 2 ^ 32 → read response_checks response_contents_shape tt (record { place = inside 0 content; left = content }) ≡ Err e
    → read response_checks response_shape tt (from_start (value 48 content)) ≡ Err e
unfolding read
read_refused content e short is = rw (expect_alone 48 0 content (λ f. omega arith) short) (rw is refl)

whole_refused : (content : List ℕ) (e : RespFault) → length content < 2 ^ 32 → read response_checks response_contents_shape tt (record { place = inside 0 content; left = content }) ≡ Err e
    → response_first_fault (value 48 content) ≡ Some e
whole_refused content e short is = ap (λ r. elim r [ Ok x ↦ None | Err f ↦ Some f ]) (read_refused content e short is)

-- ---- a token that is granted

module _ (status : ℕ) (octet : status ≤ 127) (e : nat_le status 1 ≡ true) (token : List ℕ) (is : IsToken token) where
  abbrev parts : ResponseParts
  parts = ((status ∷ [], []), (is.content, tt))

  spelled : spell response_contents_shape parts ≡ value 48 (status_text status) ++ token
  unfolding spell
  spelled = (λ i. value 48 (append-nil (status_text status) i) ++ (append-nil (value 48 is.content) ∙ sym is.spells.is) i)

  next_passes : (place : ℕ) → token_next_of (record { place = place; left = value 48 is.content ++ [] }) ≡ Ok tt
  unfolding token_next_of value
  next_passes place = refl

  valid : (place : ℕ) → length (status_text status ++ []) < 2 ^ 32 → Valid response_checks response_contents_shape tt place parts tt
  unfolding Valid spell
  valid place short = (
    tt,
    record {
      before = tt;
      after = tt;
      low_tag = λ f. omega arith;
      short = short;
      header_passes = refl;
      inside = (tt, value_valid response_checks 2 (checked granted) tt tt tt _ (status ∷ []) (λ f. omega arith) (omega arith) (grants _ status octet e) refl, refl);
      end_passes = refl;
    },
    (tt, next_passes _, (tt, value_valid response_checks 48 unchecked tt tt tt _ is.content (λ f. omega arith) is.spells.short refl refl, refl)),
  )

  granted_read : length (value 48 (status_text status) ++ token) < 2 ^ 32 → ReadsResponse (value 48 (value 48 (status_text status) ++ token)) token
  unfolding Valid spell
  granted_read small =
      let short : length (status_text status ++ []) < 2 ^ 32 = rw (append-nil (status_text status)) (first_shorter 48 (status_text status) token (2 ^ 32) small) in
      record {
        parts = (parts, tt);
        state = tt;
        valid = (tt, record { before = tt; after = tt; low_tag = λ f. omega arith; short = rw spelled small; header_passes = refl; inside = valid _ short; end_passes = refl }, refl);
        spelled = ap (λ content. value 48 content) (sym spelled) ∙ sym (append-nil (value 48 (spell response_contents_shape parts)));
        named = sym is.spells.is;
      }

-- a token in memory
pub token_seen : (o : Option (Bor (List ℕ))) → IfSome o (λ b. IsToken b.now) → IfSome (option_map (λ b. b.now) o) IsToken
token_seen None is = tt
token_seen (Some b) is = is

pub response_answered : (status : ℕ) (token : Option (List ℕ)) → status ≤ 127 → IfSome token IsToken → length (response_contents status token) < 2 ^ 32 → Answers (response_text status token) (answer_to status token)
response_answered status token octet is short = by_status (nat_le status 1) refl where
  by_token : (o : Option (List ℕ)) → IfSome o IsToken → length (response_contents status o) < 2 ^ 32 → nat_le status 1 ≡ true → Answers (response_text status o) (granted_token o)
  by_token None is short e =
      whole_refused (value 48 (status_text status) ++ []) NoToken short (contents_tokenless _ status octet e (first_shorter 48 (status_text status) [] (2 ^ 32) short))
  by_token (Some b) is short e = granted_read status octet e b is short

  by_status : (b : Bool) → nat_le status 1 ≡ b → Answers (response_text status token) (if b then granted_token token else Err (NotGranted status))
  by_status true e = by_token token is short e
  by_status false e =
      whole_refused (response_contents status token) (NotGranted status) short (contents_refused _ status (bytes_or_none token) octet e (first_shorter 48 (status_text status) (bytes_or_none token) (2 ^ 32) short))
