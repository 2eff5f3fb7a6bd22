-- A written request is read again.
use Rattle.std.proofs.Common.{◌≡◌, ℕ, ◌<◌, ◌^◌, List, [], ◌∷◌, ◌++◌, length, Option, Some, None, refl, sym, ap, ◌∙◌, append_assoc, arith}
use Rattle.std.specs.Prelude.{IfSome}
use Rattle.std.proofs.lemmas.List.{append-nil}
use Rattle.der_values.specs.Value.{value}
use Rattle.der_values.specs.Typed.{IsInteger}
use Rattle.der_values.specs.Shape.{tagged, unchecked, checked, spell}
use Rattle.der_values.specs.Grammar.{ValidValue, Valid}
use Rattle.der_values.proofs.Written.{integer_passes, name_named, value_valid, integer_valid}
use Rattle.tst_info.specs.Checks.{version_one, stamp_checks}
use Rattle.tst_info.specs.Imprint.{imprint_text}
use Rattle.tst_info.specs.Spelling.{nonce_text}
use Rattle.tst_info.specs.Request.{ToStamp, wishes_shape, WishesParts, request_contents_shape, RequestParts, request_of, ReadsRequest, request_contents, request_text, HasRequestSpelling}
use Rattle.tst_info.proofs.Lengths.{request_shorter}
use Rattle.tst_info.proofs.Readable.{imprint_parts, imprint_spelled, imprint_valid}
use Rattle.tst_info.proofs.InfoReadable.{version_passes}

abbrev wishes_parts : Option (List ℕ) → WishesParts
wishes_parts nonce = (None, (nonce, (None, (None, tt))))

wishes_spelled : (nonce : Option (List ℕ)) → spell wishes_shape (wishes_parts nonce) ≡ nonce_text nonce
unfolding spell
wishes_spelled None = refl
wishes_spelled (Some n) = append-nil (value 2 n)

wishes_valid : (place : ℕ) (nonce : Option (List ℕ)) → IfSome nonce IsInteger → IfSome nonce (λ n. length n < 2 ^ 32) → Valid stamp_checks wishes_shape tt place (wishes_parts nonce) tt
unfolding Valid spell value
wishes_valid place None is short = (tt, (refl, refl), (tt, (refl, refl), (tt, (refl, refl), (tt, (refl, refl), refl))))
wishes_valid place (Some n) is short = (tt, (refl, refl), (tt, integer_valid stamp_checks tt _ n short (integer_passes _ n is), (tt, (refl, refl), (tt, (refl, refl), refl))))

module _ (q : ToStamp) (is : HasRequestSpelling q) where
  abbrev parts : RequestParts
  parts = (1 ∷ [], (imprint_parts q.hash is.hash q.imprint, wishes_parts q.nonce))

  named : request_of parts ≡ q
  named i = record { hash = name_named q.hash is.hash i; imprint = q.imprint; nonce = q.nonce }

  spelled : spell request_contents_shape parts ≡ request_contents q
  unfolding spell
  spelled =
      (λ i. value 2 (1 ∷ []) ++ (value 48 (imprint_spelled q.hash is.hash q.imprint i) ++ wishes_spelled q.nonce i))
      ∙ sym (append_assoc (value 2 (1 ∷ [])) (value 48 (imprint_text q.hash q.imprint)) (nonce_text q.nonce))

  valid : (place : ℕ) → ValidValue stamp_checks (tagged 48) unchecked (Valid stamp_checks request_contents_shape) (spell request_contents_shape) tt place parts tt
  unfolding Valid spell
  valid place =
      let short = request_shorter q (2 ^ 32) is.short in
      record {
        before = tt;
        after = tt;
        low_tag = λ e. omega arith;
        short = rw spelled is.short;
        header_passes = refl;
        inside = (
          tt,
          value_valid stamp_checks 2 (checked version_one) tt tt tt _ (1 ∷ []) (λ e. omega arith) (omega arith) (version_passes _) refl,
          (tt, imprint_valid q.hash is.hash q.imprint _ short.imprint, wishes_valid _ q.nonce is.nonce short.nonce),
        );
        end_passes = refl;
      }

  pub request_read_again : ReadsRequest (request_text q) q
  unfolding Valid spell
  request_read_again = record {
    parts = (parts, tt);
    state = tt;
    valid = (tt, valid 0, refl);
    spelled = ap (λ content. value 48 content) (sym spelled) ∙ sym (append-nil (value 48 (spell request_contents_shape parts)));
    named = named;
  }
