-- A signer's identifier is one DER value.
use Rattle.std.proofs.Common.{◌≡◌, ℕ, ◌+◌, ◌≤◌, ◌==◌, true, ◌&&◌, ◌||◌, ◌⊎◌, inl, inr, nat_le, List, [], ◌∷◌, ◌++◌, length, Result, Ok, Err, refl, sym, ap, ◌∙◌, append-nil}
use Rattle.std.proofs.lemmas.Bool.{and_parts, and_from, or_cases, eqb-true, leb-true, le-leb}
use Rattle.der_values.specs.declared.fault.DerFault.{DerFault}
use Rattle.der_values.specs.Input.{Item}
use Rattle.der_values.specs.Value.{value, Spells}
use Rattle.der_values.specs.Steps.{◌>>=◌}
use Rattle.der_values.specs.Next.{is_empty, next_of, value_at}
use Rattle.der_values.proofs.Values.{value_takes}
use Rattle.der_values.proofs.Again.{next_again}
use Rattle.hex.specs.Hex.{IsBytes}
use Rattle.algorithm_policy.specs.Words.{is_sid, is_named_alone}

-- the bytes are one value of one of the two tags
abbrev pub IsOne : List ℕ → Type 0
IsOne sid = (tag : ℕ) × (content : List ℕ) × ((tag ≡ 48) ⊎ (tag ≡ 128)) × Spells sid tag content × (length sid ≤ 1024)

tag_is : (tag : ℕ) → ((tag == 48) || (tag == 128)) ≡ true → (tag ≡ 48) ⊎ (tag ≡ 128)
tag_is tag h = elim (or_cases (tag == 48) (tag == 128) h) [ inl a ↦ inl (eqb-true tag 48 a) | inr b ↦ inr (eqb-true tag 128 b) ]

nothing : (l : List ℕ) → is_empty l ≡ true → l ≡ []
nothing [] h = refl
nothing (x ∷ xs) h = cc h

pub one_value : (sid : List ℕ) → IsBytes sid → is_sid sid ≡ true → IsOne sid
unfolding is_sid next_of
one_value sid bytes h = at (value_at 0 sid) refl (and_parts (nat_le (length sid) 1024) _ h).1
  where
    at : (r : Result (Item × List ℕ) DerFault) → value_at 0 sid ≡ r
        → is_named_alone (r >>= λ x. Ok (x.0, record { place = 0 + length (value x.0.tag x.0.content); left = x.1 })) ≡ true → IsOne sid
    at (Err e) is k = cc k
    at (Ok x) is k =
        let p = and_parts ((x.0.tag == 48) || (x.0.tag == 128)) (is_empty x.1) k in
        let t = value_takes 0 sid x.0 x.1 bytes is in (
          x.0.tag,
          x.0.content,
          tag_is x.0.tag p.0,
          record { low_tag = t.low_tag; short = t.short; is = t.parts ∙ ap (λ l. value x.0.tag x.0.content ++ l) (nothing x.1 p.1) ∙ append-nil (value x.0.tag x.0.content) },
          leb-true (length sid) 1024 (and_parts (nat_le (length sid) 1024) _ h).0,
        )

pub read_alone : (sid : List ℕ) → IsOne sid → is_sid sid ≡ true
unfolding is_sid
read_alone sid one =
    let s = one.3 in
    let whole = s.is ∙ sym (append-nil (value one.0 one.1)) in
    and_from _ _ (le-leb (length sid) 1024 one.4)
    (ap (λ l. is_named_alone (next_of (record { place = 0; left = l }))) whole
    ∙ ap is_named_alone (next_again 0 one.0 one.1 [] s.low_tag s.short)
    ∙ tagged one.2)
  where
    tagged : ((one.0 ≡ 48) ⊎ (one.0 ≡ 128)) → (((one.0 == 48) || (one.0 == 128)) && true) ≡ true
    tagged (inl a) = rw a refl
    tagged (inr b) = rw b refl
