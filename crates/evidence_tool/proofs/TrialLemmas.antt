-- The words of `trial`, and the policy that it writes.
use Rattle.std.proofs.Common.{◌≡◌, ℕ, Bool, false, Option, Some, None, is_some, unwrap_or, List, [], ◌∷◌, take, map, codes, subst, refl, sym, ap, ◌∙◌}
use Rattle.std.specs.Prelude.{String, string_bytes}
use Rattle.std.specs.declared.alloc.Global.{Global}
use Rattle.std.proofs.lemmas.Slice.Eq.{bytes_eq-Decides}
use Rattle.std.proofs.lemmas.Bool.{cond-true}
use Rattle.std.specs.Io.KnownBytes.{Appends}
use Rattle.civil_moment.specs.declared.moment.Moment.{Moment}
use Rattle.civil_moment.specs.Moment.{Text}
use Rattle.algorithm_policy.specs.Content.{Content}
use Rattle.algorithm_policy.specs.Text.{PolicyText}
use Rattle.ev_world.specs.Causes.{Rose}
use Rattle.trial_authority.specs.Key.{sid_of, Trusts}
use Rattle.trial_authority.specs.Signer.{signer_of_seed}
use Rattle.evidence_tool.specs.Command.{IsTrial}
use Rattle.evidence_tool.specs.Trial.{trial_seed, trial_policy, IsWritten, whole, cut_off}

-- ---- the words

pub ends_are : (words : List (String Global)) (a b : List ℕ) (h k : Moment) → map string_bytes words ≡ codes "trial" ∷ a ∷ b ∷ [] → IsTrial words h k → Text a h × Text b k
ends_are words a b h k are is =
    let same : codes "trial" ∷ is.hash_word ∷ is.key_word ∷ [] ≡ codes "trial" ∷ a ∷ b ∷ [] = sym is.are ∙ are in
    let first : is.hash_word ≡ a = cc in
    let second : is.key_word ≡ b = cc in (subst (λ (t : List ℕ). Text t h) first is.hash_text, subst (λ (t : List ℕ). Text t k) second is.key_text)

abbrev pub ends : Moment → Moment → Option (Moment × Moment)
ends a b = Some (a, b)

pub both_are : (a b h k : Moment) → Some a ≡ Some h → Some b ≡ Some k → ends a b ≡ ends h k
both_are a b h k e f =
    let first : a ≡ h = ap (λ (o : Option Moment). unwrap_or o a) e in
    let second : b ≡ k = ap (λ (o : Option Moment). unwrap_or o b) f in λ i. ends (first i) (second i)

pub no_ends : (o : Option (Moment × Moment)) (words : List (String Global)) (some : Bool) → some ≡ is_some o → some ≡ false → ((h k : Moment) → IsTrial words h k → o ≡ Some (h, k)) → (h k : Moment) → ¬ IsTrial words h k
no_ends None words some same not only h k is = let e = only h k is in cc
no_ends (Some ends) words some same not only h k is = cc (same, not)

pub written_at : (a b h k : Moment) (taken took : Option (List ℕ)) (before after status : ℕ) → ends a b ≡ ends h k → IsWritten (trial_policy a b) taken took before after status → IsWritten (trial_policy h k) taken took before after status
written_at a b h k taken took before after status e is =
    let none : Moment × Moment = (a, b) in
    let first : a ≡ h = ap (λ (o : Option (Moment × Moment)). (unwrap_or o none).0) e in
    let second : b ≡ k = ap (λ (o : Option (Moment × Moment)). (unwrap_or o none).1) e in
    let policies : trial_policy a b ≡ trial_policy h k = λ i. trial_policy (first i) (second i) in
    subst (λ (p : Content). IsWritten p taken took before after status) policies is

-- ---- the authority

pub trusts : (h k : Moment) → Trusts (trial_policy h k) trial_seed
trusts h k = record {
  signer = signer_of_seed trial_seed (codes "trial") k;
  found = cond-true _ (Some (signer_of_seed trial_seed (codes "trial") k)) None ((bytes_eq-Decides (sid_of trial_seed) (sid_of trial_seed)).1 refl);
  key = refl;
  certificate = refl;
}

-- ---- its writing

pub took_all : (policy : Content) (taken took : Option (List ℕ)) (before after : ℕ) (text bytes : List ℕ) → bytes ≡ text → PolicyText text policy → Appends taken took bytes → IsWritten policy taken took before after 0
took_all policy taken took before after text bytes same says all = whole refl text says (subst (λ (b : List ℕ). Appends taken took b) same all)

pub took_part : (policy : Content) (taken took : Option (List ℕ)) (before after : ℕ) (text bytes : List ℕ) → bytes ≡ text → PolicyText text policy → Rose before after → (n : ℕ) × Appends taken took (take n bytes)
    → IsWritten policy taken took before after 4
took_part policy taken took before after text bytes same says rose part = cut_off refl rose text says part.0 (subst (λ (b : List ℕ). Appends taken took (take part.0 b)) same part.1)
