-- Lists with one item more at their end.
use Rattle.std.proofs.Common.{◌≡◌, ℕ, List, [], ◌∷◌, ◌++◌, refl, ap}
use Rattle.std.specs.List.{AllByRecursion}
use Rattle.evidence_verify.specs.Stamps.{Checked}
use Rattle.evidence_verify.specs.Values.{Owed, owed_values, owed_after}
use Rattle.evidence_verify.specs.Holds.{EachNext}

pub each_end : {A : Type 0} (P : A → Type 0) (xs : List A) (x : A) → AllByRecursion P xs → P x → AllByRecursion P (xs ++ x ∷ [])
each_end P [] x h p = (p, tt)
each_end P (y ∷ xs) x h p = (h.0, each_end P xs x h.1 p)

pub each_along : {A : Type 0} (P Q : A → Type 0) → ((x : A) → P x → Q x) → (xs : List A) → AllByRecursion P xs → AllByRecursion Q xs
each_along P Q f [] h = tt
each_along P Q f (x ∷ xs) h = (f x h.0, each_along P Q f xs h.1)

pub next_end : (R : Checked → Checked → Type 0) (before : List Checked) (last c : Checked) → EachNext R (before ++ last ∷ []) → R last c → EachNext R ((before ++ last ∷ []) ++ c ∷ [])
next_end R [] last c h r = (r, tt)
next_end R (a ∷ []) last c h r = (h.0, (r, tt))
next_end R (a ∷ b ∷ before) last c h r = (h.0, next_end R (b ∷ before) last c h.1 r)

-- the token of the last, or this one
abbrev pub token_after : List ℕ → List Checked → List ℕ
token_after before [] = before
token_after before (c ∷ rest) = token_after c.place.ats.token rest

pub token_end : (token : List ℕ) (before : List Checked) (last : Checked) → token_after token (before ++ last ∷ []) ≡ last.place.ats.token
token_end token [] last = refl
token_end token (x ∷ before) last = token_end x.place.ats.token before last

abbrev pub owed_at : List (List ℕ) → List ℕ → Checked → Owed
owed_at documents before c = record { stamp = c; values = owed_values documents before c }

pub owed_end : (documents : List (List ℕ)) (before : List ℕ) (xs : List Checked) (c : Checked)
    → owed_after documents before (xs ++ c ∷ []) ≡ owed_after documents before xs ++ owed_at documents (token_after before xs) c ∷ []
owed_end documents before [] c = refl
owed_end documents before (x ∷ xs) c = ap (λ (l : List Owed). owed_at documents before x ∷ l) (owed_end documents x.place.ats.token xs c)
