-- One more of the items that a loop goes over.
use Rattle.std.proofs.Common.{◌≡◌, Bool, Option, unwrap_or, ℕ, zero, suc, ◌+◌, ◌-◌, ◌<◌, List, [], ◌∷◌, ◌++◌, length, take, drop, get_or, map, Some, sym, ap, subst, ◌∙◌, arith, append_assoc, add-one, drop-cons, if◌then◌else◌, None}
use Rattle.std.specs.Prelude.{slice_get}
use Rattle.std.proofs.lemmas.List.{take_more, map-append}
use Rattle.civil_moment.specs.declared.moment.Moment.{Moment}
use Rattle.evidence_syntax.specs.declared.stamps.Chain.{Chain}
use Rattle.evidence_syntax.specs.Stamps.{chain_seen, chains_seen}
use Rattle.evidence_verify.specs.declared.stamps.Checked.{Checked as HeldChecked}
use Rattle.evidence_verify.specs.declared.verdict.Verdict.{Verdict}
use Rattle.evidence_verify.specs.declared.verdict.Verdict.TheVariants.{Early}
use Rattle.evidence_verify.specs.Stamps.{Place, places_in, places_after}
use Rattle.civil_moment.specs.Moment.{is_before}
use Rattle.evidence_verify.specs.Order.{early_fault}
use Rattle.evidence_verify.specs.Values.{Owed, owed_values, owed_after}
use Rattle.evidence_verify.specs.Inside.{checked_seen}

-- the item stands here, before the rest
pub drop_here : {X : Type 0} (xs : List X) (i : ℕ) (x : X) → i < length xs → x ≡ get_or xs i x → drop i xs ≡ x ∷ drop (i + 1) xs
drop_here xs i x lt is =
    subst (λ k. drop i xs ≡ x ∷ drop k xs) (sym (add-one i)) (drop-cons xs i x lt ∙ ap (λ y. y ∷ drop (suc i) xs) (sym is))

pub take_here : {X : Type 0} (xs : List X) (i : ℕ) (x : X) → i < length xs → x ≡ get_or xs i x → take (i + 1) xs ≡ take i xs ++ x ∷ []
take_here xs i x lt is = take_more xs i x lt ∙ ap (λ y. take i xs ++ y ∷ []) (sym is)

-- ---- places

pub next_places : (chains : List Chain) (n i : ℕ) (x : Chain) (old new : List Place) → n ≡ i → i < length chains → x ≡ get_or chains i x
    → new ≡ old ++ places_in (chains_seen (take n chains)) 0 (chain_seen x)
    → old ++ places_after (chains_seen (take n chains)) (chains_seen (drop i chains)) ≡ new ++ places_after (chains_seen (take (n + 1) chains)) (chains_seen (drop (i + 1) chains))
next_places chains n i x old new same lt is added =
    let rest = chains_seen (drop (i + 1) chains) in
    let older = chains_seen (take n chains) in
    let here = take_here chains n x (subst (λ k. k < length chains) (sym same) lt) (is ∙ ap (λ k. get_or chains k x) (sym same)) in
    ap (λ l. old ++ places_after older (chains_seen l)) (drop_here chains i x lt is)
    ∙ sym (append_assoc old (places_in older 0 (chain_seen x)) (places_after (older ++ chain_seen x ∷ []) rest))
    ∙ ap (λ l. l ++ places_after (older ++ chain_seen x ∷ []) rest) (sym added)
    ∙ ap (λ l. new ++ places_after l rest) (sym (ap chains_seen here ∙ map-append chain_seen (take n chains) (x ∷ [])))

-- ---- values

pub next_owed : (documents : List (List ℕ)) (before : List ℕ) (xs : List HeldChecked) (i : ℕ) (x : HeldChecked) (old new : List Owed) → i < length xs → x ≡ get_or xs i x
    → new ≡ old ++ record { stamp = checked_seen x; values = owed_values documents before (checked_seen x) } ∷ []
    → old ++ owed_after documents before (map checked_seen (drop i xs)) ≡ new ++ owed_after documents x.place.ats.now.token.now (map checked_seen (drop (i + 1) xs))
next_owed documents before xs i x old new lt is added =
    let owed : Owed = record { stamp = checked_seen x; values = owed_values documents before (checked_seen x) } in
    let later = owed_after documents x.place.ats.now.token.now (map checked_seen (drop (i + 1) xs)) in
    ap (λ l. old ++ owed_after documents before (map checked_seen l)) (drop_here xs i x lt is)
    ∙ sym (append_assoc old (owed ∷ []) later)
    ∙ ap (λ l. l ++ later) (sym added)

-- ---- the last time-stamp

abbrev pub early_by : Moment → Moment → Bool → Option Verdict
early_by moment time early = if early then Some (Early moment time) else None

pub early_last : (moment : Moment) (xs : List HeldChecked) (n : ℕ) (x : HeldChecked) → n ≡ length xs - 1 → slice_get xs n ≡ Some x
    → early_fault moment (map checked_seen xs) ≡ early_by moment x.says.time (is_before moment x.says.time)
early_last moment [] n x last is = cc
early_last moment (y ∷ []) zero x last is =
    let same : y ≡ x = ap (λ (o : Option HeldChecked). unwrap_or o y) is in
    ap (λ (z : HeldChecked). early_by moment z.says.time (is_before moment z.says.time)) same
early_last moment (y ∷ []) (suc n) x last is = cc
early_last moment (y ∷ z ∷ rest) zero x last is = absurd (omega (arith, last))
early_last moment (y ∷ z ∷ rest) (suc n) x last is = early_last moment (z ∷ rest) n x (omega (arith, last)) is
