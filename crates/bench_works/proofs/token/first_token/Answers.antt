use Rattle.std.proofs.Common.{◌≡◌, ℕ, List, Some, None, sym, ap, ◌∙◌}
use Rattle.evidence_syntax.specs.Stamps.{chains_seen}
use Rattle.evidence_syntax.proofs.Parts.{if_ok}
use Rattle.bench_works.specs.Signature.{first_token}
use Rattle.bench_works.proofs.token.first_token.Goals as goal

the_one : {t u : List ℕ} → Some t ≡ Some u → t ≡ u
the_one is = cc

not_both : {t : List ℕ} → None ≡ Some t → ⊥
not_both is = cc

pub returns-in-Ok-clause-only : goal.returns-in-Ok-clause-only
returns-in-Ok-clause-only c = λ token h.
    let chains = ap chains_seen c.as_slice.ensures ∙ ap (λ r. r.chains) (c.in-Ok.ensures.only h.evidence h.spells) in
    if_ok c.first_of.result (λ t first. the_one (sym first ∙ ap first_token chains ∙ h.is_first)) c.first_of.ensures.found

pub returns-in-Ok-clause-none : goal.returns-in-Ok-clause-none
returns-in-Ok-clause-none c = λ is token h.
    let chains = ap chains_seen c.as_slice.ensures ∙ ap (λ r. r.chains) (c.in-Ok.ensures.only h.evidence h.spells) in
    let none = rw is at c.first_of.ensures.none in
    not_both (sym none.1 ∙ ap first_token chains ∙ h.is_first)

pub returns-in-Err-At-clause-none : goal.returns-in-Err-At-clause-none
returns-in-Err-At-clause-none c = λ is token h. (rw c.in-Err-At.field-0-is at c.in-Err-At.ensures).only h.evidence h.spells
