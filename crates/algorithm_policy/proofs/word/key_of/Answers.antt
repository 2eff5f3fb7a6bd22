use Rattle.std.proofs.Common.{ap, sym, ◌∙◌}
use Rattle.algorithm_policy.specs.Words.{is_key}
use Rattle.algorithm_policy.proofs.WordLemmas.{key_found, key_long, some_of_ok}
use Rattle.algorithm_policy.proofs.word.key_of.Goals as goal

pub returns-in_err-bytes-clause-found : goal.returns-in_err-bytes-clause-found
returns-in_err-bytes-clause-found c = (λ h. cc (c.from_residual.ensures, h), λ is. absurd (c.in_err-bytes.ensures (key_long _ is)))

pub returns-clause-value : goal.returns-clause-value
returns-clause-value c =
    some_of_ok _ _ _ c.ok.ensures.value (rw (← c.in_ok-bytes.ensures) c.read.ensures.value)

pub returns-clause-found : goal.returns-clause-found
returns-clause-found c =
    let same = ap is_key (sym c.in_ok-bytes.ensures) ∙ key_found c.in_ok-bytes.bytes c.read.result c.read.ensures.fault in
    (λ h. same ∙ sym c.ok.ensures.variant ∙ h, λ is. c.ok.ensures.variant ∙ sym same ∙ is)
