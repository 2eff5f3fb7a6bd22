use Rattle.std.proofs.Common.{◌≡◌, Some, None, Err, refl, sym, ap, ◌∙◌}
use Rattle.algorithm_policy.specs.declared.signer.Signer.{Signer}
use Rattle.algorithm_policy.specs.Content.{signer_of}
use Rattle.cms_signed.specs.Signed.{signed_seen}
use Rattle.bench_works.proofs.token.first_signature.Goals as goal

not_both : {s : Signer} → None ≡ Some s → ⊥
not_both is = cc

pub returns-in_err-token-clause-none : goal.returns-in_err-token-clause-none
returns-in_err-token-clause-none c = λ is key message signature h.
    let gives = rw is at c.from_residual.ensures in
    c.in_err-token.ensures.none (ap Err (sym gives.1)) h.token h.is_token

pub returns-in_default-clause-none : goal.returns-in_default-clause-none
returns-in_default-clause-none c = λ is key message signature h.
    let token = c.in_ok-token.ensures.only h.token h.is_token in
    c.in_default.ensures.only h.signed (rw token h.reads)

pub returns-in_default-signer-clause-none : goal.returns-in_default-signer-clause-none
returns-in_default-signer-clause-none c = λ is key message signature h.
    let token = c.in_ok-token.ensures.only h.token h.is_token in
    let signed = c.in-Ok.ensures.only h.signed (rw token h.reads) in
    not_both (c.in_default-signer.ensures.value ∙ ap (λ p. signer_of c.args.policy.now p.sid) signed ∙ h.found)

pub returns-clause-found : goal.returns-clause-found
returns-clause-found c = record {
  token = c.in_ok-token.token.now;
  is_token = c.in_ok-token.ensures.found;
  signed = signed_seen c.in-Ok.signed;
  reads = c.in-Ok.ensures.found;
  signer = c.in-Some.signer.now;
  found = sym c.in-Some.ensures.value;
  is_key = refl;
  is_message = c.in_ok-message.ensures;
  is_signature = refl;
}
