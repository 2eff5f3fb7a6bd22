use Rattle.std.proofs.Common.{◌∙◌, refl}
use Rattle.algorithm_policy.proofs.PolicyLineLemmas.{says_signer}
use Rattle.algorithm_policy.proofs.policy_line.signer_of.Goals as goal

pub returns-clause-read : goal.returns-clause-read
returns-clause-read c = says_signer _ _ _ _ _ _ record {
  name = cc;
  hex = cc;
  sid = c.in_ok-sid.ensures.ok;
  key = c.in-Some.ensures.found.0 refl;
  cert = c.in-Some-cert_of.ensures.found.0 refl;
  end = c.in-Some-time_of.ensures.found.0 refl;
}
    (c.from_vec-name.ensures ∙ c.in_ok-from_slice.ensures.items) c.in_ok-sid.ensures.value c.in-Some.ensures.value c.in-Some-cert_of.ensures.value c.in-Some-time_of.ensures.value
