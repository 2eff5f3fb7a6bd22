-- A trial authority as a policy names it.
use Rattle.std.specs.Prelude.{ℕ, List}
use Rattle.civil_moment.specs.declared.moment.Moment.{Moment}
use Rattle.algorithm_policy.specs.declared.signer.Signer.{Signer}
use Rattle.trial_authority.specs.Key.{public_of, certificate_of, sid_of}

-- the authority of a seed, by this name and with this end of its key
abbrev pub signer_of_seed : List ℕ → List ℕ → Moment → Signer
signer_of_seed seed name end = record {
  name = name;
  sid = sid_of seed;
  key = public_of seed;
  cert = certificate_of seed;
  end = end;
}
