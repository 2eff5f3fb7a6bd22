use Rattle.std.proofs.Common.{ap, ◌∙◌}
use Rattle.hash_kit.specs.declared.algorithm.HashAlg.TheVariants.{Sha512}
use Rattle.algorithm_policy.specs.Inside.{later_of}
use Rattle.algorithm_policy.proofs.LookupLemmas.{later_twice}
use Rattle.algorithm_policy.proofs.policy.Policy.target.Goals as goal

pub returns : goal.returns
returns c = c.later.ensures ∙ ap (λ first. later_of c.args.self.now first Sha512) c.later-first.ensures ∙ later_twice c.args.self.now
