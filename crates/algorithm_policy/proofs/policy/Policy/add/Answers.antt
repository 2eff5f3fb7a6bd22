use Rattle.algorithm_policy.proofs.PlaceLemmas.{signer_place, blamed}
use Rattle.algorithm_policy.proofs.policy.Policy.add.Goals as goal

pub returns-in-Authority-clause-fault : goal.returns-in-Authority-clause-fault
returns-in-Authority-clause-fault c =
    rw (c.in-Authority.is, signer_place) (blamed _ _ c.add_signer.ensures.fault)
