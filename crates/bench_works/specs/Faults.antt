-- The faults of what is read, as the program answers them.
use Rattle.algorithm_policy.specs.declared.fault.PolicyFault.{PolicyFault}
use Rattle.algorithm_policy.specs.declared.fault.PolicyFault.TheVariants as policies
use Rattle.lms_sign.specs.declared.fault.SignFault.{SignFault}
use Rattle.lms_sign.specs.declared.fault.SignFault.TheVariants as keys
use Rattle.session_text.specs.declared.shape.ShapeFault.{ShapeFault}
use Rattle.session_text.specs.declared.shape.ShapeFault.TheVariants as shapes
use Rattle.bench_works.specs.declared.fault.BenchFault.{BenchFault}
use Rattle.bench_works.specs.declared.fault.BenchFault.TheVariants.{NoVerification, NoPolicy, NoLeaf, Memory}

-- the fault of an input
abbrev pub of_input : ShapeFault → BenchFault
of_input (shapes.At place kind) = NoVerification
of_input shapes.Memory = Memory

-- the fault of a policy
abbrev pub of_policy : PolicyFault → BenchFault
of_policy (policies.At line kind) = NoPolicy
of_policy policies.Memory = Memory

-- the fault of a key
abbrev pub of_key : SignFault → BenchFault
of_key keys.Exhausted = NoLeaf
of_key keys.Memory = Memory
