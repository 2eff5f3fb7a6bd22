-- What becomes of a policy with an end or an authority more, and what keeps an authority out.
use Rattle.std.specs.Prelude.{ℕ, not, nat_le, List, [], ◌∷◌, ◌++◌, length, Option, Some, None, if◌then◌else◌}
use Rattle.std.specs.List.{list_all, list_any}
use Rattle.std.specs.Str.{bytes_eq}
use Rattle.civil_moment.specs.declared.moment.Moment.{Moment}
use Rattle.hash_kit.specs.declared.algorithm.HashAlg.{HashAlg}
use Rattle.hash_kit.specs.declared.algorithm.HashAlg.TheVariants.{Sha256, Sha384, Sha512}
use Rattle.algorithm_policy.specs.declared.fault.LineFault.{LineFault}
use Rattle.algorithm_policy.specs.declared.fault.LineFault.TheVariants.{Is, Memory}
use Rattle.algorithm_policy.specs.declared.fault.PolicyKind.{PolicyKind}
use Rattle.algorithm_policy.specs.declared.fault.PolicyKind.TheVariants.{Order, Twice, TooMany}
use Rattle.algorithm_policy.specs.declared.signer.Signer.{Signer}
use Rattle.algorithm_policy.specs.Content.{Content, is_below}

-- the policy with this end of an algorithm
abbrev pub with_end : Content → HashAlg → Moment → Content
with_end policy Sha256 end = record policy { sha256 = Some end }
with_end policy Sha384 end = record policy { sha384 = Some end }
with_end policy Sha512 end = record policy { sha512 = Some end }

-- the policy with one authority more, behind the others
abbrev pub with_signer : Content → Signer → Content
with_signer policy last = record policy { signers = policy.signers ++ last ∷ [] }

-- what keeps an authority of this name and identifier out: a name that isn't below it, its identifier, or 64 others
abbrev pub signer_fault : Content → List ℕ → List ℕ → Option PolicyKind
signer_fault policy name sid =
    if not (list_all (λ signer. is_below signer.name name) policy.signers) then Some Order
    else if list_any (λ signer. bytes_eq signer.sid sid) policy.signers then Some Twice
    else if nat_le 64 (length policy.signers) then Some TooMany
    else None

-- what is answered for it: the fault, or want of memory where there is none
abbrev pub refusal : Option PolicyKind → LineFault
refusal (Some kind) = Is kind
refusal None = Memory
