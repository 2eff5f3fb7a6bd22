-- One hash in each chain (RFC 4998, 5.1): the hash of an archive time-stamp is that of its time-stamp's imprint.
use Rattle.std.specs.Prelude.{◌==◌, Bool, true, false, ◌&&◌, List, [], ◌∷◌, Option, Some, None, if◌then◌else◌}
use Rattle.der_values.specs.Algorithm.{Name}
use Rattle.hash_kit.specs.declared.algorithm.HashAlg.{HashAlg}
use Rattle.hash_kit.specs.Algorithm.{place_of}
use Rattle.cms_signed.specs.Names.{known_hash}
use Rattle.evidence_verify.specs.declared.verdict.Verdict.{Verdict}
use Rattle.evidence_verify.specs.declared.verdict.Verdict.TheVariants.{MixedHash}
use Rattle.evidence_verify.specs.Stamps.{Checked}

-- they are one hash algorithm: they have one place among all
abbrev pub is_same : HashAlg → HashAlg → Bool
is_same alg other = place_of alg == place_of other

-- the algorithm is there, and this one
abbrev pub is_hash : HashAlg → Option HashAlg → Bool
is_hash alg None = false
is_hash alg (Some other) = is_same alg other

-- digestAlgorithm is absent, or names this hash with absent or NULL parameters (4.1)
abbrev pub is_named : HashAlg → Option Name → Bool
is_named alg None = true
is_named alg (Some name) = is_hash alg (known_hash name)

-- the hash of a chain is that of its first time-stamp
abbrev pub chain_hash : HashAlg → Checked → HashAlg
chain_hash so_far c = if c.place.stamp == 0 then c.says.alg else so_far

-- the archive time-stamp names the hash of its imprint, and it is that of the chain
abbrev pub has_one_hash : HashAlg → Checked → Bool
has_one_hash so_far c = is_named c.says.alg c.place.ats.algorithm && is_same c.says.alg (chain_hash so_far c)

-- the first time-stamp of another hash, where the chain of the time-stamps before has this one
abbrev pub mixed_after : HashAlg → List Checked → Option Verdict
mixed_after so_far [] = None
mixed_after so_far (c ∷ rest) =
    if has_one_hash so_far c then mixed_after (chain_hash so_far c) rest
    else Some (MixedHash c.place.chain c.place.stamp)

-- the first time-stamp of another hash than it names, or than its chain's
abbrev pub mixed_fault : List Checked → Option Verdict
mixed_fault [] = None
mixed_fault (c ∷ rest) = mixed_after c.says.alg (c ∷ rest)
