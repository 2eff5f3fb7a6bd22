-- Lists that lead to the root cover each value.
use Rattle.std.proofs.Common.{◌≡◌, inl, ℕ, List, Option, Some, None, refl, sym, subst}
use Rattle.std.specs.Prelude.{Contains}
use Rattle.std.specs.List.{AllByRecursion}
use Rattle.hash_kit.specs.declared.algorithm.HashAlg.{HashAlg}
use Rattle.hash_kit.specs.declared.algorithm.HashAlg.TheVariants.{Sha256, Sha384, Sha512}
use Rattle.cms_signed.specs.Names.{known_hash}
use Rattle.reduced_tree.specs.Reduced.{first_of}
use Rattle.evidence_verify.specs.Covers.{CoversBy}
use Rattle.tree_renewal.specs.Lists.{LeadTo}
use Rattle.archive_chain.specs.Sequence.{name_of}
use Rattle.archive_issue.proofs.Ends.{each_along}

pub covered_each : (alg : HashAlg) (root : List ℕ) (values : List (List ℕ)) (lists : Option (List (List (List ℕ)))) → LeadTo alg root values lists → AllByRecursion (CoversBy alg root lists) values
covered_each alg root values None lead = subst (AllByRecursion (CoversBy alg root None)) (sym lead) (refl, tt)
covered_each alg root values (Some lists) lead =
    each_along (Contains (first_of lists)) (CoversBy alg root (Some lists)) (λ v stands. (stands, inl (sym lead.1))) values lead.0

-- the name of a hash is the one that is known as it
pub is_known : (alg : HashAlg) → known_hash (name_of alg) ≡ Some alg
is_known Sha256 = refl
is_known Sha384 = refl
is_known Sha512 = refl
