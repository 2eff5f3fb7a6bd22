-- The parts of a record that is written, and how long they are.
use Rattle.std.proofs.Common.{◌≡◌, ◌+◌, ◌≤◌, List, [], ◌∷◌, length, map, None, refl, sym, ap, subst, arith}
use Rattle.std.specs.List.{flat_map}
use Rattle.std.proofs.lemmas.List.{length-map}
use Rattle.der_values.specs.Algorithm.{Name}
use Rattle.der_values.proofs.Values.{value_length}
use Rattle.hash_kit.specs.declared.algorithm.HashAlg.{HashAlg}
use Rattle.algorithm_policy.specs.Content.{Content}
use Rattle.evidence_syntax.specs.Stamps.{Stamp}
use Rattle.evidence_syntax.specs.Record.{EvidenceRecord}
use Rattle.evidence_syntax.specs.Text.{chain_text, record_contents, record_spelling}
use Rattle.archive_chain.specs.Kept.{Cover}
use Rattle.archive_chain.specs.Sequence.{name_of}
use Rattle.archive_chain.specs.Coverings.{AreCoverings}
use Rattle.archive_chain.specs.declared.coverings.Covering.{Covering}
use Rattle.archive_issue.specs.Record.{each_once}
use Rattle.archive_issue.proofs.Written.{once_few, record_size}

pub same_hashes : (policy : Content) (covers : List Cover) (coverings : List Covering) → AreCoverings policy covers coverings → map (λ (c : Covering). c.alg) coverings ≡ map (λ (c : Cover). c.alg) covers
same_hashes policy [] [] are = refl
same_hashes policy [] (covering ∷ coverings) are = absurd are
same_hashes policy (c ∷ covers) [] are = absurd are
same_hashes policy (c ∷ covers) (covering ∷ coverings) are = (λ i. are.0.alg_is i ∷ same_hashes policy covers coverings are.1 i)

abbrev pub put : List Name → List (List Stamp) → EvidenceRecord
put names chains = record { algorithms = names; crypto = None; encryption = None; chains = chains }

pub put_short : (names : List Name) (seen coverings : List Covering) (chains : List (List Stamp)) → seen ≡ coverings → names ≡ map name_of (each_once [] (map (λ (c : Covering). c.alg) seen)) → length coverings ≤ 200
    → length (flat_map chain_text chains) ≤ 14521200 → length (record_contents (put names chains)) ≤ 14525500
put_short names seen coverings chains same are few short =
    let hashes : List HashAlg = map (λ (c : Covering). c.alg) seen in
    let many = length-map seen (λ (c : Covering). c.alg) in
    let so_many = ap (λ (l : List Covering). length l) same in
    let once = once_few [] hashes in
    subst (λ (ns : List Name). length (record_contents (put ns chains)) ≤ 14525500) (sym are) (record_size (each_once [] hashes) chains (omega (arith, many, so_many, once, few)) short)

pub spelled_short : (r : EvidenceRecord) → length (record_contents r) ≤ 14525500 → length (record_spelling r) ≤ 16777216
spelled_short r short = let whole : length (record_spelling r) ≤ length (record_contents r) + 6 = value_length 48 (record_contents r) in omega (arith, whole, short)
