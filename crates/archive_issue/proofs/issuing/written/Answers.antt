use Rattle.std.proofs.Common.{List, [], ℕ, map, length, sym, ap, subst, ◌≡◌, ◌≤◌, ◌∙◌, arith}
use Rattle.der_values.specs.Algorithm.{name_seen}
use Rattle.hash_kit.specs.declared.algorithm.HashAlg.{HashAlg}
use Rattle.evidence_syntax.specs.Stamps.{chains_seen}
use Rattle.evidence_syntax.specs.Text.{record_spelling}
use Rattle.evidence_syntax.proofs.Parts.{if_ok}
use Rattle.archive_chain.specs.Kept.{covers_of}
use Rattle.archive_chain.specs.Sequence.{name_of}
use Rattle.archive_chain.specs.declared.coverings.Covering.{Covering}
use Rattle.archive_issue.specs.Record.{each_once, group_record}
use Rattle.archive_issue.proofs.Putting.{same_hashes, put, put_short, spelled_short}
use Rattle.archive_issue.proofs.issuing.written.Goals as goal

pub write_record-requires : goal.write_record-requires
write_record-requires c =
    let short = put_short (map name_seen c.in_ok-algorithms.algorithms) c.as_slice.result.now c.in_ok-coverings.coverings (chains_seen c.in_ok-chains.chains) c.as_slice.ensures c.in_ok-algorithms.ensures c.in_ok-coverings.ensures.few c.in_ok-chains.ensures.short in
    omega (arith, short)

pub returns-clause-spelled : goal.returns-clause-spelled
returns-clause-spelled c =
    let held = c.args.archive.now in
    let hashes = ap (λ (l : List Covering). map (λ (x : Covering). x.alg) l) c.as_slice.ensures ∙ same_hashes held.policy (covers_of held.kept c.args.id) c.in_ok-coverings.coverings c.in_ok-coverings.ensures.said in
    let names = c.in_ok-algorithms.ensures ∙ ap (λ (l : List HashAlg). map name_of (each_once [] l)) hashes in
    let parts : put (map name_seen c.in_ok-algorithms.algorithms) (chains_seen c.in_ok-chains.chains) ≡ group_record held.trees c.args.group.now (covers_of held.kept c.args.id) =
    (λ i. put (names i) (c.in_ok-chains.ensures.chains i)) in
    if_ok c.write_record.result (λ bytes is. is ∙ ap record_spelling parts) c.write_record.ensures.spelled

pub returns-clause-short : goal.returns-clause-short
returns-clause-short c =
    let short = put_short (map name_seen c.in_ok-algorithms.algorithms) c.as_slice.result.now c.in_ok-coverings.coverings (chains_seen c.in_ok-chains.chains) c.as_slice.ensures c.in_ok-algorithms.ensures c.in_ok-coverings.ensures.few c.in_ok-chains.ensures.short in
    if_ok c.write_record.result
    (λ bytes is. subst (λ (b : List ℕ). length b ≤ 16777216) (sym is) (spelled_short (put (map name_seen c.in_ok-algorithms.algorithms) (chains_seen c.in_ok-chains.chains)) short)) c.write_record.ensures.spelled
