use Rattle.std.proofs.Common.{◌≡◌, ◌++◌, drop, map}
use Rattle.hash_kit.specs.Digest.{digest_of}
use Rattle.evidence_syntax.proofs.values.renewed_values.Given as goal

abbrev pub invariant-loop-document : goal.invariant-loop-document
invariant-loop-document l =
    l.values.items ++ map (λ document. digest_of l.alg (digest_of l.alg document ++ l.sequence)) (drop l.document-index l.documents)
    ≡ map (λ document. digest_of l.fn.alg (digest_of l.fn.alg document ++ l.fn.sequence)) l.fn.documents
