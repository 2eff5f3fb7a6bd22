use Rattle.std.proofs.Common.{◌≡◌, ◌++◌, drop, map}
use Rattle.hash_kit.specs.Digest.{digest_of}
use Rattle.evidence_syntax.proofs.values.digests.Given as goal

abbrev pub invariant-loop-document : goal.invariant-loop-document
invariant-loop-document l =
    l.values.items ++ map (digest_of l.alg) (drop l.document-index l.documents) ≡ map (digest_of l.fn.alg) l.fn.documents
