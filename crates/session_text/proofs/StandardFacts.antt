-- Values that the formats of inputs and verdicts give.
use Rattle.std.proofs.Common.{◌≡◌, true, false, [], Some, refl}
use Rattle.std.specs.Prelude.{codes}
use Rattle.std.specs.Fmt.{digits}
use Rattle.der_values.specs.declared.fault.DerKind.TheVariants as ders
use Rattle.algorithm_policy.specs.Text.{longest_policy}
use Rattle.object_groups.specs.Groups.{most_documents, longest_document}
use Rattle.evidence_syntax.specs.Record.{longest_record}
use Rattle.evidence_syntax.specs.declared.fault.SyntaxKind.TheVariants as kinds
use Rattle.evidence_verify.specs.declared.verdict.Verdict.TheVariants.{Valid, Syntax, NotCovered, NotWhole}
use Rattle.session_text.specs.declared.shape.ShapeFault.TheVariants.{At}
use Rattle.session_text.specs.declared.shape.ShapeKind.TheVariants.{Cut}
use Rattle.session_text.specs.Words.{word_at, keyword_at, is_number}
use Rattle.session_text.specs.VerifyInput.{verify_first_fault}
use Rattle.session_text.specs.Verdicts.{verdict_words}

-- no leading zero, and at least a digit
one_zero : is_number (codes "0") ≡ true
one_zero = refl

two_zeros : is_number (codes "00") ≡ false
two_zeros = refl

no_digit : is_number [] ≡ false
no_digit = refl

-- an input of nothing ends where `verify` has to stand
nothing_at_all : verify_first_fault [] ≡ Some (At 0 Cut)
unfolding keyword_at word_at
nothing_at_all = refl

-- the limits of an input
policy_limit : longest_policy ≡ 262144
policy_limit = refl

record_limit : longest_record ≡ 16777216
record_limit = refl

document_limit : longest_document ≡ 1048576
document_limit = refl

documents_limit : most_documents ≡ 64
documents_limit = refl

-- lines of verdicts
good : verdict_words Valid [] [] ≡ codes "valid"
good = refl

indefinite : verdict_words (Syntax 1 (kinds.Der ders.Indefinite)) [] [] ≡ codes "syntax 1 indefinite"
unfolding digits
indefinite = refl

uncovered : verdict_words (NotCovered 0 0 (Some 0)) [] [] ≡ codes "uncovered 0 0 0"
unfolding digits
uncovered = refl

not_whole : verdict_words (NotWhole 0) [] [] ≡ codes "notwhole 0"
unfolding digits
not_whole = refl
