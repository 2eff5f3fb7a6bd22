use Rattle.std.proofs.Common.{sym, ap, ◌∙◌}
use Rattle.reduced_tree.specs.Reduced.{first_of}
use Rattle.evidence_verify.proofs.Members.{whole_is}
use Rattle.evidence_verify.specs.Covers.{is_whole}
use Rattle.evidence_verify.proofs.whole.is_whole.Goals as goal

pub returns-in-Some : goal.returns-in-Some
returns-in-Some c =
    whole_is c.is_whole.result c.args.values.now (first_of c.in-Some.lists) c.is_whole.ensures ∙ sym (ap (λ o. is_whole o c.args.values.now) c.in-Some.is)
