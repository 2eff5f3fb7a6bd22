use Rattle.std.proofs.Common.{List, ℕ, subst, sym, ap, ◌∙◌}
use Rattle.std.specs.Result.{result_ok}
use Rattle.civil_moment.specs.Moment.{Text}
use Rattle.evidence_tool.proofs.words.moment_of.Goals as goal

pub returns-clause-only : goal.returns-clause-only
returns-clause-only c = λ m says.
    c.ok.ensures.value ∙ ap result_ok (c.read_generalized.ensures.only m (subst (λ (t : List ℕ). Text t m) (sym c.as_bytes.ensures.value) says))
