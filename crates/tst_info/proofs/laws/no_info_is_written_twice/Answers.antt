use Rattle.std.proofs.Common.{sym, ap, ◌∙◌}
use Rattle.civil_moment.proofs.Unique.{one_text}
use Rattle.der_values.specs.Value.{value}
use Rattle.tst_info.specs.Info.{with_text, tst_contents}
use Rattle.tst_info.proofs.laws.no_info_is_written_twice.Goals as goal

pub returns : goal.returns
returns c = λ a b parts v w. v.is ∙ ap (λ text. value 48 (tst_contents (with_text text parts))) (one_text parts.time v.text w.text v.said w.said) ∙ sym w.is
