use Rattle.std.proofs.Common.{sym, ap, ◌∙◌}
use Rattle.std.specs.Prelude.{codes}
use Rattle.session_text.specs.Words.{keyword_at}
use Rattle.session_text.proofs.VerifyLemmas.{whole}
use Rattle.session_text.proofs.laws.what_has_no_fault_is_a_verification.Goals as goal

pub returns : goal.returns
returns c =
    let keyword = ap (keyword_at (codes "verify") 32) (sym c.new-text.ensures) ∙ c.in-Ok.ensures.ok in
    whole c.args.bytes.now c.keyword.new.self c.mode.new.text c.in-Ok-mode.field-0 c.moment.new.self c.in-Ok-moment.field-0 keyword c.in-Ok-mode.ensures.ok c.in-Ok-moment.ensures.ok
