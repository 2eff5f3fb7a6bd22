use Rattle.std.proofs.Common.{◌∙◌}
use Rattle.lms_sign.specs.Hss.{tree_numbered}
use Rattle.lms_sign.proofs.secret.HssSecret.seed.Goals as goal

pub returns : goal.returns
unfolding tree_numbered
returns c =
    c.copy_from_slice.ensures.after ∙ c.bytes.ensures.bytes ∙ c.finish.ensures.value _ _ c.named.ensures
