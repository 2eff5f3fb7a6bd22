use Rattle.std.proofs.Common.{take, ap, ◌∙◌}
use Rattle.lms_sign.specs.Hss.{tree_numbered}
use Rattle.lms_sign.proofs.secret.HssSecret.identifier.Goals as goal

pub returns : goal.returns
unfolding tree_numbered
returns c =
    c.copy_from_slice.ensures.after
    ∙ ap (take 16) (c.bytes.ensures.bytes ∙ c.finish.ensures.value _ _ (c.update.ensures _ _ c.named-hasher.ensures))
