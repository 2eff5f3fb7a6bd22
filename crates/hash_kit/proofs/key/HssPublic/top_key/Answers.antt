use Rattle.std.proofs.Common.{drop, ap, ◌∙◌, arith, length-drop}
use Rattle.std.proofs.lemmas.List.{take_all}
use Rattle.hash_kit.proofs.key.HssPublic.top_key.Goals as goal

pub returns-clause-bytes : goal.returns-clause-bytes
returns-clause-bytes c =
    let key = c.self.inside.key in
    take_all 56 (drop 4 key) (omega (arith, length-drop 4 key, c.self.invariant.long)) ∙ ap (drop 4) c.self.view_is
