use Rattle.std.proofs.Common.{◌≡◌, ◌++◌, ap, ◌∙◌}
use Rattle.std.specs.Int.{w32, to_be_bytes}
use Rattle.std.proofs.lemmas.Result.{on_ok_weaker}
use Rattle.lms_sign.specs.declared.secret.TreeSecret.{TreeSecret}
use Rattle.lms_sign.specs.Ots.{ots_signature}
use Rattle.lms_sign.specs.Lms.{path_of, lms_signature}
use Rattle.lms_sign.proofs.Fields.{four_parts}
use Rattle.lms_sign.proofs.tree.Tree.write_signature.Goals as goal

pub returns : goal.returns
unfolding lms_signature
returns c =
    let tree = c.args.self.now in
    let leaf = c.args.leaf in
    let is : c.self.inside.secret ≡ tree = cc in
    let kind = c.to_be_bytes-2.ensures ∙ ap (λ (t : TreeSecret). to_be_bytes w32 t.lms_type) is in
    on_ok_weaker c.write_path.result
    (λ written. four_parts c.args.out.now.items _ _ _ _ _ _ _ _ c.in_ok-extend_from_slice.ensures.items c.in_ok-write_ots_signature.ensures c.in_ok-extend_from_slice-2.ensures.items written
    ∙ (λ k. c.args.out.now.items ++ (c.to_be_bytes.ensures k ++ ots_signature (is k) leaf c.args.message.now ++ kind k ++ path_of tree leaf)))
    c.write_path.ensures
