use Rattle.std.proofs.Common.{◌≡◌, ℕ, ◌+◌, ◌-◌, List, ◌++◌, sym, ap, ◌∙◌, arith}
use Rattle.std.proofs.lemmas.Result.{on_ok_weaker}
use Rattle.lms_sign.specs.Lms.{lms_public, lms_signature}
use Rattle.lms_sign.specs.Hss.{tree_at}
use Rattle.lms_sign.specs.Inside.{signed_below}
use Rattle.lms_sign.specs.declared.secret.HssSecret.{HssSecret}
use Rattle.lms_sign.proofs.Fields.{three_parts}
use Rattle.lms_sign.proofs.Levels.{leaf_fits, last_level, next_level}
use Rattle.lms_sign.proofs.key.HssKey.+sign_below.Goals as goal

pub write_signature-requires : goal.write_signature-requires
write_signature-requires n c =
    let key = c.args.self.now in
    let own : c.self.inside.secret ≡ key = cc in
    leaf_fits key c.self.inside.secret c.args.tree.now c.args.index c.args.level c.leaf_at-leaf.result own c.requires.tree c.leaf_at-leaf.ensures.within

pub returns-then-level-self : goal.returns-then-level-self
returns-then-level-self n c =
    let key = c.args.self.now in
    let own : c.self.inside.secret ≡ key = cc in
    let whole = last_level key c.self.inside.secret c.args.tree.now c.args.index c.args.level c.leaf_at-leaf.result c.args.message.now own c.requires.tree c.leaf_at-leaf.ensures.value c.if-level-self.true in
    on_ok_weaker c.write_signature.result (λ written. written ∙ ap (λ l. c.args.out.now.items ++ l) whole) c.write_signature.ensures

pub write_signature-requires-2 : goal.write_signature-requires-2
write_signature-requires-2 n c =
    let key = c.args.self.now in
    let own : c.self.inside.secret ≡ key = cc in
    leaf_fits key c.self.inside.secret c.args.tree.now c.args.index c.args.level c.leaf_at-leaf.result own c.requires.tree c.leaf_at-leaf.ensures.within

pub returns : goal.returns
returns n c =
    let key = c.args.self.now in
    let index = c.args.index in
    let level = c.args.level in
    let own : c.self.inside.secret ≡ key = cc in
    let levels = ap (λ (k : HssSecret). k.levels) own in
    let next : c.in_ok-next.next ≡ tree_at key index (level + 1) =
    c.in_ok-next.ensures ∙ c.tree_at.ensures.value ∙ ap (λ (k : HssSecret). tree_at k index (level + 1)) own in
    let public : c.in_ok-key.key.items ≡ lms_public (tree_at key index (level + 1)) = c.in_ok-key.ensures ∙ ap lms_public next in
    let signed : c.deref.result.now ≡ lms_public (tree_at key index (level + 1)) = c.deref.ensures.value ∙ public in
    let again : c.deref-2.result.now ≡ c.deref.result.now = c.deref-2.ensures.value ∙ sym c.deref.ensures.value in
    let whole = next_level key c.self.inside.secret c.args.tree.now index level c.leaf_at-leaf.result c.deref.result.now c.args.message.now own c.requires.tree c.leaf_at-leaf.ensures.value signed (omega (arith, levels, c.requires.level, c.if-level-self.false)) in
    let rest : List ℕ = signed_below (key.levels - 1 - (level + 1)) key index (level + 1) c.args.message.now in
    on_ok_weaker c.sign_below.result
    (λ written. three_parts c.args.out.now.items _ _ _ _ _ _ c.in_ok-write_signature.ensures c.in_ok-extend_from_slice.ensures.items written
    ∙ ap (λ l. c.args.out.now.items ++ (lms_signature c.args.tree.now c.leaf_at-leaf.result c.deref.result.now ++ l ++ rest)) again
    ∙ ap (λ l. c.args.out.now.items ++ l) whole)
    c.sign_below.ensures
