use Rattle.std.proofs.Common.{◌≡◌, ℕ, List, [], ◌++◌, Some, None, ap, ◌∙◌}
use Rattle.std.specs.Int.{w32, to_be_bytes}
use Rattle.hash_kit.specs.HssKey.{key_fault}
use Rattle.hash_kit.specs.declared.key.KeyFault.{KeyFault}
use Rattle.lms_sign.specs.declared.secret.HssSecret.{HssSecret}
use Rattle.lms_sign.specs.Lms.{lms_public}
use Rattle.lms_sign.specs.Hss.{tree_numbered, hss_public}
use Rattle.lms_sign.specs.Inside.{IsKey}
use Rattle.lms_sign.proofs.Levels.{no_fault}
use Rattle.lms_sign.proofs.key.from_seed.Goals as goal

public_is : (key : HssSecret) (none bytes whole levels public : List ℕ) → none ≡ [] → bytes ≡ none ++ levels → levels ≡ to_be_bytes w32 key.levels → whole ≡ bytes ++ public → public ≡ lms_public (tree_numbered key 0 0) → whole ≡ hss_public key
unfolding hss_public
public_is key none bytes whole levels public p q r s t =
    let head : bytes ≡ to_be_bytes w32 key.levels = q ∙ (λ k. p k ++ r k) in s ∙ (λ k. head k ++ t k)

-- the bytes of a key are read as a key
is_read : (key : HssSecret) (bytes : List ℕ) (fault : KeyFault) → IsKey key → bytes ≡ hss_public key → key_fault bytes ≡ Some fault → ⊥
is_read key bytes fault known is wrong =
    let right : key_fault bytes ≡ None = ap key_fault is ∙ no_fault key known in cc

pub unreachable-requires : goal.unreachable-requires
unreachable-requires c =
    let key : HssSecret = record { seed = c.args.seed.now; levels = c.args.levels; lms_type = c.args.lms; ots_type = c.args.ots } in
    let known : IsKey key = record {
      height = c.requires.lms;
      ots_some = c.requires.ots_low;
      ots_most = c.requires.ots_high;
      some = c.requires.levels;
      most = c.requires.height;
    } in
    let top : c.in_ok-top.top ≡ tree_numbered key 0 0 = c.in_ok-top.ensures ∙ c.tree_numbered.ensures.value in
    let public = c.deref.ensures.value ∙ c.in_ok-public.ensures ∙ ap lms_public top in
    let whole : c.extend_from_slice-2.new.self.items ≡ hss_public key =
    public_is key _ _ _ _ _ c.in_ok-bytes.ensures.items c.in_ok-extend_from_slice.ensures.items c.to_be_bytes.ensures c.in_ok-extend_from_slice-2.ensures.items public in
    is_read key c.deref-2.result.now c.in_default.field-0 known (c.deref-2.ensures.value ∙ whole) ((c.read.ensures.fault c.in_default.field-0).0 c.in_default.is)

pub invariant_of-result : goal.invariant_of-result
invariant_of-result c =
    let key : HssSecret = record { seed = c.args.seed.now; levels = c.args.levels; lms_type = c.args.lms; ots_type = c.args.ots } in
    let known : IsKey key = record {
      height = c.requires.lms;
      ots_some = c.requires.ots_low;
      ots_most = c.requires.ots_high;
      some = c.requires.levels;
      most = c.requires.height;
    } in
    let top : c.in_ok-top.top ≡ tree_numbered key 0 0 = c.in_ok-top.ensures ∙ c.tree_numbered.ensures.value in
    let public = c.deref.ensures.value ∙ c.in_ok-public.ensures ∙ ap lms_public top in
    let whole : c.extend_from_slice-2.new.self.items ≡ hss_public key =
    public_is key _ _ _ _ _ c.in_ok-bytes.ensures.items c.in_ok-extend_from_slice.ensures.items c.to_be_bytes.ensures c.in_ok-extend_from_slice-2.ensures.items public in
    (known, top, c.in-Ok.ensures.value ∙ c.deref-2.ensures.value ∙ whole)
