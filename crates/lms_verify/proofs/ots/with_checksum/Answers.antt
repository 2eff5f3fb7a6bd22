use Rattle.std.proofs.Common.{◌≡◌, [], ◌∷◌, ◌++◌, ap, ◌∙◌}
use Rattle.std.specs.Int.{w16, to_be_bytes}
use borrow.Rule.Slice.PartMut.{put_mid}
use Rattle.lms_verify.specs.Ots.{checksum, with_checksum}
use Rattle.lms_verify.proofs.Digits.{both_written}
use Rattle.lms_verify.proofs.ots.with_checksum.Goals as goal

pub returns : goal.returns
unfolding with_checksum
returns c =
    let hash = c.args.bytes.now in
    let back : c.copy_from_slice-2.new.self ≡ to_be_bytes w16 (checksum c.args.set.now hash) =
    c.copy_from_slice-2.ensures.after ∙ c.to_be_bytes.ensures ∙ ap (to_be_bytes w16) c.checksum.ensures in
    (λ i. put_mid 32 2 (c.copy_from_slice.ensures.after i ++ 0 ∷ 0 ∷ []) (back i))
    ∙ both_written hash (to_be_bytes w16 (checksum c.args.set.now hash)) c.requires.size
