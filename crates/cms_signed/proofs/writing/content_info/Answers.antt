use Rattle.cms_signed.specs.Text.{to_sign}
use Rattle.cms_signed.proofs.Room.{has_room, data_short}
use Rattle.cms_signed.proofs.writing.content_info.Goals as goal

pub signed_data-requires : goal.signed_data-requires
signed_data-requires c = has_room (to_sign c.args.parts.now) c.args.signature.now c.requires.short

pub write_tlv-requires-2-clause-short : goal.write_tlv-requires-2-clause-short
write_tlv-requires-2-clause-short c = rw (c.as_slice.ensures.value, c.in_ok-data.ensures) (data_short (to_sign c.args.parts.now) c.args.signature.now c.requires.short)
