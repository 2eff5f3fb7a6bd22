use Rattle.cms_signed.proofs.Room.{short_has_text}
use Rattle.cms_signed.proofs.laws.short_parts_have_a_text.Goals as goal

pub returns : goal.returns
returns c = short_has_text
