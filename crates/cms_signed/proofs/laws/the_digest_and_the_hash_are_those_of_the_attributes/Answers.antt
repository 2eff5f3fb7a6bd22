use Rattle.cms_signed.proofs.Handed.{handed_out}
use Rattle.cms_signed.proofs.laws.the_digest_and_the_hash_are_those_of_the_attributes.Goals as goal

pub returns : goal.returns
returns c = handed_out
