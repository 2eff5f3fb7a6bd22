use Rattle.der_values.specs.Grammar.{from_start}
use Rattle.der_values.proofs.Meaning.{one_meaning}
use Rattle.cms_signed.specs.State.{start}
use Rattle.cms_signed.specs.Checks.{cms_checks}
use Rattle.cms_signed.specs.Signed.{token, token_named, named}
use Rattle.cms_signed.proofs.Named.{named_once}
use Rattle.cms_signed.proofs.laws.no_bytes_spell_two_signed_time_stamps.Goals as goal

pub returns : goal.returns
returns c = λ bytes a b m n. named_once a b (one_meaning cms_checks token start token_named (from_start bytes) (named a) (named b) m n)
