use Rattle.std.proofs.Common.{◌∙◌}
use Rattle.hash_kit.proofs.KeyLemmas.{read_at}
use Rattle.hash_kit.proofs.key.u32_at.Goals as goal

pub returns : goal.returns
returns c = c.from_be_bytes.ensures ∙ read_at c.args.place c.args.bytes.now
