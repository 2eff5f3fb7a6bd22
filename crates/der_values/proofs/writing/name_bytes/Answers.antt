use Rattle.std.specs.Option.{option_map}
use Rattle.der_values.specs.Value.{bytes_or_none}
use Rattle.der_values.proofs.Lengths.{first_shorter}
use Rattle.der_values.proofs.writing.name_bytes.Goals as goal

pub tlv_bytes-requires-clause-short : goal.tlv_bytes-requires-clause-short
tlv_bytes-requires-clause-short c = first_shorter 6 c.args.name.now.oid.now (bytes_or_none (option_map (λ b. b.now) c.args.name.now.params)) _ c.requires
