-- A record that was read can be written, and so can any number of its first chains.
use Rattle.std.proofs.Common.{ℕ, ◌<◌, ◌^◌, List, [], ◌∷◌, length, take, ap, arith}
use Rattle.std.specs.List.{flat_map}
use Rattle.der_values.specs.Value.{value, bytes_or_none}
use Rattle.der_values.proofs.Lengths.{content_shorter, inner_shorter}
use Rattle.evidence_syntax.specs.Record.{EvidenceRecord, Spells}
use Rattle.evidence_syntax.specs.Text.{chain_text, names_text, sequence_spelling, record_contents}
use Rattle.evidence_syntax.proofs.Parts.{five_shorter, front_no_longer}
use Rattle.evidence_syntax.proofs.Spelled.{one_spelling}

pub record_fits : (bytes : List ℕ) (r : EvidenceRecord) → Spells bytes r → length (record_contents r) < 2 ^ 32
record_fits bytes r s = omega (arith, s.short, ap length (one_spelling bytes r s), content_shorter 48 (record_contents r))

pub sequence_fits : (bytes : List ℕ) (r : EvidenceRecord) → Spells bytes r → length (flat_map chain_text r.chains) < 2 ^ 32
sequence_fits bytes r s =
    inner_shorter 48 _ _ (five_shorter (value 2 (1 ∷ [])) (names_text r.algorithms) (bytes_or_none r.crypto) (bytes_or_none r.encryption) (sequence_spelling r.chains) _ (record_fits bytes r s)).1

pub chains_fit : (bytes : List ℕ) (r : EvidenceRecord) (n : ℕ) → Spells bytes r → length (flat_map chain_text (take n r.chains)) < 2 ^ 32
chains_fit bytes r n s = omega (arith, front_no_longer chain_text r.chains n, sequence_fits bytes r s)
