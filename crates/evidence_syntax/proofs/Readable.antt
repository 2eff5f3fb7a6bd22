-- The spelling of parts that an evidence record may have is read as these parts.
use Rattle.std.proofs.Common.{◌≡◌, ℕ, suc, ◌+◌, ◌^◌, ◌<◌, ◌≤◌, false, List, [], ◌∷◌, length, Option, Some, None, refl, sym, ap, subst, ◌∙◌, arith, lt-ltb}
use Rattle.std.specs.List.{AllByRecursion, flat_map}
use Rattle.std.proofs.lemmas.List.{append-nil}
use Rattle.std.proofs.lemmas.List.Sums.{sum_by-cons}
use Rattle.der_values.specs.Value.{value}
use Rattle.der_values.specs.Typed.{integer_of, version_of, IsTagged}
use Rattle.der_values.specs.Shape.{tagged, unchecked, checked, unread, nothing_more, required, optional, spell}
use Rattle.der_values.specs.Reading.{starts}
use Rattle.der_values.specs.Grammar.{ValidValue, Valid, Means, from_start}
use Rattle.der_values.specs.Algorithm.{name_of, algorithm_shape, IsName}
use Rattle.der_values.proofs.Lengths.{content_shorter}
use Rattle.der_values.proofs.Anywhere.{Anywhere, AnyValue, PassesHeader, nothing_valid, value_anywhere, leaf_anywhere, required_valid, optional_valid}
use Rattle.evidence_syntax.specs.Checks.{RecordCheck, version_one, not_empty, stamp_counted, count_of, record_checks}
use Rattle.evidence_syntax.specs.Lists.{ListsParts, lists_shape, lists_of}
use Rattle.evidence_syntax.specs.Stamps.{Stamp, stamp_shape, StampParts, stamp_of, chain_shape, chain_of, sequence_shape, SequenceParts, chains_of, SpellsSequence, sequence_alone}
use Rattle.evidence_syntax.specs.Record.{EvidenceRecord, algorithms_shape, AlgorithmsParts, record_contents_shape, RecordParts, record_shape, record_of, Spells}
use Rattle.evidence_syntax.specs.Text.{chain_text, sequence_spelling, record_contents, record_spelling}
use Rattle.evidence_syntax.specs.Valid.{IsTree, IsStamp, IsChain, stamps_in, IsSequence, IsRecord}
use Rattle.evidence_syntax.proofs.Named.{Named, option_named, AllNamed, list_named, each_named, filled_named, name_named, tagged_named, tree_named, values_valid}
use Rattle.evidence_syntax.proofs.Spelled.{sequence_contents, sequence_spelled, contents_spelled}

-- ---- an archive time-stamp

no_algorithm : (attributes : Option (List ℕ)) (lists : Option ListsParts) (token : List ℕ)
    → starts (tagged 160) (spell {C = RecordCheck} (optional (tagged 161) unchecked unread (optional (tagged 162) (checked not_empty) lists_shape (required (tagged 48) unchecked unread nothing_more))) (attributes, (lists, (token, tt)))) ≡ false
unfolding spell value
no_algorithm None None token = refl
no_algorithm None (Some lists) token = refl
no_algorithm (Some attributes) lists token = refl

no_attributes : (lists : Option ListsParts) (token : List ℕ)
    → starts (tagged 161) (spell {C = RecordCheck} (optional (tagged 162) (checked not_empty) lists_shape (required (tagged 48) unchecked unread nothing_more)) (lists, (token, tt))) ≡ false
unfolding spell value
no_attributes None token = refl
no_attributes (Some lists) token = refl

no_lists : (token : List ℕ) → starts (tagged 162) (spell {C = RecordCheck} (required (tagged 48) unchecked unread nothing_more) (token, tt)) ≡ false
unfolding spell value
no_lists token = refl

counted : (stamps : ℕ) (content : List ℕ) → stamps < 200 → PassesHeader record_checks 48 (checked stamp_counted) stamps content (stamps + 1)
unfolding count_of
counted stamps content few place = rw (lt-ltb stamps 200 few) refl

stamp_named : (stamps : ℕ) (s : Stamp) → IsStamp s → stamps < 200 → Named 48 (checked stamp_counted) stamp_shape stamp_of stamps s (stamps + 1)
stamp_named stamps s is few =
    let n = stamps + 1 in
    let algorithm = option_named 160 unchecked algorithm_shape name_of IsName n s.algorithm (name_named 160 (λ e. omega arith) n) is.algorithm in
    let attributes = option_named 161 unchecked unread (λ (b : List ℕ). value 161 b) (IsTagged 161) n s.attributes (tagged_named 161 n) is.attributes in
    let lists = option_named 162 (checked not_empty) lists_shape lists_of IsTree n s.lists (tree_named n) is.lists in
    let token = tagged_named 48 n s.token is.token in
    let p : StampParts = (algorithm.parts, (attributes.parts, (lists.parts, (token.parts, tt)))) in
    record {
      parts = p;
      named = λ i. record { algorithm = algorithm.named i; attributes = attributes.named i; lists = lists.named i; token = token.named i };
      valid = value_anywhere record_checks 48 (checked stamp_counted) stamp_shape stamps n n n p (λ e. omega arith) (counted stamps (spell stamp_shape p) few)
          (optional_valid record_checks 160 unchecked algorithm_shape _ n n algorithm.parts (attributes.parts, (lists.parts, (token.parts, tt))) algorithm.valid (no_algorithm attributes.parts lists.parts token.parts)
          (optional_valid record_checks 161 unchecked unread _ n n attributes.parts (lists.parts, (token.parts, tt)) attributes.valid (no_attributes lists.parts token.parts)
          (optional_valid record_checks 162 (checked not_empty) lists_shape _ n n lists.parts (token.parts, tt) lists.valid (no_lists token.parts)
          (required_valid record_checks 48 unchecked unread nothing_more n n n token.parts tt token.valid (nothing_valid record_checks n)))))
          (λ place. refl);
    }

-- ---- chains

stamps_named : (stamps : List Stamp) (before : ℕ) → AllByRecursion IsStamp stamps → before + length stamps ≤ 200 → AllNamed 48 (checked stamp_counted) stamp_shape stamp_of before stamps (before + length stamps)
stamps_named [] before is few = omega arith
stamps_named (s ∷ stamps) before is few =
    let end : before + 1 + length stamps ≡ before + suc (length stamps) = omega arith in
    (before + 1, stamp_named before s is.0 (omega (arith, few)), subst (λ n. AllNamed 48 (checked stamp_counted) stamp_shape stamp_of (before + 1) stamps n) end (stamps_named stamps (before + 1) is.1 (omega (arith, few))))

chain_named : (before : ℕ) (stamps : List Stamp) → IsChain stamps → before + length stamps ≤ 200 → Named 48 (checked not_empty) chain_shape chain_of before stamps (before + length stamps)
chain_named before stamps is few =
    filled_named 48 (checked stamp_counted) stamp_shape stamp_of 48 before stamps (before + length stamps) (λ e. omega arith) is.some (stamps_named stamps before is.each few)

chains_named : (chains : List (List Stamp)) (before : ℕ) → AllByRecursion IsChain chains → before + stamps_in chains ≤ 200 → AllNamed 48 (checked not_empty) chain_shape chain_of before chains (before + stamps_in chains)
chains_named [] before is few = omega arith
chains_named (c ∷ chains) before is few =
    let sum = sum_by-cons (λ (c : List Stamp). length c) c chains in
    let end : before + length c + stamps_in chains ≡ before + stamps_in (c ∷ chains) = omega (arith, sum) in (
      before + length c,
      chain_named before c is.0 (omega (arith, few, sum)),
      subst (λ n. AllNamed 48 (checked not_empty) chain_shape chain_of (before + length c) chains n) end (chains_named chains (before + length c) is.1 (omega (arith, few, sum))),
    )

sequence_named : (chains : List (List Stamp)) → IsSequence chains → Named 48 (checked not_empty) sequence_shape chains_of 0 chains (stamps_in chains)
sequence_named chains is =
    let end : 0 + stamps_in chains ≡ stamps_in chains = omega arith in
    let all = chains_named chains 0 is.each (omega (arith, is.few)) in
    filled_named 48 (checked not_empty) chain_shape chain_of 48 0 chains (stamps_in chains) (λ e. omega arith) is.some (subst (λ n. AllNamed 48 (checked not_empty) chain_shape chain_of 0 chains n) end all)

alone : (p : SequenceParts) → spell sequence_alone (p, tt) ≡ sequence_spelling (chains_of p)
unfolding spell
alone p = append-nil (value 48 (spell sequence_shape p)) ∙ sequence_spelled p

-- A sequence of chains that stands alone.
pub sequence_readable : (chains : List (List Stamp)) → IsSequence chains → length (flat_map chain_text chains) < 2 ^ 32 → SpellsSequence (sequence_spelling chains) chains
unfolding Valid
sequence_readable chains is short =
    let n = sequence_named chains is in
    let end = stamps_in chains in
    let fits : length (spell sequence_shape n.parts) < 2 ^ 32 = rw (sequence_contents n.parts, n.named) short in
    record {
      parts = (n.parts, tt);
      state = end;
      valid = (end, n.valid fits 0, refl);
      spelled = sym (alone n.parts ∙ ap sequence_spelling n.named);
      named = n.named;
    }

-- ---- a record

no_crypto : (encryption : Option (List ℕ)) (sequence : SequenceParts)
    → starts (tagged 160) (spell (optional (tagged 161) unchecked unread (required (tagged 48) (checked not_empty) sequence_shape nothing_more)) (encryption, (sequence, tt))) ≡ false
unfolding spell value
no_crypto None sequence = refl
no_crypto (Some encryption) sequence = refl

no_encryption : (sequence : SequenceParts) → starts (tagged 161) (spell (required (tagged 48) (checked not_empty) sequence_shape nothing_more) (sequence, tt)) ≡ false
unfolding spell value
no_encryption sequence = refl

version_passes : PassesHeader record_checks 2 (checked version_one) 0 (1 ∷ []) 0
unfolding version_of integer_of
version_passes place = refl

meant : (r : EvidenceRecord) (p : RecordParts) (end : ℕ) → ValidValue record_checks (tagged 48) unchecked (Valid record_checks record_contents_shape) (spell record_contents_shape) 0 0 p end
    → record_of p ≡ r → spell record_contents_shape p ≡ record_contents r → Means record_checks record_shape 0 (λ p stamps. record_of p.0) (from_start (record_spelling r)) r
unfolding Valid spell
meant r p end valid named spelled = record {
  parts = (p, tt);
  state = end;
  valid = (end, valid, refl);
  spelled = ap (λ t. value 48 t) (sym spelled) ∙ sym (append-nil (value 48 (spell record_contents_shape p)));
  named = named;
}

pub record_readable : (r : EvidenceRecord) → IsRecord r → Spells (record_spelling r) r
record_readable r is =
    let names = list_named 48 unchecked algorithm_shape name_of r.algorithms 0 0 (each_named 48 unchecked algorithm_shape name_of IsName 0 r.algorithms (name_named 48 (λ e. omega arith) 0) is.algorithms) in
    let algorithms : AlgorithmsParts = (names.parts, tt) in
    let crypto = option_named 160 unchecked unread (λ (b : List ℕ). value 160 b) (IsTagged 160) 0 r.crypto (tagged_named 160 0) is.crypto in
    let encryption = option_named 161 unchecked unread (λ (b : List ℕ). value 161 b) (IsTagged 161) 0 r.encryption (tagged_named 161 0) is.encryption in
    let sequence = sequence_named r.chains is.sequence in
    let end = stamps_in r.chains in
    let p : RecordParts = (1 ∷ [], (algorithms, (crypto.parts, (encryption.parts, (sequence.parts, tt))))) in
    let named : record_of p ≡ r = λ i. record { algorithms = names.named i; crypto = crypto.named i; encryption = encryption.named i; chains = sequence.named i } in
    let spelled : spell record_contents_shape p ≡ record_contents r = contents_spelled p refl ∙ ap record_contents named in
    let short : length (spell record_contents_shape p) < 2 ^ 32 = omega (arith, is.short, content_shorter 48 (record_contents r), ap length spelled) in
    let contents : Anywhere record_checks record_contents_shape 0 p end =
    required_valid record_checks 2 (checked version_one) unread _ 0 0 end (1 ∷ []) (algorithms, (crypto.parts, (encryption.parts, (sequence.parts, tt))))
    (leaf_anywhere record_checks 2 (checked version_one) 0 0 0 (1 ∷ []) (λ e. omega arith) version_passes (λ place. refl))
    (required_valid record_checks 48 unchecked algorithms_shape _ 0 0 end algorithms (crypto.parts, (encryption.parts, (sequence.parts, tt)))
    (value_anywhere record_checks 48 unchecked algorithms_shape 0 0 0 0 algorithms (λ e. omega arith) (λ place. refl) (values_valid 48 unchecked algorithm_shape name_of 0 0 names.parts names.valid) (λ place. refl))
    (optional_valid record_checks 160 unchecked unread _ 0 end crypto.parts (encryption.parts, (sequence.parts, tt)) crypto.valid (no_crypto encryption.parts sequence.parts)
    (optional_valid record_checks 161 unchecked unread _ 0 end encryption.parts (sequence.parts, tt) encryption.valid (no_encryption sequence.parts)
    (required_valid record_checks 48 (checked not_empty) sequence_shape nothing_more 0 end end sequence.parts tt sequence.valid (nothing_valid record_checks end))))) in
    let whole : AnyValue record_checks 48 unchecked record_contents_shape 0 p end = value_anywhere record_checks 48 unchecked record_contents_shape 0 0 end end p (λ e. omega arith) (λ place. refl) contents (λ place. refl) in
    record { short = is.short; means = meant r p end (whole short 0) named spelled }
