-- What private functions of the crate say of each other.
use Rattle.std.specs.Prelude.{ℕ, ◌+◌, ◌^◌, ◌<◌, List, length, Option, Result}
use Rattle.std.specs.Option.{SomeIff}
use Rattle.der_values.specs.Input.{Input, Item}
use Rattle.der_values.specs.Value.{extra}
use Rattle.der_values.specs.Shape.{tagged, unchecked, checked, unread}
use Rattle.der_values.specs.Reading.{Reading, body, body_optional, read_each, read, FindsUnless}
use Rattle.der_values.specs.Algorithm.{algorithm_shape, AlgorithmParts}
use Rattle.evidence_syntax.specs.declared.fault.SyntaxFault.{SyntaxFault}
use Rattle.evidence_syntax.specs.Checks.{not_empty, hash_length, stamp_counted, is_memory, der, record_checks}
use Rattle.evidence_syntax.specs.Lists.{list_shape, lists_shape, ListParts, ListsParts}
use Rattle.evidence_syntax.specs.Stamps.{stamp_shape, chain_shape, sequence_shape, StampParts, ChainParts, SequenceParts}
use Rattle.evidence_syntax.specs.Record.{algorithms_shape, AlgorithmsParts, record_contents_shape, RecordParts, record_shape}

-- What is answered is what f names of the parts, with the number of archive time-stamps after them; else it is the
-- first fault, or want of memory.
abbrev pub Counts : {P V X : Type 0} → (P → V) → (X → V) → (X → ℕ) → Result X SyntaxFault → Reading P ℕ SyntaxFault → Type 0
Counts {V = V} f view after result reading = FindsUnless {V = V × ℕ} is_memory (λ p stamps. (f p, stamps)) (λ x. (view x, after x)) result reading

-- What is answered is this size where it is below 2 ^ 32, and nothing elsewhere.
abbrev pub IsSizeOf : ℕ → Option ℕ → Type 0
IsSizeOf size result = SomeIff result (size < 2 ^ 32) size

-- how many bytes a value has whose contents are so many
unfoldable pub value_size : ℕ → ℕ
value_size contents = 2 + extra contents + contents

-- ---- readings of parts of the table of a reduced hash tree

abbrev pub value_at : ℕ → Item → Reading (List ℕ) ℕ SyntaxFault
value_at stamps v = body record_checks (tagged 4) (checked hash_length) (read record_checks unread) stamps v

abbrev pub each_value : ℕ → Input → Reading (List (List ℕ)) ℕ SyntaxFault
each_value stamps input = read_each der (tagged 4) value_at (length input.left) stamps input

abbrev pub list_at : ℕ → Item → Reading ListParts ℕ SyntaxFault
list_at stamps v = body record_checks (tagged 48) (checked not_empty) (read record_checks list_shape) stamps v

abbrev pub each_list : ℕ → Input → Reading (List ListParts) ℕ SyntaxFault
each_list stamps input = read_each der (tagged 48) list_at (length input.left) stamps input

abbrev pub lists_at : ℕ → Item → Reading ListsParts ℕ SyntaxFault
lists_at stamps v = body record_checks (tagged 162) (checked not_empty) (read record_checks lists_shape) stamps v

-- ---- readings of parts of the tables of archive time-stamps

abbrev pub stamp_algorithm_at : ℕ → Option Item → Reading (Option AlgorithmParts) ℕ SyntaxFault
stamp_algorithm_at stamps v = body_optional (body record_checks (tagged 160) unchecked (read record_checks algorithm_shape)) stamps v

abbrev pub tree_at : ℕ → Option Item → Reading (Option ListsParts) ℕ SyntaxFault
tree_at stamps v = body_optional lists_at stamps v

abbrev pub stamp_contents_at : ℕ → Input → Reading StampParts ℕ SyntaxFault
stamp_contents_at stamps input = read record_checks stamp_shape stamps input

abbrev pub stamp_at : ℕ → Item → Reading StampParts ℕ SyntaxFault
stamp_at stamps v = body record_checks (tagged 48) (checked stamp_counted) (read record_checks stamp_shape) stamps v

abbrev pub each_stamp : ℕ → Input → Reading (List StampParts) ℕ SyntaxFault
each_stamp stamps input = read_each der (tagged 48) stamp_at (length input.left) stamps input

abbrev pub chain_at : ℕ → Item → Reading ChainParts ℕ SyntaxFault
chain_at stamps v = body record_checks (tagged 48) (checked not_empty) (read record_checks chain_shape) stamps v

abbrev pub each_chain : ℕ → Input → Reading (List ChainParts) ℕ SyntaxFault
each_chain stamps input = read_each der (tagged 48) chain_at (length input.left) stamps input

abbrev pub sequence_at : ℕ → Item → Reading SequenceParts ℕ SyntaxFault
sequence_at stamps v = body record_checks (tagged 48) (checked not_empty) (read record_checks sequence_shape) stamps v

-- ---- readings of parts of the table of a record

abbrev pub algorithm_at : ℕ → Item → Reading AlgorithmParts ℕ SyntaxFault
algorithm_at stamps v = body record_checks (tagged 48) unchecked (read record_checks algorithm_shape) stamps v

abbrev pub each_algorithm : Input → Reading (List AlgorithmParts) ℕ SyntaxFault
each_algorithm input = read_each der (tagged 48) algorithm_at (length input.left) 0 input

abbrev pub algorithms_at : ℕ → Item → Reading AlgorithmsParts ℕ SyntaxFault
algorithms_at stamps v = body record_checks (tagged 48) unchecked (read record_checks algorithms_shape) stamps v

abbrev pub record_contents_at : Input → Reading RecordParts ℕ SyntaxFault
record_contents_at input = read record_checks record_contents_shape 0 input

abbrev pub record_at : Input → Reading (RecordParts × Unit {0}) ℕ SyntaxFault
record_at input = read record_checks record_shape 0 input
