-- The evidence record of a group (RFC 4998, 3.1).
use Rattle.std.specs.Prelude.{ℕ, slice_index_or, List, [], ◌∷◌, ◌++◌, map, None, if◌then◌else◌}
use Rattle.std.specs.List.{list_any}
use Rattle.hash_kit.specs.declared.algorithm.HashAlg.{HashAlg}
use Rattle.evidence_syntax.specs.Record.{EvidenceRecord}
use Rattle.entry_codec.specs.declared.entry.Entry.{Entry}
use Rattle.archive_chain.specs.Kept.{is_same, Cover, covers_of}
use Rattle.archive_chain.specs.Sequence.{name_of, Trees, sequence_of}
use Rattle.archive_chain.specs.History.{state_of}

-- these hashes, and this one behind them where it isn't among them
abbrev pub with_hash : List HashAlg → HashAlg → List HashAlg
with_hash found alg = if list_any (is_same alg) found then found else found ++ alg ∷ []

-- these hashes, and each of the further ones once, in order of first use
abbrev pub each_once : List HashAlg → List HashAlg → List HashAlg
each_once found [] = found
each_once found (alg ∷ algs) = each_once (with_hash found alg) algs

-- the record of a group with these documents and covers
abbrev pub group_record : Trees → List (List ℕ) → List Cover → EvidenceRecord
group_record trees documents covers = record {
  algorithms = map name_of (each_once [] (map (λ c. c.alg) covers));
  crypto = None;
  encryption = None;
  chains = sequence_of trees documents covers;
}

-- the documents of the group of this number
abbrev pub documents_of : List Entry → ℕ → List (List ℕ)
documents_of history id = slice_index_or (state_of history).documents id []

-- the record of the group of this number after a history
abbrev pub record_after : List Entry → ℕ → EvidenceRecord
record_after history id = group_record (state_of history).trees (documents_of history id) (covers_of (state_of history).kept id)
