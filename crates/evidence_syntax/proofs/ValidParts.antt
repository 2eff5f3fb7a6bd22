-- The parts that bytes spell are those that an evidence record may have.
use Rattle.std.proofs.Common.{◌≡◌, ◌≢◌, ℕ, ◌+◌, ◌<◌, ◌≤◌, Bool, true, false, List, [], ◌∷◌, length, Option, Some, None, Result, Ok, Err, refl, sym, ap, subst, ◌∙◌, arith, ltb-true, ltb-false, if◌then◌else◌}
use Rattle.std.specs.Prelude.{IfSome, map, nat_lt}
use Rattle.std.specs.List.{AllByRecursion}
use Rattle.std.specs.Option.{option_map}
use Rattle.std.proofs.lemmas.List.{length-map, map-id}
use Rattle.std.proofs.lemmas.List.Sums.{sum_by-cons}
use Rattle.der_values.specs.declared.fault.DerFault.{DerFault}
use Rattle.der_values.specs.Input.{Item}
use Rattle.der_values.specs.Value.{value}
use Rattle.der_values.specs.Steps.{◌>>=◌}
use Rattle.der_values.specs.Typed.{oid_of, IsTagged}
use Rattle.der_values.specs.Shape.{Tags, tagged, Check, unchecked, is_integer, is_boolean, is_oid, checked, checked_whole, Shape, nothing_more, unread, required, optional, repeated, checkpoint, depending, Part, Parts, spell_part, spell}
use Rattle.der_values.specs.Reading.{at_header, at_end, passes}
use Rattle.der_values.specs.Grammar.{Leading, ValidValue, ValidOptional, ValidAll, Valid}
use Rattle.der_values.specs.Algorithm.{name_of, AlgorithmParts, algorithm_shape, IsName}
use Rattle.der_values.proofs.Values.{ok_is}
use Rattle.der_values.proofs.Written.{item}
use Rattle.der_values.proofs.Accepted.{name_is}
use Rattle.evidence_syntax.specs.declared.fault.SyntaxFault.{SyntaxFault}
use Rattle.evidence_syntax.specs.declared.fault.SyntaxKind.TheVariants.{ValueLength, TooMany}
use Rattle.evidence_syntax.specs.Checks.{RecordCheck, version_one, not_empty, hash_length, stamp_counted, der, syntax_fault, version_at, filled_of, hash_length_of, count_of, record_checks}
use Rattle.evidence_syntax.specs.Lists.{list_shape, ListParts, lists_shape, ListsParts, lists_of}
use Rattle.evidence_syntax.specs.Stamps.{Stamp, stamp_shape, StampParts, stamp_of, chain_shape, ChainParts, chain_of, sequence_shape, SequenceParts, chains_of}
use Rattle.evidence_syntax.specs.Record.{EvidenceRecord, algorithms_shape, longest_record, Spells}
use Rattle.evidence_syntax.specs.Text.{record_spelling}
use Rattle.evidence_syntax.specs.Valid.{IsHash, IsList, IsTree, IsStamp, IsChain, stamps_in, IsSequence, IsRecord}
use Rattle.evidence_syntax.proofs.Spelled.{one_spelling}

-- ---- archive time-stamps alone change the state

abbrev IsQuiet : Check RecordCheck → Type 0
IsQuiet unchecked = Unit {0}
IsQuiet is_integer = ⊥
IsQuiet is_boolean = ⊥
IsQuiet is_oid = Unit {0}
IsQuiet (checked version_one) = Unit {0}
IsQuiet (checked not_empty) = Unit {0}
IsQuiet (checked hash_length) = Unit {0}
IsQuiet (checked stamp_counted) = ⊥
IsQuiet (checked_whole c) = ⊥

abbrev AreQuiet : Shape RecordCheck → Type 0
AreQuiet nothing_more = Unit {0}
AreQuiet unread = Unit {0}
AreQuiet (required tags c inner next) = IsQuiet c × AreQuiet inner × AreQuiet next
AreQuiet (optional tags c inner next) = IsQuiet c × AreQuiet inner × AreQuiet next
AreQuiet (repeated tags c inner next) = IsQuiet c × AreQuiet inner × AreQuiet next
AreQuiet (checkpoint c next) = ⊥
AreQuiet (depending c a b) = ⊥

passed_keeps : {A : Type 0} (σ τ : ℕ) (r : Result A DerFault) → passes der σ r ≡ Ok τ → τ ≡ σ
passed_keeps σ τ (Ok x) e = sym (ok_is {F = SyntaxFault} σ τ e)
passed_keeps σ τ (Err f) e = absurd cc

judged_keeps : (σ τ : ℕ) (r : Result (Unit {0}) SyntaxFault) → (r >>= λ u. Ok σ) ≡ Ok τ → τ ≡ σ
judged_keeps σ τ (Ok x) e = sym (ok_is {F = SyntaxFault} σ τ e)
judged_keeps σ τ (Err f) e = absurd cc

header_keeps : (c : Check RecordCheck) → IsQuiet c → (σ : ℕ) (v : Item) (τ : ℕ) → at_header record_checks c σ v ≡ Ok τ → τ ≡ σ
header_keeps unchecked quiet σ v τ e = sym (ok_is {F = SyntaxFault} σ τ e)
header_keeps is_integer quiet σ v τ e = absurd quiet
header_keeps is_boolean quiet σ v τ e = absurd quiet
header_keeps is_oid quiet σ v τ e = passed_keeps σ τ (oid_of v) e
header_keeps (checked version_one) quiet σ v τ e = judged_keeps σ τ (version_at v) e
header_keeps (checked not_empty) quiet σ v τ e = judged_keeps σ τ (filled_of v) e
header_keeps (checked hash_length) quiet σ v τ e = judged_keeps σ τ (hash_length_of v) e
header_keeps (checked stamp_counted) quiet σ v τ e = absurd quiet
header_keeps (checked_whole c) quiet σ v τ e = absurd quiet

end_keeps : (c : Check RecordCheck) → IsQuiet c → (σ : ℕ) (v : Item) (τ : ℕ) → at_end record_checks c σ v ≡ Ok τ → τ ≡ σ
end_keeps unchecked quiet σ v τ e = sym (ok_is {F = SyntaxFault} σ τ e)
end_keeps is_integer quiet σ v τ e = absurd quiet
end_keeps is_boolean quiet σ v τ e = absurd quiet
end_keeps is_oid quiet σ v τ e = sym (ok_is {F = SyntaxFault} σ τ e)
end_keeps (checked c) quiet σ v τ e = sym (ok_is {F = SyntaxFault} σ τ e)
end_keeps (checked_whole c) quiet σ v τ e = absurd quiet

module _ {P : Type 0} (tags : Tags) (c : Check RecordCheck) (quiet : IsQuiet c) (Inner : Leading P ℕ) (text : P → List ℕ) (inner_keeps : (σ place : ℕ) (p : P) (τ : ℕ) → Inner σ place p τ → τ ≡ σ) where
  value_keeps : (σ place : ℕ) (q : Part tags P) (τ : ℕ) → ValidValue record_checks tags c Inner text σ place q τ → τ ≡ σ
  value_keeps σ place q τ v =
      end_keeps c quiet v.after _ τ v.end_passes ∙ inner_keeps v.before _ _ v.after v.inside ∙ header_keeps c quiet σ _ v.before v.header_passes

  optional_keeps : (taken : Bool) (σ place : ℕ) (o : Option (Part tags P)) (τ : ℕ) → ValidOptional (ValidValue record_checks tags c Inner text) taken σ place o τ → τ ≡ σ
  optional_keeps taken σ place None τ v = sym v.1
  optional_keeps taken σ place (Some q) τ v = value_keeps σ place q τ v

  all_keep : (qs : List (Part tags P)) (σ place τ : ℕ) → ValidAll (ValidValue record_checks tags c Inner text) (spell_part tags text) σ place qs τ → τ ≡ σ
  all_keep [] σ place τ v = sym v
  all_keep (q ∷ qs) σ place τ v = all_keep qs v.0 _ τ v.2 ∙ value_keeps σ place q v.0 v.1

keeps : (s : Shape RecordCheck) → AreQuiet s → (σ place : ℕ) (p : Parts s) (τ : ℕ) → Valid record_checks s σ place p τ → τ ≡ σ
unfolding Valid
keeps nothing_more quiet σ place p τ v = sym v
keeps unread quiet σ place p τ v = sym v
keeps (required tags c inner next) quiet σ place p τ v =
    keeps next quiet.2 v.0 _ p.1 τ v.2 ∙ value_keeps tags c quiet.0 (Valid record_checks inner) (spell inner) (keeps inner quiet.1) σ place p.0 v.0 v.1
keeps (optional tags c inner next) quiet σ place p τ v =
    keeps next quiet.2 v.0 _ p.1 τ v.2 ∙ optional_keeps tags c quiet.0 (Valid record_checks inner) (spell inner) (keeps inner quiet.1) _ σ place p.0 v.0 v.1
keeps (repeated tags c inner next) quiet σ place p τ v =
    keeps next quiet.2 v.0 _ p.1 τ v.3 ∙ all_keep tags c quiet.0 (Valid record_checks inner) (spell inner) (keeps inner quiet.1) p.0 σ place v.0 v.1
keeps (checkpoint c next) quiet σ place p τ v = absurd quiet
keeps (depending c a b) quiet σ place p τ v = absurd quiet

-- ---- values of one tag

module _ (tag : ℕ) (c : Check RecordCheck) (inner : Shape RecordCheck) {V : Type 0} (of : Parts inner → V) (Is : V → Type 0) where
  abbrev At : Leading (Parts inner) ℕ
  At = ValidValue record_checks (tagged tag) c (Valid record_checks inner) (spell inner)

  abbrev Yields : Type 0
  Yields = (σ place : ℕ) (p : Parts inner) (τ : ℕ) → At σ place p τ → Is (of p)

  option_is : Yields → (taken : Bool) (σ place : ℕ) (o : Option (Parts inner)) (τ : ℕ) → ValidOptional At taken σ place o τ → IfSome (option_map of o) Is
  option_is yields taken σ place None τ v = tt
  option_is yields taken σ place (Some p) τ v = yields σ place p τ v

  all_are : Yields → (ps : List (Parts inner)) (σ place τ : ℕ) → ValidAll At (λ p. value tag (spell inner p)) σ place ps τ → AllByRecursion Is (map of ps)
  all_are yields [] σ place τ v = tt
  all_are yields (p ∷ ps) σ place τ v = (yields σ place p v.0 v.1, all_are yields ps v.0 _ τ v.2)

  -- that there are some was checked
  some_are : (outer σ place : ℕ) (ps : List (Parts inner)) (τ : ℕ) → at_header record_checks (checked not_empty) σ (item place outer (spell (repeated (tagged tag) c inner nothing_more) (ps, tt))) ≡ Ok τ → map of ps ≢ []
  unfolding spell filled_of
  some_are outer σ place [] τ e = absurd cc
  some_are outer σ place (p ∷ ps) τ e = λ f. cc

tagged_is : (tag σ place : ℕ) (content : List ℕ) (τ : ℕ) → ValidValue record_checks (tagged tag) unchecked (Valid record_checks unread) (spell {C = RecordCheck} unread) σ place content τ → IsTagged tag (value tag content)
unfolding spell
tagged_is tag σ place content τ v = record { content = content; spells = record { low_tag = v.low_tag; short = v.short; is = refl } }

-- ---- the name of an algorithm

algorithm_is : (tag σ place : ℕ) (p : AlgorithmParts) (τ : ℕ) → ValidValue record_checks (tagged tag) unchecked (Valid record_checks algorithm_shape) (spell {C = RecordCheck} algorithm_shape) σ place p τ → IsName (name_of p)
algorithm_is tag σ place p τ v = name_is record_checks v.before _ p v.after v.inside

-- ---- the reduced hash tree

checked_hash : (σ place : ℕ) (hash : List ℕ) (τ : ℕ) → at_header record_checks (checked hash_length) σ (item place 4 hash) ≡ Ok τ → IsHash hash
unfolding hash_length_of
checked_hash σ place [] τ e = absurd cc
checked_hash σ place (b ∷ bs) τ e = by_length (nat_lt 64 (length (b ∷ bs))) refl e where
  by_length : (x : Bool) → nat_lt 64 (length (b ∷ bs)) ≡ x → ((if x then syntax_fault place ValueLength else Ok (tt {0})) >>= λ u. Ok σ) ≡ Ok τ → IsHash (b ∷ bs)
  by_length true is e = absurd cc
  by_length false is e = (omega arith, ltb-false 64 (length (b ∷ bs)) is)

hash_is : (σ place : ℕ) (hash : List ℕ) (τ : ℕ) → ValidValue record_checks (tagged 4) (checked hash_length) (Valid record_checks unread) (spell {C = RecordCheck} unread) σ place hash τ → IsHash hash
unfolding spell
hash_is σ place hash τ v = checked_hash σ place hash v.before v.header_passes

list_is : (σ place : ℕ) (p : ListParts) (τ : ℕ) → ValidValue record_checks (tagged 48) (checked not_empty) (Valid record_checks list_shape) (spell list_shape) σ place p τ → IsList p.0
unfolding Valid
list_is σ place p τ v = record {
  some = λ e. some_are 4 (checked hash_length) unread (λ (h : List ℕ). h) IsHash 48 σ place p.0 v.before v.header_passes (map-id p.0 ∙ e);
  each = subst (λ (l : List (List ℕ)). AllByRecursion IsHash l) (map-id p.0) (all_are 4 (checked hash_length) unread (λ (h : List ℕ). h) IsHash hash_is p.0 _ _ _ v.inside.1);
}

tree_is : (σ place : ℕ) (p : ListsParts) (τ : ℕ) → ValidValue record_checks (tagged 162) (checked not_empty) (Valid record_checks lists_shape) (spell lists_shape) σ place p τ → IsTree (lists_of p)
unfolding Valid
tree_is σ place p τ v = record {
  some = some_are 48 (checked not_empty) list_shape (λ (l : ListParts). l.0) IsList 162 σ place p.0 v.before v.header_passes;
  each = all_are 48 (checked not_empty) list_shape (λ (l : ListParts). l.0) IsList list_is p.0 _ _ _ v.inside.1;
}

-- ---- an archive time-stamp

stamp_is : (σ place : ℕ) (p : StampParts) (τ : ℕ) → ValidValue record_checks (tagged 48) (checked stamp_counted) (Valid record_checks stamp_shape) (spell stamp_shape) σ place p τ → IsStamp (stamp_of p)
unfolding Valid
stamp_is σ place p τ v =
    let attributes = v.inside.2 in
    let lists = attributes.2 in
    let token = lists.2 in
    record {
      algorithm = option_is 160 unchecked algorithm_shape name_of IsName (algorithm_is 160) _ _ _ p.0 _ v.inside.1;
      attributes = option_is 161 unchecked unread (λ (b : List ℕ). value 161 b) (IsTagged 161) (tagged_is 161) _ _ _ p.1.0 _ attributes.1;
      lists = option_is 162 (checked not_empty) lists_shape lists_of IsTree tree_is _ _ _ p.1.1.0 _ lists.1;
      token = tagged_is 48 _ _ p.1.1.1.0 _ token.1;
    }

-- it is counted
counted_is : (stamps place : ℕ) (content : List ℕ) (after : ℕ) → at_header record_checks (checked stamp_counted) stamps (item place 48 content) ≡ Ok after → (stamps < 200) × (after ≡ stamps + 1)
unfolding count_of
counted_is stamps place content after e = by_count (nat_lt stamps 200) refl e where
  by_count : (x : Bool) → nat_lt stamps 200 ≡ x → (if x then Ok (stamps + 1) else syntax_fault place TooMany) ≡ Ok after → (stamps < 200) × (after ≡ stamps + 1)
  by_count true is e = (ltb-true stamps 200 is, sym (ok_is {F = SyntaxFault} (stamps + 1) after e))
  by_count false is e = absurd cc

stamp_adds : (σ place : ℕ) (p : StampParts) (τ : ℕ) → ValidValue record_checks (tagged 48) (checked stamp_counted) (Valid record_checks stamp_shape) (spell stamp_shape) σ place p τ → (σ < 200) × (τ ≡ σ + 1)
stamp_adds σ place p τ v =
    let counted = counted_is σ place (spell stamp_shape p) v.before v.header_passes in
    let quiet : AreQuiet stamp_shape = (tt, (tt, tt, (tt, tt, tt)), (tt, tt, (tt, (tt, (tt, tt, tt), tt), (tt, tt, tt)))) in
    let kept = keeps stamp_shape quiet v.before _ p v.after v.inside in
    let end : τ ≡ v.after = sym (ok_is {F = SyntaxFault} v.after τ v.end_passes) in
    (counted.0, end ∙ kept ∙ counted.1)

-- ---- chains

stamps_add : (ps : List StampParts) (σ place τ : ℕ) → σ ≤ 200
    → ValidAll (ValidValue record_checks (tagged 48) (checked stamp_counted) (Valid record_checks stamp_shape) (spell stamp_shape)) (λ p. value 48 (spell stamp_shape p)) σ place ps τ → (τ ≡ σ + length ps) × (τ ≤ 200)
stamps_add [] σ place τ few v = (omega (arith, v), omega (arith, v, few))
stamps_add (p ∷ ps) σ place τ few v =
    let one = stamp_adds σ place p v.0 v.1 in
    let more = stamps_add ps v.0 _ τ (omega (arith, one.0, one.1)) v.2 in
    (omega (arith, one.1, more.0), more.1)

chain_is : (σ place : ℕ) (p : ChainParts) (τ : ℕ) → ValidValue record_checks (tagged 48) (checked not_empty) (Valid record_checks chain_shape) (spell chain_shape) σ place p τ → IsChain (chain_of p)
unfolding Valid
chain_is σ place p τ v = record {
  some = some_are 48 (checked stamp_counted) stamp_shape stamp_of IsStamp 48 σ place p.0 v.before v.header_passes;
  each = all_are 48 (checked stamp_counted) stamp_shape stamp_of IsStamp stamp_is p.0 _ _ _ v.inside.1;
}

chain_adds : (σ place : ℕ) (p : ChainParts) (τ : ℕ) → σ ≤ 200 → ValidValue record_checks (tagged 48) (checked not_empty) (Valid record_checks chain_shape) (spell chain_shape) σ place p τ → (τ ≡ σ + length (chain_of p)) × (τ ≤ 200)
unfolding Valid
chain_adds σ place p τ few v =
    let begun : v.before ≡ σ = judged_keeps σ v.before (filled_of _) v.header_passes in
    let end : τ ≡ v.after = sym (ok_is {F = SyntaxFault} v.after τ v.end_passes) in
    let all = stamps_add p.0 v.before _ v.inside.0 (omega (arith, few, begun)) v.inside.1 in
    let last : v.after ≡ v.inside.0 = sym v.inside.3 in
    let size : length (chain_of p) ≡ length p.0 = length-map p.0 stamp_of in
    (omega (arith, begun, end, all.0, last, size), omega (arith, end, last, all.1))

chains_add : (ps : List ChainParts) (σ place τ : ℕ) → σ ≤ 200
    → ValidAll (ValidValue record_checks (tagged 48) (checked not_empty) (Valid record_checks chain_shape) (spell chain_shape)) (λ p. value 48 (spell chain_shape p)) σ place ps τ → (τ ≡ σ + stamps_in (map chain_of ps)) × (τ ≤ 200)
chains_add [] σ place τ few v = (omega (arith, v), omega (arith, v, few))
chains_add (p ∷ ps) σ place τ few v =
    let one = chain_adds σ place p v.0 few v.1 in
    let more = chains_add ps v.0 _ τ one.1 v.2 in
    let sum = sum_by-cons (λ (c : List Stamp). length c) (chain_of p) (map chain_of ps) in
    (omega (arith, one.0, more.0, sum), more.1)

sequence_is : (σ place : ℕ) (p : SequenceParts) (τ : ℕ) → σ ≡ 0 → ValidValue record_checks (tagged 48) (checked not_empty) (Valid record_checks sequence_shape) (spell sequence_shape) σ place p τ → IsSequence (chains_of p)
unfolding Valid
sequence_is σ place p τ zero v =
    let begun : v.before ≡ σ = judged_keeps σ v.before (filled_of _) v.header_passes in
    let all = chains_add p.0 v.before _ v.inside.0 (omega (arith, begun, zero)) v.inside.1 in
    record {
      some = some_are 48 (checked not_empty) chain_shape chain_of IsChain 48 σ place p.0 v.before v.header_passes;
      each = all_are 48 (checked not_empty) chain_shape chain_of IsChain chain_is p.0 _ _ _ v.inside.1;
      few = omega (arith, begun, zero, all.0, all.1);
    }

-- ---- a record

pub record_is : (bytes : List ℕ) (r : EvidenceRecord) → Spells bytes r → IsRecord r
unfolding Valid
record_is bytes r s =
    let m = s.means in
    let p = m.parts.0 in
    let v = m.valid.1 in
    let version = v.inside in
    let names = version.2 in
    let crypto = names.2 in
    let encryption = crypto.2 in
    let sequence = encryption.2 in
    let zero : encryption.0 ≡ 0 =
    optional_keeps (tagged 161) unchecked tt (Valid record_checks unread) (spell {C = RecordCheck} unread) (keeps unread tt) _ _ _ p.1.1.1.0 encryption.0 encryption.1
    ∙ optional_keeps (tagged 160) unchecked tt (Valid record_checks unread) (spell {C = RecordCheck} unread) (keeps unread tt) _ _ _ p.1.1.0 crypto.0 crypto.1
    ∙ value_keeps (tagged 48) unchecked tt (Valid record_checks algorithms_shape) (spell algorithms_shape) (keeps algorithms_shape (tt, (tt, tt, (tt, tt, tt)), tt)) _ _ p.1.0 names.0 names.1
    ∙ value_keeps (tagged 2) (checked version_one) tt (Valid record_checks unread) (spell {C = RecordCheck} unread) (keeps unread tt) _ _ p.0 version.0 version.1
    ∙ sym (ok_is {F = SyntaxFault} 0 v.before v.header_passes) in
    subst IsRecord m.named (record {
      algorithms = all_are 48 unchecked algorithm_shape name_of IsName (algorithm_is 48) p.1.0.0 _ _ _ names.1.inside.1;
      crypto = option_is 160 unchecked unread (λ (b : List ℕ). value 160 b) (IsTagged 160) (tagged_is 160) _ _ _ p.1.1.0 _ crypto.1;
      encryption = option_is 161 unchecked unread (λ (b : List ℕ). value 161 b) (IsTagged 161) (tagged_is 161) _ _ _ p.1.1.1.0 _ encryption.1;
      sequence = sequence_is _ _ p.1.1.1.1.0 _ zero sequence.1;
      short = subst (λ (t : List ℕ). length t ≤ longest_record) (one_spelling bytes r s ∙ ap record_spelling (sym m.named)) s.short;
    })
