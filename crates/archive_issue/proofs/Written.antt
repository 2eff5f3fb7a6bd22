-- A record of a legal history is such as can be written.
use Rattle.std.proofs.Common.{◌≡◌, inl, inr, ⊎_elim, ℕ, zero, suc, ◌+◌, ◌*◌, ◌<◌, ◌≤◌, Bool, true, false, List, [], ◌∷◌, ◌++◌, length, map, take, drop, Some, None, refl, sym, ap, subst, ◌∙◌, arith, append-nil}
use Rattle.std.specs.Prelude.{◌≢◌, ◌&&◌, nat_lt, nat_le, min, slice_get, if◌then◌else◌}
use Rattle.std.specs.Option.{option_or, option_map}
use Rattle.std.specs.List.{AllByRecursion, flat_map, list_any}
use Rattle.std.proofs.lemmas.List.{length-append, length-map}
use Rattle.std.proofs.lemmas.List.Sums.{sum_by-cons}
use Rattle.std.proofs.lemmas.Bool.{and_parts, leb-true, ltb-false, leb-false}
use Rattle.der_values.specs.Value.{value}
use Rattle.der_values.specs.Shape.{spell}
use Rattle.der_values.specs.Grammar.{Valid}
use Rattle.der_values.proofs.Values.{value_length}
use Rattle.hash_kit.specs.declared.algorithm.HashAlg.{HashAlg}
use Rattle.hash_kit.specs.Digest.{digest_of}
use Rattle.cms_signed.specs.Signed.{content_info}
use Rattle.algorithm_policy.specs.Content.{Content, IsPolicy, first_dropped}
use Rattle.algorithm_policy.specs.Text.{PolicyText}
use Rattle.token_check.specs.Sound.{Stamp as Says, Sound}
use Rattle.object_groups.specs.Groups.{IsGroup}
use Rattle.evidence_syntax.specs.Stamps.{Stamp}
use Rattle.evidence_syntax.specs.Record.{EvidenceRecord}
use Rattle.evidence_syntax.specs.Text.{stamp_text, chain_text, sequence_spelling, identifier_text, names_text, record_contents, record_spelling}
use Rattle.evidence_syntax.specs.Valid.{IsHash, IsStamp, IsChain, IsRecord, stamps_in}
use Rattle.entry_codec.specs.declared.entry.Entry.{Entry}
use Rattle.entry_codec.specs.declared.entry.Entry.TheVariants.{Deposit, Seal, RenewStamps, RenewTrees, SetPolicy}
use Rattle.entry_codec.specs.Spelling.{IsEntry}
use Rattle.tree_renewal.specs.Leaf.{leaf_of}
use Rattle.archive_chain.specs.Kept.{is_same, Cover, Kept, groups_of, is_in, token_of, cohort_last}
use Rattle.archive_chain.specs.Sequence.{name_of, Trees, stamp_of, with_stamp, in_last, with_cover, chains_after, sequence_of}
use Rattle.archive_chain.specs.Steps.{cover_at, sealed_from, renewed_from, stamped_in}
use Rattle.archive_chain.specs.Rules.{most_groups, past, limit_rule, first_full, live_rule, hash_rule, full_rule}
use Rattle.archive_chain.specs.declared.refusal.Full.TheVariants.{Groups}
use Rattle.archive_chain.specs.declared.refusal.Refusal.TheVariants.{Limit, Count, ChainFull}
use Rattle.archive_chain.specs.History.{State, leaves_in, leaves_of, after, state_from, state_of, start, InForce, EachAfter, IsLegal, Legal}
use Rattle.archive_issue.proofs.Ends.{each_end, each_along}
use Rattle.archive_chain.proofs.Saying.{Trusts}
use Rattle.archive_chain.proofs.Sizes.{chosen, name_size, digest_hash, values_hash, values_long}
use Rattle.archive_issue.proofs.Paths.{node_hash, each_take, each_drop}
use Rattle.archive_issue.proofs.Sizes.{AreLeaves, IsGoodToken, IsGoodStamp, good_stamp, name_is}
use Rattle.archive_issue.proofs.AllGroups.{by_test}
use Rattle.archive_issue.proofs.Shared.{Member, WasIn, was_renewed, was_stamped}
use Rattle.archive_issue.proofs.Histories.{or_none, map_none, passes, member_append, was_sealed, so_many, same_many, each_append, each_stands}
use Rattle.der_values.specs.Algorithm.{name_contents, IsName}
use Rattle.evidence_syntax.specs.DocumentValue.{values_after}
use Rattle.archive_issue.specs.Record.{with_hash, each_once, group_record}
use Rattle.archive_issue.proofs.Holding.{good_at}

-- ---- chains

count_more : (chain : List Stamp) (chains : List (List Stamp)) → stamps_in (chain ∷ chains) ≡ length chain + stamps_in chains
count_more chain chains = sum_by-cons length chain chains

pub record IsGoodChain (chain : List Stamp) : Type 0 where
  pub some : chain ≢ []
  pub each : AllByRecursion IsGoodStamp chain

module _ (trees : Trees) (c : Cover) (leaves : AllByRecursion AreLeaves trees) (token : IsGoodToken c) where
  stamped_each : (chain : List Stamp) → AllByRecursion IsGoodStamp chain → AllByRecursion IsGoodStamp (with_stamp trees c chain)
  stamped_each [] good = tt
  stamped_each (s ∷ []) good =
      (good.0, (good_stamp trees c (digest_of c.alg s.token ∷ []) leaves token (omega arith) (omega arith) (digest_hash c.alg s.token, tt), tt))
  stamped_each (s ∷ u ∷ chain) good = (good.0, stamped_each (u ∷ chain) good.1)

  stamped_some : (chain : List Stamp) → chain ≢ [] → with_stamp trees c chain ≢ []
  stamped_some [] some = absurd (some refl)
  stamped_some (s ∷ []) some = λ e. cc
  stamped_some (s ∷ u ∷ chain) some = λ e. cc

  stamped_long : (chain : List Stamp) → length (with_stamp trees c chain) ≤ length chain + 1
  stamped_long [] = omega arith
  stamped_long (s ∷ []) = omega arith
  stamped_long (s ∷ u ∷ chain) = let h = stamped_long (u ∷ chain) in omega (arith, h)

  last_good : (chains : List (List Stamp)) → AllByRecursion IsGoodChain chains → AllByRecursion IsGoodChain (in_last (with_stamp trees c) chains)
  last_good [] good = tt
  last_good (chain ∷ []) good = (record { some = stamped_some chain good.0.some; each = stamped_each chain good.0.each }, tt)
  last_good (chain ∷ next ∷ chains) good = (good.0, last_good (next ∷ chains) good.1)

  last_count : (chains : List (List Stamp)) → stamps_in (in_last (with_stamp trees c) chains) ≤ stamps_in chains + 1
  last_count [] = omega arith
  last_count (chain ∷ []) = let h = stamped_long chain in omega (arith, h, count_more chain [], count_more (with_stamp trees c chain) [])
  last_count (chain ∷ next ∷ chains) =
      let h = last_count (next ∷ chains) in
      omega (arith, h, count_more chain (next ∷ chains), count_more chain (in_last (with_stamp trees c) (next ∷ chains)))

count_end : (chains : List (List Stamp)) (chain : List Stamp) → stamps_in (chains ++ chain ∷ []) ≡ stamps_in chains + length chain
count_end [] chain = let h = count_more chain [] in omega (arith, h)
count_end (x ∷ chains) chain = let h = count_end chains chain in omega (arith, h, count_more x chains, count_more x (chains ++ chain ∷ []))

module _ (trees : Trees) (documents : List (List ℕ)) (leaves : AllByRecursion AreLeaves trees) (group : IsGroup documents) where
  cover_good : (c : Cover) (chains : List (List Stamp)) → IsGoodToken c → AllByRecursion IsGoodChain chains → AllByRecursion IsGoodChain (with_cover trees documents chains c)
  cover_good c chains token good =
      let values = values_after c.alg chains documents in
      let long = values_long c.alg chains documents in
      let s = good_stamp trees c values leaves token (omega (arith, long, group.some)) (omega (arith, long, group.few)) (values_hash c.alg chains documents) in
      chosen (AllByRecursion IsGoodChain) c.begins (chains ++ (stamp_of trees c values ∷ []) ∷ []) (in_last (with_stamp trees c) chains)
      (each_end IsGoodChain chains (stamp_of trees c values ∷ []) good (record { some = λ e. cc; each = (s, tt) }))
      (last_good trees c leaves token chains good)

  cover_count : (c : Cover) (chains : List (List Stamp)) → IsGoodToken c → stamps_in (with_cover trees documents chains c) ≤ stamps_in chains + 1
  cover_count c chains token =
      let values = values_after c.alg chains documents in
      let one = count_end chains (stamp_of trees c values ∷ []) in
      chosen (λ (x : List (List Stamp)). stamps_in x ≤ stamps_in chains + 1) c.begins (chains ++ (stamp_of trees c values ∷ []) ∷ []) (in_last (with_stamp trees c) chains)
      (omega (arith, one)) (last_count trees c leaves token chains)

  all_good : (covers : List Cover) (chains : List (List Stamp)) → AllByRecursion IsGoodToken covers → AllByRecursion IsGoodChain chains → AllByRecursion IsGoodChain (chains_after trees documents chains covers)
  all_good [] chains tokens good = good
  all_good (c ∷ covers) chains tokens good = all_good covers (with_cover trees documents chains c) tokens.1 (cover_good c chains tokens.0 good)

  all_count : (covers : List Cover) (chains : List (List Stamp)) → AllByRecursion IsGoodToken covers → stamps_in (chains_after trees documents chains covers) ≤ stamps_in chains + length covers
  all_count [] chains tokens = omega arith
  all_count (c ∷ covers) chains tokens =
      let h = all_count covers (with_cover trees documents chains c) tokens.1 in
      let one = cover_count c chains tokens.0 in
      omega (arith, h, one)

-- ---- sizes

stamps_size : (chain : List Stamp) → AllByRecursion IsGoodStamp chain → length (flat_map stamp_text chain) ≤ 72600 * length chain
stamps_size [] good = omega arith
stamps_size (s ∷ chain) good =
    let h = stamps_size chain good.1 in
    let one = length-append (stamp_text s) (flat_map stamp_text chain) in
    let short : length (stamp_text s) ≤ 72600 = good.0.short in
    omega (arith, h, one, short)

filled : (chain : List Stamp) → chain ≢ [] → 1 ≤ length chain
filled [] some = absurd (some refl)
filled (s ∷ chain) some = omega arith

chains_size : (chains : List (List Stamp)) → AllByRecursion IsGoodChain chains → length (flat_map chain_text chains) ≤ 72606 * stamps_in chains
chains_size [] good = omega arith
chains_size (chain ∷ chains) good =
    let h = chains_size chains good.1 in
    let one = length-append (chain_text chain) (flat_map chain_text chains) in
    let whole : length (chain_text chain) ≤ length (flat_map stamp_text chain) + 6 = value_length 48 (flat_map stamp_text chain) in
    let inside = stamps_size chain good.0.each in
    let some = filled chain good.0.some in
    omega (arith, h, one, whole, inside, some, count_more chain chains)

names_size : (algs : List HashAlg) → length (flat_map identifier_text (map name_of algs)) ≤ 21 * length algs
names_size [] = omega arith
names_size (alg ∷ algs) =
    let h = names_size algs in
    let one = length-append (identifier_text (name_of alg)) (flat_map identifier_text (map name_of algs)) in
    let whole : length (identifier_text (name_of alg)) ≤ length (name_contents (name_of alg)) + 6 = value_length 48 (name_contents (name_of alg)) in
    omega (arith, h, one, whole, name_size alg)

names_are : (algs : List HashAlg) → AllByRecursion IsName (map name_of algs)
names_are [] = tt
names_are (alg ∷ algs) = (name_is alg, names_are algs)

pub once_few : (found algs : List HashAlg) → length (each_once found algs) ≤ length found + length algs
once_few found [] = omega arith
once_few found (alg ∷ algs) =
    let more = length-append found (alg ∷ []) in
    let step : length (with_hash found alg) ≤ length found + 1 =
    chosen (λ (x : List HashAlg). length x ≤ length found + 1) (list_any (is_same alg) found) found (found ++ alg ∷ []) (omega arith) (omega (arith, more)) in
    let h = once_few (with_hash found alg) algs in
    omega (arith, h, step)

pub names_few : (covers : List Cover) → length (each_once [] (map (λ c. c.alg) covers)) ≤ length covers
names_few covers = let few = once_few [] (map (λ c. c.alg) covers) in let same = length-map covers (λ c. c.alg) in omega (arith, few, same)

-- a record of at most so many hashes and bytes of chains
pub record_size : (algs : List HashAlg) (chains : List (List Stamp)) → length algs ≤ 200 → length (flat_map chain_text chains) ≤ 14521200
    → length (record_contents (record { algorithms = map name_of algs; crypto = None; encryption = None; chains = chains })) ≤ 14525500
record_size algs chains few short =
    let version : List ℕ = value 2 (1 ∷ []) in
    let names : List ℕ = names_text (map name_of algs) in
    let sequence : List ℕ = sequence_spelling chains in
    let r : EvidenceRecord = record { algorithms = map name_of algs; crypto = None; encryption = None; chains = chains } in
    let a : length (record_contents r) ≡ length (((version ++ names) ++ []) ++ []) + length sequence = length-append (((version ++ names) ++ []) ++ []) sequence in
    let b : length (((version ++ names) ++ []) ++ []) ≡ length ((version ++ names) ++ []) + 0 = length-append ((version ++ names) ++ []) [] in
    let c : length ((version ++ names) ++ []) ≡ length (version ++ names) + 0 = length-append (version ++ names) [] in
    let d : length (version ++ names) ≡ length version + length names = length-append version names in
    let e : length version ≤ 1 + 6 = value_length 2 (1 ∷ []) in
    let f : length names ≤ length (flat_map identifier_text (map name_of algs)) + 6 = value_length 48 (flat_map identifier_text (map name_of algs)) in
    let g : length sequence ≤ length (flat_map chain_text chains) + 6 = value_length 48 (flat_map chain_text chains) in
    let names_short = names_size algs in
    omega (arith, a, b, c, d, e, f, g, names_short, few, short)

chain_is : (chain : List Stamp) → IsGoodChain chain → IsChain chain
chain_is chain good = record { some = good.some; each = each_along IsGoodStamp IsStamp (λ s g. g.is_stamp) chain good.each }

record_is : (trees : Trees) (documents : List (List ℕ)) (covers : List Cover) → AllByRecursion AreLeaves trees → IsGroup documents → AllByRecursion IsGoodToken covers → length covers ≤ 200
    → sequence_of trees documents covers ≢ [] → IsRecord (group_record trees documents covers)
record_is trees documents covers leaves group tokens few some =
    let chains = sequence_of trees documents covers in
    let good = all_good trees documents leaves group covers [] tokens tt in
    let count : stamps_in chains ≤ 0 + length covers = all_count trees documents leaves group covers [] tokens in
    let algs = each_once [] (map (λ c. c.alg) covers) in
    let r = group_record trees documents covers in
    let whole : length (record_spelling r) ≤ length (record_contents r) + 6 = value_length 48 (record_contents r) in
    let names_fit = names_few covers in
    let chains_short = chains_size chains good in
    let size = record_size algs chains (omega (arith, names_fit, few)) (omega (arith, chains_short, count, few)) in
    record {
      algorithms = names_are algs;
      crypto = tt;
      encryption = tt;
      sequence = record { some = some; each = each_along IsGoodChain IsChain chain_is chains good; few = omega (arith, count, few) };
      short = omega (arith, whole, size);
    }

-- ---- tokens

good_token : (policy : Content) (says : Says) (c : Cover) → Sound policy c.token says → IsGoodToken c
unfolding Valid spell
good_token policy says c sound =
    let reads = sound.read.is_signed.reads in
    let v = reads.valid.1 in record {
      tagged = record {
        content = spell content_info reads.parts.0;
        spells = record { low_tag = v.low_tag; short = v.short; is = reads.spelled ∙ append-nil (value 48 (spell content_info reads.parts.0)) };
      };
      short = sound.read.is_signed.short;
    }

-- ---- leaves

leaf_hash : (alg : HashAlg) (older : List (List Stamp)) (d : List (List ℕ)) → 0 < length d → IsHash (leaf_of alg older d)
leaf_hash alg older d some = let long = values_long alg older d in node_hash alg (values_after alg older d) (omega (arith, long, some)) (values_hash alg older d)

Filled : List (List (List ℕ)) → Type 0
Filled documents = AllByRecursion (λ d. 0 < length d) documents

first_leaves : (alg : HashAlg) (documents : List (List (List ℕ))) → Filled documents → AllByRecursion IsHash (map (leaf_of alg []) documents)
unfolding Filled
first_leaves alg [] some = tt
first_leaves alg (d ∷ documents) some = (leaf_hash alg [] d some.0, first_leaves alg documents some.1)

take_few : {A : Type 0} (n : ℕ) (xs : List A) → length (take n xs) ≤ n
take_few zero xs = omega arith
take_few (suc n) [] = omega arith
take_few (suc n) (x ∷ xs) = let h = take_few n xs in omega (arith, h)

token_leaves : (f : ℕ → List ℕ) (alg : HashAlg) (cohorts : List ℕ) → AllByRecursion IsHash (map (λ c. digest_of alg (f c)) cohorts)
token_leaves f alg [] = tt
token_leaves f alg (c ∷ cohorts) = (digest_hash alg (f c), token_leaves f alg cohorts)

group_leaves : (trees : Trees) (alg : HashAlg) (cohorts : List ℕ) (groups : List (List Cover)) (documents : List (List (List ℕ))) → Filled documents
    → AllByRecursion IsHash (leaves_in trees alg cohorts groups documents) × (length (leaves_in trees alg cohorts groups documents) ≤ length groups)
unfolding Filled
group_leaves trees alg cohorts [] documents some = (tt, omega arith)
group_leaves trees alg cohorts (g ∷ groups) [] some = (tt, omega arith)
group_leaves trees alg cohorts (g ∷ groups) (d ∷ documents) some =
    let rest = group_leaves trees alg cohorts groups documents some.1 in
    let leaf = leaf_of alg (sequence_of trees d g) d in
    let leaves = leaves_in trees alg cohorts groups documents in
    chosen (λ (l : List (List ℕ)). AllByRecursion IsHash l × (length l ≤ suc (length groups))) (is_in cohorts g) (leaf ∷ leaves) leaves
    ((leaf_hash alg (sequence_of trees d g) d some.0, rest.0), omega (arith, rest.1)) (rest.0, omega (arith, rest.1))

-- ---- what every state of a legal history has

pub record IsWritable (s : State) : Type 0 where
  pub tokens : (a : List Cover) → Member a s.kept.sealed → AllByRecursion IsGoodToken a
  pub counts : (a : List Cover) → Member a s.kept.sealed → length a ≤ 200
  pub trees : AllByRecursion AreLeaves s.trees
  pub documents : AllByRecursion IsGroup s.documents
  pub few : groups_of s.kept ≤ 65536

all_filled : (documents : List (List (List ℕ))) → AllByRecursion IsGroup documents → Filled documents
unfolding Filled
all_filled documents groups = each_along IsGroup (λ d. 0 < length d) (λ d g. omega (arith, g.some)) documents groups

-- the limit on groups was kept
not_past : (limit number : ℕ) → past limit number ≡ None → number ≤ limit
not_past limit number none =
    by_test (nat_lt limit number)
    (λ t. let e = sym (ap (λ (b : Bool). if b then Some number else None) t) ∙ none in cc)
    (λ t. ltb-false limit number t)

few_groups : (k : Kept) (groups : List (List (List ℕ))) → limit_rule k groups ≡ None → groups_of k + length groups ≤ 65536
few_groups k groups none =
    let first = or_none (option_map (λ n. Limit (Groups n)) (past most_groups (groups_of k + length groups))) _ none in
    not_past 65536 (groups_of k + length groups) (map_none (λ n. Limit (Groups n)) (past most_groups (groups_of k + length groups)) first.0)

-- no group of these cohorts was full
none_full : (cohorts : List ℕ) (id : ℕ) (groups : List (List Cover)) → first_full cohorts id groups ≡ None → (a : List Cover) → Member a groups → is_in cohorts a ≡ true → length a ≤ 199
none_full cohorts id [] none a member named = absurd member
none_full cohorts id (g ∷ groups) none a member named =
    by_test (is_in cohorts g && nat_le 200 (length g))
    (λ t. let e = sym (ap (λ (b : Bool). if b then Some id else first_full cohorts (id + 1) groups) t) ∙ none in cc)
    (λ t.
    let rest = sym (ap (λ (b : Bool). if b then Some id else first_full cohorts (id + 1) groups) t) ∙ none in
    ⊎_elim
    (λ (same : g ≡ a).
    let here : nat_le 200 (length g) ≡ false = sym (ap (λ (b : Bool). b && nat_le 200 (length g)) (ap (is_in cohorts) same ∙ named)) ∙ t in
    let short = leb-false 200 (length g) here in
    subst (λ (x : List Cover). length x ≤ 199) same (omega (arith, short)))
    (λ (later : Member a groups). none_full cohorts (id + 1) groups rest a later named)
    member)

tokens_was : (cover : ℕ → Cover) (cohorts : List ℕ) (groups new : List (List Cover)) → ((b : List Cover) → Member b new → WasIn cover cohorts groups b) → ((k : ℕ) → IsGoodToken (cover k))
    → ((a : List Cover) → Member a groups → AllByRecursion IsGoodToken a) → (b : List Cover) → Member b new → AllByRecursion IsGoodToken b
tokens_was cover cohorts groups new was good tokens b member =
    let w = was b member in
    ⊎_elim
    (λ (c : (k : ℕ) × (is_in cohorts w.0 ≡ true) × (b ≡ w.0 ++ cover k ∷ [])). subst (AllByRecursion IsGoodToken) (sym c.2) (each_end IsGoodToken w.0 (cover c.0) (tokens w.0 w.1) (good c.0)))
    (λ (u : (is_in cohorts w.0 ≡ false) × (b ≡ w.0)). subst (AllByRecursion IsGoodToken) (sym u.1) (tokens w.0 w.1))
    w.2

counts_was : (cover : ℕ → Cover) (cohorts : List ℕ) (groups new : List (List Cover)) → ((b : List Cover) → Member b new → WasIn cover cohorts groups b) → first_full cohorts 0 groups ≡ None
    → ((a : List Cover) → Member a groups → length a ≤ 200) → (b : List Cover) → Member b new → length b ≤ 200
counts_was cover cohorts groups new was none counts b member =
    let w = was b member in
    ⊎_elim
    (λ (c : (k : ℕ) × (is_in cohorts w.0 ≡ true) × (b ≡ w.0 ++ cover k ∷ [])).
    let short = none_full cohorts 0 groups none w.0 w.1 c.1 in
    let long = length-append w.0 (cover c.0 ∷ []) in
    subst (λ (x : List Cover). length x ≤ 200) (sym c.2) (omega (arith, short, long)))
    (λ (u : (is_in cohorts w.0 ≡ false) × (b ≡ w.0)). subst (λ (x : List Cover). length x ≤ 200) (sym u.1) (counts w.0 w.1))
    w.2

no_leaves : AreLeaves []
no_leaves = record { hashes = tt; few = omega arith }

step : (s : State) (e : Entry) → IsWritable s → IsEntry e → IsLegal s e → IsWritable (after s e)
unfolding Filled
step s (Deposit groups) is entry legal =
    let few = few_groups s.kept groups legal.2.0 in record {
      tokens = is.tokens;
      counts = is.counts;
      trees = each_end AreLeaves s.trees [] is.trees no_leaves;
      documents = each_append IsGroup s.documents groups is.documents entry.each;
      few = omega (arith, few);
    }
step s (Seal alg count token) is entry legal =
    let keeps = legal.2 in
    let cover = cover_at s.kept.entries true alg token in
    let good : (k : ℕ) → IsGoodToken (cover k) = λ k. good_token legal.0 keeps.1.says (cover k) keeps.1.sound in
    let test = passes (nat_lt 0 count && nat_le count (min s.kept.pending 4096)) (Count count s.kept.pending) keeps.0 in
    let small = leb-true count (min s.kept.pending 4096) (and_parts (nat_lt 0 count) (nat_le count (min s.kept.pending 4096)) test).1 in
    let waiting = drop (length s.kept.sealed) s.documents in
    let firsts = take count waiting in
    let some : Filled firsts = each_take (λ d. 0 < length d) count waiting (each_drop (λ d. 0 < length d) (length s.kept.sealed) s.documents (all_filled s.documents is.documents)) in
    let many = length-append s.kept.sealed (sealed_from cover 0 count) in
    let these = so_many cover 0 count in
    let short = take_few count waiting in
    let same = length-map firsts (leaf_of alg []) in record {
      tokens = λ b m. ⊎_elim (λ (i : Member b s.kept.sealed). is.tokens b i)
          (λ (j : Member b (sealed_from cover 0 count)). let w = was_sealed cover 0 count b j in subst (AllByRecursion IsGoodToken) w.1 (good w.0, tt)) (member_append s.kept.sealed (sealed_from cover 0 count) b m);
      counts = λ b m. ⊎_elim (λ (i : Member b s.kept.sealed). is.counts b i)
          (λ (j : Member b (sealed_from cover 0 count)). let w = was_sealed cover 0 count b j in subst (λ (x : List Cover). length x ≤ 200) w.1 (omega arith)) (member_append s.kept.sealed (sealed_from cover 0 count) b m);
      trees = each_end AreLeaves s.trees (map (leaf_of alg []) firsts) is.trees (record { hashes = first_leaves alg firsts some; few = omega (arith, same, short, small) });
      documents = subst (AllByRecursion IsGroup) (sym (append-nil s.documents)) is.documents;
      few = omega (arith, many, these, small, is.few);
    }
step s (RenewStamps alg cohorts token) is entry legal =
    let keeps = legal.2 in
    let cover = cover_at s.kept.entries false alg token in
    let good : (k : ℕ) → IsGoodToken (cover k) = λ k. good_token legal.0 keeps.1.says (cover k) keeps.1.sound in
    let live = or_none (live_rule s.kept cohorts) (option_or (hash_rule s.kept alg cohorts) (full_rule s.kept cohorts)) keeps.0 in
    let hash = or_none (hash_rule s.kept alg cohorts) (full_rule s.kept cohorts) live.1 in
    let free = map_none ChainFull (first_full cohorts 0 s.kept.sealed) hash.1 in
    let was = was_stamped cover cohorts s.kept.sealed in
    let new = map (stamped_in cover cohorts) s.kept.sealed in
    let same = length-map s.kept.sealed (stamped_in cover cohorts) in
    let long = length-map cohorts (λ c. digest_of alg (token_of (cohort_last s.kept.sealed c))) in record {
      tokens = tokens_was cover cohorts s.kept.sealed new was good is.tokens;
      counts = counts_was cover cohorts s.kept.sealed new was free is.counts;
      trees = each_end AreLeaves s.trees (leaves_of s.kept s.trees s.documents (RenewStamps alg cohorts token)) is.trees
          (record { hashes = token_leaves (λ c. token_of (cohort_last s.kept.sealed c)) alg cohorts; few = omega (arith, long, entry.0.few) });
      documents = subst (AllByRecursion IsGroup) (sym (append-nil s.documents)) is.documents;
      few = omega (arith, same, is.few);
    }
step s (RenewTrees alg cohorts token) is entry legal =
    let keeps = legal.2 in
    let cover = cover_at s.kept.entries true alg token in
    let good : (k : ℕ) → IsGoodToken (cover k) = λ k. good_token legal.0 keeps.1.says (cover k) keeps.1.sound in
    let live = or_none (live_rule s.kept cohorts) (full_rule s.kept cohorts) keeps.0 in
    let free = map_none ChainFull (first_full cohorts 0 s.kept.sealed) live.1 in
    let was = was_renewed cover cohorts 0 s.kept.sealed in
    let new = renewed_from cover cohorts 0 s.kept.sealed in
    let same = same_many cover cohorts 0 s.kept.sealed in
    let leaves = group_leaves s.trees alg cohorts s.kept.sealed s.documents (all_filled s.documents is.documents) in record {
      tokens = tokens_was cover cohorts s.kept.sealed new was good is.tokens;
      counts = counts_was cover cohorts s.kept.sealed new was free is.counts;
      trees = each_end AreLeaves s.trees (leaves_in s.trees alg cohorts s.kept.sealed s.documents) is.trees (record { hashes = leaves.0; few = omega (arith, leaves.1, is.few) });
      documents = subst (AllByRecursion IsGroup) (sym (append-nil s.documents)) is.documents;
      few = omega (arith, same, is.few);
    }
step s (SetPolicy text) is entry legal = record {
  tokens = is.tokens;
  counts = is.counts;
  trees = each_end AreLeaves s.trees [] is.trees no_leaves;
  documents = subst (AllByRecursion IsGroup) (sym (append-nil s.documents)) is.documents;
  few = is.few;
}

all_steps : (entries : List Entry) (s : State) → IsWritable s → EachAfter IsLegal s entries → IsWritable (state_from s entries)
all_steps [] s is legal = is
all_steps (e ∷ entries) s is legal = all_steps entries (after s e) (step s e is legal.0 legal.1) legal.2

writable : (history : List Entry) → Legal history → IsWritable (state_of history)
writable history legal =
    let first : IsWritable start = record { tokens = λ a m. absurd m; counts = λ a m. absurd m; trees = tt; documents = tt; few = omega arith } in
    all_steps history start first legal

-- ---- the record

member_at : (groups : List (List Cover)) (id : ℕ) (covers : List Cover) → slice_get groups id ≡ Some covers → Member covers groups
member_at [] id covers here = cc
member_at (g ∷ groups) zero covers here = inl (some_is g covers here)
  where
    some_is : {A : Type 0} (x y : A) → Some x ≡ Some y → x ≡ y
    some_is x y e = cc
member_at (g ∷ groups) (suc id) covers here = inr (member_at groups id covers here)

group_at : (all : List (List (List ℕ))) (id : ℕ) (d : List (List ℕ)) → slice_get all id ≡ Some d → AllByRecursion IsGroup all → IsGroup d
group_at [] id d here groups = cc
group_at (e ∷ all) zero d here groups = subst IsGroup (some_is e d here) groups.0
  where
    some_is : {A : Type 0} (x y : A) → Some x ≡ Some y → x ≡ y
    some_is x y e = cc
group_at (e ∷ all) (suc id) d here groups = group_at all id d here groups.1

not_empty : (front : List (List Stamp)) (chain : List Stamp) (chains : List (List Stamp)) → chains ≡ front ++ chain ∷ [] → chains ≢ []
not_empty [] chain chains is = λ none. let e = sym is ∙ none in cc
not_empty (c ∷ front) chain chains is = λ none. let e = sym is ∙ none in cc

pub records_written : ((text : List ℕ) (a b : Content) → PolicyText text a → PolicyText text b → a ≡ b)
    → ((old new : Content) → IsPolicy new → first_dropped old new ≡ None → Trusts old new)
    → (history : List Entry) (policy : Content) (id : ℕ) (covers : List Cover) (documents : List (List ℕ)) → Legal history → InForce (state_of history).text policy
    → slice_get (state_of history).kept.sealed id ≡ Some covers → slice_get (state_of history).documents id ≡ Some documents
    → IsRecord (group_record (state_of history).trees documents covers)
records_written once keeps history policy id covers documents legal in_force here there =
    let s = state_of history in
    let is = writable history legal in
    let member = member_at s.kept.sealed id covers here in
    let good = good_at s.trees policy s.kept.sealed s.documents id covers documents (each_stands once keeps history legal policy in_force).good here there in
    record_is s.trees documents covers is.trees (group_at s.documents id documents there is.documents) (is.tokens covers member) (is.counts covers member)
    (not_empty good.ended.front (good.ended.init ++ good.ended.ats ∷ []) (sequence_of s.trees documents covers) good.ended.chains_are)
