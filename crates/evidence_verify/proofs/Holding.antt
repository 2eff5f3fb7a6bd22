-- A record is valid exactly where it holds.
use Rattle.std.proofs.Common.{◌≡◌, inl, inr, ℕ, Bool, true, false, not, ◌&&◌, List, [], ◌∷◌, ◌↔◌, Option, Some, None, unwrap_or, refl, sym, ap, subst, ◌∙◌, if◌then◌else◌}
use Rattle.std.specs.Prelude.{◌==◌, ⊤, IfSome}
use Rattle.std.specs.Option.{option_map, option_or}
use Rattle.std.specs.List.{AllByRecursion}
use Rattle.std.proofs.lemmas.Bool.{and_parts, and_from, ne_eqb, eqb-true}
use Rattle.civil_moment.specs.declared.moment.Moment.{Moment}
use Rattle.algorithm_policy.specs.Content.{Content}
use Rattle.der_values.specs.Algorithm.{Name}
use Rattle.der_values.specs.Grammar.{from_start}
use Rattle.der_values.proofs.Meaning.{one_meaning}
use Rattle.hash_kit.specs.declared.algorithm.HashAlg.{HashAlg}
use Rattle.hash_kit.specs.declared.algorithm.HashAlg.TheVariants.{Sha256, Sha384, Sha512}
use Rattle.cms_signed.specs.Names.{known_hash}
use Rattle.evidence_syntax.specs.Checks.{record_checks}
use Rattle.evidence_syntax.specs.Stamps.{Stamp}
use Rattle.evidence_syntax.specs.Record.{EvidenceRecord, record_of, record_shape, Spells}
use Rattle.evidence_verify.specs.declared.verdict.Mode.{Mode}
use Rattle.evidence_verify.specs.declared.verdict.Mode.TheVariants.{Member, Whole}
use Rattle.evidence_verify.specs.declared.verdict.Lapse.{Lapse}
use Rattle.evidence_verify.specs.declared.verdict.Verdict.{Verdict}
use Rattle.evidence_verify.specs.declared.verdict.Verdict.TheVariants.{Valid, NotWhole, MixedHash, OutOfOrder, Early, Lapsed}
use Rattle.evidence_verify.specs.Stamps.{places_of, Checked}
use Rattle.evidence_verify.specs.Hashes.{is_same, is_hash, is_named, chain_hash, has_one_hash, mixed_after, mixed_fault}
use Rattle.civil_moment.specs.Moment.{is_before}
use Rattle.evidence_verify.specs.Order.{order_after, order_fault, early_fault}
use Rattle.evidence_verify.specs.Values.{Owed, owed_by}
use Rattle.evidence_verify.specs.Covers.{not_covered, uncovered, cover_fault, is_whole, not_whole, first_not_whole, whole_fault}
use Rattle.evidence_verify.specs.Lapse.{marks_of, lapse_of}
use Rattle.evidence_verify.specs.Verdict.{Judges, Verdicts}
use Rattle.evidence_verify.specs.Holds.{EachNext, NamesHash, KeepsHash, KeepsOrder, IsLateEnough, Holds, HasOnly, IsWhole, HoldsWhole}
use Rattle.evidence_verify.proofs.Covered.{both_none, covered_all, all_covered}
use Rattle.evidence_verify.proofs.Lapsing.{all_in_time, none_lapses}
use Rattle.evidence_verify.proofs.Members.{all_from, from_all}
use Rattle.reduced_tree.specs.Reduced.{first_of}

some_none : {A : Type 0} {x : A} → Some x ≡ None → ⊥
some_none e = cc

goes_on : {A : Type 0} (b : Bool) (x : A) (later : Option A) → (if b then later else Some x) ≡ None → (b ≡ true) × (later ≡ None)
goes_on true x later none = (refl, none)
goes_on false x later none = absurd (some_none none)

passes : {A : Type 0} (b : Bool) (x : A) (later : Option A) → (if b then Some x else later) ≡ None → (b ≡ false) × (later ≡ None)
passes true x later none = absurd (some_none none)
passes false x later none = (refl, none)

-- ---- one hash

same_is : (a b : HashAlg) → is_same a b ≡ true → a ≡ b
same_is Sha256 Sha256 h = refl
same_is Sha256 Sha384 h = cc
same_is Sha256 Sha512 h = cc
same_is Sha384 Sha256 h = cc
same_is Sha384 Sha384 h = refl
same_is Sha384 Sha512 h = cc
same_is Sha512 Sha256 h = cc
same_is Sha512 Sha384 h = cc
same_is Sha512 Sha512 h = refl

is_itself : (a : HashAlg) → is_same a a ≡ true
is_itself Sha256 = refl
is_itself Sha384 = refl
is_itself Sha512 = refl

named_by : (alg : HashAlg) (o : Option Name) → is_named alg o ≡ true → IfSome o (λ (name : Name). known_hash name ≡ Some alg)
named_by alg None h = tt
named_by alg (Some name) h = known (known_hash name) h where
  known : (k : Option HashAlg) → is_hash alg k ≡ true → k ≡ Some alg
  known None h = cc
  known (Some other) h = ap (λ (a : HashAlg). Some a) (sym (same_is alg other h))

by_name : (alg : HashAlg) (o : Option Name) → IfSome o (λ (name : Name). known_hash name ≡ Some alg) → is_named alg o ≡ true
by_name alg None h = refl
by_name alg (Some name) h = ap (is_hash alg) h ∙ is_itself alg

-- the hash of the chain where the hash stays
stays : (a b : Checked) → KeepsHash a b → chain_hash a.says.alg b ≡ b.says.alg
stays a b keeps = decided (b.place.stamp == 0) refl where
  decided : (t : Bool) → (b.place.stamp == 0) ≡ t → (if t then b.says.alg else a.says.alg) ≡ b.says.alg
  decided true e = refl
  decided false e = sym (keeps (λ zero. true_false (sym (ap (λ n. n == 0) zero) ∙ e)))
    where
      true_false : true ≡ false → ⊥
      true_false h = cc

keeps_hash : (a b : Checked) → b.says.alg ≡ chain_hash a.says.alg b → KeepsHash a b
keeps_hash a b e ne = e ∙ ap (λ (t : Bool). if t then b.says.alg else a.says.alg) (ne_eqb b.place.stamp 0 ne)

one_hash : (a : Checked) (rest : List Checked) → mixed_after a.says.alg rest ≡ None → AllByRecursion NamesHash rest × EachNext KeepsHash (a ∷ rest)
one_hash a [] e = (tt, tt)
one_hash a (b ∷ rest) e =
    let parts = goes_on (has_one_hash a.says.alg b) _ (mixed_after (chain_hash a.says.alg b) rest) e in
    let both = and_parts (is_named b.says.alg b.place.ats.algorithm) (is_same b.says.alg (chain_hash a.says.alg b)) parts.0 in
    let same = same_is b.says.alg (chain_hash a.says.alg b) both.1 in
    let later = one_hash b rest (ap (λ (h : HashAlg). mixed_after h rest) same ∙ parts.1) in
    ((named_by b.says.alg b.place.ats.algorithm both.0, later.0), (keeps_hash a b same, later.1))

not_mixed : (a : Checked) (rest : List Checked) → AllByRecursion NamesHash rest → EachNext KeepsHash (a ∷ rest) → mixed_after a.says.alg rest ≡ None
not_mixed a [] h k = refl
not_mixed a (b ∷ rest) h k =
    let stay = stays a b k.0 in
    let same = ap (is_same b.says.alg) stay ∙ is_itself b.says.alg in
    let passed = and_from (is_named b.says.alg b.place.ats.algorithm) (is_same b.says.alg (chain_hash a.says.alg b)) (by_name b.says.alg b.place.ats.algorithm h.0) same in
    ap (λ (t : Bool). if t then mixed_after (chain_hash a.says.alg b) rest else Some (MixedHash b.place.chain b.place.stamp)) passed
    ∙ ap (λ (g : HashAlg). mixed_after g rest) stay ∙ not_mixed b rest h.1 k.1

-- the first time-stamp begins its chain, or is taken for the one before itself
own_hash : (c : Checked) → chain_hash c.says.alg c ≡ c.says.alg
own_hash c = stays c c (λ ne. refl)

all_one_hash : (stamps : List Checked) → mixed_fault stamps ≡ None → AllByRecursion NamesHash stamps × EachNext KeepsHash stamps
all_one_hash [] e = (tt, tt)
all_one_hash (c ∷ rest) e =
    let both = one_hash c (c ∷ rest) e in
    (both.0, both.1.1)

none_mixed : (stamps : List Checked) → AllByRecursion NamesHash stamps → EachNext KeepsHash stamps → mixed_fault stamps ≡ None
none_mixed [] h k = refl
none_mixed (c ∷ rest) h k = not_mixed c (c ∷ rest) h ((λ ne. refl), k)

-- ---- order

in_order : (a : Checked) (rest : List Checked) → order_after a.says.time rest ≡ None → EachNext KeepsOrder (a ∷ rest)
in_order a [] e = tt
in_order a (b ∷ rest) e =
    let parts = passes (is_before b.says.time a.says.time) _ (order_after b.says.time rest) e in
    (parts.0, in_order b rest parts.1)

orders : (a : Checked) (rest : List Checked) → EachNext KeepsOrder (a ∷ rest) → order_after a.says.time rest ≡ None
orders a [] k = refl
orders a (b ∷ rest) k = ap (λ (t : Bool). if t then Some (OutOfOrder b.place.chain b.place.stamp) else order_after b.says.time rest) k.0 ∙ orders b rest k.1

all_in_order : (stamps : List Checked) → order_fault stamps ≡ None → EachNext KeepsOrder stamps
all_in_order [] e = tt
all_in_order (c ∷ rest) e = in_order c rest e

none_disordered : (stamps : List Checked) → EachNext KeepsOrder stamps → order_fault stamps ≡ None
none_disordered [] k = refl
none_disordered (c ∷ rest) k = orders c rest k

-- ---- the moment

late : (moment : Moment) (stamps : List Checked) → early_fault moment stamps ≡ None → IsLateEnough moment stamps
late moment [] e = tt
late moment (c ∷ []) e = (passes (is_before moment c.says.time) _ None e).0
late moment (c ∷ d ∷ rest) e = late moment (d ∷ rest) e

not_early : (moment : Moment) (stamps : List Checked) → IsLateEnough moment stamps → early_fault moment stamps ≡ None
not_early moment [] h = refl
not_early moment (c ∷ []) h = ap (λ (t : Bool). if t then Some (Early moment c.says.time) else None) h
not_early moment (c ∷ d ∷ rest) h = not_early moment (d ∷ rest) h

-- ---- the whole

only_from : (values : List (List ℕ)) (lists : Option (List (List (List ℕ)))) → is_whole lists values ≡ true → HasOnly values lists
only_from values None h = tt
only_from values (Some lists) h = from_all values (first_of lists) h

from_only : (values : List (List ℕ)) (lists : Option (List (List (List ℕ)))) → HasOnly values lists → is_whole lists values ≡ true
from_only values None h = refl
from_only values (Some lists) h = all_from values (first_of lists) h

asked : {A : Type 0} (first whole : Bool) (x : A) → (if first && not whole then Some x else None) ≡ None → first ≡ true → whole ≡ true
asked true true x e h = refl
asked true false x e h = absurd (some_none e)
asked false whole x e h = cc

answered : {A : Type 0} (first whole : Bool) (x : A) → (first ≡ true → whole ≡ true) → (if first && not whole then Some x else None) ≡ None
answered true true x h = refl
answered true false x h = let e = h refl in cc
answered false whole x h = refl

is_first : (n : ℕ) → (n == 0) ≡ true → n ≡ 0
is_first n e = eqb-true n 0 e

whole_from : (all_owed : List Owed) → first_not_whole all_owed ≡ None → AllByRecursion IsWhole all_owed
whole_from [] e = tt
whole_from (o ∷ all_owed) e =
    let parts = both_none (not_whole o) (first_not_whole all_owed) e in
    ((λ first. only_from o.values o.stamp.place.ats.lists (asked (o.stamp.place.stamp == 0) (is_whole o.stamp.place.ats.lists o.values) (NotWhole o.stamp.place.chain) parts.0 (ap (λ n. n == 0) first))), whole_from all_owed parts.1)

from_whole : (all_owed : List Owed) → AllByRecursion IsWhole all_owed → first_not_whole all_owed ≡ None
from_whole [] h = refl
from_whole (o ∷ all_owed) h =
    let here : not_whole o ≡ None = answered (o.stamp.place.stamp == 0) (is_whole o.stamp.place.ats.lists o.values) (NotWhole o.stamp.place.chain) (λ first. from_only o.values o.stamp.place.ats.lists (h.0 (is_first o.stamp.place.stamp first))) in
    ap (λ (o : Option Verdict). option_or o (first_not_whole all_owed)) here ∙ from_whole all_owed h.1

-- what is asked in this mode
abbrev IsWholeIn : Mode → List Owed → Type 0
IsWholeIn Member all_owed = ⊤
IsWholeIn Whole all_owed = AllByRecursion IsWhole all_owed

no_whole_fault : (mode : Mode) (all_owed : List Owed) → whole_fault mode all_owed ≡ None → IsWholeIn mode all_owed
no_whole_fault Member all_owed e = tt
no_whole_fault Whole all_owed e = whole_from all_owed e

none_by_whole : (mode : Mode) (all_owed : List Owed) → IsWholeIn mode all_owed → whole_fault mode all_owed ≡ None
none_by_whole Member all_owed h = refl
none_by_whole Whole all_owed h = from_whole all_owed h

-- ---- no clause says that a record is valid

abbrev Faults : Option Verdict → Type 0
Faults o = o ≡ Some Valid → ⊥

faults_if : (b : Bool) (o p : Option Verdict) → Faults o → Faults p → Faults (if b then o else p)
faults_if true o p f g = f
faults_if false o p f g = g

faults_or : (o p : Option Verdict) → Faults o → Faults p → Faults (option_or o p)
faults_or None p f g = g
faults_or (Some v) p f g = f

no_fault : Faults None
no_fault e = cc

mixed_faults : (hash : HashAlg) (stamps : List Checked) → Faults (mixed_after hash stamps)
mixed_faults hash [] = no_fault
mixed_faults hash (c ∷ rest) = faults_if (has_one_hash hash c) _ _ (mixed_faults (chain_hash hash c) rest) (λ e. cc)

order_faults : (before : Moment) (stamps : List Checked) → Faults (order_after before stamps)
order_faults before [] = no_fault
order_faults before (c ∷ rest) = faults_if (is_before c.says.time before) _ _ (λ e. cc) (order_faults c.says.time rest)

uncovered_faults : (owed : Owed) → Faults (uncovered owed)
unfolding uncovered
uncovered_faults owed = mapped _ where
  mapped : (o : Option ℕ) → Faults (option_map (not_covered owed.stamp) o)
  mapped None = no_fault
  mapped (Some n) = λ e. cc

cover_faults : (all_owed : List Owed) → Faults (cover_fault all_owed)
cover_faults [] = no_fault
cover_faults (d ∷ all_owed) = faults_or (uncovered d) (cover_fault all_owed) (uncovered_faults d) (cover_faults all_owed)

early_faults : (moment : Moment) (stamps : List Checked) → Faults (early_fault moment stamps)
early_faults moment [] = no_fault
early_faults moment (c ∷ []) = faults_if (is_before moment c.says.time) _ _ (λ e. cc) no_fault
early_faults moment (c ∷ d ∷ rest) = early_faults moment (d ∷ rest)

not_whole_faults : (all_owed : List Owed) → Faults (first_not_whole all_owed)
not_whole_faults [] = no_fault
not_whole_faults (o ∷ all_owed) = faults_or (not_whole o) (first_not_whole all_owed) (faults_if (o.stamp.place.stamp == 0 && not (is_whole o.stamp.place.ats.lists o.values)) _ _ (λ e. cc) no_fault) (not_whole_faults all_owed)

whole_faults : (mode : Mode) (all_owed : List Owed) → Faults (whole_fault mode all_owed)
whole_faults Member all_owed = no_fault
whole_faults Whole all_owed = not_whole_faults all_owed

mixed_all_faults : (stamps : List Checked) → Faults (mixed_fault stamps)
mixed_all_faults [] = no_fault
mixed_all_faults (c ∷ rest) = mixed_faults c.says.alg (c ∷ rest)

order_all_faults : (stamps : List Checked) → Faults (order_fault stamps)
order_all_faults [] = no_fault
order_all_faults (c ∷ rest) = order_faults c.says.time rest

lapse_faults : (o : Option Lapse) → unwrap_or (option_map Lapsed o) Valid ≡ Valid → o ≡ None
lapse_faults None e = refl
lapse_faults (Some l) e = cc

passed : (o : Option Verdict) (rest : Verdict) → Faults o → unwrap_or o rest ≡ Valid → (o ≡ None) × (rest ≡ Valid)
passed None rest f e = (refl, e)
passed (Some v) rest f e = absurd (f (ap (λ (w : Verdict). Some w) e))

taken : (o : Option Verdict) (rest : Verdict) → o ≡ None → unwrap_or o rest ≡ rest
taken None rest e = refl
taken (Some v) rest e = cc

-- ---- a valid record holds, and one that holds is valid

-- The record holds, as this mode asks.
record HoldsIn (mode : Mode) (policy : Content) (documents : List (List ℕ)) (moment : Moment) (chains : List (List Stamp)) : Type 0 where
  pub holds : Holds policy documents moment chains
  pub whole : IsWholeIn mode (owed_by documents holds.stamps)

module _ (mode : Mode) (policy : Content) (documents : List (List ℕ)) (moment : Moment) (bytes : List ℕ) (r : EvidenceRecord) (spells : Spells bytes r) where
  from_judged : Judges policy documents mode moment (places_of r.chains) Valid → HoldsIn mode policy documents moment r.chains
  from_judged (inl bad) = let e = bad.blames in cc
  from_judged (inr judged) =
      let stamps = judged.stamps in
      let one = passed (mixed_fault stamps) _ (mixed_all_faults stamps) (sym judged.judges) in
      let two = passed (order_fault stamps) _ (order_all_faults stamps) one.1 in
      let three = passed (cover_fault (owed_by documents stamps)) _ (cover_faults (owed_by documents stamps)) two.1 in
      let four = passed (whole_fault mode (owed_by documents stamps)) _ (whole_faults mode (owed_by documents stamps)) three.1 in
      let five = passed (early_fault moment stamps) _ (early_faults moment stamps) four.1 in
      let hash = all_one_hash stamps one.0 in record {
        holds = record {
          stamps = stamps;
          sound = judged.sound;
          named = hash.0;
          one_hash = hash.1;
          in_order = all_in_order stamps two.0;
          covered = covered_all (owed_by documents stamps) three.0;
          late_enough = late moment stamps five.0;
          in_time = all_in_time policy moment (marks_of stamps) (lapse_faults (lapse_of policy moment stamps) five.1);
        };
        whole = no_whole_fault mode (owed_by documents stamps) four.0;
      }

  from_verdict : Verdicts policy documents mode moment bytes Valid → HoldsIn mode policy documents moment r.chains
  from_verdict (inl syntax) = let e = syntax.blames in cc
  from_verdict (inr judged) =
      let same = one_meaning record_checks record_shape 0 (λ p stamps. record_of p.0) (from_start bytes) judged.evidence r judged.spells.means spells.means in
      from_judged (subst (λ (q : EvidenceRecord). Judges policy documents mode moment (places_of q.chains) Valid) same judged.judges)

  to_verdict : HoldsIn mode policy documents moment r.chains → Verdicts policy documents mode moment bytes Valid
  to_verdict i =
      let h = i.holds in
      let stamps = h.stamps in
      let last = unwrap_or (option_map Lapsed (lapse_of policy moment stamps)) Valid in
      let after_whole = unwrap_or (early_fault moment stamps) last in
      let after_covering = unwrap_or (whole_fault mode (owed_by documents stamps)) after_whole in
      let after_order = unwrap_or (cover_fault (owed_by documents stamps)) after_covering in
      let after_hashes = unwrap_or (order_fault stamps) after_order in inr (record {
        evidence = r;
        spells = spells;
        judges = inr (record {
          stamps = stamps;
          sound = h.sound;
          judges = sym (
              taken (mixed_fault stamps) after_hashes (none_mixed stamps h.named h.one_hash)
              ∙ taken (order_fault stamps) after_order (none_disordered stamps h.in_order)
              ∙ taken (cover_fault (owed_by documents stamps)) after_covering (all_covered (owed_by documents stamps) h.covered)
              ∙ taken (whole_fault mode (owed_by documents stamps)) after_whole (none_by_whole mode (owed_by documents stamps) i.whole)
              ∙ taken (early_fault moment stamps) last (not_early moment stamps h.late_enough)
              ∙ ap (λ (o : Option Lapse). unwrap_or (option_map Lapsed o) Valid) (none_lapses policy moment (marks_of stamps) h.in_time));
        });
      })

pub valid_holds : (policy : Content) (documents : List (List ℕ)) (moment : Moment) (bytes : List ℕ) (r : EvidenceRecord) → Spells bytes r → Verdicts policy documents Member moment bytes Valid ↔ Holds policy documents moment r.chains
valid_holds policy documents moment bytes r spells = (
  λ v. (from_verdict Member policy documents moment bytes r spells v).holds,
  λ h. to_verdict Member policy documents moment bytes r spells (record { holds = h; whole = tt }),
)

pub valid_holds_whole : (policy : Content) (documents : List (List ℕ)) (moment : Moment) (bytes : List ℕ) (r : EvidenceRecord) → Spells bytes r → Verdicts policy documents Whole moment bytes Valid ↔ HoldsWhole policy documents moment r.chains
valid_holds_whole policy documents moment bytes r spells = (
  λ v. let i = from_verdict Whole policy documents moment bytes r spells v in record { holds = i.holds; whole = i.whole },
  λ h. to_verdict Whole policy documents moment bytes r spells (record { holds = h.holds; whole = h.whole }),
)
