-- What is read is spelled so, and what is spelled so is read.
use Rattle.std.proofs.Common.{◌≡◌, ◌≢◌, ℕ, ◌+◌, ◌-◌, ◌%◌, ◌^◌, ◌<◌, ◌≤◌, Bool, true, false, cond, ltb, eqb, List, [], ◌∷◌, ◌++◌, length, take, drop, Result, Ok, Err, refl, sym, ap, subst, ◌∙◌, append_assoc, arith, ◌⊎◌, inl, inr}
use Rattle.std.specs.Prelude.{IsOk, IsErr}
use Rattle.std.proofs.lemmas.Bool.{cases_lt, ltb-false, le-ltb, lt-ltb, ltb-true, eqb-true, eq-eqb, ne_eqb, eqb-false, cond_both}
use Rattle.std.proofs.lemmas.List.{take_at, drop_at, take-append-drop, length-append, length-take}
use Rattle.der_values.specs.declared.fault.DerFault.{DerFault}
use Rattle.der_values.specs.Value.{octets, number, extra, length_octets, value, Spells, BeginsWithValue}
use Rattle.der_values.specs.Input.{Input, Item}
use Rattle.der_values.specs.Steps.{◌>>=◌}
use Rattle.der_values.specs.Next.{long_length_at, length_at, value_at, next_of}
use Rattle.der_values.proofs.Octets.{IsBytes, IsBytes-drop, IsBytes-take, IsBytes-rest, length-octets, octets-number, number-octets, number_below}

-- ---- steps that did not fail

pub bind_ok : {A B F : Type 0} (r : Result A F) (f : A → Result B F) (y : B) → (r >>= f) ≡ Ok y → (x : A) × (r ≡ Ok x) × (f x ≡ Ok y)
bind_ok (Ok x) f y e = (x, refl, e)
bind_ok (Err d) f y e = absurd cc

pub err_not_ok : {A F : Type 0} (r : Result A F) → IsErr r → IsOk r → ⊥
err_not_ok (Ok x) e o = cc
err_not_ok (Err d) e o = cc

pub guard_ok : {A F : Type 0} (b : Bool) (d : F) (r : Result A F) (y : A) → cond b (Err d) r ≡ Ok y → (b ≡ false) × (r ≡ Ok y)
guard_ok true d r y e = absurd cc
guard_ok false d r y e = (refl, e)

pub guard_then : {A F : Type 0} (b : Bool) (x : A) (d : F) (y : A) → cond b (Ok x) (Err d) ≡ Ok y → (b ≡ true) × (x ≡ y)
guard_then true x d y e = (refl, cc)
guard_then false x d y e = absurd cc

pub ok_is : {A F : Type 0} (x y : A) → ◌≡◌ {A = Result A F} (Ok x) (Ok y) → x ≡ y
ok_is x y e = cc

-- ---- lengths

-- the octets of a longer length are as few as its number asks
pub record IsLong (n : ℕ) : Type 0 where
  pub some : 0 < extra n
  pub few : extra n ≤ 4
  pub room : n < 256 ^ extra n

is_long : (n k : ℕ) → extra n ≡ k → 0 < k → k ≤ 4 → n < 256 ^ k → IsLong n
is_long n k e some few room = record { some = rw e some; few = rw e few; room = rw e room }

pub extra_long : (n : ℕ) → 128 ≤ n → n < 2 ^ 32 → IsLong n
unfolding extra
extra_long n le lt =
    let a = le-ltb n 128 le in
    elim (cases_lt n (2 ^ 8)) [
      | inl p ↦ let b = lt-ltb n (2 ^ 8) p in is_long n 1 (rw (a, b) refl) (omega arith) (omega arith) (omega arith)
      | inr p ↦ let b = le-ltb n (2 ^ 8) p in elim (cases_lt n (2 ^ 16)) [
        | inl q ↦ let d = lt-ltb n (2 ^ 16) q in is_long n 2 (rw (a, b, d) refl) (omega arith) (omega arith) (omega arith)
        | inr q ↦ let d = le-ltb n (2 ^ 16) q in elim (cases_lt n (2 ^ 24)) [
          | inl r ↦ let e = lt-ltb n (2 ^ 24) r in is_long n 3 (rw (a, b, d, e) refl) (omega arith) (omega arith) (omega arith)
          | inr r ↦ let e = le-ltb n (2 ^ 24) r in is_long n 4 (rw (a, b, d, e) refl) (omega arith) (omega arith) (omega arith)
        ]
      ]
    ]

-- a number with octets after the first one
no_extra : (n : ℕ) → 0 < extra n → 128 ≤ n
unfolding extra
no_extra n lt = elim (cases_lt n 128) [
  | inl small ↦ let t = lt-ltb n 128 small in absurd (omega (arith, rw t at lt))
  | inr le ↦ le
]

-- ---- what is spelled so is read

pub length_again : (end place n : ℕ) (rest : List ℕ) → n < 2 ^ 32 → length_at end place (length_octets n ++ rest) ≡ Ok (n, rest)
unfolding length_at length_octets long_length_at
length_again end place n rest lt =
    elim (cases_lt n 128) [
      | inl small ↦ let t = lt-ltb n 128 small in rw (t, t) refl
      | inr le ↦
          let long = extra_long n le lt in
          let t = le-ltb n 128 le in
          let some = long.some in
          let few = long.few in
          let a : ltb (128 + extra n) 128 ≡ false = le-ltb _ _ (omega arith) in
          let b : eqb (128 + extra n) 128 ≡ false = ne_eqb _ _ (λ e. omega arith) in
          let d : ltb 132 (128 + extra n) ≡ false = le-ltb _ _ (omega arith) in
          let less : (128 + extra n) - 128 ≡ extra n = omega arith in
          let len = length-octets (extra n) n in
          let enough : ltb (length (octets (extra n) n ++ rest)) (extra n) ≡ false = le-ltb _ _ (omega (arith, len, length-append (octets (extra n) n) rest)) in
          let back = number-octets (extra n) n few long.room in
          let same : eqb (extra n) (extra n) ≡ true = eq-eqb _ _ refl in
          rw (t, a, b, d, less, enough, take_at (octets (extra n) n) rest (extra n) len, drop_at (octets (extra n) n) rest (extra n) len, back, same) refl
    ]

pub value_again : (place tag : ℕ) (content rest : List ℕ) → tag % 32 ≢ 31 → length content < 2 ^ 32 → value_at place (value tag content ++ rest) ≡ Ok (record { place = place; tag = tag; content = content }, rest)
unfolding value_at value
value_again place tag content rest low short =
    let a : eqb (tag % 32) 31 ≡ false = ne_eqb _ _ low in
    let regrouped = append_assoc (length_octets (length content)) content rest in
    let enough : ltb (length (content ++ rest)) (length content) ≡ false = le-ltb _ _ (omega (arith, length-append content rest)) in
    rw (a, regrouped, length_again _ (place + 1) (length content) (content ++ rest) short, enough, take_at content rest (length content) refl, drop_at content rest (length content) refl) refl

-- ---- what is read is spelled so

-- what was taken from the front
pub record Takes (bytes text rest : List ℕ) : Type 0 where
  pub parts : bytes ≡ text ++ rest
  pub rest_fits : IsBytes rest

-- k octets spell their number where it asks for k
long_is : (bs : List ℕ) (k : ℕ) → length bs ≡ k → 0 < k → k ≤ 4 → IsBytes bs → extra (number bs) ≡ k → length_octets (number bs) ≡ (128 + k) ∷ bs
unfolding length_octets
long_is bs k len some few fits e =
    let le : 128 ≤ number bs = no_extra (number bs) (rw e some) in
    let t = le-ltb (number bs) 128 le in
    let back : octets k (number bs) ≡ bs = rw (← len) (octets-number bs (omega (arith, len)) fits) in
    rw (t, e, back) refl

pub long_takes : (end place k : ℕ) (bytes : List ℕ) (n : ℕ) (rest : List ℕ) → 0 < k → k ≤ 4 → IsBytes bytes → long_length_at end place k bytes ≡ Ok (n, rest) → Takes ((128 + k) ∷ bytes) (length_octets n) rest × (n < 2 ^ 32)
unfolding long_length_at
long_takes end place k bytes n rest some few fits e =
    let a = guard_ok (ltb (length bytes) k) _ _ _ e in
    let enough : k ≤ length bytes = ltb-false _ _ a.0 in
    let b = guard_then (eqb (extra (number (take k bytes))) k) _ _ _ a.1 in
    let len : length (take k bytes) ≡ k = omega (arith, length-take k bytes) in
    let few_bytes = IsBytes-take k bytes fits in
    let spelled = long_is (take k bytes) k len some few few_bytes (eqb-true _ _ b.0) in
    let parts : (128 + k) ∷ bytes ≡ length_octets (number (take k bytes)) ++ drop k bytes = rw spelled (ap (λ (s : List ℕ). (128 + k) ∷ s) (sym (take-append-drop k bytes))) in
    subst (λ (y : ℕ × List ℕ). Takes ((128 + k) ∷ bytes) (length_octets y.0) y.1 × (y.0 < 2 ^ 32)) b.1 (record { parts = parts; rest_fits = IsBytes-drop k bytes fits }, number_below (take k bytes) (omega (arith, len)) few_bytes)

-- either the test held, or it did not
pub chosen : {A : Type 0} (b : Bool) (x y z : A) → cond b x y ≡ z → ((b ≡ true) × (x ≡ z)) ⊎ ((b ≡ false) × (y ≡ z))
chosen true x y z e = inl (refl, e)
chosen false x y z e = inr (refl, e)

pub short_is : (n : ℕ) → n < 128 → length_octets n ≡ n ∷ []
unfolding length_octets
short_is n lt = let t = lt-ltb n 128 lt in rw t refl

pub long_is_octets : (n : ℕ) → 128 ≤ n → length_octets n ≡ (128 + extra n) ∷ octets (extra n) n
unfolding length_octets
long_is_octets n le = let t = le-ltb n 128 le in rw t refl

pub length_takes : (end place : ℕ) (bytes : List ℕ) (n : ℕ) (rest : List ℕ) → IsBytes bytes → length_at end place bytes ≡ Ok (n, rest) → Takes bytes (length_octets n) rest × (n < 2 ^ 32)
unfolding length_at
length_takes end place [] n rest fits e = absurd cc
length_takes end place (first ∷ bytes) n rest fits e =
    elim (chosen (ltb first 128) _ _ _ e) [
      | inl h ↦
          let lt : first < 128 = ltb-true _ _ h.0 in
          let same = ok_is {F = DerFault} _ _ h.1 in
          subst (λ (y : ℕ × List ℕ). Takes (first ∷ bytes) (length_octets y.0) y.1 × (y.0 < 2 ^ 32)) same (record { parts = rw (short_is first lt) refl; rest_fits = IsBytes-rest first bytes fits }, omega arith)
      | inr h ↦
          let low : 128 ≤ first = ltb-false _ _ h.0 in
          let a = guard_ok (eqb first 128) _ _ _ h.1 in
          let ne : first ≢ 128 = eqb-false _ _ a.0 in
          let b = guard_ok (ltb 132 first) _ _ _ a.1 in
          let high : first ≤ 132 = ltb-false _ _ b.0 in
          let k : 128 + (first - 128) ≡ first = omega arith in
          let t = long_takes end place (first - 128) bytes n rest (omega arith) (omega arith) (IsBytes-rest first bytes fits) b.1 in
          (record { parts = ap (λ (f : ℕ). f ∷ bytes) (sym k) ∙ t.0.parts; rest_fits = t.0.rest_fits }, t.1)
    ]

-- what was read of bytes at a place
pub record TakesItem (place : ℕ) (bytes : List ℕ) (item : Item) (rest : List ℕ) : Type 0 where
  pub at_place : item.place ≡ place
  pub low_tag : item.tag % 32 ≢ 31
  pub short : length item.content < 2 ^ 32
  pub parts : bytes ≡ value item.tag item.content ++ rest
  pub content_fits : IsBytes item.content
  pub rest_fits : IsBytes rest

value_parts : (tag n : ℕ) (bytes after : List ℕ) → n ≤ length after → bytes ≡ length_octets n ++ after → tag ∷ bytes ≡ value tag (take n after) ++ drop n after
unfolding value
value_parts tag n bytes after enough e =
    let len : length (take n after) ≡ n = omega (arith, length-take n after) in
    let joined : bytes ≡ (length_octets (length (take n after)) ++ take n after) ++ drop n after =
    rw (len, append_assoc (length_octets n) (take n after) (drop n after), take-append-drop n after) e in
    ap (λ (s : List ℕ). tag ∷ s) joined

pub value_takes : (place : ℕ) (bytes : List ℕ) (item : Item) (rest : List ℕ) → IsBytes bytes → value_at place bytes ≡ Ok (item, rest) → TakesItem place bytes item rest
unfolding value_at
value_takes place [] item rest fits e = absurd cc
value_takes place (tag ∷ bytes) item rest fits e =
    let a = guard_ok (eqb (tag % 32) 31) _ _ _ e in
    let b = bind_ok (length_at (place + 1 + length bytes) (place + 1) bytes) _ _ a.1 in
    let n = b.0.0 in
    let after = b.0.1 in
    let t = length_takes _ _ bytes n after (IsBytes-rest tag bytes fits) b.1 in
    let g = guard_ok (ltb (length after) n) _ _ _ b.2 in
    let enough : n ≤ length after = ltb-false _ _ g.0 in
    let len : length (take n after) ≡ n = omega (arith, length-take n after) in
    let parts = value_parts tag n bytes after enough t.0.parts in
    let same = ok_is {F = DerFault} _ _ g.1 in
    subst (λ (y : Item × List ℕ). TakesItem place (tag ∷ bytes) y.0 y.1) same (record {
      at_place = refl;
      low_tag = eqb-false _ _ a.0;
      short = omega (arith, len, t.1);
      parts = parts;
      content_fits = IsBytes-take n after t.0.rest_fits;
      rest_fits = IsBytes-drop n after t.0.rest_fits;
    })

pub one_value : (a b x y : List ℕ) (t u : ℕ) (c d : List ℕ) → Spells a t c → Spells b u d → a ++ x ≡ b ++ y → (t ≡ u) × (c ≡ d) × (x ≡ y)
one_value a b x y t u c d p q e =
    let first = value_again 0 t c x p.low_tag p.short in
    let second = value_again 0 u d y q.low_tag q.short in
    let same : value t c ++ x ≡ value u d ++ y = ap (λ (s : List ℕ). s ++ x) (sym p.is) ∙ e ∙ ap (λ (s : List ℕ). s ++ y) q.is in
    let both = ok_is {F = DerFault} _ _ (sym first ∙ ap (value_at 0) same ∙ second) in
    (ap (λ (z : Item × List ℕ). z.0.tag) both, ap (λ (z : Item × List ℕ). z.0.content) both, ap (λ (z : Item × List ℕ). z.1) both)

-- the bytes before what is left
pub whole_is : (bytes text rest : List ℕ) → bytes ≡ text ++ rest → take (length bytes - length rest) bytes ≡ text
whole_is bytes text rest e =
    let n : length bytes - length rest ≡ length text = omega (arith, ap length e, length-append text rest) in
    rw (n, e) (take_at text rest (length text) refl)

pub whole_spells : (place : ℕ) (bytes : List ℕ) (item : Item) (rest : List ℕ) → IsBytes bytes → value_at place bytes ≡ Ok (item, rest) → Spells (take (length bytes - length rest) bytes) item.tag item.content
whole_spells place bytes item rest fits e =
    let t = value_takes place bytes item rest fits e in
    record { low_tag = t.low_tag; short = t.short; is = whole_is bytes (value item.tag item.content) rest t.parts }

-- the next value, where the front of what is left is one
pub next_is : (input : Input) (item : Item) (whole rest : List ℕ) → value_at input.place input.left ≡ Ok (item, rest) → Spells whole item.tag item.content → next_of input ≡ Ok (item, record { place = input.place + length whole; left = rest })
unfolding next_of
next_is input item whole rest e w = rw (e, w.is) refl

-- the contents are a part of the value
pub content_le_whole : (bytes : List ℕ) (tag : ℕ) (content : List ℕ) → Spells bytes tag content → length content ≤ length bytes
unfolding value
content_le_whole bytes tag content w = omega (arith, ap length w.is, length-append (length_octets (length content)) content)

pub extra_few : (n : ℕ) → extra n ≤ 4
unfolding extra
extra_few n = cond_both (ltb n 128) 0 _ (λ x. x ≤ 4) (λ e. omega arith) (λ e. cond_both (ltb n (2 ^ 8)) 1 _ (λ x. x ≤ 4) (λ f. omega arith) (λ f. cond_both (ltb n (2 ^ 16)) 2 _ (λ x. x ≤ 4) (λ g. omega arith) (λ g. cond_both (ltb n (2 ^ 24)) 3 4 (λ x. x ≤ 4) (λ h. omega arith) (λ h. omega arith))))

-- a value has at most six bytes beside its contents
pub value_length : (tag : ℕ) (content : List ℕ) → length (value tag content) ≤ length content + 6
unfolding value length_octets
value_length tag content =
    let few = extra_few (length content) in
    let octets_len : length (length_octets (length content)) ≤ 5 = cond_both (ltb (length content) 128) (length content ∷ []) ((128 + extra (length content)) ∷ octets (extra (length content)) (length content)) (λ (l : List ℕ). length l ≤ 5) (λ e. omega arith) (λ e. omega (arith, length-octets (extra (length content)) (length content), few)) in
    omega (arith, octets_len, length-append (length_octets (length content)) content)

-- ---- exactly where a value begins

pub begins_with : (place : ℕ) (bytes : List ℕ) (item : Item) (rest : List ℕ) → IsBytes bytes → value_at place bytes ≡ Ok (item, rest) → BeginsWithValue bytes
begins_with place bytes item rest fits e =
    let t = value_takes place bytes item rest fits e in
    record { tag = item.tag; content = item.content; whole = value item.tag item.content; after = rest; spells = record { low_tag = t.low_tag; short = t.short; is = refl }; is = t.parts }

pub begins_not : (place : ℕ) (bytes : List ℕ) (e : DerFault) → value_at place bytes ≡ Err e → BeginsWithValue bytes → ⊥
begins_not place bytes e failed b =
    let again = value_again place b.tag b.content b.after b.spells.low_tag b.spells.short in
    let same : bytes ≡ value b.tag b.content ++ b.after = b.is ∙ ap (λ (l : List ℕ). l ++ b.after) b.spells.is in
    let read = ap (value_at place) same ∙ again in
    differ _ _ failed read where
      differ : (r : Result (Item × List ℕ) DerFault) (y : Item × List ℕ) → r ≡ Err e → r ≡ Ok y → ⊥
      differ (Ok x) y p q = cc
      differ (Err d) y p q = cc

pub front_is : (place : ℕ) (bytes : List ℕ) (item : Item) (rest : List ℕ) → IsBytes bytes → value_at place bytes ≡ Ok (item, rest) → bytes ≡ take (length bytes - length rest) bytes ++ rest
front_is place bytes item rest fits e =
    let t = value_takes place bytes item rest fits e in
    t.parts ∙ ap (λ (l : List ℕ). l ++ rest) (sym (whole_is bytes (value item.tag item.content) rest t.parts))
