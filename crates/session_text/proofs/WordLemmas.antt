-- Words, separators and times: what is read is what stands there, and what is spelled is read.
use Rattle.std.proofs.Common.{◌≡◌, ℕ, ◌+◌, ◌<◌, ◌==◌, true, false, nat_lt, List, [], ◌∷◌, ◌++◌, length, Option, Some, None, Ok, refl, sym, ap, subst, ◌∙◌, arith}
use Rattle.std.specs.Prelude.{codes}
use Rattle.std.specs.List.{list_all}
use Rattle.std.specs.Str.{bytes_eq}
use Rattle.std.proofs.lemmas.Bool.{and_parts, and_from, ltb-true, lt-ltb, ne_eqb, eq-eqb, eqb-true}
use Rattle.std.proofs.lemmas.List.Folds.{list_all-append}
use Rattle.std.proofs.lemmas.List.{take_at, drop_at, take-append-drop}
use Rattle.std.proofs.lemmas.Slice.Eq.{bytes_eq-Decides}
use Rattle.civil_moment.specs.declared.moment.Moment.{Moment}
use Rattle.civil_moment.specs.declared.fault.TimeFault.{TimeFault}
use Rattle.civil_moment.specs.Moment.{Text, digits_text, fraction_text}
use Rattle.civil_moment.specs.Fault.{first_fault}
use Rattle.civil_moment.proofs.FirstFault.{no_fault}
use Rattle.der_values.specs.Next.{is_empty}
use Rattle.der_values.proofs.Values.{bind_ok, ok_is, guard_ok, guard_then}
use Rattle.session_text.specs.declared.shape.ShapeFault.{ShapeFault}
use Rattle.session_text.specs.Unread.{Unread}
use Rattle.session_text.specs.Words.{ends_word, word_length, word_at, separator_on, keyword_at, time_in, time_at}
use Rattle.session_text.proofs.Passing.{Passes, chosen_ok}

-- no byte of it ends a word
abbrev pub IsPlain : List ℕ → Type 0
IsPlain word = list_all (λ b. nat_lt 32 b) word ≡ true

above : (b : ℕ) → 32 < b → ends_word b ≡ false
above b high =
    let space : (b == 32) ≡ false = ne_eqb b 32 (λ e. omega arith) in
    let feed : (b == 10) ≡ false = ne_eqb b 10 (λ e. omega arith) in
    rw (space, feed) refl

plain_length : (word : List ℕ) (separator : ℕ) (tail : List ℕ) → IsPlain word → ends_word separator ≡ true → word_length (word ++ separator ∷ tail) ≡ length word
plain_length [] separator tail plain ends = rw ends refl
plain_length (b ∷ word) separator tail plain ends =
    let p = and_parts (nat_lt 32 b) _ plain in
    let more = plain_length word separator tail p.1 ends in
    rw (above b (ltb-true 32 b p.0)) (omega (arith, more))

some_behind : (word : List ℕ) (separator : ℕ) (tail : List ℕ) → is_empty (word ++ separator ∷ tail) ≡ false
some_behind [] separator tail = refl
some_behind (b ∷ word) separator tail = refl

pub word_again : (place : ℕ) (word : List ℕ) (separator : ℕ) (tail : List ℕ) → IsPlain word → ends_word separator ≡ true
    → Passes word (separator ∷ tail) (word_at (record { place = place; bytes = word ++ separator ∷ tail }))
unfolding word_at
word_again place word separator tail plain ends =
    record {
      place = place + length word;
      is = rw (some_behind word separator tail, plain_length word separator tail plain ends, take_at word (separator ∷ tail) (length word) refl, drop_at word (separator ∷ tail) (length word) refl) refl;
    }

pub word_takes : (before : Unread) (word : List ℕ) (after : Unread) → word_at before ≡ Ok (word, after) → before.bytes ≡ word ++ after.bytes
unfolding word_at
word_takes before word after e =
    let g = guard_ok (is_empty before.bytes) _ _ _ e in
    let same = ok_is {A = List ℕ × Unread} {F = ShapeFault} _ _ g.1 in
    subst (λ (y : List ℕ × Unread). before.bytes ≡ y.0 ++ y.1.bytes) same (sym (take-append-drop (word_length before.bytes) before.bytes))

-- ---- separators and keywords

pub separator_again : (separator place : ℕ) (tail : List ℕ) → Passes tt tail (separator_on separator place (separator ∷ tail))
unfolding separator_on
separator_again separator place tail = record { place = place + 1; is = rw (eq-eqb separator separator refl) refl }

pub separator_takes : (separator place : ℕ) (bytes : List ℕ) (t : Unit {0}) (after : Unread) → separator_on separator place bytes ≡ Ok (t, after) → bytes ≡ separator ∷ after.bytes
unfolding separator_on
separator_takes separator place [] t after e = absurd cc
separator_takes separator place (b ∷ bytes) t after e =
    let g = guard_then (b == separator) _ _ _ e in
    subst (λ (y : Unit {0} × Unread). b ∷ bytes ≡ separator ∷ y.1.bytes) g.1 (ap (λ (n : ℕ). n ∷ bytes) (eqb-true b separator g.0))

pub keyword_again : (place : ℕ) (name : List ℕ) (separator : ℕ) (tail : List ℕ) → IsPlain name → ends_word separator ≡ true
    → Passes tt tail (keyword_at name separator (record { place = place; bytes = name ++ separator ∷ tail }))
unfolding keyword_at
keyword_again place name separator tail plain ends =
    let word = word_again place name separator tail plain ends in
    let behind = separator_again separator word.place tail in
    let same : bytes_eq name name ≡ true = (bytes_eq-Decides name name).1 refl in
    record { place = behind.place; is = rw (word.is, same) behind.is }

pub keyword_takes : (name : List ℕ) (separator : ℕ) (before : Unread) (t : Unit {0}) (after : Unread) → keyword_at name separator before ≡ Ok (t, after) → before.bytes ≡ name ++ separator ∷ after.bytes
unfolding keyword_at
keyword_takes name separator before t after e =
    let a = bind_ok (word_at before) _ _ e in
    let g = chosen_ok (bytes_eq a.0.0 name) _ _ _ a.2 in
    let same = (bytes_eq-Decides a.0.0 name).0 g.0 in
    word_takes before a.0.0 a.0.1 a.1 ∙ ap (λ (l : List ℕ). l ++ a.0.1.bytes) same ∙ ap (λ (l : List ℕ). name ++ l) (separator_takes separator a.0.1.place a.0.1.bytes t after g.1)

-- a word that is judged, and the separator behind it
pub behind_word : (separator : ℕ) (before : Unread) (word : List ℕ) (middle : Unread) (t : Unit {0}) (after : Unread) → word_at before ≡ Ok (word, middle) → separator_on separator middle.place middle.bytes ≡ Ok (t, after)
    → before.bytes ≡ word ++ separator ∷ after.bytes
behind_word separator before word middle t after one other =
    word_takes before word middle one ∙ ap (λ (l : List ℕ). word ++ l) (separator_takes separator middle.place middle.bytes t after other)

-- ---- times

digits_plain : (digits : List ℕ) → IsPlain (digits_text digits)
digits_plain [] = refl
digits_plain (d ∷ digits) = and_from _ _ (lt-ltb 32 (48 + d) (omega arith)) (digits_plain digits)

fraction_plain : (fraction : List ℕ) → IsPlain (fraction_text fraction)
fraction_plain [] = refl
fraction_plain (d ∷ rest) = digits_plain (d ∷ rest)

joined_plain : (a b : List ℕ) → IsPlain a → IsPlain b → IsPlain (a ++ b)
joined_plain a b one other = list_all-append (λ b. nat_lt 32 b) a b ∙ and_from _ _ one other

plain_time : (time : List ℕ) (moment : Moment) → Text time moment → IsPlain time
plain_time time moment t =
    ap (λ (l : List ℕ). list_all (λ b. nat_lt 32 b) l) t.spelled
    ∙ joined_plain (digits_text t.fields ++ fraction_text t.fraction) (codes "Z") (joined_plain (digits_text t.fields) (fraction_text t.fraction) (digits_plain t.fields) (fraction_plain t.fraction)) refl

time_is : (place : ℕ) (word : List ℕ) (fault : Option TimeFault) (text : List ℕ) → time_in place word fault ≡ Ok text → word ≡ text
unfolding time_in
time_is place word None text e = cc
time_is place word (Some fault) text e = absurd cc

pub time_takes : (separator : ℕ) (before : Unread) (text : List ℕ) (after : Unread) → time_at separator before ≡ Ok (text, after) → before.bytes ≡ text ++ separator ∷ after.bytes
unfolding time_at
time_takes separator before text after e =
    let a = bind_ok (word_at before) _ _ e in
    let b = bind_ok (time_in before.place a.0.0 (first_fault a.0.0)) _ _ a.2 in
    let c = bind_ok (separator_on separator a.0.1.place a.0.1.bytes) _ _ b.2 in
    let same = ok_is {A = List ℕ × Unread} {F = ShapeFault} _ _ c.2 in
    let read = word_takes before a.0.0 a.0.1 a.1 ∙ ap (λ (l : List ℕ). a.0.0 ++ l) (separator_takes separator a.0.1.place a.0.1.bytes c.0.0 c.0.1 c.1) in
    let named = read ∙ ap (λ (l : List ℕ). l ++ separator ∷ c.0.1.bytes) (time_is before.place a.0.0 (first_fault a.0.0) b.0 b.1) in
    subst (λ (y : List ℕ × Unread). before.bytes ≡ y.0 ++ separator ∷ y.1.bytes) same named

pub time_again : (place separator : ℕ) (text : List ℕ) (moment : Moment) (tail : List ℕ) → Text text moment → ends_word separator ≡ true
    → Passes text tail (time_at separator (record { place = place; bytes = text ++ separator ∷ tail }))
unfolding time_at time_in
time_again place separator text moment tail says ends =
    let word = word_again place text separator tail (plain_time text moment says) ends in
    let behind = separator_again separator word.place tail in
    record { place = behind.place; is = rw (word.is, no_fault text moment says, behind.is) refl }

-- a word that says a time, and the separator behind it
pub time_passes : (separator : ℕ) (before : Unread) (word : List ℕ) (middle after : Unread) → word_at before ≡ Ok (word, middle) → time_in before.place word (first_fault word) ≡ Ok word → separator_on separator middle.place middle.bytes ≡ Ok (tt, after)
    → time_at separator before ≡ Ok (word, after)
unfolding time_at
time_passes separator before word middle after one two three = rw (one, two, three) refl
