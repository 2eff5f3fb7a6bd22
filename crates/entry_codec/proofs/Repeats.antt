-- A loop over items: what was read so far, and what is read from here on.
use Rattle.std.proofs.Common.{◌≡◌, ℕ, suc, ◌-◌, ◌<◌, List, [], ◌∷◌, ◌++◌, Result, Ok, Err, refl, sym, ap, ◌∙◌, arith, append_assoc}
use Rattle.std.proofs.lemmas.List.{append-nil}
use Rattle.std.specs.Prelude.{IfErr, IsErrAnd}
use Rattle.der_values.specs.Steps.{◌>>=◌}
use Rattle.der_values.specs.Reading.{Unless}
use Rattle.entry_codec.specs.declared.fault.EntryFault.{EntryFault}
use Rattle.entry_codec.specs.declared.fault.EntryFault.TheVariants.{Bad, Memory}
use Rattle.entry_codec.specs.Inside.{read_at, place_of}
use Rattle.entry_codec.specs.Fault.{is_memory}
use Rattle.entry_codec.specs.Form.{Form, repeated, Unread, Reading, reads}
use Rattle.entry_codec.proofs.Forms.{reads_followed}

-- with the items that were read before
abbrev pub behind : {A : Type 0} → List A → Reading (List A) → Reading (List A)
behind done r = r >>= λ x. Ok (done ++ x.0, x.1)

pub record SoFar {A : Type 0} (item : ℕ → ℕ → Form A) (next : ℕ → A → ℕ) (count start : ℕ) (before : Unread) (done : List A) (left state : ℕ) (now : Unread) : Type 0 where
  pub goes_on : read_at (repeated item next count start) before ≡ behind done (read_at (repeated item next left state) now)

pub begun : {A : Type 0} (item : ℕ → ℕ → Form A) (next : ℕ → A → ℕ) (count start : ℕ) (before : Unread) (done : List A) → done ≡ [] → SoFar item next count start before done count start before
begun {A} item next count start before done none = record { goes_on = rw none (nothing (read_at (repeated item next count start) before)) }
  where
    nothing : (r : Reading (List A)) → r ≡ behind [] r
    nothing (Ok x) = refl
    nothing (Err e) = refl

regrouped : {A : Type 0} (done : List A) (x : A) (r : Reading (List A)) → behind done (r >>= λ xs. Ok (x ∷ xs.0, xs.1)) ≡ behind (done ++ x ∷ []) r
regrouped done x (Ok xs) = ap (λ (l : List _). Ok (l, xs.1)) (sym (append_assoc done (x ∷ []) xs.0))
regrouped done x (Err e) = refl

one_more : {A : Type 0} (item : ℕ → ℕ → Form A) (next : ℕ → A → ℕ) (left state : ℕ) (now : Unread) (x : A) (after : Unread) → read_at (item left state) now ≡ Ok (x, after)
    → read_at (repeated item next (suc left) state) now ≡ (read_at (repeated item next left (next state x)) after >>= λ xs. Ok (x ∷ xs.0, xs.1))
unfolding repeated reads
one_more item next left state now x after e =
    reads_followed (item left state) _ now.place now.bytes ∙ rw e (reads_followed (repeated item next left (next state x)) _ after.place after.bytes)

pub more : {A : Type 0} (item : ℕ → ℕ → Form A) (next : ℕ → A → ℕ) (count start : ℕ) (before : Unread) (done : List A) (left state : ℕ) (now : Unread) (x : A) (after : Unread) (further : List A) (state' : ℕ)
    → SoFar item next count start before done left state now → 0 < left → read_at (item (left - 1) state) now ≡ Ok (x, after) → further ≡ done ++ x ∷ [] → state' ≡ next state x
    → SoFar item next count start before further (left - 1) state' after
more item next count start before done left state now x after further state' s some e items is =
    let back : left ≡ suc (left - 1) = omega arith in
    rw (items, is) (record {
      goes_on = s.goes_on
          ∙ ap (λ (n : ℕ). behind done (read_at (repeated item next n state) now)) back
          ∙ ap (λ (r : Reading (List _)). behind done r) (one_more item next (left - 1) state now x after e)
          ∙ regrouped done x (read_at (repeated item next (left - 1) (next state x)) after);
    })

pub ended : {A : Type 0} (item : ℕ → ℕ → Form A) (next : ℕ → A → ℕ) (count start : ℕ) (before : Unread) (done : List A) (left state : ℕ) (now : Unread)
    → SoFar item next count start before done left state now → left ≡ 0 → read_at (repeated item next count start) before ≡ Ok (done, now)
unfolding repeated reads
ended item next count start before done left state now s none =
    s.goes_on ∙ ap (λ (n : ℕ). behind done (read_at (repeated item next n state) now)) none ∙ ap (λ (l : List _). Ok (l, now)) (append-nil done)

none_more : {A : Type 0} (item : ℕ → ℕ → Form A) (next : ℕ → A → ℕ) (left state : ℕ) (now : Unread) (place : ℕ) → read_at (item left state) now ≡ Err place
    → read_at (repeated item next (suc left) state) now ≡ Err place
unfolding repeated reads
none_more item next left state now place e = reads_followed (item left state) _ now.place now.bytes ∙ rw e refl

pub failed : {A : Type 0} (item : ℕ → ℕ → Form A) (next : ℕ → A → ℕ) (count start : ℕ) (before : Unread) (done : List A) (left state : ℕ) (now : Unread) (place : ℕ)
    → SoFar item next count start before done left state now → 0 < left → read_at (item (left - 1) state) now ≡ Err place → read_at (repeated item next count start) before ≡ Err place
failed item next count start before done left state now place s some e =
    let back : left ≡ suc (left - 1) = omega arith in
    s.goes_on ∙ ap (λ (n : ℕ). behind done (read_at (repeated item next n state) now)) back
    ∙ ap (λ (r : Reading (List _)). behind done r) (none_more item next (left - 1) state now place e)

-- a fault that is handed on
pub refused : {X A : Type 0} (r : Result X EntryFault) (f : EntryFault) (read : Reading A) → IsErrAnd r (λ g. g ≡ f) → read ≡ Err (place_of f) → IfErr r (λ g. Unless (is_memory g) (read ≡ Err (place_of g)))
refused (Ok x) f read is wrong = absurd is
refused (Err Memory) f read is wrong = tt
refused (Err (Bad place)) f read is wrong = wrong ∙ ap (λ (g : EntryFault). Err (place_of g)) (sym is)

pub refused_in : {X A B : Type 0} (r : Result X EntryFault) (f : EntryFault) (inner : Reading A) (read : Reading B) → IsErrAnd r (λ g. g ≡ f) → Unless (is_memory f) (inner ≡ Err (place_of f)) → ((place : ℕ) → inner ≡ Err place → read ≡ Err place)
    → IfErr r (λ g. Unless (is_memory g) (read ≡ Err (place_of g)))
refused_in (Ok x) f inner read is wrong on = absurd is
refused_in (Err g) Memory inner read is wrong on = rw is tt
refused_in (Err g) (Bad place) inner read is wrong on = rw is (on place wrong)
