-- Documents that were read so far, and those that are read from here on.
use Rattle.std.proofs.Common.{◌≡◌, ℕ, zero, suc, ◌+◌, ◌<◌, true, false, List, [], ◌∷◌, ◌++◌, length, Result, Ok, Err, refl, sym, ap, ◌∙◌, arith, append_assoc, length-append}
use Rattle.std.proofs.lemmas.List.{append-nil}
use Rattle.std.specs.Prelude.{IfErr, IsErrAnd}
use Rattle.der_values.specs.Steps.{◌>>=◌}
use Rattle.der_values.specs.Next.{is_empty}
use Rattle.der_values.specs.Reading.{Unless}
use Rattle.session_text.specs.declared.shape.ShapeFault.{ShapeFault}
use Rattle.session_text.specs.declared.shape.ShapeFault.TheVariants.{At, Memory}
use Rattle.session_text.specs.Unread.{Unread, Reading, is_memory}
use Rattle.session_text.specs.VerifyInput.{document_at, documents_at, all_documents_at}
use Rattle.session_text.specs.Inside.{ReadsDocuments}

-- with the documents that were read before
abbrev pub behind : List (List ℕ) → Reading (List (List ℕ)) → Reading (List (List ℕ))
behind further r = r >>= λ x. Ok (further ++ x.0, x.1)

-- The first document and further ones were read, and what the reading gives from the second on is what it gives from here on,
-- with the further ones before.
pub record DocumentsSoFar (before : Unread) (first : List (List ℕ)) (all : List (List ℕ)) (now : Unread) : Type 0 where
  pub alone : length first ≡ 1
  pub further : List (List ℕ)
  pub all_is : all ≡ first ++ further
  pub left : ℕ
  pub count : length further + left ≡ 63
  pub goes_on : documents_at 63 before ≡ behind further (documents_at left now)

pub start : (before : Unread) (first : List (List ℕ)) → length first ≡ 1 → DocumentsSoFar before first first before
start before first one = record { alone = one; further = []; all_is = sym (append-nil first); left = 63; count = refl; goes_on = nothing (documents_at 63 before) }
  where
    nothing : (r : Reading (List (List ℕ))) → r ≡ behind [] r
    nothing (Ok x) = refl
    nothing (Err e) = refl

regrouped : (further : List (List ℕ)) (d : List ℕ) (r : Reading (List (List ℕ))) → behind further (r >>= λ ds. Ok (d ∷ ds.0, ds.1)) ≡ behind (further ++ d ∷ []) r
regrouped further d (Ok x) = ap (λ (l : List (List ℕ)). Ok (l, x.1)) (sym (append_assoc further (d ∷ []) x.0))
regrouped further d (Err e) = refl

one_more : (left : ℕ) (now : Unread) (d : List ℕ) (after : Unread) → is_empty now.bytes ≡ false → document_at now ≡ Ok (d, after) → documents_at (suc left) now ≡ (documents_at left after >>= λ ds. Ok (d ∷ ds.0, ds.1))
unfolding documents_at
one_more left now d after some e = rw (some, e) refl

pub more : (before : Unread) (first all : List (List ℕ)) (now : Unread) (d : List ℕ) (after : Unread) → DocumentsSoFar before first all now → length all < 64 → is_empty now.bytes ≡ false → document_at now ≡ Ok (d, after)
    → DocumentsSoFar before first (all ++ d ∷ []) after
more before first all now d after s few some e = by_left s.left refl
  where
    by_left : (left : ℕ) → s.left ≡ left → DocumentsSoFar before first (all ++ d ∷ []) after
    by_left zero h = absurd (
        let one = s.alone in
        let count = s.count in
        let long = ap (λ (l : List (List ℕ)). length l) s.all_is ∙ length-append first s.further in
        omega arith)
    by_left (suc left) h = record {
      alone = s.alone;
      further = s.further ++ d ∷ [];
      all_is = ap (λ (l : List (List ℕ)). l ++ d ∷ []) s.all_is ∙ append_assoc first s.further (d ∷ []);
      left = left;
      count = (let count = s.count in let long = length-append s.further (d ∷ []) in omega arith);
      goes_on = s.goes_on
          ∙ ap (λ (n : ℕ). behind s.further (documents_at n now)) h
          ∙ ap (λ (r : Reading (List (List ℕ))). behind s.further r) (one_more left now d after some e)
          ∙ regrouped s.further d (documents_at left after);
    }

at_end : (left : ℕ) (now : Unread) → is_empty now.bytes ≡ true → documents_at left now ≡ Ok ([], now)
unfolding documents_at
at_end zero now e = rw e refl
at_end (suc left) now e = rw e refl

-- the first document, and what the others give
pub all_of : (before middle : Unread) (d : List ℕ) → document_at before ≡ Ok (d, middle) → all_documents_at before ≡ (documents_at 63 middle >>= λ y. Ok ((d, y.0), y.1))
all_of before middle d e = rw e refl

pub ends : (start before : Unread) (d : List ℕ) (first all : List (List ℕ)) (now : Unread) → document_at start ≡ Ok (d, before) → first ≡ d ∷ [] → DocumentsSoFar before first all now → is_empty now.bytes ≡ true → ReadsDocuments start now all
ends start before d first all now e one s done =
    let rest : documents_at 63 before ≡ Ok (s.further ++ [], now) = s.goes_on ∙ ap (λ (r : Reading (List (List ℕ))). behind s.further r) (at_end s.left now done) in
    record {
      first = d;
      further = s.further;
      is = all_of start before d e ∙ ap (λ (r : Reading (List (List ℕ))). r >>= λ y. Ok ((d, y.0), y.1)) (rest ∙ ap (λ (l : List (List ℕ)). Ok (l, now)) (append-nil s.further));
      all = s.all_is ∙ ap (λ (l : List (List ℕ)). l ++ s.further) one;
    }

stops : (start before : Unread) (d : List ℕ) (first all : List (List ℕ)) (now : Unread) (f : ShapeFault) → document_at start ≡ Ok (d, before) → (s : DocumentsSoFar before first all now) → documents_at s.left now ≡ Err f → all_documents_at start ≡ Err f
stops start before d first all now f e s wrong =
    all_of start before d e ∙ ap (λ (r : Reading (List (List ℕ))). r >>= λ y. Ok ((d, y.0), y.1)) (s.goes_on ∙ ap (λ (r : Reading (List (List ℕ))). behind s.further r) wrong)

pub full : (start before : Unread) (d : List ℕ) (first all : List (List ℕ)) (now : Unread) (f : ShapeFault) → document_at start ≡ Ok (d, before) → DocumentsSoFar before first all now → length all ≡ 64 → documents_at 0 now ≡ Err f → all_documents_at start ≡ Err f
full start before d first all now f e s count wrong =
    let none : s.left ≡ 0 = (
    let sum = s.count in
    let one = s.alone in
    let long = ap (λ (l : List (List ℕ)). length l) s.all_is ∙ length-append first s.further in
    omega arith) in
    stops start before d first all now f e s (ap (λ (n : ℕ). documents_at n now) none ∙ wrong)

wrong_document : (left : ℕ) (now : Unread) (f : ShapeFault) → is_empty now.bytes ≡ false → document_at now ≡ Err f → documents_at (suc left) now ≡ Err f
unfolding documents_at
wrong_document left now f some e = rw (some, e) refl

fault : (start before : Unread) (d : List ℕ) (first all : List (List ℕ)) (now : Unread) (f : ShapeFault) → document_at start ≡ Ok (d, before) → DocumentsSoFar before first all now → length all < 64 → is_empty now.bytes ≡ false
    → document_at now ≡ Err f → all_documents_at start ≡ Err f
fault start before d first all now f e s few some wrong = by_left s.left refl
  where
    by_left : (left : ℕ) → s.left ≡ left → all_documents_at start ≡ Err f
    by_left zero h = absurd (
        let count = s.count in
        let one = s.alone in
        let long = ap (λ (l : List (List ℕ)). length l) s.all_is ∙ length-append first s.further in
        omega arith)
    by_left (suc left) h = stops start before d first all now f e s (ap (λ (n : ℕ). documents_at n now) h ∙ wrong_document left now f some wrong)

-- unless there was no memory
pub refused : {X : Type 0} (start before : Unread) (d : List ℕ) (first all : List (List ℕ)) (now : Unread) (r : Result X ShapeFault) (f : ShapeFault) → document_at start ≡ Ok (d, before) → first ≡ d ∷ [] → DocumentsSoFar before first all now
    → length all < 64 → is_empty now.bytes ≡ false → IsErrAnd r (λ g. g ≡ f) → Unless (is_memory f) (document_at now ≡ Err f) → IfErr r (λ g. Unless (is_memory g) (all_documents_at start ≡ Err g))
refused start before d first all now (Ok x) f e one s few some is wrong = absurd is
refused start before d first all now (Err g) Memory e one s few some is wrong = rw is tt
refused start before d first all now (Err g) (At place kind) e one s few some is wrong = rw is (fault start before d first all now (At place kind) e s few some wrong)
