-- The documents of a reply, one behind the other.
use Rattle.std.proofs.Common.{◌≡◌, ℕ, ◌+◌, ◌*◌, ◌≤◌, ◌<◌, List, [], ◌∷◌, ◌++◌, length, take, drop, get_or, flat_map, refl, sym, ap, ◌∙◌, append_assoc, append-nil, arith}
use Rattle.std.specs.Prelude.{sum_by, codes, decimal, Result, Ok, Err, OnOk}
use Rattle.std.proofs.lemmas.Grind.{flat_map-append}
use Rattle.std.proofs.lemmas.List.{take_more}
use Rattle.std.proofs.lemmas.List.Sums.{sum_by-cons, sum_by_more_le, sum_by-drop_more}
use Rattle.object_groups.specs.Groups.{IsGroup, bytes_in}
use Rattle.session_text.specs.Counted.{counted_text}
use Rattle.session_text.specs.Lines.{spaced}
use Rattle.evidence_tool.specs.Requests.{document_text}
use Rattle.evidence_tool.specs.Replies.{line, documents_text}
use Rattle.evidence_tool.proofs.ReplyLemmas.{counted_document}

-- what a document takes at most
abbrev pub room : List ℕ → ℕ
room d = length d + 128

rooms : (ds : List (List ℕ)) → sum_by room ds ≡ bytes_in ds + 128 * length ds
rooms [] = refl
rooms (d ∷ ds) = omega (arith, rooms ds, sum_by-cons room d ds, sum_by-cons length d ds)

-- the room so far, and that of the next document, are few bytes
pub few_bytes : (ds : List (List ℕ)) (i : ℕ) → IsGroup ds → i < length ds → sum_by room (take i ds) + room (get_or ds i []) ≤ 4202496
few_bytes ds i group below = omega (arith, sum_by_more_le room ds i [] below, rooms ds, group.few, group.together)

-- all of it
pub all_bytes : (ds : List (List ℕ)) → IsGroup ds → sum_by room ds ≤ 4202496
all_bytes ds group = omega (arith, rooms ds, group.few, group.together)

pub document_more : (ds : List (List ℕ)) (i : ℕ) → i < length ds → flat_map document_text (take (i + 1) ds) ≡ flat_map document_text (take i ds) ++ counted_text (codes "doc") (get_or ds i [])
document_more ds i below =
    ap (λ (l : List (List ℕ)). flat_map document_text l) (take_more ds i [] below)
    ∙ flat_map-append document_text (take i ds) (get_or ds i [] ∷ [])
    ∙ ap (λ (t : List ℕ). flat_map document_text (take i ds) ++ t) (append-nil (document_text (get_or ds i [])) ∙ sym (counted_document (get_or ds i [])))

-- the line with the number of the documents
pub number_line : (place n m : ℕ) → m ≡ n → line place (codes "documents" ++ spaced (m ∷ [])) ≡ line place (codes "documents " ++ decimal n)
number_line place n m same = ap (λ (t : List ℕ). line place (codes "documents" ++ t)) (append-nil (32 ∷ decimal m)) ∙ ap (λ (k : ℕ). line place (codes "documents " ++ decimal k)) same

-- the room of the next document, and that of those behind it
pub room_left : (ds : List (List ℕ)) (i : ℕ) → i < length ds → sum_by room (drop i ds) ≡ room (get_or ds i []) + sum_by room (drop (i + 1) ds)
room_left ds i below = sum_by-drop_more room ds i [] below

-- behind the line
pub documents_written : (place n : ℕ) (start front whole : List ℕ) (ds : List (List ℕ)) → n ≡ length ds → front ≡ start ++ line place (codes "documents" ++ spaced (n ∷ [])) → whole ≡ front ++ flat_map document_text ds
    → whole ≡ start ++ documents_text place ds
documents_written place n start front whole ds same first then =
    then ∙ ap (λ (t : List ℕ). t ++ flat_map document_text ds) (first ∙ ap (λ (t : List ℕ). start ++ t) (number_line place (length ds) n same))
    ∙ append_assoc start (line place (codes "documents " ++ decimal (length ds))) (flat_map document_text ds)

-- what holds at any answer holds at Ok
pub at_ok : {T E : Type 0} (answer : Result T E) (P : Type 0) → P → OnOk answer P
at_ok (Ok x) P p = p
at_ok (Err e) P p = tt
