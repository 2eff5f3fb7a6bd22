-- Reading line by line.
use Rattle.std.proofs.Common.{◌≡◌, ℕ, ◌+◌, ◌<◌, ◌==◌, true, false, List, [], ◌∷◌, ◌++◌, length, map, Option, Some, None, cond, refl, sym, ap, ◌∙◌, arith, append_assoc, length-append, append-nil}
use Rattle.std.specs.Str.{bytes_eq}
use Rattle.std.proofs.lemmas.Bool.{eqb-true}
use Rattle.std.proofs.lemmas.Slice.Eq.{bytes_eq-Decides}
use Rattle.algorithm_policy.specs.declared.policy_line.PolicyLine.{PolicyLine}
use Rattle.algorithm_policy.specs.declared.fault.PolicyKind.{PolicyKind}
use Rattle.algorithm_policy.specs.declared.fault.PolicyKind.TheVariants.{Header, Form}
use Rattle.algorithm_policy.specs.declared.fault.LineFault.{LineFault}
use Rattle.algorithm_policy.specs.declared.fault.LineFault.TheVariants.{Is, Memory}
use Rattle.algorithm_policy.specs.Content.{Content, empty}
use Rattle.algorithm_policy.specs.Text.{PolicyText, LinesText, policy_lines, ended, header}
use Rattle.algorithm_policy.specs.Fault.{Line, form_of, words, parts, word_fault, place_fault, line_fault, or_else, subject_of, Subject, fault_in, fault_of_lines, first_fault}
use Rattle.algorithm_policy.specs.Inside.{Blames, BlamesFirst, Names, fault_at, own_fault, next_fault, line_subject, subjects, SaysLine, Adds, TakesLine, ReadSoFar, SayPolicy, IsBehindHeader}
use Rattle.algorithm_policy.proofs.Splitting.{some_part}
use Rattle.algorithm_policy.proofs.PlaceLemmas.{map_joined}

-- ---- one line

-- the fault of this line, if it has one, or else the first of those after it
abbrev pub goes : ℕ → List Subject → List (List ℕ) → Option Line → Option (ℕ × PolicyKind)
goes number before rest None = Some (number, Form)
goes number before rest (Some found) = elim (line_fault before found) [
  | Some kind ↦ Some (number, kind)
  | None ↦ fault_in (number + 1) (before ++ subject_of found ∷ []) rest
]

pub step : (number : ℕ) (before : List Subject) (left line : List ℕ) (after : List ℕ) → parts 10 left ≡ line ∷ parts 10 after
    → fault_in number before (parts 10 left) ≡ goes number before (parts 10 after) (form_of (words line))
unfolding fault_in
step number before left line after h =
    let c = some_part 10 after in
    ap (fault_in number before) (h ∙ ap (λ l. line ∷ l) c.is)
    ∙ at (form_of (words line)) c.first c.rest
    ∙ ap (λ l. goes number before l (form_of (words line))) (sym c.is)
  where
    by_fault : (found : Line) (first : List ℕ) (rest : List (List ℕ)) (o : Option PolicyKind)
        → elim o as (λ _. Option (ℕ × PolicyKind)) [ Some kind ↦ Some (number, kind) | None ↦ fault_in (number + 1) (before ++ subject_of found ∷ []) (first ∷ rest) ]
        ≡ elim o as (λ _. Option (ℕ × PolicyKind)) [ Some kind ↦ Some (number, kind) | None ↦ fault_in (number + 1) (before ++ subject_of found ∷ []) (first ∷ rest) ]
    by_fault found first rest o = refl

    at : (o : Option Line) (first : List ℕ) (rest : List (List ℕ)) → goes number before (first ∷ rest) o ≡ goes number before (first ∷ rest) o
    at o first rest = refl

pub no_form : (number : ℕ) (before : List Subject) (left : List ℕ) → 0 < length left → parts 10 left ≡ left ∷ [] → fault_in number before (parts 10 left) ≡ Some (number, Form)
unfolding fault_in
no_form number before [] lt h = absurd (omega arith)
no_form number before (b ∷ bs) lt h = ap (fault_in number before) h

own_is : (number : ℕ) (before : List Subject) (rest : List (List ℕ)) (o : Option Line) (kind : PolicyKind) → own_fault o ≡ Some kind → goes number before rest o ≡ Some (number, kind)
own_is number before rest None kind h = ap (λ k. Some (number, k)) cc
own_is number before rest (Some found) kind h = by_fault (word_fault found) h
  where
    by_fault : (w : Option PolicyKind) → w ≡ Some kind
        → elim (or_else w (place_fault before (subject_of found))) as (λ _. Option (ℕ × PolicyKind)) [ Some k ↦ Some (number, k) | None ↦ fault_in (number + 1) (before ++ subject_of found ∷ []) rest ] ≡ Some (number, kind)
    by_fault None h = cc h
    by_fault (Some k) h = ap (λ k. Some (number, k)) cc

pub own_blames : (f : LineFault) (before : List Subject) (left line after : List ℕ) → parts 10 left ≡ line ∷ parts 10 after → Blames f (own_fault (form_of (words line))) → BlamesFirst f before left
own_blames Memory before left line after h b = λ number. tt
own_blames (Is kind) before left line after h b = λ number. step number before left line after h ∙ own_is number before (parts 10 after) (form_of (words line)) kind b

-- a line whose words are sound
pub sound_goes : (number : ℕ) (before : List Subject) (rest : List (List ℕ)) (found : Line) → word_fault found ≡ None → (o : Option PolicyKind) → place_fault before (subject_of found) ≡ o
    → goes number before rest (Some found) ≡ elim o as (λ _. Option (ℕ × PolicyKind)) [ Some k ↦ Some (number, k) | None ↦ fault_in (number + 1) (before ++ subject_of found ∷ []) rest ]
sound_goes number before rest found sound o place =
    ap (λ w. elim (or_else w (place_fault before (subject_of found))) as (λ _. Option (ℕ × PolicyKind)) [ Some k ↦ Some (number, k) | None ↦ fault_in (number + 1) (before ++ subject_of found ∷ []) rest ]) sound
    ∙ ap (λ w. elim w as (λ _. Option (ℕ × PolicyKind)) [ Some k ↦ Some (number, k) | None ↦ fault_in (number + 1) (before ++ subject_of found ∷ []) rest ]) place

pub place_blames : (f : LineFault) (policy : Content) (said : PolicyLine) (left line after : List ℕ) → parts 10 left ≡ line ∷ parts 10 after → SaysLine line said → Blames f (next_fault policy said) → BlamesFirst f (subjects policy) left
place_blames Memory policy said left line after h says b = λ number. tt
place_blames (Is kind) policy said left line after h says b = λ number.
    step number (subjects policy) left line after h
    ∙ ap (goes number (subjects policy) (parts 10 after)) says.is
    ∙ sound_goes number (subjects policy) (parts 10 after) says.form says.sound (Some kind) (ap (place_fault (subjects policy)) says.subject ∙ b)

pub takes_line : (old new : Content) (said : PolicyLine) (left line after : List ℕ) → left ≡ line ++ 10 ∷ after → parts 10 left ≡ line ∷ parts 10 after → SaysLine line said → Adds old new said → TakesLine old new left after
takes_line old new said left line after whole h says adds =
    record {
      valid = adds.valid;
      line = line;
      said = said;
      spelled = whole;
      text = says.text;
      added = adds.added;
      faults = λ number.
          step number (subjects old) left line after h
          ∙ ap (goes number (subjects old) (parts 10 after)) says.is
          ∙ sound_goes number (subjects old) (parts 10 after) says.form says.sound None (ap (place_fault (subjects old)) says.subject ∙ adds.placed)
          ∙ ap (λ l. fault_in (number + 1) l (parts 10 after))
          (ap (λ s. subjects old ++ s ∷ []) says.subject ∙ sym (map_joined line_subject (policy_lines old) (said ∷ [])) ∙ ap (map line_subject) (sym adds.added));
    }

-- ---- line after line

pub ended_joined : (a b : List (List ℕ)) → ended (a ++ b) ≡ ended a ++ ended b
ended_joined [] b = refl
ended_joined (line ∷ a) b = ap (λ l. line ++ 10 ∷ l) (ended_joined a b) ∙ sym (append_assoc line (10 ∷ ended a) (ended b))

pub lines_joined : (a b : List (List ℕ)) (es fs : List PolicyLine) → LinesText a es → LinesText b fs → LinesText (a ++ b) (es ++ fs)
lines_joined [] b [] fs h k = k
lines_joined [] b (e ∷ es) fs h k = absurd h
lines_joined (line ∷ a) b [] fs h k = absurd h
lines_joined (line ∷ a) b (e ∷ es) fs h k = (h.0, lines_joined a b es fs h.1 k)

pub begins : (text : List ℕ) → ReadSoFar text text 2 empty
begins text = record {
  valid = record { signers = tt; ascending = refl; distinct = refl; few = omega arith };
  lines = [];
  say = tt;
  front = refl;
  counted = refl;
  faults = refl;
}

pub goes_on : (text left after : List ℕ) (number : ℕ) (old new : Content) → ReadSoFar text left number old → TakesLine old new left after → ReadSoFar text after (number + 1) new
goes_on text left after number old new h t = record {
  valid = t.valid;
  lines = h.lines ++ t.line ∷ [];
  say = rw t.added (lines_joined h.lines (t.line ∷ []) (policy_lines old) (t.said ∷ []) h.say (t.text, tt));
  front =
      h.front ∙ ap (λ l. ended h.lines ++ l) (t.spelled ∙ regroup t.line after) ∙ sym (append_assoc (ended h.lines) (t.line ++ 10 ∷ []) after)
      ∙ ap (λ l. l ++ after) (sym (ended_joined h.lines (t.line ∷ [])));
  counted = let n = h.counted in omega (arith, ap length t.added, length-append (policy_lines old) (t.said ∷ []), n);
  faults = h.faults ∙ t.faults number;
}
  where
    regroup : (line after : List ℕ) → line ++ 10 ∷ after ≡ (line ++ 10 ∷ []) ++ after
    regroup line after = sym (append_assoc line (10 ∷ []) after)

pub is_read : (text left : List ℕ) (number : ℕ) (policy : Content) → ReadSoFar text left number policy → (length left == 0) ≡ true → SayPolicy text policy
is_read text left number policy h none = record {
  valid = h.valid;
  lines = h.lines;
  say = h.say;
  spelled = h.front ∙ ap (λ l. ended h.lines ++ l) (nothing left (eqb-true (length left) 0 none)) ∙ append-nil (ended h.lines);
}
  where
    nothing : (left : List ℕ) → length left ≡ 0 → left ≡ []
    nothing [] h = refl
    nothing (b ∷ bs) h = absurd (omega arith)

-- the fault of the next line is that of the text
pub stops : (text left : List ℕ) (number : ℕ) (policy : Content) (f : LineFault) → ReadSoFar text left number policy → BlamesFirst f (subjects policy) left → Names (fault_at number f) (fault_in 2 [] (parts 10 text))
stops text left number policy f h b = rw h.faults (b number)

-- ---- the first line

pub behind_header : (text line lines : List ℕ) → parts 10 text ≡ line ∷ parts 10 lines → text ≡ line ++ 10 ∷ lines → bytes_eq line header ≡ true → IsBehindHeader text lines
unfolding fault_of_lines
behind_header text line lines h whole same =
    let c = some_part 10 lines in
    record {
      is = whole ∙ ap (λ l. l ++ 10 ∷ lines) ((bytes_eq-Decides line header).0 same);
      faults =
          ap fault_of_lines (h ∙ ap (λ l. line ∷ l) c.is)
          ∙ ap (λ b. cond b (fault_in 2 [] (c.first ∷ c.rest)) (Some (1, Header))) same
          ∙ ap (fault_in 2 []) (sym c.is);
    }

pub other_line : (text line lines : List ℕ) → parts 10 text ≡ line ∷ parts 10 lines → bytes_eq line header ≡ false → first_fault text ≡ Some (1, Header)
unfolding fault_of_lines
other_line text line lines h other =
    let c = some_part 10 lines in
    ap fault_of_lines (h ∙ ap (λ l. line ∷ l) c.is) ∙ ap (λ b. cond b (fault_in 2 [] (c.first ∷ c.rest)) (Some (1, Header))) other

pub no_line : (text : List ℕ) → parts 10 text ≡ text ∷ [] → first_fault text ≡ Some (1, Header)
unfolding fault_of_lines
no_line text h = ap fault_of_lines h

-- the header's line and the lines behind it say the policy
pub text_says : (text lines : List ℕ) (policy : Content) → IsBehindHeader text lines → SayPolicy lines policy → PolicyText text policy
text_says text lines policy h s = record { valid = s.valid; lines = s.lines; say = s.say; spelled = h.is ∙ ap (λ l. header ++ 10 ∷ l) s.spelled }
