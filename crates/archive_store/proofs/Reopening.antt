-- Whatever happens, each acknowledged step is found.
use Rattle.std.proofs.Common.{◌≡◌, inl, inr, ⊎_elim, ℕ, ◌+◌, List, [], ◌∷◌, ◌++◌, length, take, refl, sym, ap, subst, ◌∙◌, arith, append_assoc, append-nil}
use Rattle.std.proofs.lemmas.List.{length-append}
use Rattle.entry_codec.specs.declared.entry.Entry.{Entry}
use Rattle.entry_codec.specs.Spelling.{IsEntry}
use Rattle.archive_chain.specs.History.{State, state_from, after, start, EachAfter, IsLegal, Legal}
use Rattle.archive_store.specs.Events.{Event, done, torn, stop, Opening, opened, history_of, MayBegin, after_event, Happens, after_events, AreSteps, FindsEachStep}

-- a legal entry more
one_more : (P : State → Entry → Type 0) (s : State) (es : List Entry) (e : Entry) → EachAfter P s es → IsEntry e → P (state_from s es) e → EachAfter P s (es ++ e ∷ [])
one_more P s [] e h spelled p = (spelled, p, tt)
one_more P s (f ∷ es) e h spelled p = (h.0, h.1, one_more P (after s f) es e h.2 spelled p)

take_whole : {A : Type 0} (xs : List A) → take (length xs) xs ≡ xs
take_whole [] = refl
take_whole (x ∷ xs) = ap (λ l. x ∷ l) (take_whole xs)

take_front : {A : Type 0} (xs ys : List A) → take (length xs) (xs ++ ys) ≡ xs
take_front [] ys = refl
take_front (x ∷ xs) ys = ap (λ l. x ∷ l) (take_front xs ys)

-- of the events to come, from an opening whose steps were all acknowledged
record Ends (o : Opening) (events : List Event) : Type 0 where
  legal : Legal (history_of (after_events o events))
  steps : List Entry
  found : history_of (after_events o events) ≡ history_of o ++ steps
  are_steps : AreSteps events steps

legal_more : (o : Opening) (e : Entry) → Legal (history_of o) → MayBegin o e → Legal (o.found ++ (o.begun ++ e ∷ []))
legal_more o e legal may =
    subst Legal (append_assoc o.found o.begun (e ∷ [])) (one_more IsLegal start (history_of o) e legal may.spelled may.legal)

-- the same history at the next opening
opened_same : (x y : List Entry) → x ≡ y → history_of (opened x) ≡ y
opened_same x y same = append-nil x ∙ same

ends : (events : List Event) (o : Opening) → o.acknowledged ≡ length o.begun → Legal (history_of o) → Happens o events → Ends o events
ends [] o settled legal happens = record { legal = legal; steps = []; found = sym (append-nil (history_of o)); are_steps = refl }
ends (done e ∷ events) o settled legal happens =
    let next : Opening = after_event o (done e) in
    let same : history_of next ≡ history_of o ++ e ∷ [] = sym (append_assoc o.found o.begun (e ∷ [])) in
    let more : o.acknowledged + 1 ≡ length (o.begun ++ e ∷ []) = omega (arith, settled, length-append o.begun (e ∷ [])) in
    let rest = ends events next more (legal_more o e legal happens.0) happens.1 in
    record {
      legal = rest.legal;
      steps = e ∷ rest.steps;
      found = rest.found ∙ ap (λ (h : List Entry). h ++ rest.steps) same ∙ append_assoc (history_of o) (e ∷ []) rest.steps;
      are_steps = (rest.steps, refl, rest.are_steps);
    }
ends (stop k ∷ events) o settled legal happens =
    let x : List Entry = o.found ++ take k o.begun in
    let all : k ≡ length o.begun = ⊎_elim (λ (e : k ≡ o.acknowledged). e ∙ settled) (λ (e : k ≡ length o.begun). e) happens.0 in
    let same : x ≡ history_of o = ap (λ (n : ℕ). o.found ++ take n o.begun) all ∙ ap (λ (l : List Entry). o.found ++ l) (take_whole o.begun) in
    let rest = ends events (opened x) refl (subst Legal (sym (opened_same x (history_of o) same)) legal) happens.1 in
    record {
      legal = rest.legal;
      steps = rest.steps;
      found = rest.found ∙ ap (λ (h : List Entry). h ++ rest.steps) (opened_same x (history_of o) same);
      are_steps = rest.are_steps;
    }
ends (torn e ∷ []) o settled legal happens = record {
  legal = legal_more o e legal happens.0;
  steps = e ∷ [];
  found = sym (append_assoc o.found o.begun (e ∷ []));
  are_steps = refl;
}
ends (torn e ∷ stop k ∷ events) o settled legal happens =
    let x : List Entry = o.found ++ take k (o.begun ++ e ∷ []) in
    let without : k ≡ o.acknowledged → Ends o (torn e ∷ stop k ∷ events) = λ none.
    let same : x ≡ history_of o = ap (λ (n : ℕ). o.found ++ take n (o.begun ++ e ∷ [])) (none ∙ settled) ∙ ap (λ (l : List Entry). o.found ++ l) (take_front o.begun (e ∷ [])) in
    let rest = ends events (opened x) refl (subst Legal (sym (opened_same x (history_of o) same)) legal) happens.1.1 in
    record {
      legal = rest.legal;
      steps = rest.steps;
      found = rest.found ∙ ap (λ (h : List Entry). h ++ rest.steps) (opened_same x (history_of o) same);
      are_steps = inl rest.are_steps;
    } in
    let with_it : k ≡ length (o.begun ++ e ∷ []) → Ends o (torn e ∷ stop k ∷ events) = λ all.
    let more : List Entry = o.found ++ (o.begun ++ e ∷ []) in
    let same : x ≡ more = ap (λ (n : ℕ). o.found ++ take n (o.begun ++ e ∷ [])) all ∙ ap (λ (l : List Entry). o.found ++ l) (take_whole (o.begun ++ e ∷ [])) in
    let rest = ends events (opened x) refl (subst Legal (sym (opened_same x more same)) (legal_more o e legal happens.0)) happens.1.1 in
    record {
      legal = rest.legal;
      steps = e ∷ rest.steps;
      found = rest.found ∙ ap (λ (h : List Entry). h ++ rest.steps) (opened_same x more same ∙ sym (append_assoc o.found o.begun (e ∷ []))) ∙ append_assoc (history_of o) (e ∷ []) rest.steps;
      are_steps = inr (rest.steps, refl, rest.are_steps);
    } in
    ⊎_elim without with_it happens.1.0
ends (torn e ∷ done f ∷ events) o settled legal happens =
    let long = length-append o.begun (e ∷ []) in
    absurd (omega (arith, settled, happens.1.0.settled, long))
ends (torn e ∷ torn f ∷ events) o settled legal happens =
    let long = length-append o.begun (e ∷ []) in
    absurd (omega (arith, settled, happens.1.0.settled, long))

pub reopens : (history : List Entry) (events : List Event) → Legal history → Happens (opened history) events → FindsEachStep history events
reopens history events legal happens =
    let same : history_of (opened history) ≡ history = append-nil history in
    let all = ends events (opened history) refl (subst Legal (sym same) legal) happens in
    record {
      legal = all.legal;
      steps = all.steps;
      found = all.found ∙ ap (λ (h : List Entry). h ++ all.steps) same;
      are_steps = all.are_steps;
    }
