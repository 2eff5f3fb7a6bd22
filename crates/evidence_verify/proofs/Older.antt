-- The chains before a time-stamp, of which those that are passed were written.
use Rattle.std.proofs.Common.{◌≡◌, ℕ, ◌+◌, ◌≤◌, List, [], ◌∷◌, ◌++◌, length, drop, refl, sym, ap, subst, ◌∙◌, arith, append_assoc, append-nil, length-append}
use Rattle.std.specs.List.{flat_map}
use Rattle.evidence_syntax.specs.declared.stamps.Chain.{Chain}
use Rattle.evidence_syntax.specs.Stamps.{Stamp, chain_seen, chains_seen}
use Rattle.evidence_syntax.specs.Text.{chain_text}
use Rattle.evidence_verify.specs.Stamps.{Place, places_in, places_after, places_of}
use Rattle.evidence_verify.specs.InsideChains.{AreShort}
use Rattle.evidence_verify.specs.Inside.{GoOn}

-- ---- the places of a record go on

weaker : (a b : List (List Stamp)) (places : List Place) → GoOn (a ++ b) places → GoOn a places
weaker a b [] g = tt
weaker a b (p ∷ rest) g = (record { behind = b ++ g.0.behind; is = g.0.is ∙ append_assoc a b g.0.behind }, g.1)

in_chain : (older : List (List Stamp)) (number : ℕ) (chain : List Stamp) (rest : List Place) → GoOn older rest → GoOn older (places_in older number chain ++ rest)
in_chain older number [] rest g = g
in_chain older number (s ∷ chain) rest g = (record { behind = []; is = sym (append-nil older) }, in_chain older (number + 1) chain rest g)

over_chains : (older chains : List (List Stamp)) → GoOn older (places_after older chains)
over_chains older [] = tt
over_chains older (c ∷ chains) = in_chain older 0 c (places_after (older ++ c ∷ []) chains) (weaker older (c ∷ []) _ (over_chains (older ++ c ∷ []) chains))

pub all_go_on : (places : List Place) (chains : List (List Stamp)) → places ≡ places_of chains → GoOn [] places
all_go_on places chains is = subst (λ (ps : List Place). GoOn [] ps) (sym is) (over_chains [] chains)

-- ---- those that come after the passed ones

pub no_fewer : (passed chains : List Chain) (behind : List (List Stamp)) → chains_seen chains ≡ chains_seen passed ++ behind → length passed ≤ length chains
no_fewer [] chains behind is = omega arith
no_fewer (p ∷ passed) [] behind is = absurd cc
no_fewer (p ∷ passed) (c ∷ chains) behind is =
    let rest : chains_seen chains ≡ chains_seen passed ++ behind = cc in
    omega (arith, no_fewer passed chains behind rest)

pub further_text : (passed chains : List Chain) (behind : List (List Stamp)) → chains_seen chains ≡ chains_seen passed ++ behind
    → flat_map chain_text (chains_seen passed) ++ flat_map chain_text (chains_seen (drop (length passed) chains)) ≡ flat_map chain_text (chains_seen chains)
further_text [] chains behind is = refl
further_text (p ∷ passed) [] behind is = absurd cc
further_text (p ∷ passed) (c ∷ chains) behind is =
    let first : chain_seen p ≡ chain_seen c = cc in
    let rest : chains_seen chains ≡ chains_seen passed ++ behind = cc in
    append_assoc (chain_text (chain_seen p)) (flat_map chain_text (chains_seen passed)) (flat_map chain_text (chains_seen (drop (length passed) chains)))
    ∙ ap (λ t. chain_text (chain_seen p) ++ t) (further_text passed chains behind rest)
    ∙ ap (λ s. chain_text s ++ flat_map chain_text (chains_seen chains)) first

pub further_short : (passed chains : List Chain) (behind : List (List Stamp)) → chains_seen chains ≡ chains_seen passed ++ behind → AreShort (chains_seen chains) → AreShort (chains_seen (drop (length passed) chains))
further_short passed chains behind is short =
    omega (arith, short, ap length (further_text passed chains behind is), length-append (flat_map chain_text (chains_seen passed)) (flat_map chain_text (chains_seen (drop (length passed) chains))))
