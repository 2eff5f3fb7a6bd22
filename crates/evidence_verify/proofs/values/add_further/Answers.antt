use Rattle.std.proofs.Common.{◌≡◌, ℕ, ◌-◌, List, ◌++◌, length, take, drop, ap, ◌∙◌, arith}
use Rattle.std.specs.List.{flat_map}
use Rattle.std.proofs.lemmas.List.{take_all, length-drop}
use Rattle.evidence_syntax.specs.declared.stamps.Chain.{Chain}
use Rattle.evidence_syntax.specs.Stamps.{chains_seen}
use Rattle.evidence_syntax.specs.Text.{chain_text}
use Rattle.evidence_syntax.proofs.Parts.{if_ok}
use Rattle.evidence_verify.proofs.Older.{further_text, further_short}
use Rattle.evidence_verify.proofs.values.add_further.Goals as goal

to_the_end : (n : ℕ) (chains : List Chain) → take (length chains - n) (drop n chains) ≡ drop n chains
to_the_end n chains = take_all (length chains - n) (drop n chains) (omega (arith, length-drop n chains))

pub add_all-requires : goal.add_all-requires
add_all-requires c =
    let passed = c.args.passed.now in
    let chains = c.args.chains.now in
    rw (to_the_end (length passed) chains) (further_short passed chains c.requires.begins.behind c.requires.begins.is c.requires.short)

pub returns : goal.returns
returns c =
    let passed = c.args.passed.now in
    let chains = c.args.chains.now in
    let rest = flat_map chain_text (chains_seen (drop (length passed) chains)) in
    let added = ap (λ (l : List Chain). c.args.older.now ++ flat_map chain_text (chains_seen l)) (to_the_end (length passed) chains) in
    let whole = ap (λ (t : List ℕ). t ++ rest) c.requires.written ∙ further_text passed chains c.requires.begins.behind c.requires.begins.is in
    if_ok c.add_all.result (λ u is. is ∙ added ∙ whole) c.add_all.ensures
