use Rattle.std.proofs.Common.{◌∷◌, [], refl, sym, ap, arith}
use Rattle.std.specs.Prelude.{codes}
use Rattle.evidence_verify.specs.declared.verdict.Verdict.TheVariants.{Valid, Syntax, BadStamp, MixedHash, OutOfOrder, NotCovered, NotWhole}
use Rattle.session_text.specs.Verdicts.{numbered}
use Rattle.session_text.proofs.Adding.{then, plain, spaced_words}
use Rattle.session_text.proofs.verdict_text.add_verdict.Goals as goal

pub returns-in-Valid : goal.returns-in-Valid
returns-in-Valid c = rw c.in-Valid.is (plain Valid _ _ _ _ _ (refl, refl) refl (omega arith) c.add_words.ensures)

pub returns-in_ok-add_words-in-Syntax : goal.returns-in_ok-add_words-in-Syntax
returns-in_ok-add_words-in-Syntax c =
    let most = c.syntax_kind_name.ensures.most in
    let front = then _ _ _ _ _ _ _ _ _ c.in_ok-add_numbered-in-Syntax.ensures c.in_ok-add_words-in-Syntax.ensures in
    let whole = then _ _ _ _ _ _ _ _ _ front c.add_words-in-Syntax-2.ensures in
    rw c.in-Syntax.is
    (plain (Syntax c.in-Syntax.place c.in-Syntax.kind) _ _ _ _ _ (refl, refl) (spaced_words (numbered (codes "syntax") (c.in-Syntax.place ∷ [])) _ _ c.syntax_kind_name.ensures.name) (omega arith) whole)

pub returns-in_ok-add_words-in-BadStamp : goal.returns-in_ok-add_words-in-BadStamp
returns-in_ok-add_words-in-BadStamp c =
    let front = then _ _ _ _ _ _ _ _ _ c.in_ok-add_of_stamp-in-BadStamp.ensures c.in_ok-add_words-in-BadStamp.ensures in
    let whole = then _ _ _ _ _ _ _ _ _ front c.add_check.ensures in
    rw c.in-BadStamp.is
    (plain (BadStamp c.in-BadStamp.chain c.in-BadStamp.stamp c.in-BadStamp.check) _ _ _ _ _ (refl, refl) (spaced_words (numbered (codes "stamp") (c.in-BadStamp.chain ∷ c.in-BadStamp.stamp ∷ [])) _ _ refl) (omega arith) whole)

pub returns-in-MixedHash : goal.returns-in-MixedHash
returns-in-MixedHash c =
    rw c.in-MixedHash.is (plain (MixedHash c.in-MixedHash.chain c.in-MixedHash.stamp) _ _ _ _ _ (refl, refl) refl (omega arith) c.add_of_stamp-in-MixedHash.ensures)

pub returns-in-OutOfOrder : goal.returns-in-OutOfOrder
returns-in-OutOfOrder c =
    rw c.in-OutOfOrder.is (plain (OutOfOrder c.in-OutOfOrder.chain c.in-OutOfOrder.stamp) _ _ _ _ _ (refl, refl) refl (omega arith) c.add_of_stamp-in-OutOfOrder.ensures)

pub returns-in-NotCovered : goal.returns-in-NotCovered
returns-in-NotCovered c =
    rw c.in-NotCovered.is (plain (NotCovered c.in-NotCovered.chain c.in-NotCovered.stamp c.in-NotCovered.document) _ _ _ _ _ (refl, refl) refl (omega arith) c.add_uncovered.ensures)

pub returns-in-NotWhole : goal.returns-in-NotWhole
returns-in-NotWhole c =
    rw c.in-NotWhole.is
    (plain (NotWhole c.in-NotWhole.chain) _ _ _ _ _ (refl, refl) (ap (λ n. numbered (codes "notwhole") (n ∷ [])) (sym c.from.ensures)) (omega arith) c.add_numbered-in-NotWhole.ensures)
