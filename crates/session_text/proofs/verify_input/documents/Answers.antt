use Rattle.std.proofs.Common.{◌≡◌, ◌<◌, ◌∷◌, [], ◌++◌, List, ℕ, length, ap, ◌∙◌, arith}
use Rattle.session_text.proofs.DocumentLoop.{start, more, ends, refused}
use Rattle.session_text.proofs.verify_input.documents.Goals as goal

pub loop-alloc-init : goal.loop-alloc-init
loop-alloc-init c =
    let one : length c.push.new.self.items ≡ 1 = grind arith in
    (start c.document.new.text c.push.new.self.items one, omega arith)

pub returns-in_err-further-clause-fault : goal.returns-in_err-further-clause-fault
returns-in_err-further-clause-fault c =
    refused c.args.text.now c.document.new.text c.in_ok-first.first _ c.loop-alloc.documents.items c.loop-alloc.text c.from_residual-in_err-further.result _ c.in_ok-first.ensures.ok (c.in_ok-push.ensures.items ∙ ap (λ (l : List (List ℕ)). l ++ c.in_ok-first.first ∷ []) c.new-documents.ensures.items)
    c.loop-alloc.invariant.0 (grind arith) (cc) c.from_residual-in_err-further.ensures.1 c.in_err-further.ensures.fault

pub loop-alloc-preserved : goal.loop-alloc-preserved
loop-alloc-preserved c =
    let few : length c.loop-alloc.documents.items < 64 = grind arith in
    let items : c.push-in-loop-alloc.new.self.items ≡ c.loop-alloc.documents.items ++ c.in_ok-further.further ∷ [] = c.in_ok-push-2.ensures.items in
    (rw items (more c.document.new.text c.push.new.self.items c.loop-alloc.documents.items c.loop-alloc.text c.in_ok-further.further c.document-in-loop-alloc.new.text c.loop-alloc.invariant.0 few (cc) c.in_ok-further.ensures.ok), grind arith)

pub returns-clause-ok : goal.returns-clause-ok
returns-clause-ok c =
    rw c.from_vec.ensures (ends c.args.text.now c.document.new.text c.in_ok-first.first _ c.loop-alloc.documents.items c.loop-alloc.text c.in_ok-first.ensures.ok (c.in_ok-push.ensures.items ∙ ap (λ (l : List (List ℕ)). l ++ c.in_ok-first.first ∷ []) c.new-documents.ensures.items) c.loop-alloc.invariant.0 (cc))
