use Rattle.std.proofs.Common.{List, map, ap, refl, sym, ◌∙◌}
use Rattle.evidence_tool.specs.Served.{no_requests}
use Rattle.evidence_tool.specs.Inside.{asked}
use Rattle.evidence_tool.specs.declared.request.Request.{Request}
use Rattle.evidence_tool.proofs.ServingLemmas.{input_of, served_as, no_input_of, no_memory_here}
use Rattle.evidence_tool.proofs.serving.serve_input.Goals as goal

pub returns-in-Ok-read_requests-clause-serve : goal.returns-in-Ok-read_requests-clause-serve
returns-in-Ok-read_requests-clause-serve g c =
    served_as _ _ _ _ _ (map asked c.in-Ok-read_requests.requests.items) (map asked c.deref-in-Ok-read_requests.result.now) _
    (ap (λ (rs : List Request). map asked rs) c.deref-in-Ok-read_requests.ensures.value)
    c.in-Ok.ensures.end
    (input_of _ _ c.in-Ok.bytes.items c.deref.result.now _ c.in-Ok.ensures.whole c.in-Ok.ensures.end c.in-Ok.ensures.short c.deref.ensures.value c.in-Ok-read_requests.ensures.ok)
    c.serve_requests.ensures.serving

pub returns-in-Err-Shape-clause-serve : goal.returns-in-Err-Shape-clause-serve
returns-in-Err-Shape-clause-serve g c =
    no_requests refl c.in-Ok.ensures.end c.in-Ok.ensures.fits
    (no_input_of _ _ c.in-Ok.bytes.items c.deref.result.now c.in-Ok.ensures.whole c.in-Ok.ensures.end c.deref.ensures.value
    (λ qs are. no_memory_here (sym c.in-Err-Shape.field-0-is ∙ c.in-Err-Shape.ensures.only qs are)))
    (record { sink = refl; disk = refl })
