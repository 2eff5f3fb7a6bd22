use Rattle.std.proofs.Common.{List, length}
use Rattle.der_values.specs.Shape.{tagged}
use Rattle.der_values.proofs.Loop.{ReadSoFar}
use Rattle.cms_signed.specs.declared.fault.CmsFault.TheVariants.{Der}
use Rattle.cms_signed.specs.Inside.{state_of, attribute_in, each_attribute}
use Rattle.cms_signed.proofs.attributes.all_attributes.Given as goal

abbrev pub invariant-loop-reader : goal.invariant-loop-reader
invariant-loop-reader l = (vs : List (Unit {0})) × ReadSoFar Der (tagged 0x30) attribute_in (each_attribute l.fn.reader) (λ p. tt) vs (state_of l.found) l.reader

abbrev pub decreases-loop-reader : goal.decreases-loop-reader
decreases-loop-reader l = length l.reader.left
