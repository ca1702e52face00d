-- More input changes nothing: bytes past the longest good file are refused, and by the same number.
-- Assumes nothing.
use mathlib.Core.Path.{refl, sym, ◌∙◌, ap}
use native.Mathlib.Omega.{arith}
use lib.ListN.{length-append}
use mathlib.Core.List.{◌++◌}
use Rattle.text.specs.Text.{refusal}
use Rattle.file_parts.proofs.More.{too_long_refused, more_fault}
use Rattle.area_listing.specs.MoreInput.{MoreInput}
use Rattle.area_listing.proofs.Printed.{file_refused}

pub more_input : MoreInput
more_input bytes more e =
    file_refused (bytes ++ more) refl (too_long_refused (bytes ++ more) (omega (arith, length-append bytes more)))
    ∙ ap refusal (more_fault bytes more e) ∙ sym (file_refused bytes refl (too_long_refused bytes (omega arith)))
