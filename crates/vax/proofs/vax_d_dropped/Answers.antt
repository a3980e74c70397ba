-- `vax::vax_d_dropped` meets its contract: `number` answers for the bits less three, which is the definition's float.
use native.Mathlib.Omega.{arith}
use mathlib.Core.Path.{◌∙◌, ap}
use Rattle.std.proofs.Common.{rules, ℕ, ◌/◌}
use Rattle.std.specs.Array.{IsFirstChunk}
use Rattle.answer.specs.Told.{told}
use Rattle.vax.specs.Numbers.{by_exponent, vax_D_dropped}
use Rattle.vax.specs.Private.{patterned}
use Rattle.vax.specs.Exact.{ExactDroppedD}
use Rattle.vax.proofs.Cases.{both_clauses}
use Rattle.vax.proofs.Front.{number_of, bits_of_D}
use Rattle.vax.proofs.Mantissas.{from-D-dropped}
use Rattle.vax.proofs.Exact.{vax_D_dropped_exact}
use Rattle.vax.proofs.vax_d_dropped.Goals as goal

pub returns : goal.returns
returns c =
    let s = c.args.bytes.now in
    let eight = c.in_ok-eight.eight.now in
    let front : IsFirstChunk s eight 8 = search rules in
    let b = c.bits_d.result in
    let bits = bits_of_D 8 s eight front (omega arith) b c.bits_d.ensures in
    let both = both_clauses (ExactDroppedD s) (vax_D_dropped s) (vax_D_dropped_exact s) (told c.number.result)
    (c.number.ensures
    ∙ ap (λ (q : ℕ). by_exponent (patterned q eight) eight) c.dropped_eighth.ensures
    ∙ number_of 8 s eight front (omega arith) (b / 8)
    ∙ from-D-dropped s b bits.0 bits.1 front.enough) in
    record { answers = both.0; exact = both.1 }
