-- `vax::vax_d` meets its contract: `number` answers for the nearest eighth of the bits, which is the definition's float.
use native.Mathlib.Omega.{arith}
use mathlib.Core.Path.{◌∙◌, ap}
use Rattle.std.proofs.Common.{rules, ℕ}
use Rattle.std.specs.Array.{IsFirstChunk}
use Rattle.std.specs.Float.Ieee.Nearest.{closest}
use Rattle.answer.specs.Told.{told}
use Rattle.vax.specs.Numbers.{by_exponent, vax_D}
use Rattle.vax.specs.Nearest.{NearestD}
use Rattle.vax.specs.Private.{patterned}
use Rattle.vax.proofs.Cases.{both_clauses}
use Rattle.vax.proofs.Front.{number_of, bits_of_D}
use Rattle.vax.proofs.Mantissas.{from-D}
use Rattle.vax.proofs.Nearest.{vax_D_nearest}
use Rattle.vax.proofs.vax_d.Goals as goal

pub returns : goal.returns
returns c =
    let s = c.args.bytes.now in
    let eight = c.in_ok-eight.eight.now in
    let front : IsFirstChunk s eight 8 = search rules in
    let b = c.bits_d.result in
    let bits = bits_of_D 8 s eight front (omega arith) b c.bits_d.ensures in
    let both = both_clauses (NearestD s) (vax_D s) (vax_D_nearest s bits.1.1) (told c.number.result)
    (c.number.ensures
    ∙ ap (λ (q : ℕ). by_exponent (patterned q eight) eight) c.nearest_eighth.ensures.0
    ∙ number_of 8 s eight front (omega arith) (closest b 8)
    ∙ from-D s b bits.0 bits.1 front.enough) in
    record { answers = both.0; nearest = both.1 }
