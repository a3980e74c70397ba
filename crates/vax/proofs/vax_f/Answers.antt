-- `vax::vax_f` meets its contract: `number` answers for the bits with 29 zeros more, which is the definition's float.
use native.Mathlib.Omega.{arith}
use mathlib.Core.Path.{◌∙◌}
use Rattle.std.proofs.Common.{rules, ◌*◌, ◌^◌}
use Rattle.std.specs.Array.{IsFirstChunk}
use Rattle.answer.specs.Told.{told}
use Rattle.vax.specs.Numbers.{vax_F}
use Rattle.vax.specs.Exact.{ExactF}
use Rattle.vax.proofs.Cases.{both_clauses}
use Rattle.vax.proofs.Front.{number_of, bits_of_F}
use Rattle.vax.proofs.Mantissas.{from-F}
use Rattle.vax.proofs.Exact.{vax_F_exact}
use Rattle.vax.proofs.vax_f.Goals as goal

pub returns : goal.returns
returns c =
    let s = c.args.bytes.now in
    let four = c.in_ok-four.four.now in
    let front : IsFirstChunk s four 4 = search rules in
    let b = c.bits_f.result in
    let bits = bits_of_F 4 s four front (omega arith) b c.bits_f.ensures in
    let both = both_clauses (ExactF s) (vax_F s) (vax_F_exact s) (told c.number.result)
    (c.number.ensures ∙ number_of 4 s four front (omega arith) (b * 2 ^ 29) ∙ from-F s b bits.0 bits.1 front.enough) in
    record { answers = both.0; exact = both.1 }
