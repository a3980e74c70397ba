-- Byte 4 and the choice of versions: as which version a label is read.
use Prim.Native.Nat.{ℕ}
use mathlib.Core.Path.{◌≡◌, refl, ap}
use mathlib.Core.Bool.{Bool, true, false, ◌&&◌, and-false}
use mathlib.Core.List.{List}
use lib.ListN.{get_or}
use lib.Dec.{eqb}
use native.Mathlib.Omega.{arith}
use borrow.Author.Tests.{eq-eqb, ne_eqb, eqb-true}
use Rattle.answer.proofs.Tests.{both_hold}
use Rattle.label.specs.declared.Version.{Version}
use Rattle.label.specs.declared.Version.TheVariants.{One, Two}
use Rattle.label.specs.declared.Versions.{Versions}
use Rattle.label.specs.declared.Versions.TheVariants as choice
use Rattle.label.specs.Version.{version_byte, allows, two_if, version_for}
use Rattle.label.specs.Head.{four_at, is_agency, is_form, is_description, head_good}

-- told both, a label is read as version 2 where byte 4 says so; where it does not, as version 1, whatever is allowed
pub says_two : (byte : ℕ) → byte ≡ 50 → version_for choice.OneAndTwo byte ≡ Two
says_two byte h = ap (λ (t : Bool). two_if (t && true)) (eq-eqb byte 50 h)

pub says_not_two : (versions : Versions) (byte : ℕ) → (byte ≡ 50 → ⊥) → version_for versions byte ≡ One
says_not_two versions byte h = ap (λ (t : Bool). two_if (t && allows versions Two)) (ne_eqb byte 50 h)

-- told version 1 only, it is read as version 1 whatever byte 4 says
pub only_one : (byte : ℕ) → version_for choice.One byte ≡ One
only_one byte = ap two_if (and-false (eqb byte 50))

-- a label is read as a version that is allowed
pub version_for_is_allowed : (versions : Versions) (byte : ℕ) → allows versions (version_for versions byte) ≡ true
version_for_is_allowed choice.One byte = ap (allows choice.One) (only_one byte)
version_for_is_allowed choice.OneAndTwo byte = either (eqb byte 50)
  where
    either : (t : Bool) → allows choice.OneAndTwo (two_if (t && true)) ≡ true
    either true = refl
    either false = refl

-- and one that is allowed is read as what its byte 4 says
pub allowed_is_read : (versions : Versions) (version : Version) → allows versions version ≡ true → version_for versions (version_byte version) ≡ version
allowed_is_read choice.One One e = refl
allowed_is_read choice.OneAndTwo One e = refl
allowed_is_read choice.OneAndTwo Two e = refl
allowed_is_read choice.One Two e = absurd (let z : ◌≡◌ {A = ℕ} 0 1 = cc e in omega arith)

-- byte 4 of a good head is its version's
pub byte_four : (version : Version) (head : List ℕ) → head_good version head ≡ true → get_or head 4 0 ≡ version_byte version
byte_four version head good =
    let (_, rest) = both_hold (is_agency (four_at head 0)) (is_form version (four_at head 4) && is_description (four_at head 8)) good in
    let (form, _) = both_hold (is_form version (four_at head 4)) (is_description (four_at head 8)) rest in
    let (first, _) = both_hold _ _ form in
    let (byte, _) = both_hold _ _ first in
    eqb-true (get_or head 4 0) (version_byte version) byte
