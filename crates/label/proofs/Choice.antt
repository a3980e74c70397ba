-- The choice of versions: told version 1 only, the reader is the old one; told both, byte 4 decides.
use Prim.Native.Nat.{ℕ}
use native.Mathlib.Omega.{arith}
use mathlib.Core.Path.{◌≡◌, ◌∙◌, sym, ap}
use mathlib.Core.Bool.{true}
use mathlib.Core.List.{List}
use lib.ListN.{length, get_or, take}
use lib.Seq.{get_or-take}
use lib.Dec.{leb}
use Rattle.answer.specs.Outcome.{answer, need}
use Rattle.label.specs.declared.Version.{Version}
use Rattle.label.specs.declared.Version.TheVariants.{One, Two}
use Rattle.label.specs.declared.Versions.{Versions}
use Rattle.label.specs.declared.Versions.TheVariants as choice
use Rattle.label.specs.Version.{version_for}
use Rattle.label.specs.declared.Label.{Label}
use Rattle.label.specs.Head.{head_good}
use Rattle.label.specs.Label.{label_as, read_label}
use Rattle.label.specs.Choice.{Choice}
use Rattle.label.proofs.ByteFour.{only_one, says_two, says_not_two, byte_four}
use Rattle.label.proofs.Read.{read_says, version_is_allowed, only_one_is_one}

module _ (s : List ℕ) where
  -- the label's bytes are read as the version that the choice gives for byte 4
  read_by : (versions : Versions) (version : Version) → version_for versions (get_or s 4 0) ≡ version
      → read_label versions s ≡ need (leb 20 (length s)) 1 (label_as version (take 20 s))
  unfolding read_label
  read_by versions version e =
      ap (λ (v : Version). need (leb 20 (length s)) 1 (label_as v (take 20 s)))
      (ap (version_for versions) (get_or-take 20 s 4 0 (omega arith)) ∙ e)

  pub the_choice : Choice s
  the_choice = record {
    old_answers = read_by choice.One One (only_one (get_or s 4 0));
    version_2 = λ h. read_by choice.OneAndTwo Two (says_two (get_or s 4 0) h);
    others = λ h. read_by choice.OneAndTwo One (says_not_two choice.OneAndTwo (get_or s 4 0) h);
  }

-- a label that was read where version 1 alone is allowed is read the same where both are
pub read_with_both : (s : List ℕ) (l : Label) → read_label choice.One s ≡ answer l → read_label choice.OneAndTwo s ≡ answer l
read_with_both s l e = (the_choice s).others not_two ∙ sym (the_choice s).old_answers ∙ e
  where
    good : head_good One (take 12 s) ≡ true
    good =
        ap (λ (v : Version). head_good v (take 12 s)) (sym (only_one_is_one l.version (version_is_allowed choice.One s l e)))
        ∙ (read_says choice.One s l e).good

    not_two : get_or s 4 0 ≡ 50 → ⊥
    not_two h = omega (arith, get_or-take 12 s 4 0 (omega arith), byte_four One (take 12 s) good)
