-- One more read, into the rest of the memory: what was read before, and what it gave, stand at the front.
use Rattle.std.proofs.Common.{◌≡◌, ℕ, ◌+◌, ◌≤◌, List, ◌++◌, length, take, drop, sym, ◌∙◌, ap, subst, Option}
use Rattle.std.proofs.Math.Seq.{take-append-add}
use Rattle.std.proofs.lemmas.List.{take-append-le, length-take-le}
use Rattle.std.specs.Io.KnownBytes.{Consumes}
use Rattle.std.proofs.KnownBytes.{Consumes-trans}
use borrow.Rule.Slice.PartMut.{put_mid}

module _ (old back : List ℕ) (done more left : ℕ) (h : done ≤ length old) (k : more ≤ length back) where
  front_grows : take (done + more) (put_mid done left old back) ≡ take done old ++ take more back
  front_grows =
      let behind = drop left (drop done old) in
      ap (λ (n : ℕ). take (n + more) (take done old ++ (back ++ behind))) (sym (length-take-le done old h))
      ∙ take-append-add (take done old) (back ++ behind) more
      ∙ ap (λ (xs : List ℕ). take done old ++ xs) (take-append-le more back behind k)

  pub reads_on : (a b c : Option (List ℕ)) → Consumes a b (take done old) → Consumes b c (take more back)
      → Consumes a c (take (done + more) (put_mid done left old back))
  reads_on a b c x y = subst (Consumes a c) (sym front_grows) (Consumes-trans a b c _ _ x y)
