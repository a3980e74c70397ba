-- The nested search, in its loop's own terms. `Sofar` is the loop's invariant: what is seen is what was seen before and the rows of
-- what was passed, and the scan of the whole part is the scan of what is left with those rows found. Each arm of the loop is one law.
use Prim.Native.Nat.{ℕ, zero, suc, ◌+◌, ◌-◌, ◌≤◌, ◌<◌}
use native.Mathlib.Nat.{not-suc-le-zero}
use native.Mathlib.Omega.{arith}
use mathlib.Core.Path.{◌≡◌, refl, ◌∙◌, sym, ap, ap₂, subst}
use mathlib.Core.Bool.{Bool, true, false}
use mathlib.Core.List.{List, [], ◌∷◌, ◌++◌}
use lib.ListN.{length, take, drop, length-drop, drop_of_length-le}
use lib.Seq.{drop-drop, length-take-le}
use lib.Dec.{eqb}
use Rattle.answer.specs.Outcome.{Outcome, answer, refuse, and_then, mapped}
use Rattle.answer.proofs.Outcomes.{answer_injective, answer_is_no_refusal, refused_first, mapped_answer}
use Rattle.label.specs.declared.Versions.{Versions}
use Rattle.label.specs.declared.Label.{Label}
use Rattle.sfdu.specs.Row.{Row}
use Rattle.sfdu.specs.Scan.{Inside, object, rows_of, level, objects}
use Rattle.sfdu.specs.Search.{MarkedBy, see_row, see_all}
use Rattle.sfdu.specs.Private.{ObjectAt, Searched}
use Rattle.sfdu.specs.declared.Seen.{Seen}
use Rattle.sfdu.proofs.Steps.{at_the_end, bad_object, one_object}
use Rattle.sfdu.proofs.Seeing.{marked_later, marked_either, seen_in_turn}

-- which versions of the label are allowed
module _ (versions : Versions) where
  -- how the values of opened objects at this depth are scanned
  abbrev pub inner : ℕ → ℕ → Inside
  inner left depth = λ top place value. objects versions left (suc depth) (λ _. top) place value

  -- with a depth left, a scan goes through the objects side by side
  pub objects_are_a_level : (left depth : ℕ) (outermost : ℕ → ℕ) (at : ℕ) (s : List ℕ) → 0 < left
      → objects versions left depth outermost at s ≡ level versions (inner (left - 1) depth) depth outermost at [] 0 s
  unfolding objects
  objects_are_a_level zero depth outermost at s h = absurd (not-suc-le-zero h)
  objects_are_a_level (suc left) depth outermost at s h =
      ap (λ (k : ℕ). level versions (inner k depth) depth outermost at [] 0 s) one_less
    where
      one_less : left ≡ suc left - 1
      one_less = omega arith

  -- no bytes, no rows
  pub nothing_to_scan : (left depth : ℕ) (outermost : ℕ → ℕ) (at : ℕ) → objects versions left depth outermost at [] ≡ answer []
  unfolding objects level
  nothing_to_scan zero depth outermost at = refl
  nothing_to_scan (suc left) depth outermost at = refl

  pub too_deep : (depth : ℕ) (outermost : ℕ → ℕ) (at : ℕ) (s : List ℕ) → 0 < length s → objects versions 0 depth outermost at s ≡ refuse 5 at
  unfolding objects
  too_deep depth outermost at [] h = absurd (not-suc-le-zero h)
  too_deep depth outermost at (b ∷ bs) h = refl

  -- the part stands at depth 9 - left; what is inside its objects stands one deeper
  module _ (part : List ℕ) (base left : ℕ) (outermost : ℕ → ℕ) (k : ℕ) (earlier : Seen) where
    abbrev siblings : ℕ → List Row → List ℕ → Outcome (List Row)
    siblings at found s = level versions (inner (left - 1) (9 - left)) (9 - left) outermost at found 0 s

    abbrev all : Outcome (List Row)
    all = objects versions left (9 - left) outermost base part

    pub record Sofar (at : ℕ) (seen : Seen) : Type 0 where
      pub within : at ≤ length part
      pub few : seen.rows ≤ base + at
      pub low : MarkedBy (base + at) seen.mark
      pub found : List Row
      pub scanned : all ≡ siblings (base + at) found (drop at part)
      pub sees : seen ≡ see_all k earlier found

    -- a search that met a fault
    fault_met : {n p : ℕ} → all ≡ refuse n p → Searched versions part base left outermost k earlier (refuse n p)
    fault_met e = record {
      sees = sym (ap (mapped (see_all k earlier)) e);
      few = λ s z. absurd (answer_is_no_refusal (sym z));
    }

    -- a search that came to the end
    end_met : (found : List Row) (seen : Seen) → all ≡ answer found → seen ≡ see_all k earlier found
        → (seen.rows ≤ base + length part) × MarkedBy (base + length part) seen.mark
        → Searched versions part base left outermost k earlier (answer seen)
    end_met found seen e is few = record {
      sees = ap answer is ∙ sym (ap (mapped (see_all k earlier)) e);
      few = λ s z. subst (λ (t : Seen). (t.rows ≤ base + length part) × MarkedBy (base + length part) t.mark) (answer_injective z) few;
    }

    pub starts : 0 < left → earlier.rows ≤ base → MarkedBy base earlier.mark → Sofar 0 earlier
    starts h few low = record {
      within = omega arith;
      few = omega arith;
      low = marked_later earlier.mark base (base + 0) (omega arith) low;
      found = [];
      scanned = objects_are_a_level left (9 - left) outermost base part h ∙ ap (λ (p : ℕ). siblings p [] part) (omega arith);
      sees = refl;
    }

    pub no_bytes : length part ≡ 0 → earlier.rows ≤ base → MarkedBy base earlier.mark → Searched versions part base left outermost k earlier (answer earlier)
    no_bytes h few low =
        end_met [] earlier (ap (objects versions left (9 - left) outermost base) (empty part h) ∙ nothing_to_scan left (9 - left) outermost base) refl (omega arith, marked_later earlier.mark base (base + length part) (omega arith) low)
      where
        empty : (s : List ℕ) → length s ≡ 0 → s ≡ []
        empty [] e = refl
        empty (b ∷ bs) e = absurd (omega arith)

    pub deepest : left ≡ 0 → (length part ≡ 0 → ⊥) → Searched versions part base left outermost k earlier (refuse 5 base)
    deepest none some =
        fault_met (ap (λ (j : ℕ). objects versions j (9 - left) outermost base part) none ∙ too_deep (9 - left) outermost base part (omega arith))

    module _ (at : ℕ) (seen : Seen) (sofar : Sofar at seen) where
      pub ends : length part ≤ at → Searched versions part base left outermost k earlier (answer seen)
      ends h =
          end_met sofar.found seen
          (sofar.scanned ∙ ap (siblings (base + at) sofar.found) (drop_of_length-le part h)
          ∙ at_the_end versions (inner (left - 1) (9 - left)) (9 - left) outermost (base + at) sofar.found 0)
          sofar.sees (omega (arith, sofar.few, sofar.within), marked_later seen.mark (base + at) (base + length part) (omega (arith, sofar.within)) sofar.low)

      module _ (more : at < length part) where
        left_over : 0 < length (drop at part)
        left_over = omega (arith, length-drop at part)

        pub faulty : (n p : ℕ) → object versions (drop at part) ≡ refuse n p → Searched versions part base left outermost k earlier (refuse n (base + at))
        faulty n p e =
            fault_met (sofar.scanned
            ∙ bad_object versions (inner (left - 1) (9 - left)) (9 - left) outermost (base + at) sofar.found (drop at part) left_over n p e)

        module _ (opened : Bool) (end : ℕ) (o : ObjectAt versions part at opened end) where
          l : Label
          l = o.label

          -- the value as the code cuts it
          abbrev value : List ℕ
          value = take (end - (at + 20)) (drop (at + 20) part)

          value_is : take l.length (drop 20 (drop at part)) ≡ value
          unfolding l
          value_is = ap₂ take size (drop-drop 20 at part)
            where
              size : o.label.length ≡ end - (at + 20)
              size = omega (arith, o.ends)

          value_size : length value ≡ end - (at + 20)
          value_size = length-take-le (end - (at + 20)) (drop (at + 20) part) (omega (arith, o.inside, length-drop (at + 20) part))

          -- what follows the object, once its rows are known
          abbrev after : List Row → List Row → Outcome (List Row)
          after found rs = siblings (base + end) (found ++ rs) (drop end part)

          goes_on : (found : List Row)
              → siblings (base + at) found (drop at part)
              ≡ and_then (rows_of (inner (left - 1) (9 - left)) (9 - left) (outermost (base + at)) (base + at) opened l.length value) (after found)
          unfolding l
          goes_on found =
              one_object versions (inner (left - 1) (9 - left)) (9 - left) outermost (base + at) found (drop at part) left_over o.label o.is
              ∙ ap (λ (t : Bool). and_then
              (rows_of (inner (left - 1) (9 - left)) (9 - left) (outermost (base + at)) (base + at) t o.label.length (take o.label.length (drop 20 (drop at part))))
              (λ rs. siblings (base + at + (20 + o.label.length)) (found ++ rs) (drop (20 + o.label.length) (drop at part))))
              o.class
              ∙ ap₂ (λ (v : List ℕ) (f : List Row → Outcome (List Row)).
              and_then (rows_of (inner (left - 1) (9 - left)) (9 - left) (outermost (base + at)) (base + at) opened o.label.length v) f)
              value_is
              (ap₂ (λ (p : ℕ) (s : List ℕ). λ (rs : List Row). siblings p (found ++ rs) s)
              place_is (drop-drop (20 + o.label.length) at part ∙ ap (λ (j : ℕ). drop j part) end_is))
            where
              place_is : base + at + (20 + o.label.length) ≡ base + end
              place_is = omega (arith, o.ends)

              end_is : at + (20 + o.label.length) ≡ end
              end_is = omega (arith, o.ends)

        -- a leaf is one row more
        pub leaf_more : (end : ℕ) (o : ObjectAt versions part at false end) (r : Row)
            → r ≡ record { label = base + at; size = end - at - 20; depth = 9 - left; outermost = outermost (base + at) } → Sofar end (see_row k seen r)
        unfolding l
        leaf_more end o r is = record {
          within = o.inside;
          few = omega (arith, sofar.few, o.ends);
          low =
              marked_either (eqb seen.rows k) r seen.mark (base + end) (omega (arith, ap (λ (x : Row). x.label) is, o.ends))
              (marked_later seen.mark (base + at) (base + end) (omega (arith, o.ends)) sofar.low);
          found = sofar.found ++ (row ∷ []);
          scanned = sofar.scanned ∙ goes_on false end o sofar.found;
          sees =
              ap (see_row k seen) (is ∙ ap (λ (n : ℕ). record { label = base + at; size = n; depth = 9 - left; outermost = outermost (base + at) }) length_is)
              ∙ ap (λ (s : Seen). see_row k s row) sofar.sees
              ∙ sym (seen_in_turn k sofar.found (row ∷ []) earlier);
        }
          where
            row : Row
            row = record { label = base + at; size = o.label.length; depth = 9 - left; outermost = outermost (base + at) }

            length_is : end - at - 20 ≡ o.label.length
            length_is = omega (arith, o.ends)

        -- an opened object is the rows inside it more, or what is wrong there
        module _ (end top : ℕ) (o : ObjectAt versions part at true end) (top_is : top ≡ outermost (base + at)) (some : 0 < left) (most : left ≤ 8) where
          abbrev Inner : Outcome Seen → Type 0
          Inner r = Searched versions (value true end o) (base + (at + 20)) (left - 1) (λ _. top) k seen r

          inside_is : (r : Outcome (List Row))
              → objects versions (left - 1) (9 - (left - 1)) (λ _. top) (base + (at + 20)) (value true end o) ≡ r
              → all ≡ and_then r (after true end o sofar.found)
          inside_is r e =
              sofar.scanned ∙ goes_on true end o sofar.found
              ∙ ap (λ (x : Outcome (List Row)). and_then x (after true end o sofar.found))
              (ap₂ (λ (d p : ℕ). objects versions (left - 1) d (λ _. outermost (base + at)) p (value true end o)) deeper place_is
              ∙ ap (λ (u : ℕ). objects versions (left - 1) (9 - (left - 1)) (λ _. u) (base + (at + 20)) (value true end o)) (sym top_is)
              ∙ e)
            where
              deeper : suc (9 - left) ≡ 9 - (left - 1)
              deeper = omega arith

              place_is : base + at + 20 ≡ base + (at + 20)
              place_is = omega arith

          few_inside : (s : Seen) → Inner (answer s) → (s.rows ≤ base + end) × MarkedBy (base + end) s.mark
          few_inside s inner_seen =
              let (few, low) = inner_seen.few s refl in
              let size = value_size true end o in
              (omega (arith, few, size, o.ends), marked_later s.mark _ (base + end) (omega (arith, size, o.ends)) low)

          pub group_passed : (s : Seen) → Inner (answer s) → Sofar end s
          group_passed s inner_seen =
              let (rs, rows_are, is) = mapped_answer (see_all k seen) _ s (sym inner_seen.sees) in
              record {
                within = o.inside;
                few = (few_inside s inner_seen).0;
                low = (few_inside s inner_seen).1;
                found = sofar.found ++ rs;
                scanned = inside_is (answer rs) rows_are;
                sees = sym is ∙ ap (λ (t : Seen). see_all k t rs) sofar.sees ∙ sym (seen_in_turn k sofar.found rs earlier);
              }

          pub group_faulty : (n p : ℕ) → Inner (refuse n p) → Searched versions part base left outermost k earlier (refuse n p)
          group_faulty n p inner_seen = fault_met (inside_is (refuse n p) (refused_first _ (see_all k seen) (sym inner_seen.sees)))
