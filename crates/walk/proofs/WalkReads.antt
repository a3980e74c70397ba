-- Walking from the first byte of an accepted file finds its rows: over a valid forest, the walk comes to the k-th leaf, or
-- passes them all and goes on behind the forest. And walks go on: a walk for i + j leaves is one for i leaves and then one
-- for j from the label that it came to.
use Prim.Native.Nat.{ℕ, zero, suc, ◌+◌, ◌≤◌, ◌<◌}
use native.Mathlib.Nat.{add-zero, suc-add, zero-add}
use native.Mathlib.Numerals.{add-one}
use native.Mathlib.Omega.{arith}
use mathlib.Core.Path.{◌≡◌, refl, ◌∙◌, sym, ap, ap₂, subst}
use mathlib.Core.Bool.{Bool, true, false}
use mathlib.Core.List.{List, [], ◌∷◌, ◌++◌, append-nil}
use Rattle.std.specs.Prelude.{Option, None, Some}
use lib.ListN.{length, drop, length-drop}
use lib.Seq.{drop-drop}
use Rattle.answer.specs.Outcome.{Outcome, answer, refuse, and_then, mapped}
use Rattle.answer.specs.Nth.{nth}
use Rattle.answer.specs.Address.{without_depth}
use Rattle.answer.specs.declared.Shown.{Shown}
use Rattle.std.specs.Prelude.{None}
use Rattle.answer.proofs.Outcomes.{answer_is_no_refusal, answer_injective, and_then_agrees_where}
use Rattle.label.specs.declared.Versions.{Versions}
use Rattle.label.specs.declared.Label.{Label}
use Rattle.sfdu.specs.Row.{Row, whole}
use Rattle.sfdu.specs.Forest.{Forest, done, leaf, group, encode, IsLabel, Valid, leaves}
use Rattle.sfdu.specs.Scan.{scan}
use Rattle.walk.specs.declared.Leaf.{Leaf}
use Rattle.walk.specs.Walk.{row_at_leaf, step_at, on_step, walk}
use Rattle.sfdu.proofs.Steps.{taken}
use Rattle.sfdu.proofs.Forests.{three, after, front_length, front_is_an_object, front_drop, front_rest}
use Rattle.walk.proofs.Walking.{LeafStep, step_is_a_leaf, step_opened, step_leaf, walk_ends, walk_opened, walk_arrives, walk_leaf}
use Rattle.sfdu.proofs.Exact.{forest_of_file, accepted_divides}

-- a row as a walk knows it
abbrev pub as_walked : Row → Shown
as_walked r = without_depth (whole r)

-- the k-th of some rows, or what comes after them
abbrev pub nth_or : List Row → ℕ → (ℕ → Outcome Shown) → Outcome Shown
nth_or [] k rest = rest k
nth_or (r ∷ rs) zero rest = answer (as_walked r)
nth_or (r ∷ rs) (suc k) rest = nth_or rs k rest

nth_or_append : (rs more : List Row) (k : ℕ) (rest : ℕ → Outcome Shown) → nth_or (rs ++ more) k rest ≡ nth_or rs k (λ j. nth_or more j rest)
nth_or_append [] more k rest = refl
nth_or_append (r ∷ rs) more zero rest = refl
nth_or_append (r ∷ rs) more (suc k) rest = nth_or_append rs more k rest

-- past the last row there is None
pub nth_or_none : (rs : List Row) (k : ℕ) → nth_or rs k (λ j. refuse 6 0) ≡ mapped as_walked (nth rs k)
nth_or_none [] k = refl
nth_or_none (r ∷ rs) zero = refl
nth_or_none (r ∷ rs) (suc k) = nth_or_none rs k

nth_or_agrees : (rs : List Row) (k : ℕ) (f g : ℕ → Outcome Shown) → ((j : ℕ) → f j ≡ g j) → nth_or rs k f ≡ nth_or rs k g
nth_or_agrees [] k f g h = h k
nth_or_agrees (r ∷ rs) zero f g h = refl
nth_or_agrees (r ∷ rs) (suc k) f g h = nth_or_agrees rs k f g h

-- one step of a walk for i + j leaves, where what follows the step resumes
resume_step : (o : Outcome (Option Label)) (at i j : ℕ) (go : ℕ → ℕ → Outcome Leaf) (on : Leaf → Outcome Leaf)
    → ((m n : ℕ) → go (m + j) n ≡ and_then (go m n) on)
    → ((l : Label) → on_step at j o go ≡ on (record { place = at; label = l }))
    → on_step at (i + j) o go ≡ and_then (on_step at i o go) on
resume_step (refuse n p) at i j go on further here = refl
resume_step (answer None) at i j go on further here = further i 19
resume_step (answer (Some l)) at zero j go on further here = ap (λ (k : ℕ). on_step at k (answer (Some l)) go) (zero-add j) ∙ here l
resume_step (answer (Some l)) at (suc i) j go on further here =
    ap (λ (k : ℕ). on_step at k (answer (Some l)) go) (suc-add i j) ∙ further i (19 + l.length)

tail_of_drop : (f : List ℕ) (at b : ℕ) (bs : List ℕ) → b ∷ bs ≡ drop at f → bs ≡ drop (suc at) f
tail_of_drop f at b bs e = ap (drop 1) e ∙ drop-drop 1 at f ∙ ap (λ (k : ℕ). drop k f) (add-one at)

-- the place behind a leaf, where the walk for the next one sets out
abbrev pub behind : Leaf → ℕ
behind x = x.place + 20 + x.label.length

-- which versions of the label are allowed
module _ (versions : Versions) where
  -- the row that a walk comes to
  abbrev pub walked_row : ℕ → ℕ → List ℕ → Outcome Shown
  walked_row at k s = and_then (walk versions at k 0 s) row_at_leaf

  -- a label and its value at the front, as the walk takes them
  module _ (label value t : List ℕ) (at : ℕ) where
    some_bytes : (opened : Bool) → IsLabel versions label opened (length value) → 0 < length (label ++ (value ++ t))
    some_bytes opened is = omega (arith, front_length versions label value t opened is)

    takes_the_leaf : (is : IsLabel versions label false (length value)) → step_at versions (label ++ (value ++ t)) ≡ answer (Some is.label)
    takes_the_leaf is =
        let object_is = taken versions (label ++ (value ++ t)) is.label (front_is_an_object versions label value t false is) in
        step_leaf versions (label ++ (value ++ t)) is.label object_is.reads is.class object_is.fits

    over_a_leaf : (is : IsLabel versions label false (length value)) (k : ℕ) (row : Row) → row.label ≡ at → row.size ≡ length value
        → walked_row at k (label ++ (value ++ t)) ≡ nth_or (row ∷ []) k (λ j. walked_row (at + (20 + length value)) j t)
    over_a_leaf is zero row p q =
        ap (λ (o : Outcome Leaf). and_then o row_at_leaf)
        (walk_arrives versions at (label ++ (value ++ t)) (some_bytes false is) is.label (takes_the_leaf is))
        ∙ ap₂ (λ (place count : ℕ). answer (record { part = record { place = place + 20; count = count }; address = record { label = place; nesting = None } }))
        (sym p) (is.follows ∙ sym q)
    over_a_leaf is (suc k) row p q =
        ap (λ (o : Outcome Leaf). and_then o row_at_leaf)
        (walk_leaf versions at (label ++ (value ++ t)) (some_bytes false is) k is.label (takes_the_leaf is)
        ∙ ap₂ (λ (n : ℕ) (u : List ℕ). walk versions (at + (20 + n)) k 0 u) is.follows (front_rest versions label value t false is))

    into_a_group : (is : IsLabel versions label true (length value)) (k : ℕ)
        → walked_row at k (label ++ (value ++ t)) ≡ walked_row (at + 20) k (value ++ t)
    into_a_group is k =
        let object_is = taken versions (label ++ (value ++ t)) is.label (front_is_an_object versions label value t true is) in
        ap (λ (o : Outcome Leaf). and_then o row_at_leaf)
        (walk_opened versions at (label ++ (value ++ t)) (some_bytes true is) k (step_opened versions (label ++ (value ++ t)) is.label object_is.reads is.class)
        ∙ ap (walk versions (at + 20) k 0) (front_drop versions label value t true is))

  walk_over_forest : (left depth : ℕ) (outermost : ℕ → ℕ) (F : Forest) → Valid versions left F → (at k : ℕ) (t : List ℕ)
      → walked_row at k (encode F ++ t) ≡ nth_or (leaves depth outermost at F) k (λ j. walked_row (at + length (encode F)) j t)
  walk_over_forest zero depth outermost done v at k t = ap (λ (p : ℕ). walked_row p k t) (sym (add-zero at))
  walk_over_forest (suc left) depth outermost done v at k t = ap (λ (p : ℕ). walked_row p k t) (sym (add-zero at))
  walk_over_forest zero depth outermost (leaf label value rest) v at k t = absurd v
  walk_over_forest zero depth outermost (group label inside rest) v at k t = absurd v
  walk_over_forest (suc left) depth outermost (leaf label value rest) v at k t =
      let row : Row = record { label = at; size = length value; depth = depth; outermost = outermost at } in
      let next = at + (20 + length value) in
      ap (walked_row at k) (three label value (encode rest) t)
      ∙ over_a_leaf label value (encode rest ++ t) at v.0 k row refl refl
      ∙ nth_or_agrees (row ∷ []) k (λ j. walked_row next j (encode rest ++ t))
      (λ j. nth_or (leaves depth outermost next rest) j (λ i. walked_row (next + length (encode rest)) i t))
      (λ j. walk_over_forest (suc left) depth outermost rest v.1 next j t)
      ∙ sym (nth_or_append (row ∷ []) (leaves depth outermost next rest) k (λ i. walked_row (next + length (encode rest)) i t))
      ∙ ap (λ (p : ℕ). nth_or (row ∷ leaves depth outermost next rest) k (λ i. walked_row p i t)) (after at label value (encode rest) v.0.twenty)
  walk_over_forest (suc left) depth outermost (group label inside rest) v at k t =
      let inner = leaves (suc depth) (λ _. outermost at) (at + 20) inside in
      let next = at + (20 + length (encode inside)) in
      ap (walked_row at k) (three label (encode inside) (encode rest) t)
      ∙ into_a_group label (encode inside) (encode rest ++ t) at v.0 k
      ∙ walk_over_forest left (suc depth) (λ _. outermost at) inside v.1 (at + 20) k (encode rest ++ t)
      ∙ nth_or_agrees inner k (λ j. walked_row (at + 20 + length (encode inside)) j (encode rest ++ t))
      (λ j. nth_or (leaves depth outermost next rest) j (λ i. walked_row (next + length (encode rest)) i t))
      (λ j. ap (λ (p : ℕ). walked_row p j (encode rest ++ t)) {x = at + 20 + length (encode inside)} {y = next} (omega arith)
      ∙ walk_over_forest (suc left) depth outermost rest v.2 next j t)
      ∙ sym (nth_or_append inner (leaves depth outermost next rest) k (λ i. walked_row (next + length (encode rest)) i t))
      ∙ ap (λ (p : ℕ). nth_or (inner ++ leaves depth outermost next rest) k (λ i. walked_row p i t)) (after at label (encode inside) (encode rest) v.0.twenty)

  -- the theorem: walking from the first byte of an accepted file finds row k, or meets the end
  pub walk_reads_rows : (f : List ℕ) (rows : List Row) → scan versions f ≡ answer rows → (k : ℕ) → walked_row 0 k f ≡ mapped as_walked (nth rows k)
  walk_reads_rows f rows e k =
      let d = accepted_divides versions f rows e in
      let F = forest_of_file versions f in
      ap (walked_row 0 k) (sym (append-nil f) ∙ ap (λ (s : List ℕ). s ++ []) (sym d.bytes))
      ∙ walk_over_forest 8 1 (λ at. at) F d.valid 0 k []
      ∙ nth_or_agrees (leaves 1 (λ at. at) 0 F) k (λ j. walked_row (0 + length (encode F)) j []) (λ j. refuse 6 0)
      (λ j. ap (λ (o : Outcome Leaf). and_then o row_at_leaf) (walk_ends versions (0 + length (encode F)) j 0))
      ∙ nth_or_none (leaves 1 (λ at. at) 0 F) k
      ∙ ap (λ (rs : List Row). mapped as_walked (nth rs k)) d.rows_are

  -- ---- going on from a leaf that was found

  -- a walk of the bytes of f from place `at` on
  abbrev pub walk_at : List ℕ → ℕ → ℕ → Outcome Leaf
  walk_at f at k = walk versions at k 0 (drop at f)

  resume_passed : (f s : List ℕ) (at i j passed : ℕ) → s ≡ drop at f
      → walk versions at (i + j) passed s ≡ and_then (walk versions at i passed s) (λ leaf. walk_at f leaf.place j)
  unfolding walk
  resume_passed f [] at i j passed e = refl
  resume_passed f (b ∷ bs) at i j (suc passed) e = resume_passed f bs (suc at) i j passed (tail_of_drop f at b bs e)
  resume_passed f (b ∷ bs) at i j zero e =
      resume_step (step_at versions (b ∷ bs)) at i j (λ k n. walk versions (suc at) k n bs) (λ leaf. walk_at f leaf.place j)
      (λ m n. resume_passed f bs (suc at) m j n (tail_of_drop f at b bs e)) (λ l. ap (walk versions at j 0) e)

  -- the law: a walk for i + j leaves is one for i leaves, and then one for j from the label that it came to
  pub resume : (f : List ℕ) (at i j : ℕ) → walk_at f at (i + j) ≡ and_then (walk_at f at i) (λ leaf. walk_at f leaf.place j)
  resume f at i j = resume_passed f (drop at f) at i j 0 refl

  -- ---- what stands where a walk ends

  found_step : (f : List ℕ) (o : Outcome (Option Label)) (at k : ℕ) (go : ℕ → ℕ → Outcome Leaf) (found : Leaf) → step_at versions (drop at f) ≡ o
      → on_step at k o go ≡ answer found → ((m n : ℕ) → go m n ≡ answer found → step_at versions (drop found.place f) ≡ answer (Some found.label))
      → step_at versions (drop found.place f) ≡ answer (Some found.label)
  found_step f (refuse n p) at k go found here e further = absurd (answer_is_no_refusal (sym e))
  found_step f (answer None) at k go found here e further = further k 19 e
  found_step f (answer (Some l)) at zero go found here e further =
      subst (λ (x : Leaf). step_at versions (drop x.place f) ≡ answer (Some x.label)) (answer_injective e) here
  found_step f (answer (Some l)) at (suc k) go found here e further = further k (19 + l.length) e

  found_passed : (f s : List ℕ) (at k passed : ℕ) (found : Leaf) → s ≡ drop at f → walk versions at k passed s ≡ answer found
      → step_at versions (drop found.place f) ≡ answer (Some found.label)
  unfolding walk
  found_passed f [] at k passed found e w = absurd (answer_is_no_refusal (sym w))
  found_passed f (b ∷ bs) at k (suc passed) found e w = found_passed f bs (suc at) k passed found (tail_of_drop f at b bs e) w
  found_passed f (b ∷ bs) at k zero found e w =
      found_step f (step_at versions (b ∷ bs)) at k (λ m n. walk versions (suc at) m n bs) found (ap (step_at versions) (sym e)) w
      (λ m n v. found_passed f bs (suc at) m n found (tail_of_drop f at b bs e) v)

  -- a leaf stands where a walk ends, and its value ends inside the file
  pub a_leaf_is_found : (f : List ℕ) (at k : ℕ) (found : Leaf) → walk_at f at k ≡ answer found → LeafStep versions (drop found.place f) found.label
  a_leaf_is_found f at k found w = step_is_a_leaf versions (drop found.place f) found.label (found_passed f (drop at f) at k 0 found refl w)

  pub found_ends_inside : (f : List ℕ) (at k : ℕ) (found : Leaf) → walk_at f at k ≡ answer found
      → found.place + 20 + found.label.length ≤ length f
  found_ends_inside f at k found w =
      let h = a_leaf_is_found f at k found w in omega (arith, length-drop found.place f, h.long, h.fits)

  -- the law of going row after row: the leaf after one that was found is the first from behind it
  pub next_leaf : (f : List ℕ) (at k : ℕ) → walk_at f at (k + 1) ≡ and_then (walk_at f at k) (λ x. walk_at f (behind x) 0)
  next_leaf f at k =
      resume f at k 1 ∙ and_then_agrees_where (walk_at f at k) (λ x. walk_at f x.place 1) (λ x. walk_at f (behind x) 0)
      (λ x e.
      let h = a_leaf_is_found f at k x e in
      walk_leaf versions x.place (drop x.place f) (omega (arith, h.long)) 0 x.label (step_leaf versions (drop x.place f) x.label h.reads h.closed h.fits)
      ∙ ap₂ (λ (p : ℕ) (t : List ℕ). walk versions p 0 0 t) (same x)
      (drop-drop (20 + x.label.length) x.place f ∙ ap (λ (p : ℕ). drop p f) (same x)))
    where
      same : (x : Leaf) → x.place + (20 + x.label.length) ≡ behind x
      same x = omega arith
