-- A file is accepted exactly when it divides: the scan finds rows if and only if some valid forest has exactly these
-- bytes; the rows are then that forest's leaves, and it is the only one. Each half is one induction: over the forest, or
-- over the bytes with those still to be passed; depths are taken one at a time.
use Prim.Native.Nat.{ℕ, zero, suc, ◌+◌, ◌<◌}
use native.Mathlib.Nat.{not-suc-le-zero, le_of_eq, add-zero}
use native.Mathlib.Omega.{arith}
use mathlib.Core.Path.{◌≡◌, refl, ◌∙◌, sym, ap, ap₂, subst}
use mathlib.Core.Bool.{Bool, true, false}
use mathlib.Core.List.{List, [], ◌∷◌, ◌++◌, append_assoc, append-nil}
use lib.ListN.{length, take, drop, length-append, take-append-drop, length-drop}
use lib.Seq.{take_at, drop_at, length-take-le, drop-drop, drop-nil}
use Rattle.answer.specs.Outcome.{Outcome, answer, refuse, and_then}
use Rattle.answer.proofs.Outcomes.{first_answered, answer_injective, answer_is_no_refusal}
use Rattle.label.specs.declared.Versions.{Versions}
use Rattle.label.specs.declared.Label.{Label}
use Rattle.label.specs.Label.{read_label}
use Rattle.label.specs.Opened.{is_opened}
use Rattle.label.proofs.Reading.{read_depends_on_20_bytes}
use Rattle.sfdu.specs.Row.{Row}
use Rattle.sfdu.specs.Scan.{Inside, object, on_label, rows_of, level, objects}
use Rattle.sfdu.specs.Forest.{Forest, done, leaf, group, encode, IsLabel, Valid, leaves}
use Rattle.sfdu.proofs.ForestOf.{node, trees, forest_of}
use Rattle.sfdu.proofs.Steps.{at_the_end, one_more, one_object, Taken, taken, takes}

pub three : (a b c t : List ℕ) → a ++ (b ++ c) ++ t ≡ a ++ (b ++ (c ++ t))
three a b c t = simp append_assoc

pub after : (at : ℕ) (label value rest : List ℕ) → length label ≡ 20
    → at + (20 + length value) + length rest ≡ at + length (label ++ (value ++ rest))
after at label value rest h = omega (arith, h, length-append label (value ++ rest), length-append value rest)

label_answered : {A : Type 0} (at : ℕ) (o : Outcome Label) (f : Label → Outcome A) (a : A) → on_label at o f ≡ answer a
    → (l : Label) × (o ≡ answer l) × (f l ≡ answer a)
label_answered at (answer l) f a e = (l, refl, e)
label_answered at (refuse n p) f a e = absurd (answer_is_no_refusal (sym e))

-- which versions of the label are allowed
module _ (versions : Versions) where
  -- ---- a label and its value at the front of some bytes

  module _ (label value t : List ℕ) (opened : Bool) (is : IsLabel versions label opened (length value)) where
    pub front_length : length (label ++ (value ++ t)) ≡ 20 + (length value + length t)
    front_length = length-append label (value ++ t) ∙ omega (arith, length-append value t, is.twenty)

    pub front_is_an_object : object versions (label ++ (value ++ t)) ≡ answer is.label
    front_is_an_object =
        takes versions (label ++ (value ++ t)) is.label
        (read_depends_on_20_bytes versions label (value ++ t) (omega (arith, is.twenty)) ∙ is.reads)
        (omega (arith, front_length, is.follows))

    pub front_drop : drop 20 (label ++ (value ++ t)) ≡ value ++ t
    front_drop = drop_at label (value ++ t) 20 is.twenty

    pub front_value : take is.label.length (drop 20 (label ++ (value ++ t))) ≡ value
    front_value = ap (take is.label.length) front_drop ∙ take_at value t is.label.length (sym is.follows)

    pub front_rest : drop (20 + is.label.length) (label ++ (value ++ t)) ≡ t
    front_rest =
        sym (drop-drop is.label.length 20 (label ++ (value ++ t)))
        ∙ ap (drop is.label.length) front_drop
        ∙ drop_at value t is.label.length (sym is.follows)

  -- ---- a valid forest is accepted

  -- what is asked of a scan of inner values: that it finds the leaves of a forest one depth further in
  abbrev FindsLeaves : ℕ → ℕ → Inside → Type 0
  FindsLeaves left depth inside = (top at : ℕ) (F : Forest) → Valid versions left F → inside top at (encode F) ≡ answer (leaves (suc depth) (λ _. top) at F)

  -- one object at the front: its rows are found, and the scan goes on after it
  one_scanned : (inside : Inside) (depth : ℕ) (outermost : ℕ → ℕ) (label value u : List ℕ) (opened : Bool) (is : IsLabel versions label opened (length value))
      (at : ℕ) (found rs : List Row) → rows_of inside depth (outermost at) at opened (length value) value ≡ answer rs
      → level versions inside depth outermost at found 0 (label ++ (value ++ u)) ≡ level versions inside depth outermost (at + (20 + length value)) (found ++ rs) 0 u
  one_scanned inside depth outermost label value u opened is at found rs e =
      one_object versions inside depth outermost at found (label ++ (value ++ u)) (omega (arith, front_length label value u opened is)) is.label
      (front_is_an_object label value u opened is)
      ∙ rw (front_value label value u opened is, front_rest label value u opened is, is.class, is.follows, e)

  module _ (left depth : ℕ) (inside : Inside) (finds : FindsLeaves left depth inside) (outermost : ℕ → ℕ) where
    pub forest_is_scanned : (F : Forest) → Valid versions (suc left) F → (at : ℕ) (found : List Row) (t : List ℕ)
        → level versions inside depth outermost at found 0 (encode F ++ t)
        ≡ level versions inside depth outermost (at + length (encode F)) (found ++ leaves depth outermost at F) 0 t
    forest_is_scanned done v at found t =
        ap₂ (λ (p : ℕ) (rs : List Row). level versions inside depth outermost p rs 0 t) (sym (add-zero at)) (sym (append-nil found))
    forest_is_scanned (leaf label value rest) v at found t =
        let row : Row = record { label = at; size = length value; depth = depth; outermost = outermost at } in
        ap (level versions inside depth outermost at found 0) (three label value (encode rest) t)
        ∙ one_scanned inside depth outermost label value (encode rest ++ t) false v.0 at found (row ∷ []) refl
        ∙ forest_is_scanned rest v.1 (at + (20 + length value)) (found ++ (row ∷ [])) t
        ∙ ap₂ (λ (p : ℕ) (rs : List Row). level versions inside depth outermost p rs 0 t)
        (after at label value (encode rest) v.0.twenty) (append_assoc found (row ∷ []) (leaves depth outermost (at + (20 + length value)) rest))
    forest_is_scanned (group label inner rest) v at found t =
        let rs : List Row = leaves (suc depth) (λ _. outermost at) (at + 20) inner in
        ap (level versions inside depth outermost at found 0) (three label (encode inner) (encode rest) t)
        ∙ one_scanned inside depth outermost label (encode inner) (encode rest ++ t) true v.0 at found rs (finds (outermost at) (at + 20) inner v.1)
        ∙ forest_is_scanned rest v.2 (at + (20 + length (encode inner))) (found ++ rs) t
        ∙ ap₂ (λ (p : ℕ) (rs : List Row). level versions inside depth outermost p rs 0 t)
        (after at label (encode inner) (encode rest) v.0.twenty) (append_assoc found rs (leaves depth outermost (at + (20 + length (encode inner))) rest))

  -- every depth in turn
  pub valid_is_accepted_from : (left depth : ℕ) (outermost : ℕ → ℕ) (at : ℕ) (F : Forest) → Valid versions left F
      → objects versions left depth outermost at (encode F) ≡ answer (leaves depth outermost at F)
  unfolding objects
  valid_is_accepted_from zero depth outermost at done v = refl
  valid_is_accepted_from zero depth outermost at (leaf label value rest) v = absurd v
  valid_is_accepted_from zero depth outermost at (group label inner rest) v = absurd v
  valid_is_accepted_from (suc left) depth outermost at F v =
      ap (level versions (λ top place value. objects versions left (suc depth) (λ _. top) place value) depth outermost at [] 0) (sym (append-nil (encode F)))
      ∙ forest_is_scanned left depth (λ top place value. objects versions left (suc depth) (λ _. top) place value)
      (λ top place G w. valid_is_accepted_from left (suc depth) (λ _. top) place G w) outermost F v at [] []
      ∙ at_the_end versions (λ top place value. objects versions left (suc depth) (λ _. top) place value) depth outermost (at + length (encode F)) (leaves depth outermost at F) 0

  -- ---- an accepted file divides, and its forest is a function of its bytes

  -- F divides the bytes s, which stand from place `at` on, and its leaves are these rows
  pub record Divides (left depth : ℕ) (outermost : ℕ → ℕ) (at : ℕ) (s : List ℕ) (rows : List Row) (F : Forest) : Type 0 where
    pub bytes : encode F ≡ s
    pub valid : Valid versions left F
    pub rows_are : leaves depth outermost at F ≡ rows

  -- what is asked of a scan of inner values and of their forests
  abbrev InsideDivides : ℕ → ℕ → Inside → (List ℕ → Forest) → Type 0
  InsideDivides left depth inside forest =
      (top at : ℕ) (v : List ℕ) (rs : List Row) → inside top at v ≡ answer rs → Divides left (suc depth) (λ _. top) at v rs (forest v)

  -- the object at the front of s
  module _ (s : List ℕ) (l : Label) (t : Taken versions s l) where
    value : List ℕ
    value = take l.length (drop 20 s)

    value_length : length value ≡ l.length
    unfolding value
    value_length = length-take-le l.length (drop 20 s) (omega (arith, length-drop 20 s, t.fits))

    label_is : (opened : Bool) → is_opened l.class ≡ opened → IsLabel versions (take 20 s) opened (length value)
    label_is opened e = record {
      twenty = length-take-le 20 s t.long;
      label = l;
      reads =
          sym (read_depends_on_20_bytes versions (take 20 s) (drop 20 s) (le_of_eq (sym (length-take-le 20 s t.long))))
          ∙ ap (read_label versions) (take-append-drop 20 s) ∙ t.reads;
      class = e;
      follows = sym value_length;
    }

    bytes_are : take 20 s ++ (value ++ drop (20 + l.length) s) ≡ s
    unfolding value
    bytes_are =
        ap (λ (u : List ℕ). take 20 s ++ (take l.length (drop 20 s) ++ u)) (sym (drop-drop l.length 20 s))
        ∙ ap (λ (u : List ℕ). take 20 s ++ u) (take-append-drop l.length (drop 20 s))
        ∙ take-append-drop 20 s

  module _ (left depth : ℕ) (inside : Inside) (forest : List ℕ → Forest) (ok : InsideDivides left depth inside forest) (outermost : ℕ → ℕ) where
    node_divides : (opened : Bool) (s : List ℕ) (l : Label) (t : Taken versions s l) → is_opened l.class ≡ opened → (at : ℕ) (rs more : List Row) (R : Forest)
        → rows_of inside depth (outermost at) at opened l.length (take l.length (drop 20 s)) ≡ answer rs
        → Divides (suc left) depth outermost (at + (20 + l.length)) (drop (20 + l.length) s) more R
        → Divides (suc left) depth outermost at s (rs ++ more)
        (node opened (take 20 s) (take l.length (drop 20 s)) (forest (take l.length (drop 20 s))) R)
    unfolding value
    node_divides false s l t e at rs more R rows d = record {
      bytes = ap (λ (u : List ℕ). take 20 s ++ (value s l t ++ u)) d.bytes ∙ bytes_are s l t;
      valid = (label_is s l t false e, d.valid);
      rows_are =
          ap (λ (n : ℕ). record { label = at; size = n; depth = depth; outermost = outermost at } ∷ leaves depth outermost (at + (20 + n)) R) (value_length s l t)
          ∙ ap₂ (λ (front back : List Row). front ++ back) (answer_injective rows) d.rows_are;
    }
    node_divides true s l t e at rs more R rows d =
        let inner = ok (outermost at) (at + 20) (value s l t) rs rows in
        record {
          bytes = ap₂ (λ (v u : List ℕ). take 20 s ++ (v ++ u)) inner.bytes d.bytes ∙ bytes_are s l t;
          valid = (subst (IsLabel versions (take 20 s) true) (sym (ap length inner.bytes)) (label_is s l t true e), inner.valid, d.valid);
          rows_are =
              ap₂ (λ (front back : List Row). front ++ back) inner.rows_are
              (ap (λ (n : ℕ). leaves depth outermost (at + (20 + n)) R) (ap length inner.bytes ∙ value_length s l t) ∙ d.rows_are);
        }

    -- the rows of the object at the front of s
    abbrev here : ℕ → List ℕ → Label → Outcome (List Row)
    here at s l = rows_of inside depth (outermost at) at (is_opened l.class) l.length (take l.length (drop 20 s))

    tree_divides : (b : ℕ) (bs : List ℕ) (at : ℕ) (l : Label) → object versions (b ∷ bs) ≡ answer l → (rs more : List Row) → here at (b ∷ bs) l ≡ answer rs
        → Divides (suc left) depth outermost (suc at + (19 + l.length)) (drop (19 + l.length) bs) more (trees versions forest (19 + l.length) bs)
        → Divides (suc left) depth outermost (at + 0) (b ∷ bs) (rs ++ more) (trees versions forest 0 (b ∷ bs))
    unfolding trees
    tree_divides b bs at l object_is rs more rows d =
        let t = taken versions (b ∷ bs) l object_is in
        let s = b ∷ bs in
        let place : suc at + (19 + l.length) ≡ at + (20 + l.length) = omega arith in
        let rest : drop (19 + l.length) bs ≡ drop (20 + l.length) s = ap (λ (k : ℕ). drop k s) (one_more l.length) in
        rw (t.reads, add-zero)
        (node_divides (is_opened l.class) s l t refl at rs more (trees versions forest (19 + l.length) bs) rows
        (subst (λ (u : List ℕ). Divides (suc left) depth outermost (at + (20 + l.length)) u more (trees versions forest (19 + l.length) bs)) rest
        (subst (λ (p : ℕ). Divides (suc left) depth outermost p (drop (19 + l.length) bs) more (trees versions forest (19 + l.length) bs)) place d)))

    -- what a level that was accepted says: more rows, and a forest that divides what was scanned
    abbrev Found : ℕ → List Row → List Row → List ℕ → Forest → Type 0
    Found at found rows s F = (rs : List Row) × (rows ≡ found ++ rs) × Divides (suc left) depth outermost at s rs F

    abbrev further : ℕ → List Row → List ℕ → Label → List Row → Outcome (List Row)
    further at found bs l rs = level versions inside depth outermost (suc at) (found ++ rs) (19 + l.length) bs

    one_found : (b : ℕ) (bs : List ℕ) (at : ℕ) (found rows : List Row) (l : Label) → object versions (b ∷ bs) ≡ answer l
        → (rs : List Row) → here at (b ∷ bs) l ≡ answer rs
        → Found (suc at + (19 + l.length)) (found ++ rs) rows (drop (19 + l.length) bs) (trees versions forest (19 + l.length) bs)
        → Found (at + 0) found rows (b ∷ bs) (trees versions forest 0 (b ∷ bs))
    one_found b bs at found rows l object_is rs rows_here f =
        (rs ++ f.0, f.1 ∙ append_assoc found rs f.0, tree_divides b bs at l object_is rs f.0 rows_here f.2)

    level_divides : (s : List ℕ) (k at : ℕ) (found rows : List Row) → level versions inside depth outermost at found k s ≡ answer rows
        → Found (at + k) found rows (drop k s) (trees versions forest k s)
    unfolding level trees
    level_divides [] k at found rows e =
        ([], sym (answer_injective e) ∙ sym (append-nil found), record { bytes = sym (drop-nil k); valid = tt; rows_are = refl })
    level_divides (b ∷ bs) (suc k) at found rows e =
        subst (λ (p : ℕ). Found p found rows (drop k bs) (trees versions forest k bs)) {x = suc at + k} {y = at + suc k} (omega arith)
        (level_divides bs k (suc at) found rows e)
    level_divides (b ∷ bs) zero at found rows e =
        let q = label_answered at (object versions (b ∷ bs)) (λ l. and_then (here at (b ∷ bs) l) (further at found bs l)) rows e in
        let r = first_answered (here at (b ∷ bs) q.0) (further at found bs q.0) rows q.2 in
        one_found b bs at found rows q.0 q.1 r.0 r.1 (level_divides bs (19 + q.0.length) (suc at) (found ++ r.0) rows r.2)

  -- every depth in turn
  pub accepted_divides_from : (left depth : ℕ) (outermost : ℕ → ℕ) (at : ℕ) (s : List ℕ) (rows : List Row)
      → objects versions left depth outermost at s ≡ answer rows → Divides left depth outermost at s rows (forest_of versions left s)
  unfolding objects forest_of
  accepted_divides_from zero depth outermost at [] rows e = record { bytes = refl; valid = tt; rows_are = answer_injective e }
  accepted_divides_from zero depth outermost at (b ∷ bs) rows e = absurd (answer_is_no_refusal (sym e))
  accepted_divides_from (suc left) depth outermost at s rows e =
      let (rs, is, d) = level_divides left depth (λ top place value. objects versions left (suc depth) (λ _. top) place value) (forest_of versions left)
      (λ top place v rs. accepted_divides_from left (suc depth) (λ _. top) place v rs) outermost s 0 at [] rows e in
      subst (λ (xs : List Row). Divides (suc left) depth outermost at s xs (forest_of versions (suc left) s)) (sym is)
      (subst (λ (p : ℕ). Divides (suc left) depth outermost p s rs (forest_of versions (suc left) s)) (add-zero at) d)

  -- ---- the forest is the only one

  trees_passed : (forest : List ℕ → Forest) (k : ℕ) (s : List ℕ) → trees versions forest k s ≡ trees versions forest 0 (drop k s)
  unfolding trees
  trees_passed forest zero s = refl
  trees_passed forest (suc k) [] = refl
  trees_passed forest (suc k) (b ∷ bs) = trees_passed forest k bs

  one_tree : (forest : List ℕ → Forest) (s : List ℕ) → 0 < length s → (l : Label) → read_label versions s ≡ answer l
      → trees versions forest 0 s
      ≡ node (is_opened l.class) (take 20 s) (take l.length (drop 20 s)) (forest (take l.length (drop 20 s))) (trees versions forest 0 (drop (20 + l.length) s))
  unfolding trees
  one_tree forest [] h l e = absurd (not-suc-le-zero h)
  one_tree forest (b ∷ bs) h l e =
      rw e
      (ap (node (is_opened l.class) (take 20 (b ∷ bs)) (take l.length (drop 20 (b ∷ bs))) (forest (take l.length (drop 20 (b ∷ bs)))))
      (trees_passed forest (19 + l.length) bs ∙ ap (λ (k : ℕ). trees versions forest 0 (drop k (b ∷ bs))) (one_more l.length)))

  -- the tree of an object at the front
  front_tree : (forest : List ℕ → Forest) (label value u : List ℕ) (opened : Bool) (is : IsLabel versions label opened (length value))
      → trees versions forest 0 (label ++ (value ++ u)) ≡ node opened label value (forest value) (trees versions forest 0 u)
  front_tree forest label value u opened is =
      one_tree forest (label ++ (value ++ u)) (omega (arith, front_length label value u opened is)) is.label
      (taken versions (label ++ (value ++ u)) is.label (front_is_an_object label value u opened is)).reads
      ∙ rw (front_value label value u opened is, front_rest label value u opened is, is.class, take_at label (value ++ u) 20 is.twenty)

  level_has_one : (left : ℕ) → ((F : Forest) → Valid versions left F → forest_of versions left (encode F) ≡ F) → (F : Forest) → Valid versions (suc left) F
      → trees versions (forest_of versions left) 0 (encode F) ≡ F
  unfolding trees
  level_has_one left inner done v = refl
  level_has_one left inner (leaf label value rest) v =
      front_tree (forest_of versions left) label value (encode rest) false v.0 ∙ ap (leaf label value) (level_has_one left inner rest v.1)
  level_has_one left inner (group label inside rest) v =
      front_tree (forest_of versions left) label (encode inside) (encode rest) true v.0
      ∙ ap₂ (group label) (inner inside v.1) (level_has_one left inner rest v.2)

  pub forest_again : (left : ℕ) (F : Forest) → Valid versions left F → forest_of versions left (encode F) ≡ F
  unfolding forest_of
  forest_again zero done v = refl
  forest_again zero (leaf label value rest) v = absurd v
  forest_again zero (group label inside rest) v = absurd v
  forest_again (suc left) F v = level_has_one left (forest_again left) F v
