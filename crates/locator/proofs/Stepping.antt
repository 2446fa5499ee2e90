-- One place more: the row that the keys and defects point out is the pivot, no other row has its key, and the rows are then those of the definition.
use Prim.Native.Nat.{ℕ, suc, ◌+◌, ◌<◌, ◌≤◌}
use mathlib.Core.Path.{◌≡◌, refl, sym, ◌∙◌, ap, ap₂, subst}
use mathlib.Core.Bool.{Bool, not}
use mathlib.Core.List.Memᴰ.{head as here}
use mathlib.Core.List.Memᴰ.{tail as there}
use mathlib.Core.List.{List, [], ◌∷◌, map, Memᴰ as In}
use native.Mathlib.Omega.{arith}
use lib.Dec.{eqb}
use lib.ListN.{length, get_or}
use borrow.Author.Tests.{eq-eqb, ne_eqb, le-leb, lt-leb}
use Rattle.field.specs.Galois.{IsField, galois, product, inverse}
use Rattle.field.specs.Field.{Arithmetic, Field}
use Rattle.field.proofs.Galois.{galois_field}
use Rattle.elliptic.specs.declared.Point.{Point}
use Rattle.elliptic.specs.Curve.{point}
use Rattle.codewords.specs.Code.{points_at}
use Rattle.codewords.proofs.Coordinates.{points_get}
use Rattle.decoding.specs.Rows.{Row, top, defect, lifted, mixed, turned, least, pivot, step, rows_after}
use Rattle.decoding.proofs.Elements.{defect_lifted}
use Rattle.decoding.proofs.Steps.{rows_cover}
use Rattle.locator.specs.Arrays.{Head, Heads, Layout, Pivot, head, Holds, Classes, Lifts, TurnRoom, Turns, After, Laid, lightest_of, exchanged_at}
use Rattle.locator.proofs.Choosing.{Named, lightest_named, chosen_a, chosen_b, chosen_c, chosen_d, chosen_none, index_d}

-- ---- the definition's step, where the pivot is known

module _ (F : Arithmetic) (P : Point) (v : ℕ) (p : Row) where
  turned_pivot : turned F P v p p ≡ lifted F P.x p
  unfolding turned
  turned_pivot = rw (eq-eqb p.key p.key refl)

  turned_other : (r : Row) → (r.key ≡ p.key → ⊥) → turned F P v p r ≡ mixed F (F.◌·◌ (defect F P v r) (F.inv (defect F P v p))) p r
  unfolding turned
  turned_other r n = rw (ne_eqb r.key p.key n)

step_turned : (limit : ℕ) (F : Arithmetic) (P : Point) (v : ℕ) (rows : List Row) {p : Row} → pivot limit F P v rows ≡ p → p.key ≤ limit → step limit F P v rows ≡ map (turned F P v p) rows
unfolding step
step_turned limit F P v rows e h = rw (e, le-leb _ limit h)

step_none : (limit : ℕ) (F : Arithmetic) (P : Point) (v : ℕ) (rows : List Row) → limit < (pivot limit F P v rows).key → step limit F P v rows ≡ rows
unfolding step
step_none limit F P v rows h = rw (lt-leb _ limit h)

-- ---- a row that stays as it is

later : {m k t : ℕ} {xs ys us : List ℕ} {i : ℕ} {h : Head} {row : List ℕ} {w : Row} → Holds m k t xs ys us i h row w → Holds m k t xs ys us (suc i) h row w
later g =
    record {
      size = g.size;
      key_is = g.key_is;
      most = g.most;
      slow = omega (arith, g.slow);
      live = λ l. let x = g.live l in record { den_is = x.den_is; defects = λ j a b. x.defects j (omega arith) b };
    }

-- ---- the classes of the keys, one of which is four larger

module _ {k : ℕ} {hs rs : Heads} (c : Classes k hs) where
  grown_a : hs.a.key ≤ 1000 → (rs.a.key ≡ hs.a.key + 4) × (rs.b.key ≡ hs.b.key) × (rs.c.key ≡ hs.c.key) × (rs.d.key ≡ hs.d.key) → Classes k rs
  grown_a l (e0, e1, e2, e3) =
      let (s0, s1, s2, s3) = c.small in
      record {
        a_class = omega (arith, c.a_class);
        b_class = omega (arith, c.b_class);
        c_class = omega (arith, c.c_class);
        d_class = omega (arith, c.d_class);
        small = (omega arith, omega arith, omega arith, omega arith);
      }

  grown_b : hs.b.key ≤ 1000 → (rs.a.key ≡ (exchanged_at 1 hs).a.key + 4) × (rs.b.key ≡ (exchanged_at 1 hs).b.key) × (rs.c.key ≡ (exchanged_at 1 hs).c.key) × (rs.d.key ≡ (exchanged_at 1 hs).d.key) → Classes k (exchanged_at 1 rs)
  grown_b l (e0, e1, e2, e3) =
      let (s0, s1, s2, s3) = c.small in
      record {
        a_class = omega (arith, c.a_class);
        b_class = omega (arith, c.b_class);
        c_class = omega (arith, c.c_class);
        d_class = omega (arith, c.d_class);
        small = (omega arith, omega arith, omega arith, omega arith);
      }

  grown_c : hs.c.key ≤ 1000 → (rs.a.key ≡ (exchanged_at 2 hs).a.key + 4) × (rs.b.key ≡ (exchanged_at 2 hs).b.key) × (rs.c.key ≡ (exchanged_at 2 hs).c.key) × (rs.d.key ≡ (exchanged_at 2 hs).d.key) → Classes k (exchanged_at 2 rs)
  grown_c l (e0, e1, e2, e3) =
      let (s0, s1, s2, s3) = c.small in
      record {
        a_class = omega (arith, c.a_class);
        b_class = omega (arith, c.b_class);
        c_class = omega (arith, c.c_class);
        d_class = omega (arith, c.d_class);
        small = (omega arith, omega arith, omega arith, omega arith);
      }

  grown_d : hs.d.key ≤ 1000 → (rs.a.key ≡ (exchanged_at 3 hs).a.key + 4) × (rs.b.key ≡ (exchanged_at 3 hs).b.key) × (rs.c.key ≡ (exchanged_at 3 hs).c.key) × (rs.d.key ≡ (exchanged_at 3 hs).d.key) → Classes k (exchanged_at 3 rs)
  grown_d l (e0, e1, e2, e3) =
      let (s0, s1, s2, s3) = c.small in
      record {
        a_class = omega (arith, c.a_class);
        b_class = omega (arith, c.b_class);
        c_class = omega (arith, c.c_class);
        d_class = omega (arith, c.d_class);
        small = (omega arith, omega arith, omega arith, omega arith);
      }

module _ {m : ℕ} (field : IsField m) {shape : Layout} {xs ys us : List ℕ} (laid : Laid shape xs ys us) {i : ℕ} (inside : i < length xs)
    {hs : Heads} {a b c d : List ℕ} (after : After m shape xs ys us i hs a b c d) where
  abbrev k : ℕ
  k = shape.k

  abbrev t : ℕ
  t = shape.t

  abbrev F : Arithmetic
  F = galois m

  abbrev pts : List Point
  pts = points_at xs ys

  abbrev P : Point
  P = point (get_or xs i 0) (get_or ys i 0)

  abbrev v : ℕ
  v = get_or us i 0

  abbrev rows : List Row
  rows = rows_after k t F pts us i

  abbrev w0 : Row
  w0 = after.first

  abbrev w1 : Row
  w1 = after.second

  abbrev w2 : Row
  w2 = after.third

  abbrev w3 : Row
  w3 = after.fourth

  abbrev four : List Row
  four = w0 ∷ w1 ∷ w2 ∷ w3 ∷ []

  -- the next rows, by the definition
  next_is : rows_after k t F pts us (suc i) ≡ step (top k t) F P v four
  unfolding rows_after
  next_is = ap₂ (λ P rows. step (top k t) F P v rows) (points_get xs ys (sym laid.as_many) i) after.rows_are

  -- nothing is lost of a row that there is room for
  lossless : (w : Row) → In w four → Lifts m k t w
  lossless w j room α Q u =
      let K : Field F = galois_field field in
      let e = (rows_cover K k t laid.some pts us i).live w (rw after.rows_are j) (omega arith) in
      defect_lifted K k t laid.some pts us i e room α Q u

  abbrev test : Row → Bool
  test w = not (eqb (defect F P v w) 0)

  -- what the arrays say of the pivot
  abbrev best : Pivot
  best = lightest_of shape.top hs (get_or a (head + i) 0) (get_or b (head + i) 0) (get_or c (head + i) 0) (get_or d (head + i) 0)

  met : {h : Head} {row : List ℕ} {w : Row} → Holds m k t xs ys us i h row w → w.key ≤ top k t → test w ≡ not (eqb (get_or row (head + i) 0) 0)
  met g l = ap (λ x. not (eqb x 0)) (sym ((g.live l).defects i (omega arith) inside))

  named : Named (top k t) w0 w1 w2 w3 best (pivot (top k t) F P v four)
  unfolding pivot
  named =
      subst (λ limit. Named (top k t) w0 w1 w2 w3 (lightest_of limit hs (get_or a (head + i) 0) (get_or b (head + i) 0) (get_or c (head + i) 0) (get_or d (head + i) 0)) (least (top k t) test four)) (sym laid.top_is)
      (lightest_named (top k t) test w0 w1 w2 w3 hs (get_or a (head + i) 0) (get_or b (head + i) 0) (get_or c (head + i) 0) (get_or d (head + i) 0) after.in_a.key_is after.in_b.key_is after.in_c.key_is after.in_d.key_is
      (met after.in_a) (met after.in_b) (met after.in_c) (met after.in_d))

  -- ---- room for a turn, whichever row is the pivot

  abbrev Room : Heads → List ℕ → List ℕ → List ℕ → List ℕ → Type 0
  Room hs p a b c = TurnRoom shape i xs hs p a b c

  -- ---- the rows after the place

  abbrev Next : Heads → List ℕ → List ℕ → List ℕ → List ℕ → Type 0
  Next rs a b c d = After m shape xs ys us (suc i) rs a b c d

  pub next_none : best.at ≡ 4 → Next hs a b c d
  next_none e =
      record {
        first = w0;
        second = w1;
        third = w2;
        fourth = w3;
        rows_are = next_is ∙ step_none (top k t) F P v four (omega (arith, chosen_none named.which e));
        in_a = later after.in_a;
        in_b = later after.in_b;
        in_c = later after.in_c;
        in_d = later after.in_d;
        classes = after.classes;
      }

  -- what a turn makes of a row that is not the pivot w
  abbrev gained : Row → Row → Row
  gained w r = mixed F (product m (defect F P v r) (inverse m (defect F P v w))) w r

  -- the keys, and that no two are alike
  abbrev κ0 : ℕ
  κ0 = hs.a.key

  abbrev κ1 : ℕ
  κ1 = hs.b.key

  abbrev κ2 : ℕ
  κ2 = hs.c.key

  abbrev κ3 : ℕ
  κ3 = hs.d.key

  apart : (x y : Row) {κ μ : ℕ} → x.key ≡ κ → y.key ≡ μ → (κ ≡ μ → ⊥) → x.key ≡ y.key → ⊥
  apart x y ex ey n e = n (sym ex ∙ e ∙ ey)

  keys_differ : (κ0 ≡ κ1 → ⊥) × (κ0 ≡ κ2 → ⊥) × (κ0 ≡ κ3 → ⊥) × (κ1 ≡ κ2 → ⊥) × (κ1 ≡ κ3 → ⊥) × (κ2 ≡ κ3 → ⊥)
  keys_differ =
      let za = after.classes.a_class in
      let zb = after.classes.b_class in
      let zc = after.classes.c_class in
      let zd = after.classes.d_class in
      ((λ e. omega arith), (λ e. omega arith), (λ e. omega arith), (λ e. omega arith), (λ e. omega arith), (λ e. omega arith))

  turned_four : (f : Row → Row) {x0 x1 x2 x3 : Row} → f w0 ≡ x0 → f w1 ≡ x1 → f w2 ≡ x2 → f w3 ≡ x3 → map f four ≡ x0 ∷ x1 ∷ x2 ∷ x3 ∷ []
  turned_four f e0 e1 e2 e3 = ap₂ ◌∷◌ e0 (ap₂ ◌∷◌ e1 (ap₂ ◌∷◌ e2 (ap₂ ◌∷◌ e3 refl)))

  abbrev e0 : w0.key ≡ κ0
  e0 = after.in_a.key_is

  abbrev e1 : w1.key ≡ κ1
  e1 = after.in_b.key_is

  abbrev e2 : w2.key ≡ κ2
  e2 = after.in_c.key_is

  abbrev e3 : w3.key ≡ κ3
  e3 = after.in_d.key_is

  limit : top k t ≤ 1000
  limit = rw (← laid.top_is) laid.top_small

  module _ {rs : Heads} {p' q' r' s' : List ℕ} where
    pub next_a : best.at ≡ 0 → Turns m shape xs i hs a b c d rs p' q' r' s' → Next rs p' q' r' s'
    next_a e turn =
        let (is, l) = chosen_a named.which e in
        let others = turn.others ys us w0 after.in_a l in
        let (n01, n02, n03, n12, n13, n23) = keys_differ in
        record {
          first = lifted F (get_or xs i 0) w0;
          second = gained w0 w1;
          third = gained w0 w2;
          fourth = gained w0 w3;
          rows_are =
              next_is ∙ step_turned (top k t) F P v four is l
              ∙ turned_four (turned F P v w0) (turned_pivot F P v w0) (turned_other F P v w0 w1 (apart w1 w0 e1 e0 (λ z. n01 (sym z))))
              (turned_other F P v w0 w2 (apart w2 w0 e2 e0 (λ z. n02 (sym z)))) (turned_other F P v w0 w3 (apart w3 w0 e3 e0 (λ z. n03 (sym z))));
          in_a = turn.pivot ys us w0 after.in_a l (lossless w0 (here refl));
          in_b = others.0 w1 after.in_b;
          in_c = others.1 w2 after.in_c;
          in_d = others.2 w3 after.in_d;
          classes = grown_a after.classes (omega (arith, e0, limit)) turn.keys;
        }

    pub next_b : best.at ≡ 1 → Turns m shape xs i (exchanged_at 1 hs) b a c d rs q' p' r' s' → Next (exchanged_at 1 rs) p' q' r' s'
    next_b e turn =
        let (is, l) = chosen_b named.which e in
        let others = turn.others ys us w1 after.in_b l in
        let (n01, n02, n03, n12, n13, n23) = keys_differ in
        record {
          first = gained w1 w0;
          second = lifted F (get_or xs i 0) w1;
          third = gained w1 w2;
          fourth = gained w1 w3;
          rows_are =
              next_is ∙ step_turned (top k t) F P v four is l
              ∙ turned_four (turned F P v w1) (turned_other F P v w1 w0 (apart w0 w1 e0 e1 n01)) (turned_pivot F P v w1)
              (turned_other F P v w1 w2 (apart w2 w1 e2 e1 (λ z. n12 (sym z)))) (turned_other F P v w1 w3 (apart w3 w1 e3 e1 (λ z. n13 (sym z))));
          in_a = others.0 w0 after.in_a;
          in_b = turn.pivot ys us w1 after.in_b l (lossless w1 (there (here refl)));
          in_c = others.1 w2 after.in_c;
          in_d = others.2 w3 after.in_d;
          classes = grown_b after.classes (omega (arith, e1, limit)) turn.keys;
        }

    pub next_c : best.at ≡ 2 → Turns m shape xs i (exchanged_at 2 hs) c b a d rs r' q' p' s' → Next (exchanged_at 2 rs) p' q' r' s'
    next_c e turn =
        let (is, l) = chosen_c named.which e in
        let others = turn.others ys us w2 after.in_c l in
        let (n01, n02, n03, n12, n13, n23) = keys_differ in
        record {
          first = gained w2 w0;
          second = gained w2 w1;
          third = lifted F (get_or xs i 0) w2;
          fourth = gained w2 w3;
          rows_are =
              next_is ∙ step_turned (top k t) F P v four is l
              ∙ turned_four (turned F P v w2) (turned_other F P v w2 w0 (apart w0 w2 e0 e2 n02)) (turned_other F P v w2 w1 (apart w1 w2 e1 e2 n12))
              (turned_pivot F P v w2) (turned_other F P v w2 w3 (apart w3 w2 e3 e2 (λ z. n23 (sym z))));
          in_a = others.1 w0 after.in_a;
          in_b = others.0 w1 after.in_b;
          in_c = turn.pivot ys us w2 after.in_c l (lossless w2 (there (there (here refl))));
          in_d = others.2 w3 after.in_d;
          classes = grown_c after.classes (omega (arith, e2, limit)) turn.keys;
        }

    pub next_d : (best.at ≡ 0 → ⊥) → (best.at ≡ 1 → ⊥) → (best.at ≡ 2 → ⊥) → (best.at ≡ 4 → ⊥)
        → Turns m shape xs i (exchanged_at 3 hs) d b c a rs s' q' r' p' → Next (exchanged_at 3 rs) p' q' r' s'
    next_d o0 o1 o2 o4 turn =
        let (is, l) = chosen_d named.which (index_d named.which o0 o1 o2 o4) in
        let others = turn.others ys us w3 after.in_d l in
        let (n01, n02, n03, n12, n13, n23) = keys_differ in
        record {
          first = gained w3 w0;
          second = gained w3 w1;
          third = gained w3 w2;
          fourth = lifted F (get_or xs i 0) w3;
          rows_are =
              next_is ∙ step_turned (top k t) F P v four is l
              ∙ turned_four (turned F P v w3) (turned_other F P v w3 w0 (apart w0 w3 e0 e3 n03)) (turned_other F P v w3 w1 (apart w1 w3 e1 e3 n13))
              (turned_other F P v w3 w2 (apart w2 w3 e2 e3 n23)) (turned_pivot F P v w3);
          in_a = others.2 w0 after.in_a;
          in_b = others.0 w1 after.in_b;
          in_c = others.1 w2 after.in_c;
          in_d = turn.pivot ys us w3 after.in_d l (lossless w3 (there (there (there (here refl)))));
          classes = grown_d after.classes (omega (arith, e3, limit)) turn.keys;
        }
