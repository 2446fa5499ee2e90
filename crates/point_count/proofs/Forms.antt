-- The curve's equation at a point, divided by the square of z = g1·X + g3, says U² + U = v. Where g1 is not 0, v is 1/s + c·s + d for an s that tells X,
-- and where it is 0, r·x³ + c·x + d for an x that does.
use Prim.Native.Nat.{ℕ, ◌<◌}
use mathlib.Core.Path.{◌≡◌, sym, ◌∙◌, ap, ap₂, subst}
use mathlib.Core.Bool.{true}
use native.Mathlib.Decide.{ℕ_discrete}
use native.Mathlib.Omega.{arith}
use Rattle.field.specs.Sum.{◌⊕◌}
use Rattle.field.specs.Field.{Arithmetic, Field}
use Rattle.field.proofs.Laws.{ring, root, root_square, mul_one, inv_cancel, inv_unique, no_zero_div, ·_comm, ·_assoc, ·_zero, zero_·}
use Rattle.elliptic.specs.declared.Curve.{Curve}
use Rattle.elliptic.specs.Curve.{left, right, coefficients_below}
use Rattle.point_count.proofs.Singular.{coefficient, g1_lt, g3_lt, right_lt, trace_flat}

module _ {F : Arithmetic} (K : Field F) where
  infixl 70 ◌·◌
  open F use {q, ◌·◌, inv}
  open K use {add_lt, mul_lt, one_mul, inv_lt, mul_inv}

  -- ---- the equation, with z·w = 1

  -- Y² + z·Y = f, divided by z²
  divided : (y z w f : ℕ) → z · w ≡ 1 → y · y ⊕ z · y ≡ f → (y · w) · (y · w) ⊕ y · w ≡ f · (w · w)
  divided y z w f one e =
      let grouped : (y · y ⊕ z · y) · (w · w) ≡ (y · w) · (y · w) ⊕ (z · w) · (y · w) = simp ring in
      let unit : (z · w) · (y · w) ≡ y · w = ap (λ t. t · (y · w)) one ∙ one_mul (y · w) (mul_lt y w) in
      sym (ap (λ t. t · (w · w)) (sym e) ∙ grouped ∙ ap (λ t. (y · w) · (y · w) ⊕ t) unit)

  -- a square in f moves to its root
  solved : (y z w f k v : ℕ) → z · w ≡ 1 → y · y ⊕ z · y ≡ f → f · (w · w) ≡ k ⊕ v · v
      → (y · w ⊕ v) · (y · w ⊕ v) ⊕ (y · w ⊕ v) ≡ k ⊕ v
  solved y z w f k v one e h =
      let apart : (y · w ⊕ v) · (y · w ⊕ v) ⊕ (y · w ⊕ v) ≡ ((y · w) · (y · w) ⊕ y · w) ⊕ (v · v ⊕ v) = simp ring in
      let joined : (k ⊕ v · v) ⊕ (v · v ⊕ v) ≡ k ⊕ v = simp ring in
      apart ∙ ap (λ t. t ⊕ (v · v ⊕ v)) (divided y z w f one e ∙ h) ∙ joined

  -- a cubic in z, divided by z²
  over_square : (a b c d z w : ℕ) → z · w ≡ 1 → b < q → z < q → w < q
      → (a · (z · (z · z)) ⊕ b · (z · z) ⊕ c · z ⊕ d) · (w · w) ≡ a · z ⊕ b ⊕ c · w ⊕ d · (w · w)
  over_square a b c d z w one hb hz hw =
      let grouped : (a · (z · (z · z)) ⊕ b · (z · z) ⊕ c · z ⊕ d) · (w · w)
      ≡ a · ((z · w) · ((z · w) · z)) ⊕ b · ((z · w) · (z · w)) ⊕ c · ((z · w) · w) ⊕ d · (w · w) = simp ring in
      grouped ∙ rw one (rw (one_mul z hz, one_mul z hz, one_mul w hw, one_mul 1 K.one_lt, mul_one K b hb))

  -- ---- how what comes out is put together

  square : {d : ℕ} (r w : ℕ) → r · r ≡ d → d · (w · w) ≡ r · w · (r · w)
  square r w e = ap (λ t. t · (w · w)) (sym e) ∙ simp ring

  rejoined : (a z b c w r : ℕ) → a · z ⊕ b ⊕ c · w ⊕ r · w ≡ a · z ⊕ ((c ⊕ r) · w ⊕ b)
  rejoined a z b c w r = simp ring

  cubic_times : (b c d x w : ℕ) → (x · (x · x) ⊕ b · (x · x) ⊕ c · x ⊕ d) · (w · w)
      ≡ w · w · (x · (x · x)) ⊕ c · (w · w) · x ⊕ d · (w · w) ⊕ b · (w · x · (w · x))
  cubic_times b c d x w = simp ring

  gathered : (a b d c w x : ℕ) → a · (x · (x · x)) ⊕ b · x ⊕ d ⊕ c · (w · x) ≡ a · (x · (x · x)) ⊕ ((b ⊕ c · w) · x ⊕ d)
  gathered a b d c w x = simp ring

  cubed : (r s x : ℕ) → r · (s · (s · s)) · (x · (x · x)) ≡ r · (s · x · (s · x · (s · x)))
  cubed r s x = simp ring

  -- ---- inverses, where that of 0 is 0

  module _ (inv_zero : inv 0 ≡ 0) where
    inv_inv : (a : ℕ) → a < q → inv (inv a) ≡ a
    inv_inv a h = by (ℕ_discrete a 0)
      where
        by : Dec (a ≡ 0) → inv (inv a) ≡ a
        by (yes z) = ap (λ t. inv (inv t)) z ∙ ap inv inv_zero ∙ inv_zero ∙ sym z
        by (no n) = sym (inv_unique K (inv a) a (inv_lt a) h (·_comm K (inv a) a ∙ mul_inv a h n))

  pub nonzero_factor : (a b : ℕ) → a · b ≡ 1 → a ≡ 0 → ⊥
  nonzero_factor a b e z = let c : ◌≡◌ {A = ℕ} 0 1 = sym (zero_· K b) ∙ ap (λ t. t · b) (sym z) ∙ e in omega arith

  pub nonzero_product : (a b : ℕ) → a < q → b < q → (a ≡ 0 → ⊥) → (b ≡ 0 → ⊥) → a · b ≡ 0 → ⊥
  nonzero_product a b ha hb na nb e = nb (no_zero_div K a b ha hb na e)

  -- some U of the field has U² + U = v
  abbrev pub Solvable : ℕ → Type 0
  Solvable v = (u : ℕ) × (u < q) × (u · u ⊕ u ≡ v)

  module _ (C : Curve) (below : coefficients_below q C ≡ true) where
    open C use {g1, g2, g3, g4, g6}

    abbrev pub divisor : ℕ → ℕ
    divisor x = g1 · x ⊕ g3

    divisor_lt : (x : ℕ) → divisor x < q
    divisor_lt x = add_lt _ _ (mul_lt g1 x) (g3_lt K C below)

    -- a point over x, where f/z² is k but for a square
    solvable : (x y w k v : ℕ) → v < q → divisor x · w ≡ 1 → left F C x y ≡ right F C x → right F C x · (w · w) ≡ k ⊕ v · v → Solvable (k ⊕ v)
    solvable x y w k v hv one e h =
        let left_as : y · y ⊕ divisor x · y ≡ left F C x y = simp ring in
        (y · w ⊕ v, add_lt _ _ (mul_lt y w) hv, solved y (divisor x) w (right F C x) k v one (left_as ∙ e) h)

    -- ---- g1 is not 0: f is a cubic in z, and s is 1/z but for a factor
    module _ (inv_zero : inv 0 ≡ 0) (n : g1 ≡ 0 → ⊥) where
      a : ℕ
      a = inv g1

      b : ℕ
      b = inv g1 · g3

      third : ℕ
      third = a · (a · a)

      pub second : ℕ
      second = a · (a · b) ⊕ g2 · (a · a)

      first : ℕ
      first = a · (b · b) ⊕ g4 · a

      expanded : (z : ℕ) → right F C (a · z ⊕ b) ≡ third · (z · (z · z)) ⊕ second · (z · z) ⊕ first · z ⊕ right F C b
      unfolding third second first
      expanded z = simp ring

      from_divisor : (x : ℕ) → x < q → x ≡ a · divisor x ⊕ b
      unfolding a b
      from_divisor x h =
          let e : inv g1 · divisor x ⊕ inv g1 · g3 ≡ inv g1 · (g1 · x) = simp ring in
          sym (e ∙ inv_cancel K g1 x (g1_lt K C below) n h)

      third_lt : third < q
      unfolding third
      third_lt = mul_lt _ _

      second_lt : second < q
      unfolding second
      second_lt = add_lt _ _ (mul_lt _ _) (mul_lt _ _)

      third_not : third ≡ 0 → ⊥
      unfolding third a
      third_not =
          let na = nonzero_factor (inv g1) g1 (·_comm K (inv g1) g1 ∙ mul_inv g1 (g1_lt K C below) n) in
          nonzero_product (inv g1) _ (inv_lt g1) (mul_lt _ _) na (nonzero_product (inv g1) (inv g1) (inv_lt g1) (inv_lt g1) na na)

      -- s
      pub mirror : ℕ → ℕ
      mirror x = inv (third · divisor x)

      pub mirror_lt : (x : ℕ) → mirror x < q
      unfolding mirror
      mirror_lt x = inv_lt _

      back : (x : ℕ) → inv (mirror x) ≡ third · divisor x
      unfolding mirror
      back x = inv_inv inv_zero (third · divisor x) (mul_lt _ _)

      pub mirror_injective : (x y : ℕ) → x < q → y < q → mirror x ≡ mirror y → x ≡ y
      mirror_injective x y hx hy e =
          let same : third · divisor x ≡ third · divisor y = sym (back x) ∙ ap inv e ∙ back y in
          let z : divisor x ≡ divisor y = sym (inv_cancel K third (divisor x) third_lt third_not (divisor_lt x)) ∙ ap (λ t. inv third · t) same
          ∙ inv_cancel K third (divisor y) third_lt third_not (divisor_lt y) in
          from_divisor x hx ∙ ap (λ t. a · t ⊕ b) z ∙ sym (from_divisor y hy)

      pub slope : ℕ
      slope = (first ⊕ root K (right F C b)) · third

      pub mirror_zero : (x : ℕ) → divisor x ≡ 0 → mirror x ≡ 0
      unfolding mirror
      mirror_zero x z = ap (λ t. inv (third · t)) z ∙ ap inv (·_zero K third) ∙ inv_zero

      module _ (x : ℕ) (nz : divisor x ≡ 0 → ⊥) where
        product_not : third · divisor x ≡ 0 → ⊥
        product_not = nonzero_product third (divisor x) third_lt (divisor_lt x) third_not nz

        pub mirror_not : mirror x ≡ 0 → ⊥
        mirror_not z = product_not (sym (back x) ∙ ap inv z ∙ inv_zero)

        inverse_as : inv (divisor x) ≡ third · mirror x
        unfolding mirror
        inverse_as =
            let grouped : divisor x · (third · inv (third · divisor x)) ≡ (third · divisor x) · inv (third · divisor x) = simp ring in
            sym (inv_unique K (divisor x) _ (divisor_lt x) (mul_lt _ _) (grouped ∙ mul_inv _ (mul_lt _ _) product_not))

        pub mirrored : (y : ℕ) → x < q → left F C x y ≡ right F C x → Solvable (inv (mirror x) ⊕ (slope · mirror x ⊕ second))
        unfolding slope
        mirrored y hx e =
            let z = divisor x in
            let w = inv z in
            let d = right F C b in
            let r = root K d in
            let one = mul_inv z (divisor_lt x) nz in
            let cubic = ap (right F C) (from_divisor x hx) ∙ expanded z in
            let divided = ap (λ t. t · (w · w)) cubic ∙ over_square third second first d z w one second_lt (divisor_lt x) (inv_lt z) in
            let h = divided ∙ ap (λ t. third · z ⊕ second ⊕ first · w ⊕ t) (square r w (root_square K d (right_lt K C below b))) in
            let parts = ap₂ (λ p t. p ⊕ (t ⊕ second)) (sym (back x)) (ap (λ t. (first ⊕ r) · t) inverse_as ∙ sym (·_assoc K (first ⊕ r) third (mirror x))) in
            subst (λ v. Solvable v) (rejoined third z second first w r ∙ parts)
            (solvable x y w (third · z ⊕ second ⊕ first · w) (r · w) (mul_lt r w) one e h)

    -- ---- g1 is 0 and g3 is not: f/z² is a cubic in X, whose first coefficient is r but for a cube, that of s; x is s·X
    module _ (flat : g1 ≡ 0) (n : g3 ≡ 0 → ⊥) (r s : ℕ) (hs : s < q) (ns : s ≡ 0 → ⊥) (cube : inv g3 · inv g3 ≡ r · (s · (s · s))) where
      pub flat_slope : ℕ
      flat_slope = (g4 · (inv g3 · inv g3) ⊕ root K g2 · inv g3) · inv s

      pub flat_rest : ℕ
      flat_rest = g6 · (inv g3 · inv g3)

      pub scaled : (x y : ℕ) → x < q → left F C x y ≡ right F C x → Solvable (r · (s · x · (s · x · (s · x))) ⊕ (flat_slope · (s · x) ⊕ flat_rest))
      unfolding flat_slope flat_rest
      scaled x y hx e =
          let w = inv g3 in
          let c = root K g2 in
          let k = w · w · (x · (x · x)) ⊕ g4 · (w · w) · x ⊕ g6 · (w · w) in
          let one = ap (λ t. t · w) (trace_flat K C below flat x) ∙ mul_inv g3 (g3_lt K C below) n in
          let h = cubic_times g2 g4 g6 x w ∙ ap (λ t. k ⊕ t) (square c (w · x) (root_square K g2 (coefficient K C below 1 (omega arith)))) in
          let m = g4 · (w · w) ⊕ c · w in
          let linear = ap (λ t. m · t) (sym (inv_cancel K s x hs ns hx)) ∙ sym (·_assoc K m (inv s) (s · x)) in
          let parts = ap₂ (λ p t. p ⊕ (t ⊕ g6 · (w · w))) (ap (λ t. t · (x · (x · x))) cube ∙ cubed r s x) linear in
          subst (λ v. Solvable v) (gathered (w · w) (g4 · (w · w)) (g6 · (w · w)) c w x ∙ parts) (solvable x y w k (c · (w · x)) (mul_lt c (w · x)) one e h)
