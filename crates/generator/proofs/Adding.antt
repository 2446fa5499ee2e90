-- A row stays a row when a point is added: it loses the multiple of the raised function that it had there. Plain algebra at each point.
use Prim.Native.Nat.{ℕ, ◌+◌, ◌<◌, ◌≤◌}
use mathlib.Core.Path.{◌≡◌, refl, sym, ◌∙◌, ap, ap₂}
use mathlib.Core.Bool.{cond}
use mathlib.Core.List.{List}
use native.Mathlib.Decide.{ℕ_discrete}
use native.Mathlib.Omega.{arith}
use borrow.Author.Tests.{eq-eqb, ne_eqb}
use lib.ListN.{length, get_or}
use Rattle.field.specs.Sum.{◌⊕◌}
use Rattle.field.proofs.Sum.{⊕_eq}
use Rattle.field.specs.Field.{Arithmetic, Field}
use Rattle.field.proofs.Laws.{ring, zero_lt}
use Rattle.field.specs.Galois.{IsField, galois, product, inverse, size}
use Rattle.field.proofs.Galois.{galois_field}
use Rattle.values.specs.Values.{Passes}
use Rattle.generator.specs.Rows.{Row, RowIn, RowsRaised, RowsEither, RowsStep, Ready, total, gained, raised_of, quotient_at, entry_at}
use Rattle.generator.proofs.Sums.{over, total_times, part_away, left_over}

module _ {F : Arithmetic} (K : Field F) where
  infixl 70 ◌·◌
  open F use {q, ◌·◌, inv}
  open K use {mul_lt, inv_lt, one_mul}

  -- the two sides differ by a multiple of what is zero
  step_sides : (X x α a b t e r s : ℕ) → a · r ⊕ b · s ⊕ (X ⊕ x) · (e · r) ⊕ (e · ((X ⊕ α) · r) ⊕ b · (s ⊕ t · r)) ≡ ((α ⊕ x) · e ⊕ (a ⊕ t · b)) · r
  step_sides X x α a b t e r s = simp ring

  spread : (X f e r : ℕ) → X · (f ⊕ e · r) ≡ X · f ⊕ X · (e · r)
  spread X f e r = simp ring

  factored : (a b r s i : ℕ) → a · r · i ⊕ s · i · b ≡ (a · r ⊕ b · s) · i
  factored a b r s i = simp ring

  associated : (x f i : ℕ) → x · f · i ≡ x · (f · i)
  associated x f i = simp ring

  vanish : (y z : ℕ) → (y ⊕ y) · z ≡ 0
  vanish y z = simp ring

  module _ {xs r s : List ℕ} {x a b i : ℕ} {f : ℕ → ℕ} (w : Row F xs r s i x a b f) (inside : i < length xs) (r-lt : get_or r i 0 < q) (some : get_or r i 0 ≡ 0 → ⊥) where
    -- what the factors say at the point itself
    pub balance : (get_or xs i 0 ⊕ x) · (f i · inv (get_or r i 0)) ≡ a ⊕ get_or s i 0 · inv (get_or r i 0) · b
    balance =
        let rc = get_or r i 0 in
        sym (ap (λ y. y ⊕ get_or s i 0 · inv rc · b) (sym (over K a rc w.first_lt r-lt some)) ∙ factored a b rc (get_or s i 0) (inv rc)
        ∙ ap (λ y. y · inv rc) (sym (w.at i (omega arith) inside)) ∙ associated (get_or xs i 0 ⊕ x) (f i) (inv rc))

    pub row_step : {r' s' : List ℕ} {a' b' : ℕ} → a' ≡ f i · inv (get_or r i 0) → b' ≡ b
        → ((t : ℕ) → i + 1 ≤ t → t < length xs → get_or r' t 0 ≡ (get_or xs t 0 ⊕ get_or xs i 0) · get_or r t 0)
        → ((t : ℕ) → i + 1 ≤ t → t < length xs → get_or s' t 0 ≡ get_or s t 0 ⊕ get_or s i 0 · inv (get_or r i 0) · get_or r t 0)
        → Row F xs r' s' (i + 1) x a' b' (gained F i r f)
    row_step {r'} {s'} p k raised cancelled =
        let e = f i · inv (get_or r i 0) in
        let α = get_or xs i 0 in
        rw (p, k)
        (record {
          at = λ t h l. ⊕_eq
              (ap₂ (λ y z. (get_or xs t 0 ⊕ x) · gained F i r f t ⊕ (e · y ⊕ b · z)) (raised t h l) (cancelled t h l)
              ∙ ap (λ y. y ⊕ (e · ((get_or xs t 0 ⊕ α) · get_or r t 0) ⊕ b · (get_or s t 0 ⊕ get_or s i 0 · inv (get_or r i 0) · get_or r t 0)))
              (spread (get_or xs t 0 ⊕ x) (f t) e (get_or r t 0) ∙ ap (λ y. y ⊕ (get_or xs t 0 ⊕ x) · (e · get_or r t 0)) (w.at t (omega arith) l))
              ∙ step_sides (get_or xs t 0) x α a b (get_or s i 0 · inv (get_or r i 0)) e (get_or r t 0) (get_or s t 0)
              ∙ ap (λ y. (y ⊕ (a ⊕ get_or s i 0 · inv (get_or r i 0) · b)) · get_or r t 0) balance ∙ vanish (a ⊕ get_or s i 0 · inv (get_or r i 0) · b) (get_or r t 0));
          first_lt = mul_lt _ _;
          second_lt = w.second_lt;
        })

  -- the row of the new point
  pub row_new : (xs r r' s' : List ℕ) (i : ℕ) {a b : ℕ} → ((t : ℕ) → i + 1 ≤ t → t < length xs → get_or r' t 0 ≡ (get_or xs t 0 ⊕ get_or xs i 0) · get_or r t 0) → a ≡ inv (get_or r i 0) → b ≡ 0
      → Row F xs r' s' (i + 1) (get_or xs i 0) a b (λ t. inv (get_or r i 0) · get_or r t 0)
  row_new xs r r' s' i p e z =
      rw (e, z)
      (record {
        at = λ t h l. sym (ap (λ y. inv (get_or r i 0) · y ⊕ 0 · get_or s' t 0) (p t h l) ∙ moved (inv (get_or r i 0)) (get_or xs t 0 ⊕ get_or xs i 0) (get_or r t 0) (get_or s' t 0));
        first_lt = inv_lt _;
        second_lt = zero_lt K;
      })
    where
      moved : (a x r s : ℕ) → a · (x · r) ⊕ 0 · s ≡ x · (a · r)
      moved a x r s = simp ring

  pub no_gain : (x y z : ℕ) → x ≡ x ⊕ 0 · y · z
  no_gain x y z = simp ring

  pub no_factor : (y z : ℕ) → y ≡ 0 → 0 ≡ y · z
  no_factor y z e = none z ∙ ap (λ x. x · z) (sym e)
    where
      none : (z : ℕ) → 0 ≡ 0 · z
      none z = simp ring

  -- the functions the other way round
  pub row_swap : {xs l u : List ℕ} {d x a b : ℕ} {f : ℕ → ℕ} → Row F xs l u d x a b f → Row F xs u l d x b a f
  row_swap {l = l} {u} {a = a} {b} w = record { at = λ t h m. w.at t h m ∙ swap (a · get_or l t 0) (b · get_or u t 0); first_lt = w.second_lt; second_lt = w.first_lt }
    where
      swap : (x y : ℕ) → x ⊕ y ≡ y ⊕ x
      swap x y = simp ring

  -- all rows together, over the raised function
  whole_over : (g : ℕ → ℕ) (c i : ℕ) → c < q → total g i ≡ 1 → total (λ j. g j · c) i ≡ c
  whole_over g c i h e = total_times K g c i ∙ ap (λ y. y · c) e ∙ one_mul c h

-- ---- all rows at once

module _ {m : ℕ} (k : IsField m) (i : ℕ) (xs : List ℕ) (r s r' s' : List ℕ) {t : ℕ} {a b a' b' : List ℕ} (w : RowsRaised m i (get_or r i 0) t xs a b a' b')
    (raised : (y : ℕ) → i + 1 ≤ y → y < length xs → get_or r' y 0 ≡ product m (get_or xs y 0 ⊕ get_or xs i 0) (get_or r y 0)) where
  raised_old : t ≡ product m (get_or s i 0) (inverse m (get_or r i 0))
      → ((y : ℕ) → i + 1 ≤ y → y < length xs → get_or s' y 0 ≡ get_or s y 0 ⊕ product m (product m (get_or s i 0) (inverse m (get_or r i 0))) (get_or r y 0))
      → (f : ℕ → ℕ → ℕ) → Ready m i xs r r s f → ((j : ℕ) → j < i → RowIn m xs r s i a b j (f j)) → (j : ℕ) → j < i → RowIn m xs r' s' (i + 1) a' b' j (gained (galois m) i r (f j))
  raised_old ratio cancelled f e rows j l =
      row_step (galois_field k) (rows j l) e.inside e.first_lt e.some (by (ℕ_discrete (get_or xs j 0) (get_or xs i 0))) (w.second j l) raised cancelled
    where
      K : Field (galois m)
      K = galois_field k

      divides : (y : ℕ) → y < i → product m (get_or xs i 0 ⊕ get_or xs y 0) (product m (f y i) (inverse m (get_or r i 0))) ≡ get_or a y 0 ⊕ product m t (get_or b y 0)
      divides y h = balance K (rows y h) e.inside e.first_lt e.some ∙ ap (λ z. get_or a y 0 ⊕ product m z (get_or b y 0)) (sym ratio)

      small : (y : ℕ) → y < i → get_or xs y 0 < size m
      small y h = e.point_lt y (omega (arith, e.inside))

      by : Dec (get_or xs j 0 ≡ get_or xs i 0) → get_or a' j 0 ≡ product m (f j i) (inverse m (get_or r i 0))
      by (yes d) =
          w.over j l d (λ y h g. e.alone j y l h d g)
          ∙ sym (left_over K (e.point_lt i e.inside) small (λ y h. K.mul_lt _ _) divides j l d (λ y h g. e.alone j y l h d g)
          (whole_over K (λ y. f y i) (inverse m (get_or r i 0)) i (K.inv_lt _) (e.whole (omega arith))))
      by (no d) = w.away j l d ∙ part_away K (e.point_lt i e.inside) small (λ y h. K.mul_lt _ _) divides j l d

  raised_new : RowIn m xs r' s' (i + 1) a' b' i (λ t. product m (inverse m (get_or r i 0)) (get_or r t 0))
  raised_new = row_new (galois_field k) xs r r' s' i raised w.new_first w.new_second

-- what is raised
raised_zero : (i : ℕ) (l u : List ℕ) → get_or l i 0 ≡ 0 → raised_of i l u ≡ u
raised_zero i l u z = rw (eq-eqb (get_or l i 0) 0 z)

raised_other : (i : ℕ) (l u : List ℕ) → (get_or l i 0 ≡ 0 → ⊥) → raised_of i l u ≡ l
raised_other i l u z = rw (ne_eqb (get_or l i 0) 0 z)

ready_round : {m i : ℕ} {xs r l u : List ℕ} {f : ℕ → ℕ → ℕ} → Ready m i xs r l u f → Ready m i xs r u l f
ready_round e =
    record { inside = e.inside; point_lt = e.point_lt; first_lt = e.second_lt; second_lt = e.first_lt; value_lt = e.value_lt; some = e.some; whole = e.whole; alone = e.alone }

module _ {m : ℕ} (k : IsField m) (i : ℕ) (xs : List ℕ) (l u l' u' : List ℕ) {a b a' b' : List ℕ} (p : Passes m xs i (i + 1) l u l' u') where
  -- L is zero at the point: U is raised
  rows_keep : get_or l i 0 ≡ 0 → RowsRaised m i (get_or u i 0) 0 xs b a b' a' → RowsStep m i xs u l u a b l' u' a' b'
  rows_keep z w =
      record {
        first_size = w.second_size;
        second_size = w.first_size;
        old = λ f e rows j n.
            row_swap (galois_field k)
            (raised_old k i xs u l u' l' w (p.raised_high z) (no_factor (galois_field k) (get_or l i 0) (inverse m (get_or u i 0)) z)
            (λ t h g. p.kept_low z t h g ∙ no_gain (galois_field k) (get_or l t 0) (inverse m (get_or u i 0)) (get_or u t 0) ∙ ap (λ y. get_or l t 0 ⊕ product m (product m y (inverse m (get_or u i 0))) (get_or u t 0)) (sym z))
            f (ready_round e) (λ y h. row_swap (galois_field k) (rows y h)) j n);
        new = row_swap (galois_field k) (raised_new k i xs u l u' l' w (p.raised_high z));
      }

  -- it is not
  rows_raise : (get_or l i 0 ≡ 0 → ⊥) → RowsRaised m i (get_or l i 0) (product m (get_or u i 0) (inverse m (get_or l i 0))) xs a b a' b' → RowsStep m i xs l l u a b l' u' a' b'
  rows_raise z w =
      record {
        first_size = w.first_size;
        second_size = w.second_size;
        old = raised_old k i xs l u l' u' w (p.raised_low z) refl (p.cancelled_high z);
        new = raised_new k i xs l u l' u' w (p.raised_low z);
      }

  pub rows_both : RowsEither m i xs l u a b a' b' → RowsStep m i xs (raised_of i l u) l u a b l' u' a' b'
  rows_both w =
      elim (ℕ_discrete (get_or l i 0) 0) [
        | yes z ↦ rw (raised_zero i l u z) (rows_keep z (w.by_high z))
        | no n ↦ rw (raised_other i l u n) (rows_raise n (w.by_low n))
      ]

-- the functions the other way round
pub rows_round : {m i : ℕ} (k : IsField m) {xs r l u a b l' u' a' b' : List ℕ} → RowsStep m i xs r u l b a u' l' b' a' → RowsStep m i xs r l u a b l' u' a' b'
rows_round k s =
    record {
      first_size = s.second_size;
      second_size = s.first_size;
      old = λ f e rows j n. row_swap (galois_field k) (s.old f (ready_round e) (λ y h. row_swap (galois_field k) (rows y h)) j n);
      new = row_swap (galois_field k) s.new;
    }

-- the entry that the factors give is the value
pub entry_is : {m : ℕ} (k : IsField m) (xs l u a b : List ℕ) (count s j : ℕ) (f : ℕ → ℕ → ℕ) → count ≤ s → s < length xs → ((y : ℕ) → y < length xs → get_or xs y 0 < size m)
    → ((y : ℕ) → y < count → f y s < size m) → ((y : ℕ) → y < count → RowIn m xs l u count a b y (f y)) → total (λ y. f y s) count ≡ 1
    → ((y z : ℕ) → y < count → z < count → get_or xs y 0 ≡ get_or xs s 0 → get_or xs z 0 ≡ get_or xs s 0 → z ≡ y) → j < count → entry_at m xs l u a b count j s ≡ f j s
entry_is {m} k xs l u a b count s j f later inside x_lt f_lt rows whole alone h = by (ℕ_discrete (get_or xs s 0) (get_or xs j 0))
  where
    divides : (y : ℕ) → y < count → product m (get_or xs s 0 ⊕ get_or xs y 0) (f y s) ≡ product m (get_or a y 0) (get_or l s 0) ⊕ product m (get_or b y 0) (get_or u s 0)
    divides y g = (rows y g).at s later inside

    small : (y : ℕ) → y < count → get_or xs y 0 < size m
    small y g = x_lt y (omega arith)

    by : Dec (get_or xs s 0 ≡ get_or xs j 0) → entry_at m xs l u a b count j s ≡ f j s
    by (yes e) =
        ap (λ t. cond t (1 ⊕ total (quotient_at m (get_or xs s 0) (get_or l s 0) (get_or u s 0) xs a b) count) (quotient_at m (get_or xs s 0) (get_or l s 0) (get_or u s 0) xs a b j)) (eq-eqb _ _ e)
        ∙ sym (left_over (galois_field k) (x_lt s inside) small f_lt divides j h (sym e) (λ y g d. alone j y h g (sym e) d) whole)
    by (no e) =
        ap (λ t. cond t (1 ⊕ total (quotient_at m (get_or xs s 0) (get_or l s 0) (get_or u s 0) xs a b) count) (quotient_at m (get_or xs s 0) (get_or l s 0) (get_or u s 0) xs a b j)) (ne_eqb _ _ e)
        ∙ part_away (galois_field k) (x_lt s inside) small f_lt divides j h (λ d. e (sym d))
