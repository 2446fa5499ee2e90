-- Values that are quotients but for one, whose divisor is zero: their sum, which is known, gives that one.
use Prim.Native.Nat.{ℕ, zero, suc, ◌<◌}
use mathlib.Core.Path.{◌≡◌, refl, sym, ◌∙◌, ap, ap₂}
use native.Mathlib.Decide.{ℕ_discrete}
use native.Mathlib.Omega.{arith}
use Rattle.field.specs.Sum.{◌⊕◌}
use Rattle.field.proofs.Sum.{⊕_assoc, ⊕_comm, ⊕_eq, ⊕_self, ⊕_zero}
use Rattle.field.specs.Field.{Arithmetic, Field}
use Rattle.field.proofs.Laws.{ring, mul_one}
use Rattle.generator.specs.Rows.{total}

-- ---- sums

pub total_as : (g h : ℕ → ℕ) (i : ℕ) → ((j : ℕ) → j < i → g j ≡ h j) → total g i ≡ total h i
total_as g h zero e = refl
total_as g h (suc i) e = ap₂ (λ x y. x ⊕ y) (total_as g h i (λ j l. e j (omega arith))) (e i (omega arith))

-- one term apart
pub total_but : (g h : ℕ → ℕ) (o i : ℕ) → o < i → ((j : ℕ) → j < i → (j ≡ o → ⊥) → g j ≡ h j) → h o ≡ 0 → total g i ≡ g o ⊕ total h i
total_but g h o zero l e z = absurd (omega arith)
total_but g h o (suc i) l e z =
    elim (ℕ_discrete i o) [
      | yes q ↦
          ap₂ (λ x y. x ⊕ y) (total_as g h i (λ j k. e j (omega arith) (λ w. omega arith))) (ap g q) ∙ ⊕_comm (total h i) (g o)
          ∙ ap (λ y. g o ⊕ y) (sym (⊕_zero (total h i)) ∙ ap (λ y. total h i ⊕ y) (sym (ap h q ∙ z)))
      | no q ↦
          ap₂ (λ x y. x ⊕ y) (total_but g h o i (omega arith) (λ j k. e j (omega arith)) z) (e i (omega arith) q) ∙ ⊕_assoc (g o) (total h i) (h i)
    ]

pub total_sum : (g h : ℕ → ℕ) (i : ℕ) → total (λ j. g j ⊕ h j) i ≡ total g i ⊕ total h i
total_sum g h zero = sym (⊕_zero 0)
total_sum g h (suc i) = ap (λ y. y ⊕ (g i ⊕ h i)) (total_sum g h i) ∙ four (total g i) (total h i) (g i) (h i)
  where
    four : (a b c d : ℕ) → a ⊕ b ⊕ (c ⊕ d) ≡ a ⊕ c ⊕ (b ⊕ d)
    four a b c d = ⊕_assoc a b (c ⊕ d) ∙ ap (λ y. a ⊕ y) (sym (⊕_assoc b c d) ∙ ap (λ y. y ⊕ d) (⊕_comm b c) ∙ ⊕_assoc c b d) ∙ sym (⊕_assoc a c (b ⊕ d))

module _ {F : Arithmetic} (K : Field F) where
  infixl 70 ◌·◌
  open F use {q, ◌·◌, inv}
  open K use {add_lt, mul_inv}

  pub total_times : (g : ℕ → ℕ) (c i : ℕ) → total (λ j. g j · c) i ≡ total g i · c
  total_times g c zero = none c
    where
      none : (c : ℕ) → 0 ≡ 0 · c
      none c = simp ring
  total_times g c (suc i) = ap (λ y. y ⊕ g i · c) (total_times g c i) ∙ join (total g i) (g i) c
    where
      join : (a b c : ℕ) → a · c ⊕ b · c ≡ (a ⊕ b) · c
      join a b c = simp ring

  -- ---- quotients

  -- a = (a·b)/b
  pub over : (a b : ℕ) → a < q → b < q → (b ≡ 0 → ⊥) → a · b · inv b ≡ a
  over a b ha hb n = swap a b (inv b) ∙ ap (λ t. a · t) (mul_inv b hb n) ∙ mul_one K a ha
    where
      swap : (x y z : ℕ) → x · y · z ≡ x · (y · z)
      swap x y z = simp ring

  -- v j is n j over α + x j, where that is not zero, and all of them together are s
  module _ {x v n : ℕ → ℕ} {α count : ℕ} (α-lt : α < q) (x_lt : (j : ℕ) → j < count → x j < q) (v_lt : (j : ℕ) → j < count → v j < q)
      (divides : (j : ℕ) → j < count → (α ⊕ x j) · v j ≡ n j) where
    pub part_away : (j : ℕ) → j < count → (x j ≡ α → ⊥) → n j · inv (α ⊕ x j) ≡ v j
    part_away j l d =
        ap (λ y. y · inv (α ⊕ x j)) (sym (divides j l) ∙ swap (α ⊕ x j) (v j))
        ∙ over (v j) (α ⊕ x j) (v_lt j l) (add_lt _ _ α-lt (x_lt j l)) (λ z. d (sym (⊕_eq z)))
      where
        swap : (a b : ℕ) → a · b ≡ b · a
        swap a b = simp ring

    pub part_over : (j : ℕ) → j < count → x j ≡ α → n j · inv (α ⊕ x j) ≡ 0
    part_over j l e = ap (λ y. y · inv (α ⊕ x j)) (sym (divides j l) ∙ ap (λ y. y · v j) (ap (λ y. α ⊕ y) e ∙ ⊕_self α)) ∙ none (v j) (inv (α ⊕ x j))
      where
        none : (a b : ℕ) → 0 · a · b ≡ 0
        none a b = simp ring

    -- the one over α is what the others leave of the sum
    pub left_over : {s : ℕ} (o : ℕ) → o < count → x o ≡ α → ((j : ℕ) → j < count → x j ≡ α → j ≡ o) → total v count ≡ s → v o ≡ s ⊕ total (λ j. n j · inv (α ⊕ x j)) count
    left_over o l e alone t =
        let part : ℕ → ℕ = λ j. n j · inv (α ⊕ x j) in
        sym (cancel (v o) (total part count)) ∙ ap (λ y. y ⊕ total part count)
        (sym (total_but v part o count l (λ j k d. sym (part_away j k (λ w. d (alone j k w)))) (part_over o l e)) ∙ t)
      where
        cancel : (a b : ℕ) → a ⊕ b ⊕ b ≡ a
        cancel a b = simp ring
