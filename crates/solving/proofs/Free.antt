-- Which index the last place that is used has, by whether L is zero at the k-th: past the list exactly where there are k places that are dependent.
use Prim.Native.Nat.{ℕ, suc, ◌-◌, ◌<◌, ◌≤◌}
use mathlib.Core.Path.{◌≡◌, refl, sym, ◌∙◌, ap, ap₂}
use mathlib.Core.Bool.{Bool, true, false, not, cond, ◌&&◌}
use mathlib.Core.List.{List, [], ◌∷◌, ◌++◌}
use native.Mathlib.Omega.{arith}
use native.Mathlib.Decide.{ℕ_discrete}
use borrow.Author.Tests.{eq-eqb, ne_eqb}
use lib.Dec.{eqb}
use lib.ListN.{length, get_or, take}
use lib.Seq.{take-suc, take_all}
use Rattle.elliptic.specs.Pair.{evaluate, after}
use Rattle.codewords.specs.Code.{Code, arithmetic}
use Rattle.codewords.specs.Codewords.{symbols, dependent, usable, pick}
use Rattle.codewords.specs.Computed.{points_of, last_zero, last_index}
use Rattle.codewords.proofs.Choice.{dependent_usable}
use Rattle.codewords.proofs.Ranks.{all_claim}
use Rattle.codewords.proofs.Computed.{computed}
use Rattle.engine.specs.declared.pair.Sizes.{Sizes}
use Rattle.engine.specs.Arrays.{Pair}
use Rattle.engine.specs.Places.{point_of}
use Rattle.solving.specs.Given.{Placed, Posed}
use Rattle.solving.proofs.Link.{accepted, are_different, are_places, is_dependent, pts, zero_last}

pub index_most : (k : ℕ) (b : Bool) → cond b k (k - 1) ≤ k
index_most k true = omega arith
index_most k false = omega arith

pub index_least : (k : ℕ) (b : Bool) → k - 1 ≤ cond b k (k - 1)
index_least k true = omega arith
index_least k false = omega arith

module _ {code : Code} {J : List ℕ} (p : Placed code J) (us : List ℕ) (s : symbols code us ≡ true) (h : code.k ≤ length J) {z : Bool}
    (e : z ≡ last_zero (arithmetic code) code.k (points_of code J) us) where
  abbrev index : Bool → ℕ
  index b = cond b code.k (code.k - 1)

  pub not_free : index z ≡ length J → not (eqb (length J) code.k && dependent code J) ≡ false
  not_free past = by z refl
    where
      by : (b : Bool) → z ≡ b → not (eqb (length J) code.k && dependent code J) ≡ false
      by true t =
          let full : length J ≡ code.k = sym (ap index (sym t) ∙ past) in
          ap₂ (λ a b. not (a && b)) (eq-eqb _ _ full) (is_dependent p us s full e ∙ t)
      by false t = absurd (omega (arith, ap index (sym t) ∙ past, (accepted p).k_least))

  module _ (inside : index z ≡ length J → ⊥) where
    -- k places are then not dependent
    independent : length J ≡ code.k → dependent code J ≡ false
    independent full = is_dependent p us s full e ∙ by z refl
      where
        by : (b : Bool) → z ≡ b → b ≡ false
        by true t = absurd (inside (ap index t ∙ sym full))
        by false t = refl

    pub is_free : not (eqb (length J) code.k && dependent code J) ≡ true
    is_free = by (ℕ_discrete (length J) code.k)
      where
        by : Dec (length J ≡ code.k) → not (eqb (length J) code.k && dependent code J) ≡ true
        by (yes full) = ap₂ (λ a b. not (a && b)) (eq-eqb _ _ full) (independent full)
        by (no more) = ap (λ a. not (a && dependent code J)) (ne_eqb _ _ more)

    pub works : length J ≡ code.k → usable code J ≡ true
    works full = dependent_usable code J (independent full)

    pub index_lt : index z < length J
    index_lt = by z refl
      where
        by : (b : Bool) → z ≡ b → index b < length J
        by true t = let past : code.k ≡ length J → ⊥ = λ g. inside (ap index t ∙ g) in omega arith
        by false t = omega (arith, (accepted p).k_least)

    -- what Pick gives
    pub picked : pick code J ≡ take (code.k - 1) J ++ get_or J (index z) 0 ∷ []
    unfolding last_index
    picked = by (ℕ_discrete (length J) code.k)
      where
        by : Dec (length J ≡ code.k) → pick code J ≡ take (code.k - 1) J ++ get_or J (index z) 0 ∷ []
        by (yes full) =
            let k : suc (code.k - 1) ≡ code.k = omega (arith, (accepted p).k_least) in
            let c : code.k - 1 < length J = omega (arith, (accepted p).k_least) in
            let z-false : z ≡ false = sym (is_dependent p us s full e) ∙ independent full in
            all_claim code (accepted p) J (are_places p) h full ∙ ap (λ b. cond b J (take (code.k - 1) J)) (works full)
            ∙ sym (take_all (suc (code.k - 1)) J (omega arith)) ∙ take-suc J (code.k - 1) 0 c
            ∙ ap (λ b. take (code.k - 1) J ++ get_or J (index b) 0 ∷ []) (sym z-false)
        by (no more) =
            (computed code p.done).pick_by J us (are_different p) s (omega arith)
            ∙ ap (λ b. take (code.k - 1) J ++ get_or J (index b) 0 ∷ []) (sym e)

-- the last place is one of the list
pub last_in : {code : Code} {J us : List ℕ} {z : Bool} {i : ℕ} (g : Posed code J us) → z ≡ last_zero (arithmetic code) code.k (points_of code J) us → i ≡ cond z code.k (code.k - 1)
    → (i ≡ length J → ⊥) → i < length J
last_in {us = us} g e d o = rw d (index_lt g.placed us g.are_symbols g.at_least e (λ q. o (d ∙ q)))

pub last_lt : {code : Code} {J us l u : List ℕ} {n : Sizes} {a i : ℕ} {r : Bool} (g : Posed code J us) → Pair l u n (after (arithmetic code) (pts g.placed) us (code.k - 1))
    → a ≡ get_or J (code.k - 1) 0 → r ≡ eqb (evaluate (arithmetic code) (take n.low (cond n.turned u l)) (point_of code.xs code.ys a)) 0 → i ≡ cond r code.k (code.k - 1)
    → (i ≡ length J → ⊥) → i < length J
last_lt {us = us} g q x e d o = last_in g (zero_last g.placed us g.are_symbols g.at_least q x e) d o
