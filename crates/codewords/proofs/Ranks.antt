-- Which ranks Pick gives: of more than k places ranks 1 to k or, where these are dependent, ranks 1 to k − 1 and k + 1; of k usable places all.
use Prim.Native.Nat.{ℕ, suc, ◌-◌, ◌<◌, ◌≤◌}
use mathlib.Core.Path.{◌≡◌, refl, sym, ◌∙◌, ap, ap₂, subst}
use mathlib.Core.Bool.{Bool, true, false, cond}
use mathlib.Core.List.{List, [], ◌∷◌, ◌++◌}
use native.Mathlib.Omega.{arith}
use lib.ListN.{length, get_or, take, drop, drop_of_length-le}
use lib.Seq.{split_at, take-suc, drop-cons, length-take-le}
use Rattle.codewords.specs.Code.{Code}
use Rattle.codewords.specs.Codewords.{choice, dependent, usable, keep, pick, first_ranks, next_ranks}
use Rattle.codewords.proofs.Accepted.{Accepted}
use Rattle.codewords.proofs.Places.{Places, true_choice}
use Rattle.codewords.proofs.Choice.{k_suc, dependent_usable}
use Rattle.codewords.proofs.Picking.{places_snoc, full, pick_first, pick_without, pick_next}

module _ (code : Code) (a : Accepted code) (ranked : List ℕ) (P : Places code ranked) (n : code.k ≤ length ranked) where
  -- ranks 1 to k − 1, rank k, and what is left
  abbrev K : List ℕ
  K = take (code.k - 1) ranked

  abbrev p : ℕ
  p = get_or ranked (code.k - 1) 0

  abbrev R : List ℕ
  R = drop code.k ranked

  size : suc (length K) ≡ code.k
  size = ap suc (length-take-le (code.k - 1) ranked (omega arith)) ∙ sym (k_suc code a)

  shape : ranked ≡ K ++ p ∷ R
  shape =
      let h : code.k - 1 < length ranked = omega (arith, k_suc code a) in
      split_at ranked (code.k - 1) 0 h ∙ ap (λ i. K ++ p ∷ drop i ranked) (sym (k_suc code a))

  first : first_ranks code ranked ≡ K ++ p ∷ []
  unfolding first_ranks
  first =
      let h : code.k - 1 < length ranked = omega (arith, k_suc code a) in
      ap (λ k. take k ranked) (k_suc code a) ∙ take-suc ranked (code.k - 1) 0 h

  -- rank k + 1
  module _ (more : code.k < length ranked) where
    abbrev r : ℕ
    r = get_or ranked code.k 0

    shape_more : ranked ≡ K ++ p ∷ r ∷ drop (suc code.k) ranked
    shape_more = shape ∙ ap (λ l. K ++ p ∷ l) (drop-cons ranked code.k 0 more)

    -- what Pick gives is one of the two, a choice, and usable
    abbrev Claim : Type 0
    Claim =
        (pick code ranked ≡ cond (usable code (first_ranks code ranked)) (first_ranks code ranked) (next_ranks code ranked))
        × (choice code (pick code ranked) ≡ true) × (usable code (pick code ranked) ≡ true)

    pub more_claim : Claim
    unfolding next_ranks
    more_claim = by (dependent code (K ++ p ∷ [])) refl
      where
        P' : Places code (K ++ p ∷ r ∷ drop (suc code.k) ranked)
        P' = subst (λ l. Places code l) shape_more P

        chosen : (b : Bool) (J : List ℕ) → usable code (K ++ p ∷ []) ≡ b → J ≡ cond b (K ++ p ∷ []) (K ++ r ∷ []) → pick code ranked ≡ J → Places code J → length J ≡ code.k
            → dependent code J ≡ false → Claim
        chosen b J u e g Q l d =
            (g ∙ e ∙ ap₂ (λ b f. cond b f (K ++ r ∷ [])) (sym (ap (usable code) first ∙ u)) (sym first), ap (choice code) g ∙ true_choice code Q l, ap (usable code) g ∙ dependent_usable code J d)

        by : (b : Bool) → dependent code (K ++ p ∷ []) ≡ b → Claim
        by false d =
            chosen true (K ++ p ∷ []) (dependent_usable code (K ++ p ∷ []) d) refl (ap (pick code) shape_more ∙ pick_first code a K size p _ P' d)
            (places_snoc code K p _ P') (full code a K size p) d
        by true d =
            let (u, Q, g) = pick_next code a K size p r _ P' d in
            chosen false (K ++ r ∷ []) (dependent_usable code (K ++ p ∷ []) d) refl (ap (pick code) shape_more ∙ g) Q (full code a K size r) u

  pub all_claim : length ranked ≡ code.k → pick code ranked ≡ cond (usable code ranked) ranked K
  unfolding keep
  all_claim m = by (dependent code ranked) refl
    where
      none : R ≡ []
      none = drop_of_length-le ranked {i = code.k} (omega arith)

      whole : ranked ≡ K ++ p ∷ []
      whole = shape ∙ ap (λ l. K ++ p ∷ l) none

      P' : Places code (K ++ p ∷ [])
      P' = subst (λ l. Places code l) whole P

      by : (b : Bool) → dependent code ranked ≡ b → pick code ranked ≡ cond (usable code ranked) ranked K
      by false d =
          ap (pick code) whole ∙ pick_first code a K size p [] P' (ap (dependent code) (sym whole) ∙ d) ∙ sym whole
          ∙ ap (λ b. cond b ranked K) (sym (dependent_usable code ranked d))
      by true d =
          ap (pick code) whole ∙ pick_without code a K size p [] P' (ap (dependent code) (sym whole) ∙ d)
          ∙ ap (λ b. cond b ranked K) (sym (dependent_usable code ranked d))
