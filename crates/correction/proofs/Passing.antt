-- The places that pass a test, in their order, as a loop over all places meets them.
use Prim.Native.Nat.{ℕ, zero, suc, ◌<◌, ◌≤◌}
use mathlib.Core.Path.{◌≡◌, refl, sym, ◌∙◌, ap}
use mathlib.Core.Bool.{Bool, true, cond}
use mathlib.Core.List.{List, [], ◌∷◌, ◌++◌, append-nil, append_assoc}
use native.Mathlib.Omega.{arith}
use native.Mathlib.Decide.{ℕ_discrete}
use lib.ListN.{length, get_or}
use lib.Seq.{get_or-append_seam}
use Rattle.basics.specs.Lists.{filter, table}
use Rattle.basics.proofs.Lists.{filter_append}

module _ (p : ℕ → Bool) where
  -- the places up to j that pass, and one place more
  pub more_passing : (j : ℕ) {b : Bool} → p (suc j) ≡ b → filter p (table suc (suc j)) ≡ filter p (table suc j) ++ cond b (suc j ∷ []) []
  more_passing j e = filter_append p (table suc j) (suc j ∷ []) ∙ ap (λ b. filter p (table suc j) ++ cond b (suc j ∷ []) []) e

  -- those up to n begin with those up to j
  passing_first : (j n : ℕ) → j ≤ n → (l : List ℕ) × (filter p (table suc n) ≡ filter p (table suc j) ++ l)
  passing_first j zero h = let e : j ≡ 0 = omega arith in ([], ap (λ n. filter p (table suc n)) (sym e) ∙ sym (append-nil _))
  passing_first j (suc n) h = by (ℕ_discrete j (suc n)) (passing_first j n)
    where
      t : List ℕ
      t = cond (p (suc n)) (suc n ∷ []) []

      by : Dec (j ≡ suc n) → (j ≤ n → (l : List ℕ) × (filter p (table suc n) ≡ filter p (table suc j) ++ l))
          → (l : List ℕ) × (filter p (table suc (suc n)) ≡ filter p (table suc j) ++ l)
      by (yes e) ih = ([], ap (λ n. filter p (table suc n)) (sym e) ∙ sym (append-nil _))
      by (no e) ih = let (l, s) = ih (omega arith) in (l ++ t, more_passing n refl ∙ ap (λ m. m ++ t) s ∙ append_assoc (filter p (table suc j)) l t)

  -- THEOREM: the next place that passes has its number in the list
  pub passing_at : (n j : ℕ) → j < n → p (suc j) ≡ true → get_or (filter p (table suc n)) (length (filter p (table suc j))) 0 ≡ suc j
  passing_at n j h e =
      let (l, s) = passing_first (suc j) n h in
      ap (λ m. get_or m (length (filter p (table suc j))) 0) (s ∙ ap (λ m. m ++ l) (more_passing j e) ∙ append_assoc (filter p (table suc j)) (suc j ∷ []) l)
      ∙ get_or-append_seam (filter p (table suc j)) (suc j) l 0

-- two tests that say the same at every place
pub passing_as : (p q : ℕ → Bool) (n : ℕ) → ((j : ℕ) → j < n → p (suc j) ≡ q (suc j)) → filter p (table suc n) ≡ filter q (table suc n)
passing_as p q zero h = refl
passing_as p q (suc n) h =
    more_passing p n (h n (omega arith)) ∙ ap (λ l. l ++ cond (q (suc n)) (suc n ∷ []) []) (passing_as p q n (λ j l. h j (omega arith))) ∙ sym (more_passing q n refl)
