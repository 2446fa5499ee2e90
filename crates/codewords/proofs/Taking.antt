-- When the codewords take every combination of symbols at places: at fewer than k always, at k exactly if they are usable; and of two more places
-- beside k − 1 one is usable.
use Prim.Native.Nat.{ℕ, suc, ◌-◌, ◌<◌}
use mathlib.Core.Path.{◌≡◌, refl, sym, ◌∙◌, ap, subst}
use mathlib.Core.Bool.{true, false}
use mathlib.Core.List.Memᴰ.{cast as in-as}
use mathlib.Core.List.Memᴰ.{map as in_map}
use mathlib.Core.List.Memᴰ.{of_map as map-in}
use mathlib.Core.List.{List, [], ◌∷◌, ◌++◌, map, map-append, List-discrete, Memᴰ as In}
use native.Mathlib.Omega.{arith}
use native.Mathlib.Decide.{ℕ_discrete}
use lib.ListN.{length, get_or, replicate, length-map, length-append, get_or-append}
use Rattle.elliptic.specs.declared.Point.{Point}
use Rattle.elliptic.specs.Curve.{point}
use Rattle.elliptic.specs.Pair.{after}
use Rattle.elliptic.proofs.Points.{All, All.nil, All.cons, all_map, all_head, all_tail}
use Rattle.elliptic.proofs.Function.{Zero}
use Rattle.elliptic.proofs.Padding.{Zeros}
use Rattle.elliptic.proofs.Kernel.{values, Relation, agree_values, few, lead_zeros}
use Rattle.elliptic.proofs.Steps.{after_same}
use Rattle.elliptic.proofs.Interpolate.{fewer_take}
use Rattle.codewords.specs.Code.{Code, arithmetic, q}
use Rattle.codewords.specs.Codewords.{place, agrees, all_lists, functions, word, point_at, codewords, agreed, dependent, takes_all}
use Rattle.codewords.specs.Computed.{points_of}
use Rattle.codewords.proofs.Tests.{all_in_lem, in_all, all_true, true_all, any_true, true_any, fails}
use Rattle.codewords.proofs.Counting.{Without, without, shorter, fits}
use Rattle.codewords.proofs.Listing.{Listed, in_lists, lists_in, unique_lists}
use Rattle.codewords.proofs.Accepted.{Accepted, laws}
use Rattle.codewords.proofs.Coefficients.{zeros_of, evaluate_zero, zero_coefficients}
use Rattle.codewords.proofs.Places.{Places, length_points, different_points, agrees_true, true_agrees}
use Rattle.codewords.proofs.Words.{Function, functions_in, in_functions}
use Rattle.codewords.proofs.Choice.{TakesAt, related_function, the_relation, solution_takes}

pub length_snoc : {A : Type 0} (K : List A) (p : A) → length (K ++ p ∷ []) ≡ suc (length K)
length_snoc K p = omega (arith, length-append K (p ∷ []))

module _ (code : Code) (a : Accepted code) where
  -- the codewords take every combination exactly if for each list of symbols a function takes them
  pub takes : {J : List ℕ} → Places code J → ((us : List ℕ) → Listed (q code) (length J) us → (f : List ℕ) × TakesAt code J us f) → takes_all code J ≡ true
  unfolding takes_all agreed codewords
  takes {J} P s =
      true_all (all_in_lem (all_lists (q code) (length J))
      (λ us i.
      let (f, t) = s us (lists_in (q code) (length J) i) in
      true_any (λ w. agrees w J us) (in_map (word code) (in_functions code a t.coefficients)) (true_agrees code a t.coefficients.under P.spots us t.takes)))

  taken : {J : List ℕ} → Places code J → takes_all code J ≡ true → {us : List ℕ} → Listed (q code) (length J) us → (f : List ℕ) × TakesAt code J us f
  unfolding takes_all agreed codewords
  taken {J} P t {us} u =
      let h = in_all (in_lists u) (all_true (agreed code J) (all_lists (q code) (length J)) t) in
      let (w, i, g) = any_true (λ w. agrees w J us) (codewords code) h in
      let (f, j, e) = map-in (word code) (functions code) i in
      let v = functions_in code a j in
      (f, record { coefficients = v; takes = agrees_true code a v.under P.spots us (subst (λ w. agrees w J us ≡ true) (sym e) g) })

  -- fewer than k places
  pub takes_few : {J : List ℕ} → Places code J → length J < code.k → takes_all code J ≡ true
  takes_few {J} P h =
      takes P (λ us u. (_, fewer_take (laws code a) (different_points code a P) u.symbols code.k (rw (length_points code J) h) (u.size ∙ sym (length_points code J))))

  module _ {J : List ℕ} (P : Places code J) (n : length J ≡ code.k) where
    as_message : {us : List ℕ} → Listed (q code) (length J) us → Listed (q code) code.k us
    as_message u = record { symbols = u.symbols; size = u.size ∙ n }

    -- k usable places
    pub takes_usable : dependent code J ≡ false → takes_all code J ≡ true
    takes_usable d = takes P (λ us u. (_, solution_takes code a P n d us (as_message u)))

    -- k dependent places: the relation and 0 take the same symbols, so the other functions are too few
    pub takes_not : dependent code J ≡ true → takes_all code J ≡ false
    unfolding functions
    takes_not d = fails (takes_all code J) (λ t. omega (arith, length-map others.rest at_places, shorter others, fits (unique_lists (q code) code.k) (λ us i. by t us (lists_in (q code) code.k i))))
      where
        at_places : List ℕ → List ℕ
        at_places f = values (arithmetic code) f (points_of code J)

        r : List ℕ
        r = (after (arithmetic code) (points_of code J) [] (code.k - 1)).low

        rel_function : Function code a r
        rel_function = related_function code a P n (the_relation code a P n [] nil d)

        others : Without r (functions code)
        others = without (in_functions code a rel_function)

        zero : List ℕ
        zero = replicate code.k 0

        rel : Relation (arithmetic code) (code.k - 1) (points_of code J) r
        rel = the_relation code a P n [] nil d

        as_zero : at_places zero ≡ at_places r
        as_zero = agree_values (arithmetic code) zero r (all_map (λ Q z. evaluate_zero (laws code a) code.k Q ∙ sym z) rel.zeros)

        not_zero : zero ≡ r → ⊥
        not_zero e = omega (arith, lead_zeros (laws code a) rel.lead (subst Zeros e (zeros_of code.k)))

        Taken : List ℕ → Type 0
        Taken us = In us (map at_places others.rest)

        other : (f us : List ℕ) → TakesAt code J us f → (f ≡ r → ⊥) → Taken us
        other f us t ne = in-as (sym t.takes) (in_map at_places (others.others f (in_functions code a t.coefficients) ne))

        by : takes_all code J ≡ true → (us : List ℕ) → Listed (q code) code.k us → Taken us
        by t us u = go (taken P t (record { symbols = u.symbols; size = u.size ∙ sym n }))
          where
            go : (f : List ℕ) × TakesAt code J us f → Taken us
            go (f, w) =
                elim (List-discrete ℕ_discrete f r) [
                  | yes e ↦ other zero us (record { coefficients = zero_coefficients (laws code a) code.k; takes = as_zero ∙ ap at_places (sym e) ∙ w.takes }) not_zero
                  | no ne ↦ other f us w ne
                ]

  -- of two places beside k − 1 others, at most one makes them dependent
  -- the first k − 1 of the points, whatever the last place
  first_point : (K : List ℕ) (p j : ℕ) → j < length K → get_or (points_of code (K ++ p ∷ [])) j (point 0 0) ≡ get_or (points_of code K) j (point 0 0)
  first_point K p j h =
      ap (λ l. get_or l j (point 0 0)) (map-append (λ p. point_at code (place p)) K (p ∷ []))
      ∙ get_or-append (points_of code K) (points_of code (p ∷ [])) (point 0 0) j (rw (length_points code K) h)

  all_last : (Q : Point → Type 0) (K : List ℕ) (p : ℕ) → All Q (points_of code (K ++ p ∷ [])) → Q (point_at code (place p))
  all_last Q [] p h = all_head h
  all_last Q (r ∷ K) p h = all_last Q K p (all_tail h)

  pub other_usable : (K : List ℕ) (p r : ℕ) → Places code (K ++ p ∷ []) → Places code (K ++ r ∷ []) → Places code (p ∷ (K ++ r ∷ [])) → suc (length K) ≡ code.k
      → dependent code (K ++ p ∷ []) ≡ true → dependent code (K ++ r ∷ []) ≡ false
  other_usable K p r Kp Kr both n d = fails _ (λ d'. go (the_relation code a Kr (length_snoc K r ∙ n) [] nil d'))
    where
      L : ℕ → List ℕ
      L s = (after (arithmetic code) (points_of code (K ++ s ∷ [])) [] (code.k - 1)).low

      one : L p ≡ L r
      one =
          ap (λ s. s.low)
          (after_same (arithmetic code) (points_of code (K ++ p ∷ [])) (points_of code (K ++ r ∷ [])) [] [] (code.k - 1)
          (λ j h. first_point K p j (omega arith) ∙ sym (first_point K r j (omega arith))) (λ j h. refl))

      -- L would be zero at k + 1 places
      go : Relation (arithmetic code) (code.k - 1) (points_of code (K ++ r ∷ [])) (L r) → ⊥
      go rel =
          let zp = all_last (Zero (arithmetic code) (L p)) K p (the_relation code a Kp (length_snoc K p ∙ n) [] nil d).zeros in
          let zs = few (laws code a) (different_points code a both) {k = code.k}
          (omega (arith, length_points code (K ++ r ∷ []), length_snoc K r)) (L r) (related_function code a Kr (length_snoc K r ∙ n) rel).under
          (cons (subst (λ l. Zero (arithmetic code) l (point_at code (place p))) one zp) rel.zeros) in
          omega (arith, lead_zeros (laws code a) rel.lead zs)
