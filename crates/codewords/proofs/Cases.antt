-- The known cases, by computation; but for that of the curve with all coefficients zero, which is of every field.
use Prim.{Unit, tt}
use Prim.Native.Nat.{ℕ, zero, suc, ◌<◌}
use mathlib.Core.Path.{◌≡◌, refl, ◌∙◌, ap, subst}
use mathlib.Core.Bool.{true, not}
use mathlib.Core.List.Memᴰ.{append_left as in_append_left}
use mathlib.Core.List.Memᴰ.{map as in_map}
use mathlib.Core.List.{List, Memᴰ as In}
use native.Mathlib.Omega.{arith}
use borrow.Author.Tests.{eq-eqb, lt-ltb}
use Rattle.basics.specs.Lists.{table}
use Rattle.basics.specs.Outcome.{Refused, refused, accepted, check, answer}
use Rattle.basics.specs.declared.Refusal.TheVariants.{FieldNumber, CurveCoefficient, Singular}
use Rattle.basics.proofs.Lists.{map_table}
use Rattle.basics.proofs.Outcomes.{check_true, check_false}
use Rattle.field.specs.Sum.{◌⊕◌}
use Rattle.field.specs.Field.{Arithmetic, Field}
use Rattle.field.specs.Galois.{IsField, rows, modulus, width, size, product}
use Rattle.field.specs.Polynomial.{digits, horner, clmul, times_x, reduce, mul}
use Rattle.field.proofs.Laws.{ring, zero_lt}
use Rattle.field.proofs.Galois.{field_true, galois_field}
use Rattle.elliptic.specs.Curve as curves
use Rattle.elliptic.specs.Curve.{point, columns, on_curve, singular_at, singular, opposite, affine_points}
use Rattle.elliptic.specs.Functions.{nonzero, leading, monomial, sum_from, value}
use Rattle.codewords.specs.Code.{points_at, coefficients_below, smooth, right_count, all_on_curve, all_different, right_dimension, check_code, code_answer}
use Rattle.codewords.specs.Codewords.{extended, all_lists, symbol_at, agrees, unit_message, point_at, functions, word, codewords, agreeing, agreed, agreeing_functions, zero_on, dependent, relations, takes_all, keep, pick}
use Rattle.codewords.specs.Cases.{curve, A, B, KnownCases}
use Rattle.codewords.proofs.Tests.{true_any}
use Rattle.codewords.proofs.Listing.{in_below}

-- ---- the curve with all coefficients zero

-- (0, 0) is among all points
origin_in : (q n : ℕ) → 0 < q → 0 < n → In (point 0 0) (columns q n)
origin_in q zero h k = absurd (omega arith)
origin_in q (suc zero) h k = subst (λ l. In (point 0 0) l) (map_table (point 0) (λ b. b) q) (in_map (point 0) (in_below q 0 h))
origin_in q (suc (suc n)) h k = in_append_left (table (point (suc n)) q) (origin_in q (suc n) h (omega arith))

module _ {F : Arithmetic} (K : Field F) where
  infixl 70 ◌·◌
  open F use {q, ◌·◌}

  origin_on : 0 · 0 ⊕ 0 · (0 · 0) ⊕ 0 · 0 ≡ 0 · (0 · 0) ⊕ 0 · (0 · 0) ⊕ 0 · 0 ⊕ 0
  origin_on = simp ring

  by_x : 0 · 0 ⊕ 0 ≡ 0
  by_x = simp ring

  by_y : 0 · 0 ⊕ 0 · 0 ⊕ 0 ≡ 0
  by_y = simp ring

  -- it is singular there
  pub zero_singular : singular F (curve 0 0 0 0 0) ≡ true
  unfolding singular singular_at on_curve
  zero_singular =
      true_any (singular_at F (curve 0 0 0 0 0)) (origin_in q q (zero_lt K) (zero_lt K)) (rw (eq-eqb _ _ origin_on, eq-eqb _ _ by_x, eq-eqb _ _ by_y) refl)

  pub zero_below : curves.coefficients_below q (curve 0 0 0 0 0) ≡ true
  zero_below = rw (lt-ltb 0 q (zero_lt K)) refl

all_zero : (m : ℕ) → IsField m → (xs ys : List ℕ) (k : ℕ) → code_answer (record { field = m; curve = curve 0 0 0 0 0; xs = xs; ys = ys; k = k }) ≡ Refused Singular
unfolding code_answer coefficients_below smooth answer
all_zero m h xs ys k = ap answer outcome
  where
    outcome : check_code (record { field = m; curve = curve 0 0 0 0 0; xs = xs; ys = ys; k = k }) {M = Unit {0}} (accepted tt) ≡ refused Singular
    outcome =
        check_true FieldNumber _ (field_true h) ∙ check_true CurveCoefficient _ (zero_below (galois_field h))
        ∙ check_false Singular _ (ap not (zero_singular (galois_field h)))

-- ---- all of them

pub cases : KnownCases
unfolding A B ◌⊕◌ rows modulus width size product digits horner clmul times_x reduce mul on_curve singular_at singular opposite affine_points nonzero leading monomial sum_from value points_at coefficients_below smooth right_count all_on_curve all_different right_dimension code_answer check answer extended all_lists symbol_at agrees unit_message point_at functions word codewords agreeing agreed agreeing_functions zero_on dependent relations takes_all keep pick
cases =
    record {
      points_A = refl;
      points_B = refl;
      own_opposite = refl;
      no_points = refl;
      all_zero = all_zero;
      unit_0 = refl;
      unit_1 = refl;
      unit_2 = refl;
      unit_3 = refl;
      unit_4 = refl;
      pair_A = refl;
      function_B = refl;
      word_B = refl;
      line_A = refl;
      line_relation = refl;
      line_pick = refl;
      four_relation = refl;
      rebuilt = refl;
      not_rebuilt = refl;
      accepted_A = (refl, refl, refl, refl);
      accepted_B = refl;
    }
