-- The values of the error locator at all points are not zero at exactly the places that the definition keeps, and an accepted code is small enough for its rows.
use Rattle.basics.specs.Outcome.{Done}
use Prim.Native.Nat.{ℕ, zero, suc, ◌+◌, ◌-◌, ◌<◌, ◌≤◌}
use mathlib.Core.Path.{◌≡◌, refl, sym, ◌∙◌, ap, ap₂}
use mathlib.Core.Bool.{true, not}
use mathlib.Core.List.{List}
use native.Mathlib.Omega.{arith}
use lib.Dec.{eqb, ltb}
use lib.ListN.{length, get_or}
use borrow.Author.Tests.{ltb-true}
use Rattle.basics.specs.Lists.{filter, table}
use Rattle.basics.proofs.Lists.{all_get, length_table, get_or_table}
use Rattle.elliptic.specs.Functions.{weight}
use Rattle.elliptic.specs.Pair.{evaluate}
use Rattle.elliptic.proofs.Weights.{weight_le}
use Rattle.codewords.specs.Code.{Code, arithmetic, q, n, points, code_answer}
use Rattle.codewords.specs.Codewords.{symbols}
use Rattle.codewords.proofs.Accepted.{Accepted, accepted_done}
use Rattle.codewords.proofs.Coordinates.{points_get, point_at_lem}
use Rattle.decoding.specs.Near.{radius}
use Rattle.decoding.specs.Rows.{span, top, found, kept_places}
use Rattle.decoding.proofs.Spots.{on_curve_lem}
use Rattle.locator.specs.declared.turn.Layout.{Layout}
use Rattle.locator.specs.Arrays.{Laid, Below, values_in, locator_of}
use Rattle.correction.specs.Kept.{keeps_place, kept_before}
use Rattle.correction.specs.Located.{Located, LaidFor}
use Rattle.correction.proofs.Passing.{passing_as}

-- ---- the size of N

pub span_zero : (k : ℕ) {t : ℕ} → t ≡ 0 → k ≡ span k t
unfolding weight
span_zero k e = rw e (omega arith)

pub span_some : (k t : ℕ) → (t ≡ 0 → ⊥) → k + t + 1 ≡ span k t
unfolding weight
span_some k zero h = absurd (h refl)
span_some k (suc t) h = omega arith

pub span_small : (k t : ℕ) → span k t ≤ k + t + 1
span_small k t = omega (arith, weight_le t)

-- ---- an accepted code

module _ (code : Code) (done : code_answer code ≡ Done) where
  accepted : Accepted code
  accepted = accepted_done code done

  pub seconds_below : Below code.field code.ys
  seconds_below i h =
      let inside : i < n code = omega (arith, accepted.lengths) in
      rw (points_get code.xs code.ys accepted.lengths i) at (on_curve_lem code accepted i inside).y_lt

  module _ (r : List ℕ) (are_symbols : symbols code r ≡ true) (size : length r ≡ n code) where
    pub symbols_below : Below code.field r
    unfolding symbols
    symbols_below i h = ltb-true _ _ (all_get (λ u. ltb u (q code)) r 0 i are_symbols h)

    module _ {shape : Layout} (l : LaidFor (n code) code.k shape) where
      -- what the error locator asks for
      pub laid_for : Laid shape code.xs code.ys r
      laid_for =
          let a = accepted in
          record {
            some = omega (arith, l.k_is, a.k_least);
            few = omega (arith, l.t_is, a.k_least, a.n_most);
            top_is = l.top_is ∙ ap (λ k. top k shape.t) (sym l.k_is);
            top_small = omega (arith, l.top_is, l.t_is, span_small code.k shape.t, a.k_most, a.n_most);
            most = a.n_most;
            as_many = sym a.lengths;
            symbols = size;
          }

      abbrev E : List ℕ
      E = locator_of code.field shape code.xs code.ys r

      locator_is : E ≡ (found code.k (radius code) (arithmetic code) (points code) r).den
      unfolding radius
      locator_is = ap₂ (λ k t. (found k t (arithmetic code) (points code) r).den) l.k_is l.t_is

      -- THEOREM
      pub located : {e : List ℕ} → e ≡ values_in code.field code.xs code.ys E → Located code r e
      unfolding kept_before kept_places
      located {e} s =
          let long : length e ≡ n code = ap length s ∙ length_table _ (n code) in
          record {
            done = done;
            are_symbols = are_symbols;
            symbols_size = size;
            kept_size = long;
            kept_is =
                ap (λ m. filter (keeps_place e) (table suc m)) long
                ∙ passing_as (keeps_place e) _ (n code) (λ j h.
                let inside : suc j - 1 < n code = omega arith in
                ap (λ v. not (eqb v 0))
                (ap (λ e. get_or e (suc j - 1) 0) s ∙ get_or_table _ (n code) (suc j - 1) 0 inside
                ∙ ap₂ (evaluate (arithmetic code)) locator_is (sym (point_at_lem code accepted.lengths (suc j)))));
          }
