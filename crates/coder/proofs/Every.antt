-- Recover takes all places in their order: the tests of places pass, and what is solved for is what the definition of Recover says.
use Prim.Native.Nat.{ℕ, ◌+◌, ◌-◌, ◌<◌}
use mathlib.Core.Path.{◌≡◌, sym, ◌∙◌, ap, ap₂}
use mathlib.Core.Bool.{Bool, true, not, ◌&&◌}
use mathlib.Core.List.{List, map}
use native.Mathlib.Omega.{arith}
use lib.Dec.{eqb, leb}
use lib.ListN.{length, get_or, take}
use borrow.Author.Tests.{le-leb, ne_eqb}
use Rattle.basics.specs.declared.Refusal.TheVariants.{Place, RepeatedPlace, Dependent, TooFew}
use Rattle.basics.specs.Lists.{same, table, Holds}
use Rattle.basics.specs.Outcome.{Done, Outcome}
use Rattle.basics.proofs.Lists.{both_true, length_table, get_or_table, table_as, table_get, map_table, all_table, different_of}
use Rattle.basics.proofs.Outcomes.{check_true}
use Rattle.elliptic.specs.Curve.{point}
use Rattle.elliptic.specs.Pair.{evaluate, padded}
use Rattle.codewords.specs.Code.{Code, arithmetic, n, points, code_answer}
use Rattle.codewords.specs.Codewords.{place, point_at, all_places, places_differ, symbols, dependent, codeword, recovered}
use Rattle.codewords.specs.Computed.{points_of, solved, solution}
use Rattle.codewords.proofs.Accepted.{Accepted, accepted_done}
use Rattle.codewords.proofs.Places.{n_points, message_listed}
use Rattle.codewords.proofs.Computed.{computed}
use Rattle.solving.specs.Tests.{check_symbols, check_posed}
use Rattle.coder.specs.Stages.{place_at}
use Rattle.solving.proofs.Link.{padded_full}

module _ (code : Code) (done : code_answer code ≡ Done) (J : List ℕ) (e : J ≡ table place_at (n code)) where
  a : Accepted code
  a = accepted_done code done

  pub every_length : length J ≡ n code
  every_length = ap length e ∙ length_table place_at (n code)

  every_place : all_places code J ≡ true
  unfolding all_places
  every_place =
      ap (all_places code) e
      ∙ all_table (λ p. leb 1 p && leb p (n code)) place_at (n code)
      (λ i h. both_true (leb 1 (i + 1)) (leb (i + 1) (n code)) (le-leb 1 (i + 1) (omega arith)) (le-leb (i + 1) (n code) (omega arith)))

  every_differs : places_differ code J ≡ true
  unfolding places_differ
  every_differs =
      different_of eqb J 0
      (λ i j h k. ne_eqb (get_or J i 0) (get_or J j 0) (λ same. omega (arith, at i (omega arith), at j k)))
    where
      at : (i : ℕ) → i < length J → get_or J i 0 ≡ i + 1
      at i h = ap (λ l. get_or l i 0) e ∙ get_or_table place_at (n code) i 0 (omega (arith, every_length))

  every_point : points_of code J ≡ points code
  unfolding point_at
  every_point =
      ap (map (λ p. point_at code (place p))) e ∙ map_table (λ p. point_at code (place p)) place_at (n code)
      ∙ table_as (λ i. point_at code (place (i + 1))) (λ i. get_or (points code) i (point 0 0)) (n code) (λ i h. let back : i + 1 - 1 ≡ i = omega arith in ap (λ j. get_or (points code) j (point 0 0)) back)
      ∙ ap (λ m. table (λ i. get_or (points code) i (point 0 0)) m) (sym (n_points code a)) ∙ table_get (points code) (point 0 0)

  -- only the test of symbols is left
  pub every_posed : {M : Type 0} (w : List ℕ) (o : Outcome M) → check_symbols code w o ≡ check_posed code J w o
  every_posed w o =
      let more : length J ≡ code.k → ⊥ = λ full. omega (arith, every_length, a.k_most) in
      let free : not (eqb (length J) code.k && dependent code J) ≡ true = ap (λ b. not (b && dependent code J)) (ne_eqb (length J) code.k more) in
      sym
      (check_true Place _ every_place ∙ check_true RepeatedPlace _ every_differs
      ∙ ap (check_symbols code w) (check_true TooFew _ (le-leb code.k (length J) (omega (arith, every_length, a.k_most))) ∙ check_true Dependent o free))

  module _ (w : List ℕ) (s : symbols code w ≡ true) (l : length w ≡ n code) {f : List ℕ} (h : Holds f code.k (solution code J w)) where
    is_solved : take code.k f ≡ solved (arithmetic code) code.k (points code) w
    is_solved = h.first ∙ ap (λ ps. solved (arithmetic code) code.k ps w) every_point

    pub every_agrees : {r : Bool} → r ≡ same (map (evaluate (arithmetic code) (take code.k f)) (points_of code J)) w → codeword code w ≡ r
    every_agrees q =
        (computed code done).recovered_by w s l
        ∙ ap (λ v. same v w) ((computed code done).word_by _ ((computed code done).recovered_coefficients w s l))
        ∙ sym (q ∙ ap₂ (λ g ps. same (map (evaluate (arithmetic code) g) ps) w) is_solved every_point)

    pub every_recovered : {m : ℕ} → m ≡ code.k → codeword code w ≡ true → padded m (take code.k f) ≡ recovered code w
    every_recovered q t =
        ap₂ padded q is_solved ∙ padded_full code.k _ (message_listed code _ ((computed code done).recovered_coefficients w s l)).size
        ∙ sym ((computed code done).recovered_list_by w s l t)
