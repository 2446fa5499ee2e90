-- What the k places of a choice say of the codewords, read off the pair: whether they are dependent, the one function, the counts, the relation.
use Prim.Native.Nat.{ℕ, suc, ◌-◌, ◌<◌}
use mathlib.Core.Path.{◌≡◌, refl, sym, ◌∙◌, ap, subst}
use mathlib.Core.Bool.{Bool, true, false, not, ◌&&◌}
use mathlib.Core.Logic.{◌⊎◌, inl, inr}
use mathlib.Core.List.Memᴰ.{head as here}
use mathlib.Core.List.Memᴰ.{map as in_map}
use mathlib.Core.List.Memᴰ.{of_map as map-in}
use mathlib.Core.List.{List, [], ◌∷◌, map, Memᴰ as In}
use native.Mathlib.Omega.{arith}
use native.Mathlib.Decide.{ℕ_discrete}
use lib.Dec.{eqb}
use lib.ListN.{length, get_or, replicate, length-map}
use borrow.Author.Tests.{eqb-true, eq-eqb, ne_eqb, not-true}
use Rattle.basics.proofs.Lists.{both_left, both_right, both_true, length_table}
use Rattle.field.specs.Sum.{◌⊕◌}
use Rattle.field.proofs.Sum.{⊕_cancel}
use Rattle.field.proofs.Laws.{mul_one}
use Rattle.elliptic.specs.declared.Point.{Point}
use Rattle.elliptic.specs.Curve.{point}
use Rattle.elliptic.specs.Functions.{nonzero, leading}
use Rattle.elliptic.specs.Pair.{evaluate, add_scaled, padded, after}
use Rattle.elliptic.proofs.Points.{All, All.nil, Points, all_map}
use Rattle.elliptic.proofs.Function.{Zero, Coefficients, Lead, lead_coefficients, lead_both}
use Rattle.elliptic.proofs.Kernel.{Independent, Relation, values_agree, agree_values, agree_add, last, lead_only, lead_zeros, same_last, relation_only}
use Rattle.elliptic.proofs.Kernel as Kernel
use Rattle.elliptic.proofs.Interpolate.{Takes, by_zero, by_nonzero, interpolant}
use Rattle.elliptic.proofs.Values.{lead_leading, zeros_leading}
use Rattle.codewords.specs.Code.{Code, arithmetic, q}
use Rattle.codewords.specs.Codewords.{below, agrees, functions, word, codewords, agreeing, count, agreeing_functions, zero_on, dependent, usable, relations}
use Rattle.codewords.specs.Computed.{points_of}
use Rattle.codewords.proofs.Tests.{not_both, true_any, any_false, filter_in, in_filter, filter_map}
use Rattle.codewords.proofs.Counting.{Unique, unique_filter, unique_map, only, same_length}
use Rattle.codewords.proofs.Listing.{Listed, in_below, below_in, unique_below}
use Rattle.codewords.proofs.Accepted.{Accepted, laws}
use Rattle.codewords.proofs.Coefficients.{nonzero_true, true_nonzero, zeros_of, lead_zero, evaluate_zero, coefficients_add}
use Rattle.codewords.proofs.Places.{Places, length_points, different_points, agrees_true, true_agrees, zero_on_true, true_zero_on}
use Rattle.codewords.proofs.Words.{Function, functions_in, in_functions, unique_functions}

module _ (code : Code) where
  -- the codewords that agree are the words of the functions that agree
  pub agreeing_words : (J msg : List ℕ) → agreeing code J msg ≡ map (word code) (agreeing_functions code J msg)
  unfolding agreeing agreeing_functions codewords
  agreeing_words J msg = filter_map (λ w. agrees w J msg) (word code) (functions code)

  pub count_functions : (J msg : List ℕ) → count code J msg ≡ length (agreeing_functions code J msg)
  unfolding count
  count_functions J msg = ap length (agreeing_words J msg) ∙ length-map (agreeing_functions code J msg) (word code)

  pub usable_true : (J : List ℕ) → usable code J ≡ true → dependent code J ≡ false
  unfolding usable
  usable_true J e = not-true _ e

  pub dependent_usable : (J : List ℕ) {b : Bool} → dependent code J ≡ b → usable code J ≡ not b
  unfolding usable
  dependent_usable J e = ap not e

-- the function takes the symbols at the places
abbrev pub TakesAt : Code → List ℕ → List ℕ → List ℕ → Type 0
TakesAt code J symbols f = Takes (arithmetic code) code.k (points_of code J) symbols f

module _ (code : Code) (a : Accepted code) where
  -- k is one more than k − 1
  pub k_suc : code.k ≡ suc (code.k - 1)
  k_suc = omega (arith, a.k_least)

  pub unique_agreeing : (J msg : List ℕ) → Unique (agreeing_functions code J msg)
  unfolding agreeing_functions
  unique_agreeing J msg = unique_filter _ (unique_functions code a)

  module _ {J : List ℕ} (P : Places code J) (msg : List ℕ) where
    pub agreeing_in : {f : List ℕ} → In f (agreeing_functions code J msg) → TakesAt code J msg f
    unfolding agreeing_functions
    agreeing_in {f} i =
        let (j, h) = filter_in (λ f. agrees (word code f) J msg) (functions code) i in
        let u = functions_in code a j in
        record { coefficients = u; takes = agrees_true code a u.under P.spots msg h }

    pub in_agreeing : {f : List ℕ} → TakesAt code J msg f → In f (agreeing_functions code J msg)
    unfolding agreeing_functions
    in_agreeing t =
        in_filter (λ f. agrees (word code f) J msg) (in_functions code a t.coefficients) (true_agrees code a t.coefficients.under P.spots msg t.takes)

  -- ---- a choice J

  module _ {J : List ℕ} (P : Places code J) (n : length J ≡ code.k) where
    abbrev pts : List Point
    pts = points_of code J

    on_curve_lem : Points (arithmetic code) code.curve pts
    on_curve_lem = different_points code a P

    size : length pts ≡ suc (code.k - 1)
    size = length_points code J ∙ n ∙ k_suc

    -- a relation, or no function but 0 that is zero at the places
    abbrev Related : List ℕ → Type 0
    Related r = Relation (arithmetic code) (code.k - 1) pts r

    abbrev Free : Type 0
    Free = Independent (arithmetic code) code.k pts

    as_suc : {f : List ℕ} → Function code a f → Coefficients (arithmetic code) (suc (code.k - 1)) f
    as_suc {f} u = subst (λ k. Coefficients (arithmetic code) k f) k_suc u

    pub related_function : {r : List ℕ} → Related r → Function code a r
    related_function {r} rel = subst (λ k. Coefficients (arithmetic code) k r) (sym k_suc) (lead_coefficients (laws code a) rel.lead)

    related_dependent : {r : List ℕ} → Related r → dependent code J ≡ true
    unfolding dependent
    related_dependent {r} rel =
        let u = related_function rel in
        true_any (λ f. nonzero f && zero_on code J f) (in_functions code a u)
        (both_true (nonzero r) (zero_on code J r) (nonzero_true r (λ z. omega (arith, lead_zeros (laws code a) rel.lead z))) (true_zero_on code a u.under J rel.zeros))

    free_usable : Free → dependent code J ≡ false
    unfolding dependent
    free_usable ind =
        any_false (λ f. nonzero f && zero_on code J f) (functions code)
        (λ f i h.
        let u = functions_in code a i in
        true_nonzero f (both_left (nonzero f) (zero_on code J f) h)
        (ind f u.under (zero_on_true code a u.under J (both_right (nonzero f) (zero_on code J f) h))))

    module _ (symbols : List ℕ) (small : All (λ u. u < q code) symbols) where
      abbrev low : List ℕ
      low = (after (arithmetic code) pts symbols (code.k - 1)).low

      abbrev last_value : ℕ
      last_value = evaluate (arithmetic code) low (get_or pts (code.k - 1) (point 0 0))

      related : last_value ≡ 0 → Related low
      related z = by_zero (laws code a) on_curve_lem small (code.k - 1) size z

      free : (last_value ≡ 0 → ⊥) → Free
      free z = subst (λ k. Independent (arithmetic code) k pts) (sym k_suc) (by_nonzero (laws code a) on_curve_lem small (code.k - 1) size z)

      -- THEOREM: the places are dependent exactly if L of the first k − 1 of them is zero at the last
      pub dependent_exactly : dependent code J ≡ eqb last_value 0
      dependent_exactly = by (ℕ_discrete last_value 0)
        where
          by : Dec (last_value ≡ 0) → dependent code J ≡ eqb last_value 0
          by (yes z) = related_dependent (related z) ∙ sym (eq-eqb _ 0 z)
          by (no z) = free_usable (free z) ∙ sym (ne_eqb _ 0 z)

      -- and then L is a relation
      pub the_relation : dependent code J ≡ true → Related low
      the_relation d = related (eqb-true _ 0 (sym dependent_exactly ∙ d))

    nonzero_last : (symbols : List ℕ) (small : All (λ u. u < q code) symbols) → dependent code J ≡ false → last_value symbols small ≡ 0 → ⊥
    nonzero_last symbols small d z = not_both (eq-eqb _ 0 z) (sym (dependent_exactly symbols small) ∙ d)

    pub independence : dependent code J ≡ false → Free
    independence d = free [] nil (nonzero_last [] nil d)

    -- THEOREM: at a choice that is not dependent one function agrees: the interpolant
    module _ (d : dependent code J ≡ false) (msg : List ℕ) (m : Listed (q code) code.k msg) where
      abbrev solution : List ℕ
      solution = padded code.k (after (arithmetic code) pts msg code.k).word

      pub solution_takes : TakesAt code J msg solution
      solution_takes =
          subst (λ k. Takes (arithmetic code) k pts msg (padded k (after (arithmetic code) pts msg k).word)) (sym k_suc)
          (interpolant (laws code a) on_curve_lem m.symbols (code.k - 1) size (nonzero_last msg m.symbols d) (m.size ∙ k_suc))

      pub one_function : agreeing_functions code J msg ≡ solution ∷ []
      one_function =
          only solution (unique_agreeing J msg) (in_agreeing P msg solution_takes)
          (λ g i.
          let t = agreeing_in P msg i in
          Kernel.known (laws code a) (independence d) g solution t.coefficients solution_takes.coefficients
          (values_agree (arithmetic code) g solution pts (t.takes ∙ sym solution_takes.takes)))

    -- ---- dependent, by a relation r

    module _ {r : List ℕ} (rel : Related r) where
      -- with one function that agrees, the q functions f + t·r do, and no other
      module _ {msg : List ℕ} {f : List ℕ} (t : TakesAt code J msg f) where
        shifted : ℕ → List ℕ
        shifted s = add_scaled (arithmetic code) s r f

        shifted_one : (s u : ℕ) → s < q code → u < q code → shifted s ≡ shifted u → s ≡ u
        unfolding shifted
        shifted_one s u hs hu e =
            let (l, v) = last (laws code a) (code.k - 1) f t.coefficients.under (t.coefficients.size ∙ k_suc) in
            let ls = lead_both (laws code a) s rel.lead v in
            let lu = lead_both (laws code a) u rel.lead v in
            let m = lead_only (laws code a) (subst (λ h. Lead (arithmetic code) (l ⊕ (arithmetic code).◌·◌ s 1) (code.k - 1) h) e ls) lu in
            sym (mul_one (laws code a) s hs) ∙ sym (⊕_cancel l _) ∙ ap (λ x. l ⊕ x) m ∙ ⊕_cancel l _ ∙ mul_one (laws code a) u hu

        shifted_agrees : (s : ℕ) → In (shifted s) (agreeing_functions code J msg)
        unfolding shifted
        shifted_agrees s =
            in_agreeing P msg
            (record {
              coefficients = coefficients_add (laws code a) s (related_function rel) t.coefficients;
              takes = agree_values (arithmetic code) (shifted s) f (agree_add (laws code a) s r f rel.zeros) ∙ t.takes;
            })

        agrees_shifted : (g : List ℕ) → In g (agreeing_functions code J msg) → In g (map shifted (below (q code)))
        unfolding shifted
        agrees_shifted g i =
            let w = agreeing_in P msg i in
            let (s, lt, e) =
            Kernel.agreeing (laws code a) on_curve_lem size rel (as_suc t.coefficients) (as_suc w.coefficients)
            (values_agree (arithmetic code) g f pts (w.takes ∙ sym t.takes)) in
            subst (λ h. In h (map shifted (below (q code)))) (sym e) (in_map shifted (in_below (q code) s lt))

        all_shifted : length (agreeing_functions code J msg) ≡ q code
        all_shifted =
            same_length (unique_agreeing J msg)
            (unique_map shifted (unique_below (q code)) (λ s u i j e. shifted_one s u (below_in (q code) i) (below_in (q code) j) e))
            agrees_shifted
            (λ g i. let (s, j, e) = map-in shifted (below (q code)) i in subst (λ h. In h (agreeing_functions code J msg)) e (shifted_agrees s))
            ∙ length-map (below (q code)) shifted ∙ length_table (λ b. b) (q code)

      -- THEOREM: at a dependent choice none or q agree
      pub none_or_all : (msg : List ℕ) → (count code J msg ≡ 0) ⊎ (count code J msg ≡ q code)
      none_or_all msg = by (agreeing_functions code J msg) refl
        where
          by : (l : List (List ℕ)) → agreeing_functions code J msg ≡ l → (count code J msg ≡ 0) ⊎ (count code J msg ≡ q code)
          by [] g = inl (count_functions code J msg ∙ ap length g)
          by (f ∷ l) g = inr (count_functions code J msg ∙ all_shifted (agreeing_in P msg (subst (λ l. In f l) (sym g) (here refl))))

      -- THEOREM: the relation is the only one
      pub one_relation : relations code J ≡ r ∷ []
      unfolding relations
      one_relation =
          only r (unique_filter test (unique_functions code a))
          (in_filter test (in_functions code a (related_function rel))
          (both_true (eqb (leading r) 1) _ (eq-eqb _ 1 (lead_leading rel.lead (λ z. omega arith))) (true_zero_on code a (related_function rel).under J rel.zeros)))
          (λ g i.
          let (j, h) = filter_in test (functions code) i in
          let u = functions_in code a j in
          related_only g u (eqb-true _ 1 (both_left (eqb (leading g) 1) _ h)) (zero_on_true code a u.under J (both_right (eqb (leading g) 1) _ h)))
        where
          test : List ℕ → Bool
          test f = eqb (leading f) 1 && zero_on code J f

          by : (g : List ℕ) {l : ℕ} → Lead (arithmetic code) l (code.k - 1) g → leading g ≡ 1 → All (Zero (arithmetic code) g) pts → Dec (l ≡ 0) → g ≡ r
          by g t h z (yes e) =
              let zs : List ℕ = replicate (suc (code.k - 1)) 0 in
              let same : g ≡ zs =
              same_last (laws code a) on_curve_lem size (subst (λ l. Lead (arithmetic code) l (code.k - 1) g) e t) (lead_zero (laws code a) (code.k - 1))
              (all_map (λ Q w. w ∙ sym (evaluate_zero (laws code a) (suc (code.k - 1)) Q)) z) in
              absurd (omega (arith, h, ap leading same, zeros_leading (zeros_of (suc (code.k - 1)))))
          by g t h z (no n) =
              let one = sym (lead_leading t n) ∙ h in
              relation_only (laws code a) on_curve_lem size (record { lead = subst (λ l. Lead (arithmetic code) l (code.k - 1) g) one t; zeros = z }) rel

          related_only : (g : List ℕ) → Function code a g → leading g ≡ 1 → All (Zero (arithmetic code) g) pts → g ≡ r
          related_only g u h z = let (l, t) = last (laws code a) (code.k - 1) g u.under (u.size ∙ k_suc) in by g t h z (ℕ_discrete l 0)
