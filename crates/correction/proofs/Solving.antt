-- The kept places are different places of the code, so the theory of symbols at places says what a run over them and its last step give.
use Prim.Native.Nat.{ℕ, ◌+◌, ◌-◌, ◌<◌, ◌≤◌}
use mathlib.Core.Path.{◌≡◌, refl, sym, ◌∙◌, ap}
use mathlib.Core.Bool.{true, false, cond}
use mathlib.Core.List.{List, map}
use native.Mathlib.Omega.{arith}
use lib.Dec.{eqb, ltb}
use lib.ListN.{length, get_or, length-map}
use Rattle.basics.proofs.Lists.{both_left, both_right, all_get, all_of}
use Rattle.elliptic.specs.Pair.{evaluate}
use Rattle.codewords.specs.Code.{Code, arithmetic, q, n, points}
use Rattle.codewords.specs.Codewords.{place, symbol_at, all_places, places_differ, places, symbols}
use Rattle.codewords.proofs.Places.{true_places}
use Rattle.decoding.proofs.Spots.{tested_places}
use Rattle.engine.specs.declared.pair.Sizes.{Sizes}
use Rattle.values.specs.Values.{Shows}
use Rattle.values.proofs.Sweeps.{swept_add}
use Rattle.values.proofs.Steps.{corrects}
use Rattle.solving.specs.Given.{Placed, Posed, solved_word, missing}
use Rattle.solving.proofs.Link.{accepted, index_in, code_coordinates, may_run, zero_by}
use Rattle.solving.proofs.Free.{index_lt, index_most}
use Rattle.solving.proofs.Interpolant.{is_solution, shown_word}
use Rattle.correction.specs.Kept.{keeps_place, kept_before, kept_in, symbols_at, Decided}
use Rattle.correction.specs.Runs.{RunsKept, RanKept, TwoLeft, kept_state, kept_index, last_kept, finished}
use Rattle.correction.proofs.Running.{symbol_at_lem}

module _ {code : Code} {r e : List ℕ} (d : Decided code r e) where
  abbrev J : List ℕ
  J = kept_in e

  abbrev us : List ℕ
  us = symbols_at r J

  are_places : places code J ≡ true
  unfolding kept_before
  are_places = rw d.kept_size (true_places code (tested_places code (keeps_place e)))

  pub kept_placed : Placed code J
  unfolding places
  kept_placed =
      record {
        done = d.done;
        are_all_places = both_left (all_places code J) (places_differ code J) are_places;
        differ = both_right (all_places code J) (places_differ code J) are_places;
      }

  as_many : length us ≡ length J
  as_many = length-map J (λ p. symbol_at r (place p))

  kept_symbols_lem : symbols code us ≡ true
  unfolding symbols
  kept_symbols_lem =
      all_of (λ u. ltb u (q code)) us 0
      (λ i h.
      let l : i < length J = omega (arith, as_many) in
      rw (symbol_at_lem r J i l) (all_get (λ u. ltb u (q code)) r 0 (get_or J i 0 - 1) d.are_symbols (omega (arith, index_in kept_placed i l, d.symbols_size))))

  -- THEOREM: they are different places of the code, at least k of them, with their symbols
  pub kept_posed : Posed code J us
  kept_posed = record { placed = kept_placed; are_symbols = kept_symbols_lem; lengths = as_many; at_least = omega (arith, d.enough) }

  pub runs_kept : RunsKept code.field code.xs code.ys r e (code.k - 1)
  runs_kept =
      record {
        coordinates = code_coordinates kept_placed;
        most = (accepted kept_placed).n_most;
        symbols_size = d.symbols_size;
        kept_size = d.kept_size;
        runs = may_run kept_placed us kept_symbols_lem (code.k - 1) (omega arith) (omega (arith, d.enough));
      }

  -- after the run the last step can be made, and THEOREM: what it gives is the word, since L is not zero at the place of that step
  module _ {l u f : List ℕ} {z : Sizes} {behind : ℕ} (ran : RanKept code.field code.xs code.ys r e (code.k - 1) l u f z behind) where
    abbrev c : ℕ
    c = code.k - 1

    pub two_left : {h : List ℕ} → length h ≡ n code → TwoLeft e h behind
    two_left s = record { inside = ran.inside; values_size = s ∙ sym d.kept_size; two = omega (arith, ran.passed, d.enough, (accepted kept_placed).k_least) }

    last_word : {h g : List ℕ} → Shows code.field code.xs code.ys 0 (kept_state code.field code.xs code.ys r e c).low h
        → g ≡ finished code.field r h f (last_kept e h c) → g ≡ solved_word code J us
    last_word {h} low x =
        let m = code.field in
        let a = accepted kept_placed in
        let many : code.k ≤ length J = omega (arith, d.enough) in
        let next : c + 1 ≡ code.k = omega (arith, a.k_least) in
        let b = eqb (get_or h (kept_index e c) 0) 0 in
        let i = cond b (c + 1) c in
        let j = last_kept e h c in
        let index : i ≡ cond b code.k c = ap (λ k. cond b k c) next in
        let zero = zero_by kept_placed us kept_symbols_lem many (low.at (kept_index e c) (omega arith) (index_in kept_placed c (omega (arith, a.k_least)))) refl in
        let past : cond b code.k c ≡ length J → ⊥ = λ p. omega (arith, p, index_most code.k b, d.enough) in
        let inside : i < length J = rw index (index_lt kept_placed us kept_symbols_lem many zero past) in
        let same : missing m j (get_or r j 0) h f ≡ missing m j (get_or us i 0) h f = ap (λ v. missing m j v h f) (sym (symbol_at_lem r J i inside)) in
        let gained = swept_add m (missing m j (get_or r j 0) h f) 0 h f (low.size ∙ sym ran.word.size) in
        let shown = corrects a.field code.xs code.ys _ _ (get_or us i 0) (omega arith) (omega arith) (index_in kept_placed i inside) _ same low ran.word gained in
        x ∙ shown_word code a shown ∙ ap (λ f. map (evaluate (arithmetic code) f) (points code)) (is_solution kept_placed us kept_symbols_lem many zero past index refl refl)

    abbrev Finished : List ℕ → List ℕ → Type 0
    Finished h g = g ≡ finished code.field r h f (last_kept e h (length (kept_before e behind)))

    finished_word : {h g : List ℕ} → cond z.turned u l ≡ h → Finished h g → g ≡ solved_word code J us
    finished_word {h} s x = last_word {h = h} (rw s at ran.pair.low_values) (x ∙ ap (λ c. finished code.field r h f (last_kept e h c)) ran.passed)

    -- L in the second array, and in the first
    pub word_second : {g : List ℕ} → z.turned ≡ true → Finished u g → g ≡ solved_word code J us
    word_second t = finished_word (ap (λ b. cond b u l) t)

    pub word_first : {g : List ℕ} → z.turned ≡ false → Finished l g → g ≡ solved_word code J us
    word_first t = finished_word (ap (λ b. cond b u l) t)
