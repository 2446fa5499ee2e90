-- The gap in closed form: the least of the untried changes is among the at most four numbers that the operation computes.
use Prim.Native.Nat.{ℕ, suc, ◌+◌, ◌*◌, ◌-◌, ◌/◌, ◌%◌, ◌<◌, ◌≤◌}
use mathlib.Core.Path.{◌≡◌, refl, sym, ◌∙◌, ap, subst}
use mathlib.Core.Bool.{not}
use mathlib.Core.Logic.{◌⊎◌, inl, inr}
use mathlib.Core.List.Memᴰ.{append_cases as in-append}
use mathlib.Core.List.Memᴰ.{append_left as in_append_left}
use mathlib.Core.List.Memᴰ.{append_right as in_append_right}
use mathlib.Core.List.Memᴰ.{head as here}
use mathlib.Core.List.Memᴰ.{map as in_map}
use mathlib.Core.List.Memᴰ.{of_map as map-in}
use mathlib.Core.List.Memᴰ.{tail as there}
use mathlib.Core.List.{List, [], ◌∷◌, ◌++◌, map, Memᴰ as In}
use native.Mathlib.Omega.{arith}
use native.Mathlib.Nat.{div-add-mod', div-mul-le_self, mod-lt, mul-pos, le_antisymm}
use lib.ListN.{length, take, drop, set, length-map}
use borrow.Author.Tests.{not-true}
use Rattle.basics.specs.Lists.{any, filter, same}
use Rattle.basics.proofs.Lists.{same_true, same_refl}
use Rattle.codewords.specs.Codewords.{all_lists}
use Rattle.codewords.proofs.Tests.{in_all, any_false, true_any, not_both, filter_in, in_filter}
use Rattle.codewords.proofs.Listing.{Listed, in_lists, lists_in}
use Rattle.patterns.specs.Patterns.{each, down, amounts, none, singles, pair, pairs, patterns}
use Rattle.patterns.specs.Cheapest.{least, gap_to, weigh}
use Rattle.patterns.specs.Computed.{single_left, pair_left, triple_left, least_left}
use Rattle.patterns.proofs.Cheapest.{least_le, least_in}
use Rattle.patterns.proofs.Each.{in_each, in_down, down_in, in_amounts, length_amounts}
use Rattle.patterns.proofs.Parts.{take_or_drop, drop_in, take_in, take_left, take_right, drop_left, drop_right, unique_parts, in_first, has_other}
use Rattle.patterns.proofs.Patterns.{none_listed, set_listed, patterns_listed, length_singles, length_pair}
use Rattle.patterns.proofs.Weights.{weigh_single, weigh_pair, weigh_triple, count_triple}
use Rattle.patterns.proofs.Classes.{Amount, amount, Three, Kind, Kind.nothing, Kind.one, Kind.two, Kind.more, kind, patterns_few}
use Rattle.patterns.proofs.Distinct.{indices, indices_in, pair_in_lem, block, pairs_flat, unique_patterns}
use Rattle.patterns.proofs.Falling.{Falling}
use Rattle.patterns.proofs.Left.{Covered, in_indices, single_left_lem, pair_left_lem, triple_left_lem, single_covers, pair_covers, triple_covers}

-- ---- lists with the same least number have the same gap

pub gap_same : (c : ℕ) (l m : List ℕ) → ((a : ℕ) → In a l → Covered m a) → ((a : ℕ) → In a m → Covered l a) → gap_to c l ≡ gap_to c m
unfolding gap_to
gap_same c [] [] f g = refl
gap_same c [] (b ∷ m) f g = elim (g b (here refl)).listed [ ]
gap_same c (a ∷ l) [] f g = elim (f a (here refl)).listed [ ]
gap_same c (a ∷ l) (b ∷ m) f g = ap (λ n. c - n) (le_antisymm (by l a m b g) (by m b l a f))
  where
    by : (l : List ℕ) (a : ℕ) (m : List ℕ) (b : ℕ) → ((x : ℕ) → In x (b ∷ m) → Covered (a ∷ l) x) → least a l ≤ least b m
    by l a m b g = let w = g (least b m) (least_in b m) in omega (arith, least_le l w.listed, w.most)

-- ---- a change that is not among the first tries, of one of the numbers

module _ (q k : ℕ) (large : 1 < q) (ts : List ℕ) (size : length ts ≡ k) (falls : Falling ts) (t : ℕ) where
  abbrev s : ℕ
  s = q - 1

  abbrev made : List (List ℕ)
  made = take (suc t) (patterns q k)

  abbrev bounds : List ℕ
  bounds = least_left ts k s t

  -- the tries of one place, and of a pair of places
  abbrev values : ℕ → List (List ℕ)
  values i = map (λ d. set (none k) i d) (amounts q)

  values_size : (i : ℕ) → length (values i) ≡ s
  values_size i = length-map (amounts q) (λ d. set (none k) i d) ∙ length_amounts q

  singles_flat : singles q k ≡ each (down k) values
  unfolding singles
  singles_flat = refl

  block_size : (p : ℕ × ℕ) → length (block q k p) ≡ s * s
  block_size p = length_pair q k p.0 p.1

  -- how many places and pairs are done with
  abbrev places_done : ℕ
  places_done = t / s

  abbrev pairs_done : ℕ
  pairs_done = (t - k * s) / (s * s)

  made_single : {c : List ℕ} → In c (take t (singles q k)) → In c made
  unfolding patterns
  made_single i = there (take_left t (singles q k) (pairs q k) i)

  made_pair : {c : List ℕ} → In c (take (t - k * s) (pairs q k)) → In c made
  unfolding patterns
  made_pair {c} i = there (take_right t (singles q k) (pairs q k) (subst (λ n. In c (take (t - n) (pairs q k))) (sym (length_singles q k)) i))

  covered_left : {a : ℕ} → Covered (single_left ts k places_done) a → Covered bounds a
  unfolding least_left
  covered_left w = record { b = w.b; listed = in_append_left _ w.listed; most = w.most }

  covered_middle : {a : ℕ} → Covered (pair_left ts k pairs_done) a → Covered bounds a
  unfolding least_left
  covered_middle w = record { b = w.b; listed = in_append_right (single_left ts k places_done) (in_append_left (triple_left ts k) w.listed); most = w.most }

  covered_right : {a : ℕ} → Covered (triple_left ts k) a → Covered bounds a
  unfolding least_left
  covered_right w = record { b = w.b; listed = in_append_right (single_left ts k places_done) (in_append_right (pair_left ts k pairs_done) w.listed); most = w.most }

  -- ---- an untried change has one of the numbers or more

  untried_covered : {c : List ℕ} → Listed q k c → (In c made → ⊥) → Covered bounds (weigh ts c)
  unfolding patterns pair
  untried_covered {c} l n = by (kind k l.symbols l.size)
    where
      single : (i d : ℕ) → Amount q d → c ≡ set (none k) i d → i < k → In i (take places_done (down k)) ⊎ In i (drop places_done (down k)) → Covered bounds (weigh ts c)
      single i d m e h (inl j) =
          absurd (n (made_single (subst (λ l. In c (take t l)) (sym singles_flat)
          (in_first values s values_size places_done t (down k) (div-mul-le_self t s) j
          (subst (λ x. In x (values i)) (sym e) (in_map (λ d. set (none k) i d) (in_amounts q d m.nonzero m.below)))))))
      single i d m e h (inr j) = rw (ap (weigh ts) e ∙ weigh_single ts k size i d h m.nonzero) (covered_left (single_covers ts k size falls places_done j))

      double : (late early d e : ℕ) → Amount q d → Amount q e → c ≡ set (set (none k) late d) early e → late < k → early < late
          → In (late, early) (take pairs_done (indices k)) ⊎ In (late, early) (drop pairs_done (indices k)) → Covered bounds (weigh ts c)
      double late early d e m o f h g (inl j) =
          absurd (n (made_pair (subst (λ l. In c (take (t - k * s) l)) (sym (pairs_flat q k))
          (in_first (block q k) (s * s) block_size pairs_done (t - k * s) (indices k) (div-mul-le_self (t - k * s) (s * s)) j
          (subst (λ x. In x (pair q k late early)) (sym f)
          (in_each (λ d. map (λ e. set (set (none k) late d) early e) (amounts q)) (in_amounts q d m.nonzero m.below)
          (in_map (λ e. set (set (none k) late d) early e) (in_amounts q e o.nonzero o.below))))))))
      double late early d e m o f h g (inr j) =
          rw (ap (weigh ts) f ∙ weigh_pair ts k size late early d e h g m.nonzero o.nonzero) (covered_middle (pair_covers ts k size falls k pairs_done (omega arith) j))

      triple : Three k c → Covered bounds (weigh ts c)
      triple w =
          let v = covered_right (triple_covers ts k size falls w.late w.middle w.first w.is_late w.is_middle w.is_first) in
          record { b = v.b; listed = v.listed; most = omega (arith, v.most, w.heavy ts size) }

      by : Kind q k c → Covered bounds (weigh ts c)
      by (nothing e) = absurd (n (here e))
      by (one i d h m e) = single i d m e h (take_or_drop places_done (down k) (in_down k i h))
      by (two late early d e h g m o f) = double late early d e m o f h g (take_or_drop pairs_done (indices k) (in_indices k late early h g))
      by (more w) = triple w

  -- ---- each of the numbers is the weight of an untried change

  left_over : {c : List ℕ} → In c (drop t (singles q k ++ pairs q k)) → In c made → ⊥
  unfolding patterns
  left_over i j = unique_parts (suc t) (unique_patterns q k) j i

  pub record Attained (b : ℕ) : Type 0 where
    pub c : List ℕ
    pub listed : Listed q k c
    pub untried : In c made → ⊥
    pub weighs : weigh ts c ≡ b

  single_attained : {b : ℕ} → In b (single_left ts k places_done) → Attained b
  unfolding patterns
  single_attained i =
      let (p, j, e) = single_left_lem ts k places_done i in
      let (c, m, o) = has_other values s values_size [] places_done (t % s) (down k) (mod-lt t (omega arith)) j in
      let (d, a, f) = map-in (λ d. set (none k) p d) (amounts q) m in
      let o' : In c (drop t (singles q k)) = subst (λ n. In c (drop n (singles q k))) (div-add-mod' t s) (subst (λ l. In c (drop (places_done * s + t % s) l)) (sym singles_flat) o) in
      record {
        c = c;
        listed = in_all (there (in_append_left (pairs q k) (drop_in t (singles q k) o'))) (patterns_listed q k (omega arith));
        untried = left_over (drop_left t (singles q k) (pairs q k) o');
        weighs = ap (weigh ts) (sym f) ∙ weigh_single ts k size p d (down_in k (drop_in places_done (down k) j)) (amount a).nonzero ∙ sym e;
      }

  pair_attained : {b : ℕ} → In b (pair_left ts k pairs_done) → Attained b
  unfolding patterns
  pair_attained i =
      let (p, j, e) = pair_left_lem ts k pairs_done i in
      let (c, m, o) = has_other (block q k) (s * s) block_size [] pairs_done ((t - k * s) % (s * s)) (indices k) (mod-lt (t - k * s) square) j in
      let w = pair_in_lem q k p.0 p.1 m in
      let (h, g) = indices_in k (drop_in pairs_done (indices k) j) in
      let o' : In c (drop (t - k * s) (pairs q k)) =
      subst (λ n. In c (drop n (pairs q k))) (div-add-mod' (t - k * s) (s * s)) (subst (λ l. In c (drop (pairs_done * (s * s) + (t - k * s) % (s * s)) l)) (sym (pairs_flat q k)) o) in
      record {
        c = c;
        listed = in_all (there (in_append_right (singles q k) (drop_in (t - k * s) (pairs q k) o'))) (patterns_listed q k (omega arith));
        untried = left_over (drop_right t (singles q k) (pairs q k) (subst (λ n. In c (drop (t - n) (pairs q k))) (sym (length_singles q k)) o'));
        weighs = ap (weigh ts) w.is ∙ weigh_pair ts k size p.0 p.1 w.d w.e h g (amount w.later).nonzero (amount w.earlier).nonzero ∙ sym e;
      }
    where
      square : 0 < s * s
      square = mul-pos (omega arith) (omega arith)

  triple_attained : {b : ℕ} → In b (triple_left ts k) → Attained b
  triple_attained i =
      let (h, e) = triple_left_lem ts k i in
      let last : In 1 (amounts q) = in_amounts q 1 (λ z. omega arith) large in
      record {
        c = set (set (set (none k) (k - 1) 1) (k - 2) 1) (k - 3) 1;
        listed = set_listed (k - 3) last (set_listed (k - 2) last (set_listed (k - 1) last (none_listed (omega arith))));
        untried = λ j.
            omega (
              arith,
              in_all (take_in (suc t) (patterns q k) j) (patterns_few q k),
              count_triple k (k - 1) (k - 2) 1 1 (omega (arith, h)) (omega (arith, h)) (λ z. omega arith) (λ z. omega arith) (k - 3) 1 (omega (arith, h)) (λ z. omega arith),
            );
        weighs =
            weigh_triple ts k size (k - 1) (k - 2) 1 1 (omega (arith, h)) (omega (arith, h)) (λ z. omega arith) (λ z. omega arith) (k - 3) 1 (omega (arith, h)) (λ z. omega arith)
            ∙ sym e;
      }

  bound_attained : {b : ℕ} → In b bounds → Attained b
  unfolding least_left
  bound_attained {b} i = by (in-append (single_left ts k places_done) i)
    where
      rest : In b (pair_left ts k pairs_done) ⊎ In b (triple_left ts k) → Attained b
      rest (inl j) = pair_attained j
      rest (inr j) = triple_attained j

      by : In b (single_left ts k places_done) ⊎ In b (pair_left ts k pairs_done ++ triple_left ts k) → Attained b
      by (inl j) = single_attained j
      by (inr j) = rest (in-append (pair_left ts k pairs_done) j)

  -- ---- together

  abbrev left : List (List ℕ)
  left = filter (λ c. not (any (same c) made)) (all_lists q k)

  left_in : {c : List ℕ} → In c left → Listed q k c × (In c made → ⊥)
  left_in {c} i =
      let (j, e) = filter_in (λ c. not (any (same c) made)) (all_lists q k) i in
      (lists_in q k j, λ m. not_both (true_any (same c) m (same_refl c)) (not-true _ e))

  in_left : {c : List ℕ} → Listed q k c → (In c made → ⊥) → In c left
  in_left {c} l n =
      in_filter (λ c. not (any (same c) made)) (in_lists l)
      (ap not (any_false (same c) made (λ d i e. n (subst (λ x. In x made) (sym (same_true c d e)) i))))

  -- THEOREM
  pub gap_left : (cost : ℕ) (weight : List ℕ → ℕ) → ((c : List ℕ) → weight c ≡ weigh ts c) → gap_to cost (map weight left) ≡ gap_to cost bounds
  gap_left cost weight e = gap_same cost (map weight left) bounds covered attained
    where
      covered : (a : ℕ) → In a (map weight left) → Covered bounds a
      covered a i =
          let (c, j, f) = map-in weight left i in
          let (l, n) = left_in j in
          subst (λ a. Covered bounds a) (sym (e c) ∙ f) (untried_covered l n)

      attained : (b : ℕ) → In b bounds → Covered (map weight left) b
      attained b i =
          let w = bound_attained i in
          record { b = weight w.c; listed = in_map weight (in_left w.listed w.untried); most = omega (arith, e w.c, w.weighs) }
