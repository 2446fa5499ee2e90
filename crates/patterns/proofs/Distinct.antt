-- No pattern is tried twice.
use Prim.Native.Nat.{ℕ, zero, suc, ◌-◌, ◌<◌}
use mathlib.Core.Path.{◌≡◌, refl, sym, ◌∙◌, ap, ap₂, subst}
use mathlib.Core.Logic.{◌⊎◌, inl, inr}
use mathlib.Core.List.Memᴰ.{append_cases as in-append}
use mathlib.Core.List.Memᴰ.{head as here}
use mathlib.Core.List.Memᴰ.{of_map as map-in}
use mathlib.Core.List.Memᴰ.{tail as there}
use mathlib.Core.List.{List, ◌++◌, map, Memᴰ as In}
use native.Mathlib.Omega.{arith}
use native.Mathlib.Decide.{ℕ_discrete}
use lib.ListN.{length, get_or, set, replicate, length-replicate, length-set}
use lib.Seq.{get_or-set_same, get_or-set_other}
use Rattle.basics.proofs.Lists.{map_table}
use Rattle.codewords.proofs.Tests.{in_all, all_in_lem}
use Rattle.codewords.proofs.Counting.{Unique, Unique.none, Unique.add, unique_append, unique_map}
use Rattle.codewords.proofs.Listing.{unique_below}
use Rattle.patterns.specs.Patterns.{each, down, amounts, none as unchanged, singles, pair, pairs, patterns}
use Rattle.patterns.proofs.Each.{each_in, each_as, each_map, each_each, down_in}
use Rattle.patterns.proofs.Weights.{Nonzero, count, weigh_none, other_zero, none_at}
use Rattle.patterns.proofs.Classes.{amount, singles_one, pairs_two}

-- ---- lists one after the other

module _ {A B : Type 0} where
  -- lists without repetition that have nothing in common
  unique_each : (f : A → List B) {l : List A} → Unique l → ((a : A) → In a l → Unique (f a)) → ((a b : A) (x : B) → In a l → In b l → In x (f a) → In x (f b) → a ≡ b) → Unique (each l f)
  unique_each f none v d = none
  unique_each f (add {a} {l} h u) v d =
      unique_append (v a (here refl)) (unique_each f u (λ b i. v b (there i)) (λ b c x i j. d b c x (there i) (there j)))
      (λ x i j. let (b, m, o) = each_in f l j in in_all m h (d a b x (here refl) (there m) i o))

unique_down : (n : ℕ) → Unique (down n)
unfolding down
unique_down zero = none
unique_down (suc n) = add {a = n} (all_in_lem (down n) (λ i j e. omega (arith, down_in n j, e))) (unique_down n)

unique_amounts : (q : ℕ) → Unique (amounts q)
unfolding amounts
unique_amounts q = subst (λ l. Unique l) (map_table suc (λ a. a) (q - 1)) (unique_map suc (unique_below (q - 1)) (λ a b i j e. omega (arith, e)))

-- ---- the pairs of places, in their order

abbrev pub indices : ℕ → List (ℕ × ℕ)
indices k = each (down k) (λ late. map (λ early. (late, early)) (down late))

pub indices_in : (k : ℕ) {p : ℕ × ℕ} → In p (indices k) → (p.0 < k) × (p.1 < p.0)
indices_in k {p} i =
    let (late, j, m) = each_in (λ late. map (λ early. (late, early)) (down late)) (down k) i in
    let (early, o, e) = map-in {A = ℕ} {B = ℕ × ℕ} (λ early. (late, early)) (down late) m in
    subst (λ p. (p.0 < k) × (p.1 < p.0)) e (down_in k j, down_in late o)

unique_indices : (k : ℕ) → Unique (indices k)
unique_indices k =
    unique_each (λ late. map (λ early. (late, early)) (down late)) (unique_down k)
    (λ late i. unique_map (λ early. (late, early)) (unique_down late) (λ a b i j e. ap (λ (p : ℕ × ℕ). p.1) e))
    (λ a b p i j m o. first a p m ∙ sym (first b p o))
  where
    first : (late : ℕ) (p : ℕ × ℕ) → In p (map (λ early. (late, early)) (down late)) → late ≡ p.0
    first late p i = let (early, j, e) = map-in {A = ℕ} {B = ℕ × ℕ} (λ early. (late, early)) (down late) i in ap (λ (p : ℕ × ℕ). p.0) e

module _ (q k : ℕ) where
  -- the tries of a pair of places
  abbrev pub block : ℕ × ℕ → List (List ℕ)
  block p = pair q k p.0 p.1

  pub pairs_flat : pairs q k ≡ each (indices k) block
  unfolding pairs
  pairs_flat =
      each_as (λ late. each (down late) (pair q k late)) (λ late. each (map (λ early. (late, early)) (down late)) block)
      (λ late. sym (each_map (λ early. (late, early)) block (down late))) (down k)
      ∙ sym (each_each (λ late. map (λ early. (late, early)) (down late)) block (down k))

  -- ---- what a pattern is at a place

  zeros_length : length (unchanged k) ≡ k
  zeros_length = length-replicate k 0

  single_at : (i d : ℕ) → i < k → get_or (set (unchanged k) i d) i 0 ≡ d
  single_at i d h = get_or-set_same (unchanged k) i d 0 (rw zeros_length h)

  single_other : (i j d : ℕ) → j < k → (j ≡ i → ⊥) → get_or (set (unchanged k) i d) j 0 ≡ 0
  single_other i j d h n = other_zero (unchanged k) i j d n (none_at k j h)

  unique_singles : Unique (singles q k)
  unfolding singles
  unique_singles =
      unique_each (λ i. map (λ d. set (unchanged k) i d) (amounts q)) (unique_down k)
      (λ i j. unique_map (λ d. set (unchanged k) i d) (unique_amounts q) (λ a b m n e. sym (single_at i a (down_in k j)) ∙ ap (λ c. get_or c i 0) e ∙ single_at i b (down_in k j)))
      (λ i j c m n o p. go i j c (down_in k m) (down_in k n) (map-in (λ d. set (unchanged k) i d) (amounts q) o) (map-in (λ d. set (unchanged k) j d) (amounts q) p))
    where
      go : (i j : ℕ) (c : List ℕ) → i < k → j < k → (d : ℕ) × In d (amounts q) × (set (unchanged k) i d ≡ c) → (e : ℕ) × In e (amounts q) × (set (unchanged k) j e ≡ c) → i ≡ j
      go i j c h g (d, m, e) (d', n, e') = by (ℕ_discrete i j)
        where
          by : Dec (i ≡ j) → i ≡ j
          by (yes f) = f
          by (no f) = absurd ((amount m).nonzero (sym (single_at i d h) ∙ ap (λ c. get_or c i 0) (e ∙ sym e') ∙ single_other j i d' h f))

  -- a pattern of a pair, and where it changes something
  pub record Pair (late early : ℕ) (c : List ℕ) : Type 0 where
    pub d : ℕ
    pub e : ℕ
    pub later : In d (amounts q)
    pub earlier : In e (amounts q)
    pub is : c ≡ set (set (unchanged k) late d) early e

  pub pair_in_lem : (late early : ℕ) {c : List ℕ} → In c (pair q k late early) → Pair late early c
  unfolding pair
  pair_in_lem late early i =
      let (d, j, m) = each_in (λ d. map (λ e. set (set (unchanged k) late d) early e) (amounts q)) (amounts q) i in
      let (e, n, f) = map-in (λ e. set (set (unchanged k) late d) early e) (amounts q) m in
      record { d = d; e = e; later = j; earlier = n; is = sym f }

  module _ (late early d e : ℕ) (h : late < k) (g : early < late) where
    abbrev two : List ℕ
    two = set (set (unchanged k) late d) early e

    at_late : get_or two late 0 ≡ d
    at_late = get_or-set_other (set (unchanged k) late d) early late e 0 (λ f. omega arith) ∙ single_at late d h

    at_early : get_or two early 0 ≡ e
    at_early = get_or-set_same (set (unchanged k) late d) early e 0 (rw (length-set (unchanged k) late d, zeros_length) (omega arith))

    at_neither : (j : ℕ) → j < k → Nonzero (get_or two j 0) → (j ≡ late) ⊎ (j ≡ early)
    at_neither j l n = by (ℕ_discrete j late) (ℕ_discrete j early)
      where
        by : Dec (j ≡ late) → Dec (j ≡ early) → (j ≡ late) ⊎ (j ≡ early)
        by (yes f) m = inl f
        by (no f) (yes m) = inr m
        by (no f) (no m) = absurd (n (other_zero (set (unchanged k) late d) early j e m (single_other late j d l f)))

  unique_pair : (late early : ℕ) → late < k → early < late → Unique (pair q k late early)
  unfolding pair
  unique_pair late early h g =
      unique_each (λ d. map (λ e. set (set (unchanged k) late d) early e) (amounts q)) (unique_amounts q)
      (λ d i. unique_map (λ e. set (set (unchanged k) late d) early e) (unique_amounts q)
      (λ a b m n e. sym (at_early late early d a h g) ∙ ap (λ c. get_or c early 0) e ∙ at_early late early d b h g))
      (λ d d' c i j m n.
      let (e, o, f) = map-in (λ e. set (set (unchanged k) late d) early e) (amounts q) m in
      let (e', o', f') = map-in (λ e. set (set (unchanged k) late d') early e) (amounts q) n in
      sym (at_late late early d e h g) ∙ ap (λ c. get_or c late 0) (f ∙ sym f') ∙ at_late late early d' e' h g)

  one_pair : (p r : ℕ × ℕ) (c : List ℕ) → In p (indices k) → In r (indices k) → Pair p.0 p.1 c → Pair r.0 r.1 c → p ≡ r
  one_pair (l, e) (l', e') c i j w w' =
      let (h, g) = indices_in k i in
      let (h', g') = indices_in k j in
      go h g g' (found l h (at_late l e w.d w.e h g) w.later h' g') (found e (omega (arith, h, g)) (at_early l e w.d w.e h g) w.earlier h' g')
    where
      found : (x : ℕ) → x < k → {d : ℕ} → get_or (set (set (unchanged k) l w.d) e w.e) x 0 ≡ d → In d (amounts q) → l' < k → e' < l' → (x ≡ l') ⊎ (x ≡ e')
      found x h a m h' g' = at_neither l' e' w'.d w'.e h' g' x h (λ z. (amount m).nonzero (sym a ∙ ap (λ c. get_or c x 0) (sym w.is ∙ w'.is) ∙ z))

      go : l < k → e < l → e' < l' → (l ≡ l') ⊎ (l ≡ e') → (e ≡ l') ⊎ (e ≡ e') → ◌≡◌ {A = ℕ × ℕ} (l, e) (l', e')
      go h g g' (inl a) (inl b) = absurd (omega arith)
      go h g g' (inl a) (inr b) = ap₂ (λ x y. (x, y)) a b
      go h g g' (inr a) (inl b) = absurd (omega arith)
      go h g g' (inr a) (inr b) = absurd (omega arith)

  unique_pairs : Unique (pairs q k)
  unique_pairs =
      subst (λ l. Unique l) (sym pairs_flat)
      (unique_each block (unique_indices k) (λ p i. let (h, g) = indices_in k i in unique_pair p.0 p.1 h g)
      (λ p r c i j m n. one_pair p r c i j (pair_in_lem p.0 p.1 m) (pair_in_lem r.0 r.1 n)))

  -- THEOREM
  pub unique_patterns : Unique (patterns q k)
  unfolding patterns
  unique_patterns =
      add {a = unchanged k} (all_in_lem (singles q k ++ pairs q k) (λ c i e. by c e (in-append (singles q k) i)))
      (unique_append unique_singles unique_pairs (λ c i j. omega (arith, in_all i (singles_one q k), in_all j (pairs_two q k))))
    where
      by : (c : List ℕ) → unchanged k ≡ c → In c (singles q k) ⊎ In c (pairs q k) → ⊥
      by c e (inl i) = omega (arith, weigh_none k (replicate k 1), ap (count k) e, in_all i (singles_one q k))
      by c e (inr i) = omega (arith, weigh_none k (replicate k 1), ap (count k) e, in_all i (pairs_two q k))
