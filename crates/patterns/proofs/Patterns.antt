-- The patterns are changes of k places, and how many there are.
use Prim.Native.Nat.{ℕ, zero, suc, ◌+◌, ◌*◌, ◌-◌, ◌/◌, ◌<◌}
use mathlib.Core.Path.{◌≡◌, ◌∙◌, ap}
use mathlib.Core.List.{List, map, Memᴰ as In}
use native.Mathlib.Omega.{arith}
use lib.ListN.{length, set, length-set, length-replicate, length-append, length-map}
use Rattle.elliptic.proofs.Points.{All, All.nil, All.cons}
use Rattle.codewords.proofs.Listing.{Listed}
use Rattle.codewords.proofs.Picking.{all_join}
use Rattle.patterns.specs.Patterns.{each, down, amounts, none, singles, pair, pairs, patterns}
use Rattle.patterns.proofs.Each.{all_each, all_mapped, length_each, length_down, amounts_in, length_amounts, triangle_half, length_down_each}

-- ---- each is a list of k numbers below q

all_set : {P : ℕ → Type 0} {l : List ℕ} (i d : ℕ) → P d → All P l → All P (set l i d)
all_set i d h nil = nil
all_set zero d h (cons k ks) = cons h ks
all_set (suc i) d h (cons k ks) = cons k (all_set i d h ks)

module _ {q k : ℕ} where
  pub none_listed : 0 < q → Listed q k (none k)
  none_listed h = record { symbols = zeros k; size = length-replicate k 0 }
    where
      zeros : (k : ℕ) → All (λ c. c < q) (none k)
      zeros zero = nil
      zeros (suc k) = cons h (zeros k)

  pub set_below : {c : List ℕ} (i : ℕ) {d : ℕ} → d < q → Listed q k c → Listed q k (set c i d)
  set_below {c} i {d} h l = record { symbols = all_set i d h l.symbols; size = length-set c i d ∙ l.size }

  pub set_listed : {c : List ℕ} (i : ℕ) {d : ℕ} → In d (amounts q) → Listed q k c → Listed q k (set c i d)
  set_listed i j l = set_below i (amounts_in q j).1 l

module _ (q k : ℕ) (positive : 0 < q) where
  singles_listed : All (Listed q k) (singles q k)
  unfolding singles
  singles_listed =
      all_each (λ i. map (λ d. set (none k) i d) (amounts q)) (down k)
      (λ i _. all_mapped (λ d. set (none k) i d) (amounts q) (λ d j. set_listed i j (none_listed positive)))

  pair_listed : (late early : ℕ) → All (Listed q k) (pair q k late early)
  unfolding pair
  pair_listed late early =
      all_each (λ d. map (λ e. set (set (none k) late d) early e) (amounts q)) (amounts q)
      (λ d j. all_mapped (λ e. set (set (none k) late d) early e) (amounts q) (λ e m. set_listed early m (set_listed late j (none_listed positive))))

  pairs_listed : All (Listed q k) (pairs q k)
  unfolding pairs
  pairs_listed = all_each (λ late. each (down late) (pair q k late)) (down k) (λ late _. all_each (pair q k late) (down late) (λ early _. pair_listed late early))

  pub patterns_listed : All (Listed q k) (patterns q k)
  unfolding patterns
  patterns_listed = cons (none_listed positive) (all_join singles_listed pairs_listed)

-- ---- how many

module _ (q k : ℕ) where
  pub length_singles : length (singles q k) ≡ k * (q - 1)
  unfolding singles
  length_singles =
      length_each (λ i. map (λ d. set (none k) i d) (amounts q)) (q - 1) (λ i. length-map (amounts q) (λ d. set (none k) i d) ∙ length_amounts q) (down k)
      ∙ ap (λ n. n * (q - 1)) (length_down k)

  pub length_pair : (late early : ℕ) → length (pair q k late early) ≡ (q - 1) * (q - 1)
  unfolding pair
  length_pair late early =
      length_each (λ d. map (λ e. set (set (none k) late d) early e) (amounts q)) (q - 1)
      (λ d. length-map (amounts q) (λ e. set (set (none k) late d) early e) ∙ length_amounts q) (amounts q)
      ∙ ap (λ n. n * (q - 1)) (length_amounts q)

  length_pairs : length (pairs q k) ≡ k * (k - 1) / 2 * ((q - 1) * (q - 1))
  unfolding pairs
  length_pairs =
      length_down_each (λ late. each (down late) (pair q k late)) ((q - 1) * (q - 1))
      (λ late. length_each (pair q k late) ((q - 1) * (q - 1)) (length_pair late) (down late) ∙ ap (λ n. n * ((q - 1) * (q - 1))) (length_down late)) k
      ∙ ap (λ n. n * ((q - 1) * (q - 1))) (triangle_half k)

  -- THEOREM: one, k (q − 1) singles, and (q − 1)² for each of k (k − 1) / 2 pairs
  pub length_patterns : length (patterns q k) ≡ 1 + (k * (q - 1) + k * (k - 1) / 2 * ((q - 1) * (q - 1)))
  unfolding patterns
  length_patterns = ap suc (length-append (singles q k) (pairs q k)) ∙ omega (arith, length_singles, length_pairs)
