-- A change changes no place, one, two, or three and more: the patterns are those of the first three kinds.
use Prim.Native.Nat.{ℕ, zero, suc, ◌+◌, ◌<◌, ◌≤◌, suc-le-suc}
use mathlib.Core.Path.{◌≡◌, refl, sym, ◌∙◌, ap, subst}
use mathlib.Core.List.{List, [], ◌∷◌, map, Memᴰ as In}
use native.Mathlib.Omega.{arith}
use native.Mathlib.Decide.{ℕ_discrete}
use lib.ListN.{length, get_or, set, replicate}
use Rattle.elliptic.proofs.Points.{All, All.nil, All.cons, all_map}
use Rattle.codewords.proofs.Picking.{all_join}
use Rattle.patterns.specs.Cheapest.{weigh}
use Rattle.patterns.specs.Patterns.{each, down, amounts, none, singles, pair, pairs, patterns}
use Rattle.patterns.proofs.Each.{all_each, all_mapped, down_in, amounts_in}
use Rattle.patterns.proofs.Weights.{Nonzero, count, weigh_moved, weigh_none, weigh_pair, count_single, count_pair}

-- an amount of change
pub record Amount (q d : ℕ) : Type 0 where
  pub nonzero : Nonzero d
  pub below : d < q

-- three changed places: whatever the trusts, the weight is theirs at least
pub record Three (k : ℕ) (c : List ℕ) : Type 0 where
  pub late : ℕ
  pub middle : ℕ
  pub first : ℕ
  pub is_late : late < k
  pub is_middle : middle < late
  pub is_first : first < middle
  pub heavy : (ts : List ℕ) → length ts ≡ k → get_or ts late 0 + (get_or ts middle 0 + get_or ts first 0) ≤ weigh ts c

pub data Kind (q k : ℕ) (c : List ℕ) : Type 0 where
  nothing : c ≡ none k → Kind q k c
  one : (i d : ℕ) → i < k → Amount q d → c ≡ set (none k) i d → Kind q k c
  two : (late early d e : ℕ) → late < k → early < late → Amount q d → Amount q e → c ≡ set (set (none k) late d) early e → Kind q k c
  more : Three k c → Kind q k c

-- one place more at the front
three_more : {k : ℕ} {c : List ℕ} (a : ℕ) → Three k c → Three (suc k) (a ∷ c)
three_more {k} {c} a w =
    record {
      late = suc w.late;
      middle = suc w.middle;
      first = suc w.first;
      is_late = suc-le-suc w.is_late;
      is_middle = suc-le-suc w.is_middle;
      is_first = suc-le-suc w.is_first;
      heavy = heavy;
    }
  where
    heavy : (ts : List ℕ) → length ts ≡ suc k → get_or ts (suc w.late) 0 + (get_or ts (suc w.middle) 0 + get_or ts (suc w.first) 0) ≤ weigh ts (a ∷ c)
    heavy [] e = absurd (omega arith)
    heavy (t ∷ ts) e = let h = w.heavy ts (omega arith) in omega (arith, h)

module _ {q k : ℕ} {c : List ℕ} where
  two_more : (a late early d e : ℕ) → Amount q a → late < k → early < late → Amount q d → Amount q e → c ≡ set (set (none k) late d) early e → Three (suc k) (a ∷ c)
  two_more a late early d e m h g n o f =
      record { late = suc late; middle = suc early; first = 0; is_late = suc-le-suc h; is_middle = suc-le-suc g; is_first = omega arith; heavy = heavy }
    where
      heavy : (ts : List ℕ) → length ts ≡ suc k → get_or ts (suc late) 0 + (get_or ts (suc early) 0 + get_or ts 0 0) ≤ weigh ts (a ∷ c)
      heavy [] l = absurd (omega arith)
      heavy (t ∷ ts) l =
          let w : weigh ts c ≡ get_or ts late 0 + get_or ts early 0 = ap (weigh ts) f ∙ weigh_pair ts k (omega arith) late early d e h g n.nonzero o.nonzero in
          omega (arith, weigh_moved t ts c m.nonzero, w)

  unmoved : Kind q k c → Kind q (suc k) (0 ∷ c)
  unmoved (nothing e) = nothing (ap (λ l. 0 ∷ l) e)
  unmoved (one i d h n e) = one (suc i) d (omega arith) n (ap (λ l. 0 ∷ l) e)
  unmoved (two late early d e h g m n f) = two (suc late) (suc early) d e (omega arith) (omega arith) m n (ap (λ l. 0 ∷ l) f)
  unmoved (more w) = more (three_more 0 w)

  moved : (a : ℕ) → Amount q a → Kind q k c → Kind q (suc k) (a ∷ c)
  moved a m (nothing e) = one 0 a (omega arith) m (ap (λ l. a ∷ l) e)
  moved a m (one i d h n e) = two (suc i) 0 d a (omega arith) (omega arith) n m (ap (λ l. a ∷ l) e)
  moved a m (two late early d e h g n o f) = more (two_more a late early d e m h g n o f)
  moved a m (more w) = more (three_more a w)

pub kind : {q : ℕ} (k : ℕ) {c : List ℕ} → All (λ s. s < q) c → length c ≡ k → Kind q k c
kind zero nil e = nothing refl
kind zero (cons h hs) e = absurd (omega arith)
kind (suc k) nil e = absurd (omega arith)
kind {q} (suc k) (cons {a} {l} h hs) e = by (ℕ_discrete a 0) (kind k hs (omega arith))
  where
    by : Dec (a ≡ 0) → Kind q k l → Kind q (suc k) (a ∷ l)
    by (yes z) r = subst (λ a. Kind q (suc k) (a ∷ l)) (sym z) (unmoved r)
    by (no n) r = moved a (record { nonzero = n; below = h }) r

-- ---- patterns change two places at most

pub amount : {q d : ℕ} → In d (amounts q) → Amount q d
amount {q} {d} i = let (a, b) = amounts_in q i in record { nonzero = λ z. omega (arith, a, z); below = b }

module _ (q k : ℕ) where
  pub singles_one : All (λ c. count k c ≡ 1) (singles q k)
  unfolding singles
  singles_one =
      all_each (λ i. map (λ d. set (none k) i d) (amounts q)) (down k)
      (λ i j. all_mapped (λ d. set (none k) i d) (amounts q) (λ d m. count_single k i d (down_in k j) (amount m).nonzero))

  pair_two : (late early : ℕ) → late < k → early < late → All (λ c. count k c ≡ 2) (pair q k late early)
  unfolding pair
  pair_two late early h g =
      all_each (λ d. map (λ e. set (set (none k) late d) early e) (amounts q)) (amounts q)
      (λ d i. all_mapped (λ e. set (set (none k) late d) early e) (amounts q) (λ e j. count_pair k late early d e h g (amount i).nonzero (amount j).nonzero))

  pub pairs_two : All (λ c. count k c ≡ 2) (pairs q k)
  unfolding pairs
  pairs_two =
      all_each (λ late. each (down late) (pair q k late)) (down k)
      (λ late i. all_each (pair q k late) (down late) (λ early j. pair_two late early (down_in k i) (down_in late j)))

  pub patterns_few : All (λ c. count k c ≤ 2) (patterns q k)
  unfolding patterns
  patterns_few =
      cons {a = none k} (omega (arith, weigh_none k (replicate k 1)))
      (all_join (all_map (λ c e. omega (arith, e)) singles_one) (all_map (λ c e. omega (arith, e)) pairs_two))
