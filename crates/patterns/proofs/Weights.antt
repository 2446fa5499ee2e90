-- The weight of a change: setting an unchanged place adds its trust. With trusts of 1 the weight counts the changed places.
use Prim.Native.Nat.{ℕ, zero, suc, ◌+◌, ◌<◌, ◌≤◌}
use mathlib.Core.Path.{◌≡◌, refl, sym, ◌∙◌, ap}
use mathlib.Core.Bool.{cond}
use mathlib.Core.List.{List, [], ◌∷◌}
use native.Mathlib.Omega.{arith}
use native.Mathlib.Decide.{ℕ_discrete}
use native.Mathlib.Nat.{le_of_suc-le-suc}
use lib.Dec.{eqb}
use lib.ListN.{length, get_or, set, replicate, get_or-replicate, length-replicate, length-set}
use lib.Seq.{get_or-set_other}
use borrow.Author.Tests.{ne_eqb}
use Rattle.patterns.specs.Patterns.{none}
use Rattle.patterns.specs.Cheapest.{differing, weigh}

pub differing_none : (k : ℕ) (ts c : List ℕ) → length ts ≡ k → differing ts (none k) c ≡ weigh ts c
unfolding differing
differing_none k [] c e = refl
differing_none zero (t ∷ ts) c e = absurd (omega arith)
differing_none (suc k) (t ∷ ts) [] e = refl
differing_none (suc k) (t ∷ ts) (d ∷ c) e = ap (λ m. cond (eqb 0 d) 0 t + m) (differing_none k ts c (omega arith))

-- how many places it changes
abbrev pub count : ℕ → List ℕ → ℕ
count k c = weigh (replicate k 1) c

abbrev pub Nonzero : ℕ → Type 0
Nonzero d = d ≡ 0 → ⊥

-- at the front
pub weigh_unmoved : {d : ℕ} (t : ℕ) (ts c : List ℕ) → d ≡ 0 → weigh (t ∷ ts) (d ∷ c) ≡ weigh ts c
weigh_unmoved {d} t ts c z = rw z (omega arith)

pub weigh_moved : {d : ℕ} (t : ℕ) (ts c : List ℕ) → Nonzero d → weigh (t ∷ ts) (d ∷ c) ≡ t + weigh ts c
weigh_moved {d} t ts c n = rw (ne_eqb 0 d (λ e. n (sym e)))

pub count_le : (k : ℕ) (c : List ℕ) → count k c ≤ length c
count_le zero c = omega arith
count_le (suc k) [] = omega arith
count_le (suc k) (d ∷ c) = by (ℕ_discrete d 0) (count_le k c)
  where
    by : Dec (d ≡ 0) → count k c ≤ length c → count (suc k) (d ∷ c) ≤ suc (length c)
    by (yes z) r = omega (arith, weigh_unmoved 1 (replicate k 1) c z)
    by (no n) r = omega (arith, weigh_moved 1 (replicate k 1) c n)

pub weigh_none : (k : ℕ) (ts : List ℕ) → weigh ts (none k) ≡ 0
weigh_none zero [] = refl
weigh_none zero (t ∷ ts) = refl
weigh_none (suc k) [] = refl
weigh_none (suc k) (t ∷ ts) = weigh_unmoved t ts (none k) refl ∙ weigh_none k ts

-- one place more
pub weigh_set : (ts c : List ℕ) (i d : ℕ) → length c ≡ length ts → i < length ts → Nonzero d → get_or c i 0 ≡ 0 → weigh ts (set c i d) ≡ get_or ts i 0 + weigh ts c
weigh_set [] c i d e h n z = absurd (omega arith)
weigh_set (t ∷ ts) [] i d e h n z = absurd (omega arith)
weigh_set (t ∷ ts) (x ∷ c) zero d e h n z = weigh_moved t ts c n ∙ ap (λ m. t + m) (sym (weigh_unmoved t ts c z))
weigh_set (t ∷ ts) (x ∷ c) (suc i) d e h n z =
    ap (λ m. cond (eqb 0 x) 0 t + m) (weigh_set ts c i d (omega arith) (le_of_suc-le-suc h) n z) ∙ omega arith

-- an unchanged place stays so
pub other_zero : (c : List ℕ) (i j d : ℕ) → (j ≡ i → ⊥) → get_or c j 0 ≡ 0 → get_or (set c i d) j 0 ≡ 0
other_zero c i j d n z = get_or-set_other c i j d 0 n ∙ z

pub none_at : (k i : ℕ) → i < k → get_or (none k) i 0 ≡ 0
none_at k i h = get_or-replicate k i 0 0 h

-- ---- changes of one, two and three places

module _ (ts : List ℕ) (k : ℕ) (size : length ts ≡ k) where
  abbrev at : ℕ → ℕ
  at i = get_or ts i 0

  pub weigh_single : (i d : ℕ) → i < k → Nonzero d → weigh ts (set (none k) i d) ≡ at i
  weigh_single i d h n = weigh_set ts (none k) i d (length-replicate k 0 ∙ sym size) (omega arith) n (none_at k i h) ∙ omega (arith, weigh_none k ts)

  module _ (late early d e : ℕ) (h : late < k) (g : early < late) (m : Nonzero d) (n : Nonzero e) where
    abbrev two : List ℕ
    two = set (set (none k) late d) early e

    two_length : length two ≡ k
    two_length = length-set (set (none k) late d) early e ∙ length-set (none k) late d ∙ length-replicate k 0

    pub weigh_pair : weigh ts two ≡ at late + at early
    weigh_pair =
        weigh_set ts (set (none k) late d) early e (length-set (none k) late d ∙ length-replicate k 0 ∙ sym size) (omega arith) n
        (other_zero (none k) late early d (λ f. omega arith) (none_at k early (omega arith)))
        ∙ omega (arith, weigh_single late d h m)

    pub weigh_triple : (first f : ℕ) → first < early → Nonzero f → weigh ts (set two first f) ≡ at late + (at early + at first)
    weigh_triple first f l o =
        weigh_set ts two first f (two_length ∙ sym size) (omega arith) o
        (other_zero (set (none k) late d) early first e (λ f. omega arith) (other_zero (none k) late first d (λ f. omega arith) (none_at k first (omega arith))))
        ∙ omega (arith, weigh_pair)

-- counted
module _ (k : ℕ) where
  abbrev ones : List ℕ
  ones = replicate k 1

  one_at : (i : ℕ) → i < k → get_or ones i 0 ≡ 1
  one_at i h = get_or-replicate k i 1 0 h

  pub count_single : (i d : ℕ) → i < k → Nonzero d → count k (set (none k) i d) ≡ 1
  count_single i d h n = weigh_single ones k (length-replicate k 1) i d h n ∙ one_at i h

  module _ (late early d e : ℕ) (h : late < k) (g : early < late) (m : Nonzero d) (n : Nonzero e) where
    pub count_pair : count k (set (set (none k) late d) early e) ≡ 2
    count_pair = weigh_pair ones k (length-replicate k 1) late early d e h g m n ∙ omega (arith, one_at late h, one_at early (omega arith))

    pub count_triple : (first f : ℕ) → first < early → Nonzero f → count k (set (set (set (none k) late d) early e) first f) ≡ 3
    count_triple first f l o =
        weigh_triple ones k (length-replicate k 1) late early d e h g m n first f l o
        ∙ omega (arith, one_at late h, one_at early (omega arith), one_at first (omega arith))
