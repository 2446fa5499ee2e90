-- allLists q k holds every list of k symbols below q, and each once.
use Prim.Native.Nat.{ℕ, zero, suc, ◌<◌}
use mathlib.Core.Path.{◌≡◌, refl, sym, ◌∙◌, ap, subst}
use mathlib.Core.Logic.{◌⊎◌, inl, inr}
use mathlib.Core.List.Memᴰ.{append_cases as in-append}
use mathlib.Core.List.Memᴰ.{append_left as in_append_left}
use mathlib.Core.List.Memᴰ.{append_right as in_append_right}
use mathlib.Core.List.Memᴰ.{eq_of_singleton as in_one}
use mathlib.Core.List.Memᴰ.{head as here}
use mathlib.Core.List.Memᴰ.{map as in_map}
use mathlib.Core.List.Memᴰ.{of_map as map-in}
use mathlib.Core.List.Memᴰ.{tail as there}
use mathlib.Core.List.{List, [], ◌∷◌, ◌++◌, map, head-eq_of_cons-eq, tail-eq_of_cons-eq, Memᴰ as In}
use native.Mathlib.Omega.{arith}
use native.Mathlib.Decide.{ℕ_discrete}
use lib.ListN.{length}
use Rattle.elliptic.proofs.Points.{All, All.nil, All.cons}
use Rattle.codewords.specs.Codewords.{below, extended, all_lists}
use Rattle.codewords.proofs.Tests.{in_all}
use Rattle.codewords.proofs.Counting.{Unique, Unique.none, Unique.add, unique_append, unique_map}

pub in_below : (q a : ℕ) → a < q → In a (below q)
in_below zero a h = absurd (omega arith)
in_below (suc q) a h = by (ℕ_discrete a q) (in_below q a)
  where
    by : Dec (a ≡ q) → (a < q → In a (below q)) → In a (below q ++ q ∷ [])
    by (yes e) r = in_append_right (below q) (here e)
    by (no n) r = in_append_left (q ∷ []) (r (omega arith))

pub below_in : (q : ℕ) {a : ℕ} → In a (below q) → a < q
below_in zero i = elim i [ ]
below_in (suc q) {a} i = by (below_in q) (in-append (below q) i)
  where
    by : (In a (below q) → a < q) → In a (below q) ⊎ In a (q ∷ []) → a < suc q
    by r (inl i) = omega (arith, r i)
    by r (inr i) = omega (arith, in_one i)

pub unique_below : (q : ℕ) → Unique (below q)
unique_below zero = none
unique_below (suc q) = unique_append (unique_below q) (add nil none) (λ a i j. omega (arith, below_in q i, in_one j))

in_extended : {a : ℕ} {l : List ℕ} {symbols : List ℕ} (ls : List (List ℕ)) → In a symbols → In l ls → In (a ∷ l) (extended symbols ls)
unfolding extended
in_extended {a} {l} ls (here {x = b} {xs = symbols} e) i =
    in_append_left (extended symbols ls) (subst (λ c. In (a ∷ l) (map (λ m. c ∷ m) ls)) e (in_map (λ m. a ∷ m) i))
in_extended ls (there {x = b} j) i = in_append_right (map (λ m. b ∷ m) ls) (in_extended ls j i)

-- a list that is a followed by m
record Extended (symbols : List ℕ) (ls : List (List ℕ)) (l : List ℕ) : Type 0 where
  a : ℕ
  m : List ℕ
  head_in : In a symbols
  tail_in : In m ls
  is : l ≡ a ∷ m

extended_in : {l : List ℕ} (symbols : List ℕ) (ls : List (List ℕ)) → In l (extended symbols ls) → Extended symbols ls l
unfolding extended
extended_in [] ls i = elim i [ ]
extended_in {l} (b ∷ symbols) ls i = by (extended_in symbols ls) (in-append (map (λ m. b ∷ m) ls) i)
  where
    by : (In l (extended symbols ls) → Extended symbols ls l) → In l (map (λ m. b ∷ m) ls) ⊎ In l (extended symbols ls) → Extended (b ∷ symbols) ls l
    by r (inl i) = let (m, j, e) = map-in (λ m. b ∷ m) ls i in record { a = b; m = m; head_in = here refl; tail_in = j; is = sym e }
    by r (inr i) = let w = r i in record { a = w.a; m = w.m; head_in = there w.head_in; tail_in = w.tail_in; is = w.is }

unique_extended : {symbols : List ℕ} {ls : List (List ℕ)} → Unique symbols → Unique ls → Unique (extended symbols ls)
unfolding extended
unique_extended none v = none
unique_extended {ls = ls} (add {a} {l} h u) v =
    unique_append (unique_map (λ m. a ∷ m) v (λ b c i j e. tail-eq_of_cons-eq e)) (unique_extended u v) (λ m i j. apart m i j)
  where
    apart : (m : List ℕ) → In m (map (λ m. a ∷ m) ls) → In m (extended l ls) → ⊥
    apart m i j =
        let (r, k, e) = map-in (λ m. a ∷ m) ls i in
        let w = extended_in l ls j in
        in_all w.head_in h (head-eq_of_cons-eq (e ∙ w.is))

-- a list of k symbols below q
pub record Listed (q k : ℕ) (l : List ℕ) : Type 0 where
  pub symbols : All (λ c. c < q) l
  pub size : length l ≡ k

all_listed : {q : ℕ} (k : ℕ) {l : List ℕ} → All (λ c. c < q) l → length l ≡ k → In l (all_lists q k)
unfolding all_lists
all_listed zero nil e = here refl
all_listed zero (cons h hs) e = absurd (omega arith)
all_listed (suc k) nil e = absurd (omega arith)
all_listed {q} (suc k) (cons {a} h hs) e = in_extended (all_lists q k) (in_below q a h) (all_listed k hs (omega arith))

pub in_lists : {q k : ℕ} {l : List ℕ} → Listed q k l → In l (all_lists q k)
in_lists {k = k} h = all_listed k h.symbols h.size

pub lists_in : (q k : ℕ) {l : List ℕ} → In l (all_lists q k) → Listed q k l
unfolding all_lists
lists_in q zero i = rw (in_one i) (record { symbols = nil; size = refl })
lists_in q (suc k) i =
    let w = extended_in (below q) (all_lists q k) i in
    let r = lists_in q k w.tail_in in
    rw w.is (record { symbols = cons (below_in q w.head_in) r.symbols; size = ap suc r.size })

pub unique_lists : (q k : ℕ) → Unique (all_lists q k)
unfolding all_lists
unique_lists q zero = add nil none
unique_lists q (suc k) = unique_extended (unique_below q) (unique_lists q k)
