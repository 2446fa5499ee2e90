-- Lists of points: what holds of every point, points that differ, points of a curve, and a point taken out of the list.
use Prim.Native.Nat.{ℕ, zero, suc, ◌<◌, ◌≤◌, suc-le-suc}
use mathlib.Core.Path.{◌≡◌, refl, sym, ap}
use mathlib.Core.Bool.{true}
use mathlib.Core.Logic.{◌⊎◌, inl, inr}
use mathlib.Core.List.{List, [], ◌∷◌}
use native.Mathlib.Nat.{le_of_suc-le-suc}
use native.Mathlib.Omega.{arith}
use native.Mathlib.Decide.{ℕ_discrete}
use lib.Dec.{ltb}
use lib.ListN.{length, get_or, take}
use borrow.Author.Tests.{ltb-true, eqb-true}
use Rattle.basics.proofs.Lists.{both}
use Rattle.field.specs.Field.{Arithmetic}
use Rattle.elliptic.specs.Curve.{Curve, Point, in_field, left, right, on_curve}

-- a point of the curve, with coordinates in the field
pub record On (F : Arithmetic) (C : Curve) (P : Point) : Type 0 where
  pub x_lt : P.x < F.q
  pub y_lt : P.y < F.q
  pub eqn : left F C P.x P.y ≡ right F C P.x

abbrev pub Differ : Point → Point → Type 0
Differ P Q = P.x ≡ Q.x → P.y ≡ Q.y → ⊥

pub data All {A : Type 0} (P : A → Type 0) : List A → Type 0 where
  nil : All P []
  cons : {a : A} {l : List A} → P a → All P l → All P (a ∷ l)

pub data Distinct : List Point → Type 0 where
  nil : Distinct []
  cons : {P : Point} {J : List Point} → All (Differ P) J → Distinct J → Distinct (P ∷ J)

module _ {A : Type 0} where
  pub all_map : {P Q : A → Type 0} {l : List A} → ((a : A) → P a → Q a) → All P l → All Q l
  all_map f nil = nil
  all_map f (cons h hs) = cons (f _ h) (all_map f hs)

  pub all_zip : {P Q R : A → Type 0} {l : List A} → ((a : A) → P a → Q a → R a) → All P l → All Q l → All R l
  all_zip f nil nil = nil
  all_zip f (cons h hs) (cons k ks) = cons (f _ h k) (all_zip f hs ks)

  pub all_head : {P : A → Type 0} {a : A} {l : List A} → All P (a ∷ l) → P a
  all_head (cons h hs) = h

  pub all_tail : {P : A → Type 0} {a : A} {l : List A} → All P (a ∷ l) → All P l
  all_tail (cons h hs) = hs

  all_take : {P : A → Type 0} (n : ℕ) {l : List A} → All P l → All P (take n l)
  all_take zero h = nil
  all_take (suc n) nil = nil
  all_take (suc n) (cons h hs) = cons h (all_take n hs)

  -- the same from what holds at each place of the list
  pub all_of : {P : A → Type 0} (d : A) (l : List A) → ((i : ℕ) → i < length l → P (get_or l i d)) → All P l
  all_of d [] h = nil
  all_of d (a ∷ l) h = cons (h 0 (omega arith)) (all_of d l (λ i k. h (suc i) (suc-le-suc k)))

  -- and of its first n elements
  pub all_first : {P : A → Type 0} (d : A) (l : List A) (n : ℕ) → n ≤ length l → ((i : ℕ) → i < n → P (get_or l i d)) → All P (take n l)
  all_first d l zero k h = nil
  all_first d [] (suc n) k h = nil
  all_first d (a ∷ l) (suc n) k h = cons (h 0 (omega arith)) (all_first d l n (le_of_suc-le-suc k) (λ i j. h (suc i) (suc-le-suc j)))

distinct_take : (n : ℕ) {J : List Point} → Distinct J → Distinct (take n J)
distinct_take zero d = nil
distinct_take (suc n) nil = nil
distinct_take (suc n) (cons h hs) = cons (all_take n h) (distinct_take n hs)

-- different points of a curve
pub record Points (F : Arithmetic) (C : Curve) (J : List Point) : Type 0 where
  pub distinct : Distinct J
  pub on : All (On F C) J

pub points_take : {F : Arithmetic} {C : Curve} {J : List Point} (n : ℕ) → Points F C J → Points F C (take n J)
points_take n p = record { distinct = distinct_take n p.distinct; on = all_take n p.on }

-- ---- what the tests say

pub on_of : (F : Arithmetic) (C : Curve) (P : Point) → in_field F P ≡ true → on_curve F C P ≡ true → On F C P
unfolding on_curve
on_of F C P h e = let (a, b) = both (ltb P.x F.q) (ltb P.y F.q) h in record { x_lt = ltb-true _ _ a; y_lt = ltb-true _ _ b; eqn = eqb-true _ _ e }

-- ---- a point taken out

-- J is J' with Q put in somewhere
pub data Pick (Q : Point) : List Point → List Point → Type 0 where
  here : {J : List Point} → Pick Q (Q ∷ J) J
  there : {R : Point} {J J' : List Point} → Pick Q J J' → Pick Q (R ∷ J) (R ∷ J')

pub pick_length : {Q : Point} {J J' : List Point} → Pick Q J J' → length J ≡ suc (length J')
pick_length here = refl
pick_length (there k) = ap suc (pick_length k)

pub pick_all : {P : Point → Type 0} {Q : Point} {J J' : List Point} → Pick Q J J' → All P J → P Q × All P J'
pick_all here (cons h hs) = (h, hs)
pick_all (there k) (cons h hs) = let r = pick_all k hs in (r.0, cons h r.1)

pub pick_distinct : {Q : Point} {J J' : List Point} → Pick Q J J' → Distinct J → All (Differ Q) J' × Distinct J'
pick_distinct here (cons h hs) = (h, hs)
pick_distinct (there k) (cons h hs) =
    let r = pick_distinct k hs in
    let s = pick_all k h in
    (cons (λ e f. s.0 (sym e) (sym f)) r.0, cons s.1 r.1)

-- no point of the list lies over α
abbrev pub Away : ℕ → List Point → Type 0
Away α J = All (λ P. P.x ≡ α → ⊥) J

-- some point of the list does, and J' is what is left without it
pub record Over (α : ℕ) (J : List Point) : Type 0 where
  pub Q : Point
  pub J' : List Point
  pub over : Q.x ≡ α
  pub pick : Pick Q J J'

pub find : (α : ℕ) (J : List Point) → Away α J ⊎ Over α J
find α [] = inl nil
find α (P ∷ J) = head (ℕ_discrete P.x α) (find α J)
  where
    head : Dec (P.x ≡ α) → Away α J ⊎ Over α J → Away α (P ∷ J) ⊎ Over α (P ∷ J)
    head (yes e) r = inr (record { Q = P; J' = J; over = e; pick = here })
    head (no n) (inl a) = inl (cons n a)
    head (no n) (inr o) = inr (record { Q = o.Q; J' = P ∷ o.J'; over = o.over; pick = there o.pick })
