-- Each place takes one index from the free ones, so that the places and the free indices together are as many as the points.
use Prim.Native.Nat.{ℕ, zero, suc, ◌+◌, ◌-◌, ◌<◌, ◌≤◌}
use mathlib.Core.Path.{◌≡◌, refl, sym, ◌∙◌, ap}
use mathlib.Core.Bool.{Bool, true, false, cond, ◌||◌}
use mathlib.Core.Logic.{◌⊎◌, inl, inr, ⊎_elim}
use mathlib.Core.List.{List, [], ◌∷◌, ◌++◌}
use native.Mathlib.Numerals.{add-one}
use native.Mathlib.Decide.{ℕ_discrete}
use native.Mathlib.Omega.{arith}
use borrow.Author.Tests.{eq-eqb, ne_eqb}
use lib.Dec.{eqb}
use lib.ListN.{length, get_or, set, take, drop, length-append, length-set, get_or-append}
use lib.Seq.{get_or-append_seam, get_or-set_same, get_or-set_other, take-suc, length-take-le, length_front}
use Rattle.basics.specs.Lists.{any, table}
use Rattle.basics.proofs.Lists.{any_append, any_get, length_table, get_or_table, is_table}
use Rattle.engine.specs.Places.{coordinate_at}
use Rattle.arrangement.specs.Arranged.{free_at, rank, Places, Apart, Gathered, Arrangeable, Arranged}

-- ---- whether an index is free

pub free_two : (J : List ℕ) (t : ℕ) → (free_at J t ≡ 0) ⊎ (free_at J t ≡ 1)
free_two J t = go (any (eqb (t + 1)) J)
  where
    go : (b : Bool) → (◌≡◌ {A = ℕ} (cond b 0 1) 0) ⊎ (◌≡◌ {A = ℕ} (cond b 0 1) 1)
    go true = inl refl
    go false = inr refl

-- an index that is not free is at a place
pub free_zero : (J : List ℕ) (t : ℕ) → free_at J t ≡ 0 → (j : ℕ) × (j < length J) × (get_or J j 0 ≡ t + 1)
free_zero [] t e = absurd (omega arith)
free_zero (p ∷ J) t e = by (ℕ_discrete (t + 1) p) (free_zero J t)
  where
    by : Dec (t + 1 ≡ p) → (free_at J t ≡ 0 → (j : ℕ) × (j < length J) × (get_or J j 0 ≡ t + 1)) → (j : ℕ) × (j < suc (length J)) × (get_or (p ∷ J) j 0 ≡ t + 1)
    by (yes q) later = (0, omega arith, sym q)
    by (no n) later = let (j, l, q) = later (rw (ne_eqb (t + 1) p n) at e) in (suc j, omega arith, q)

-- an index at a place is not free
pub free_at_lem : (J : List ℕ) (t j : ℕ) → j < length J → get_or J j 0 ≡ t + 1 → free_at J t ≡ 0
free_at_lem J t j l e = rw (any_get (eqb (t + 1)) J 0 j l (eq-eqb (t + 1) (get_or J j 0) (sym e)))

-- a free index is at no place
pub free_one : (J : List ℕ) (t j : ℕ) → free_at J t ≡ 1 → j < length J → get_or J j 0 ≡ t + 1 → ⊥
free_one J t j e l q = omega (arith, e, free_at_lem J t j l q)

-- ---- how many are free

pub rank_as : (f g : ℕ → ℕ) (n : ℕ) → ((t : ℕ) → t < n → f t ≡ g t) → rank f n ≡ rank g n
rank_as f g zero h = refl
rank_as f g (suc n) h = rw (rank_as f g n (λ t l. h t (omega arith)), h n (omega arith))

pub rank_le : (g : ℕ → ℕ) (t n : ℕ) → t ≤ n → rank g t ≤ rank g n
rank_le g t zero l = let z : t ≡ 0 = omega arith in rw z (omega arith)
rank_le g t (suc n) l = by (ℕ_discrete t (suc n)) (rank_le g t n)
  where
    by : Dec (t ≡ suc n) → (t ≤ n → rank g t ≤ rank g n) → rank g t ≤ rank g n + g n
    by (yes e) less = rw e (omega arith)
    by (no k) less = omega (arith, less (omega arith))

-- a free index is counted at every later one
pub rank_lt : (J : List ℕ) (t n : ℕ) → t < n → free_at J t ≡ 1 → rank (free_at J) t < rank (free_at J) n
rank_lt J t n l e = omega (arith, rank_le (free_at J) (suc t) n l, e)

pub rank_next : (g : ℕ → ℕ) (t n : ℕ) → t < n → rank g t + g t ≤ rank g n
rank_next g t n l = rank_le g (suc t) n l

-- one index less
rank_less : (f g : ℕ → ℕ) (c n : ℕ) → c < n → f c ≡ 0 → g c ≡ 1 → ((t : ℕ) → (t ≡ c → ⊥) → f t ≡ g t) → suc (rank f n) ≡ rank g n
rank_less f g c zero l a b h = absurd (omega arith)
rank_less f g c (suc n) l a b h = by (ℕ_discrete c n) (λ k. rank_less f g c n k a b h)
  where
    by : Dec (c ≡ n) → (c < n → suc (rank f n) ≡ rank g n) → suc (rank f n + f n) ≡ rank g n + g n
    by (yes e) less =
        let same = rank_as f g n (λ t k. h t (λ q. omega arith)) in
        omega (arith, same, ap f (sym e) ∙ a, ap g (sym e) ∙ b)
    by (no k) less = omega (arith, less (omega arith), h n (λ q. k (sym q)))

rank_ones : (n : ℕ) → rank (free_at []) n ≡ n
rank_ones zero = refl
rank_ones (suc n) = omega (arith, rank_ones n)

pub rank_all : (n : ℕ) (J : List ℕ) → Places n J → Apart J → length J + rank (free_at J) n ≡ n
rank_all n [] h k = omega (arith, rank_ones n)
rank_all n (p ∷ J) h k =
    omega (arith, rank_all n J (λ j l. h (suc j) (omega arith)) (λ i j l m. k (suc i) (suc j) (omega arith) (omega arith)), less)
  where
    c : ℕ
    c = p - 1

    at : c + 1 ≡ p
    at = omega (arith, h 0 (omega arith))

    other : (t : ℕ) → (t ≡ c → ⊥) → free_at (p ∷ J) t ≡ free_at J t
    other t n = rw (ne_eqb (t + 1) p (λ e. n (omega (arith, at, e))))

    was_free : free_at J c ≡ 1
    was_free = go (free_two J c)
      where
        go : (free_at J c ≡ 0) ⊎ (free_at J c ≡ 1) → free_at J c ≡ 1
        go (inl e) = let (j, l, q) = free_zero J c e in absurd (k 0 (suc j) (omega arith) (omega arith) (sym (q ∙ at)))
        go (inr e) = e

    less : suc (rank (free_at (p ∷ J)) n) ≡ rank (free_at J) n
    less = rank_less (free_at (p ∷ J)) (free_at J) c n (omega (arith, h 0 (omega arith))) (free_at_lem (p ∷ J) c 0 (omega arith) (sym at)) was_free other

pub rank_inside : (n : ℕ) (J : List ℕ) → Places n J → Apart J → (t : ℕ) → t < n → free_at J t ≡ 1 → length J + rank (free_at J) t < n
rank_inside n J h k t l e = omega (arith, rank_all n J h k, rank_lt J t n l e)

-- each number below that is the rank of a free index
pub rank_onto : (J : List ℕ) (n s : ℕ) → s < rank (free_at J) n → (t : ℕ) × (t < n) × (free_at J t ≡ 1) × (rank (free_at J) t ≡ s)
rank_onto J zero s h = absurd (omega arith)
rank_onto J (suc n) s h = by (ℕ_discrete (rank (free_at J) n) s) (free_two J n) (rank_onto J n s)
  where
    Found : ℕ → Type 0
    Found n = (t : ℕ) × (t < n) × (free_at J t ≡ 1) × (rank (free_at J) t ≡ s)

    by : Dec (rank (free_at J) n ≡ s) → (free_at J n ≡ 0) ⊎ (free_at J n ≡ 1) → (s < rank (free_at J) n → Found n) → Found (suc n)
    by (yes e) (inr f) before = (n, omega arith, f, e)
    by (yes e) (inl f) before = absurd (omega (arith, h, e, f))
    by (no k) f before =
        let (t, l, q, r) = before (⊎_elim (λ e. omega (arith, h, e)) (λ e. omega (arith, h, e)) f) in
        (t, omega arith, q, r)

-- ---- the loop that marks the places

-- one place more
free_more : (J : List ℕ) (p n : ℕ) → 1 ≤ p → p ≤ n → set (table (free_at J) n) (p - 1) 0 ≡ table (free_at (J ++ (p ∷ []))) n
free_more J p n one most = is_table (free_at (J ++ (p ∷ []))) marks 0 (λ i l. at i (rw long at l) (ℕ_discrete i (p - 1))) ∙ rw long
  where
    marks : List ℕ
    marks = set (table (free_at J) n) (p - 1) 0

    long : length marks ≡ n
    long = length-set (table (free_at J) n) (p - 1) 0 ∙ length_table (free_at J) n

    last : (b : Bool) → (b || (false || false)) ≡ b
    last true = refl
    last false = refl

    at : (i : ℕ) → i < n → Dec (i ≡ p - 1) → get_or marks i 0 ≡ free_at (J ++ (p ∷ [])) i
    at i l (yes e) =
        rw (e, get_or-set_same (table (free_at J) n) (p - 1) 0 0 (rw (length_table (free_at J) n) (omega arith)))
        (sym (free_at_lem (J ++ (p ∷ [])) (p - 1) (length J) (rw (length-append J (p ∷ [])) (omega arith)) (get_or-append_seam J p [] 0 ∙ omega arith)))
    at i l (no q) =
        get_or-set_other (table (free_at J) n) (p - 1) i 0 0 q ∙ get_or_table (free_at J) n i 0 l
        ∙ rw (any_append (eqb (i + 1)) J (p ∷ []), ne_eqb (i + 1) p (λ e. q (omega (arith, e))), last (any (eqb (i + 1)) J))

-- the first j places are marked
pub free_turn : (J : List ℕ) (n j : ℕ) {free : List ℕ} → Places n J → j < length J → free ≡ table (free_at (take j J)) n
    → set free (get_or J j 0 - 1) 0 ≡ table (free_at (take (j + 1) J)) n
free_turn J n j h l e = rw (e, add-one, take-suc J j 0 l) (free_more (take j J) (get_or J j 0) n (h j l).0 (h j l).1)

-- ---- the loop that puts the other coordinates behind those at the places

module _ {J free from out : List ℕ} (h : Arrangeable J free from out) where
  pub marks_long : length free ≡ length from
  marks_long = ap length h.frees ∙ length_table (free_at J) (length from)

  mark_at : (t : ℕ) → t < length from → free_at J t ≡ get_or free t 0
  mark_at t l = sym (ap (λ f. get_or f t 0) h.frees ∙ get_or_table (free_at J) (length from) t 0 l)

  pub places_fit : length J ≤ length out
  places_fit = omega (arith, rank_all (length from) J h.places h.apart, h.room)

  front_long : length (take (length J) out) ≡ length J
  front_long = length-take-le (length J) out places_fit

  -- the coordinates at the places are gathered in the front
  pub front_gathered : {front : List ℕ} → front ≡ table (coordinate_at from J) (length (take (length J) out)) → Gathered from J (front ++ drop (length J) out)
  front_gathered {front} e j l =
      let all : front ≡ table (coordinate_at from J) (length J) = e ∙ ap (table (coordinate_at from J)) front_long in
      let long : length front ≡ length J = ap length all ∙ length_table (coordinate_at from J) (length J) in
      get_or-append front (drop (length J) out) 0 j (omega (arith, long)) ∙ ap (λ f. get_or f j 0) all ∙ get_or_table (coordinate_at from J) (length J) j 0 l

  pub front_arrangeable : (front : List ℕ) → length front ≡ length (take (length J) out) → Arrangeable J free from (front ++ drop (length J) out)
  front_arrangeable front e =
      record { places = h.places; apart = h.apart; frees = h.frees; room = length_front out front (length J) e ∙ h.room; few = h.few }

-- all that come before t are put, and s is where the next one goes
pub record ArrangedTo (from J out : List ℕ) (t s : ℕ) : Type 0 where
  pub size : length out ≡ length from
  pub chosen : Gathered from J out
  pub upto : t ≤ length from
  pub next : s ≡ length J + rank (free_at J) t
  pub rest : (i : ℕ) → i < t → free_at J i ≡ 1 → get_or out (length J + rank (free_at J) i) 0 ≡ get_or from i 0

module _ {J free from old out : List ℕ} {t s : ℕ} (h : Arrangeable J free from old) (a : ArrangedTo from J out t s) where
  -- while there is room, not all points have been seen
  pub point_left : s < length out → t < length from
  point_left r = elim (ℕ_discrete t (length from)) [
    | yes e ↦ omega (arith, ap (rank (free_at J)) e, rank_all (length from) J h.places h.apart, a.next, a.size)
    | no n ↦ omega (arith, a.upto)
  ]

  -- the point with index t is put there, whether it is free or not
  pub arranged_turn : s < length out → {f : ℕ} → f ≡ get_or free t 0 → ArrangedTo from J (set out s (get_or from t 0)) (t + 1) (s + f)
  arranged_turn r {f} e =
      record {
        size = length-set out s (get_or from t 0) ∙ a.size;
        chosen = λ j k. get_or-set_other out s j (get_or from t 0) 0 (λ q. omega (arith, a.next)) ∙ a.chosen j k;
        upto = omega (arith, point_left r);
        next = rw (add-one t) (omega (arith, a.next, mark_at h t (point_left r), e));
        rest = λ i k g. rest i k g (ℕ_discrete i t);
      }
    where
      rest : (i : ℕ) → i < t + 1 → free_at J i ≡ 1 → Dec (i ≡ t) → get_or (set out s (get_or from t 0)) (length J + rank (free_at J) i) 0 ≡ get_or from i 0
      rest i k g (yes q) = rw (q, ← a.next) (get_or-set_same out s (get_or from t 0) 0 r)
      rest i k g (no q) =
          get_or-set_other out s (length J + rank (free_at J) i) (get_or from t 0) 0 (λ d. omega (arith, a.next, rank_lt J i t (omega arith) g))
          ∙ a.rest i (omega arith) g

  -- no room is left, so no free point is
  pub arranged_all : length out ≤ s → Arranged from J (length J) out
  arranged_all r = record { size = a.size; chosen = a.chosen; rest = λ i k g. a.rest i (seen i k g) g }
    where
      seen : (i : ℕ) → i < length from → free_at J i ≡ 1 → i < t
      seen i k g = elim (ℕ_discrete (t - i) 0) [
        | yes z ↦ omega (arith, rank_le (free_at J) t i (omega arith), rank_inside (length from) J h.places h.apart i k g, a.next, a.size)
        | no z ↦ omega arith
      ]
