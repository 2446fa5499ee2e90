-- The function that the operations solve for, at k usable places or more: it takes the symbols at the k places that are used, and no other function can take
-- them at all places.
use Prim.Native.Nat.{ℕ, zero, suc, ◌-◌, ◌<◌, ◌≤◌}
use mathlib.Core.Path.{◌≡◌, refl, sym, ◌∙◌, ap, ap₂, subst}
use mathlib.Core.Bool.{Bool, true, false, cond}
use mathlib.Core.List.Memᴰ.{eq_of_singleton as in_one}
use mathlib.Core.List.Memᴰ.{head as here}
use mathlib.Core.List.{List, [], ◌∷◌, ◌++◌, map, map-append, Memᴰ as In}
use native.Mathlib.Nat.{lt_of_not-le}
use native.Mathlib.Omega.{arith}
use lib.Dec.{eqb}
use lib.ListN.{length, get_or, take, drop, take-append-drop, get_or-append}
use lib.Seq.{get_or_at, get_or-take, length-take-le, take-suc, take_all}
use Rattle.field.specs.Field.{Arithmetic}
use Rattle.elliptic.specs.declared.Point.{Point}
use Rattle.elliptic.specs.Curve.{point}
use Rattle.elliptic.specs.Pair.{evaluate, padded, step, after}
use Rattle.elliptic.proofs.Points.{All, All.nil, All.cons}
use Rattle.elliptic.proofs.Steps.{after_same}
use Rattle.basics.proofs.Lists.{get_or_map_in}
use Rattle.codewords.specs.Code.{Code, arithmetic, q}
use Rattle.codewords.specs.Codewords.{place, point_at, agrees, functions, word, agreeing_functions, choice, dependent, usable, pick, first_ranks, next_ranks}
use Rattle.codewords.specs.Computed.{points_of, last_zero, last_index, solved}
use Rattle.codewords.proofs.Tests.{not_both, filter_in, in_filter}
use Rattle.codewords.proofs.Counting.{only, empty}
use Rattle.codewords.proofs.Listing.{Listed}
use Rattle.codewords.proofs.Accepted.{Accepted}
use Rattle.codewords.proofs.Places.{Places, all_at, length_points, choice_places, choice_length, true_choice}
use Rattle.codewords.proofs.Words.{Function, in_functions}
use Rattle.codewords.proofs.Choice.{TakesAt, k_suc, usable_true, dependent_usable, unique_agreeing, agreeing_in, in_agreeing, dependent_exactly, one_function}
use Rattle.codewords.proofs.Taking.{length_snoc}
use Rattle.codewords.proofs.Picking.{all_join, places_left}
use Rattle.codewords.proofs.Ranks.{more_claim}

-- the first c of a list and one more
abbrev with_index : {A : Type 0} → ℕ → A → ℕ → List A → List A
with_index c d i l = take c l ++ get_or l i d ∷ []

module _ {A : Type 0} where
  -- its elements
  with_before : (c i j : ℕ) (d : A) (l : List A) → c ≤ length l → j < c → get_or (with_index c d i l) j d ≡ get_or l j d
  with_before c i j d l h k = get_or-append (take c l) _ d j (rw (length-take-le c l h) k) ∙ get_or-take c l j d k

  with_last : (c i : ℕ) (d : A) (l : List A) → c ≤ length l → get_or (with_index c d i l) c d ≡ get_or l i d
  with_last c i d l h = get_or_at (take c l) _ [] d c (length-take-le c l h)

map_take : {A B : Type 0} (f : A → B) (c : ℕ) (l : List A) → map f (take c l) ≡ take c (map f l)
map_take f zero l = refl
map_take f (suc c) [] = refl
map_take f (suc c) (x ∷ l) = ap (λ m. f x ∷ m) (map_take f c l)

map_with : {A B : Type 0} (f : A → B) (c i : ℕ) (d : A) (e : B) (l : List A) → i < length l → map f (with_index c d i l) ≡ with_index c e i (map f l)
map_with f c i d e l h = map-append f (take c l) _ ∙ ap₂ (λ m x. m ++ x ∷ []) (map_take f c l) (sym (get_or_map_in f l i d e h))

all_take : {A : Type 0} {P : A → Type 0} (c : ℕ) {l : List A} → All P l → All P (take c l)
all_take zero h = nil
all_take (suc c) nil = nil
all_take (suc c) (cons h hs) = cons h (all_take c hs)

all_with : {A : Type 0} {P : A → Type 0} (c i : ℕ) (d : A) {l : List A} → i < length l → All P l → All P (with_index c d i l)
all_with c i d h a = all_join (all_take c a) (cons (all_at d a i h) nil)

length_with : {A : Type 0} (c i : ℕ) (d : A) (l : List A) → c ≤ length l → length (with_index c d i l) ≡ suc c
length_with c i d l h = length_snoc (take c l) (get_or l i d) ∙ ap suc (length-take-le c l h)

module _ (code : Code) (a : Accepted code) where
  abbrev c : ℕ
  c = code.k - 1

  abbrev F : Arithmetic
  F = arithmetic code

  -- ---- the last step, by its index

  after_with : (pts : List Point) (us : List ℕ) → c ≤ length pts → c ≤ length us → (i : ℕ)
      → after F (with_index c (point 0 0) i pts) (with_index c 0 i us) code.k ≡ step F (get_or pts i (point 0 0)) (get_or us i 0) (after F pts us c)
  unfolding after
  after_with pts us hp hu i =
      let P : List Point = with_index c (point 0 0) i pts in
      let U : List ℕ = with_index c 0 i us in
      ap (λ k. after F P U k) (k_suc code a)
      ∙ ap₂ (λ Q v. step F Q v (after F P U c)) (with_last c i (point 0 0) pts hp) (with_last c i 0 us hu)
      ∙ ap (λ s. step F (get_or pts i (point 0 0)) (get_or us i 0) s)
      (after_same F P pts U us c (λ j h. with_before c i j (point 0 0) pts hp h) (λ j h. with_before c i j 0 us hu h))

  -- ---- k places or more, and their symbols

  module _ {J : List ℕ} (P : Places code J) (n : code.k ≤ length J) where
    abbrev pts : List Point
    pts = points_of code J

    P_first : Places code (take code.k J)
    P_first = places_left code (take code.k J) (drop code.k J) (subst (λ l. Places code l) (sym (take-append-drop code.k J)) P)

    first_point : (j : ℕ) → j < code.k → get_or (points_of code (take code.k J)) j (point 0 0) ≡ get_or pts j (point 0 0)
    first_point j h =
        ap (λ l. get_or l j (point 0 0)) (map_take (λ p. point_at code (place p)) code.k J) ∙ get_or-take code.k pts j (point 0 0) h

    module _ (us : List ℕ) (small : All (λ u. u < q code) us) where
      -- ranks 1 to k are dependent exactly if L is zero at the last of them
      pub first_dependent : dependent code (take code.k J) ≡ last_zero F code.k pts us
      unfolding last_zero
      first_dependent =
          dependent_exactly code a P_first (length-take-le code.k J n) us small
          ∙ ap₂ (λ s Q. eqb (evaluate F s.low Q) 0)
          (after_same F (points_of code (take code.k J)) pts us us c (λ j h. first_point j (omega arith)) (λ j h. refl))
          (first_point c (omega (arith, k_suc code a)))

      -- THEOREM: Pick of more than k places
      pub pick_index : code.k < length J → pick code J ≡ with_index c 0 (last_index F code.k pts us) J
      unfolding next_ranks first_ranks last_index
      pick_index more = (more_claim code a J P n more).0 ∙ by (last_zero F code.k pts us) refl
        where
          h : c < length J
          h = omega (arith, k_suc code a)

          by : (b : Bool) → last_zero F code.k pts us ≡ b → cond (usable code (take code.k J)) (take code.k J) (with_index c 0 code.k J) ≡ with_index c 0 (cond b code.k c) J
          by false z = rw (dependent_usable code (take code.k J) (first_dependent ∙ z)) (ap (λ k. take k J) (k_suc code a) ∙ take-suc J c 0 h)
          by true z = rw (dependent_usable code (take code.k J) (first_dependent ∙ z))

      -- the places that are used
      record Used (i : ℕ) : Type 0 where
        inside : i < length J
        is_choice : choice code (with_index c 0 i J) ≡ true
        free : dependent code (with_index c 0 i J) ≡ false

      module _ (w : length J ≡ code.k → dependent code J ≡ false) where
        used : (b : Bool) → last_zero F code.k pts us ≡ b → Used (cond b code.k c)
        unfolding next_ranks first_ranks
        used false z =
            let h : c < length J = omega (arith, k_suc code a) in
            let same : with_index c 0 c J ≡ take code.k J = sym (take-suc J c 0 h) ∙ ap (λ k. take k J) (sym (k_suc code a)) in
            record {
              inside = h;
              is_choice = ap (choice code) same ∙ true_choice code P_first (length-take-le code.k J n);
              free = ap (dependent code) same ∙ first_dependent ∙ z;
            }
        used true z =
            let d = first_dependent ∙ z in
            let more : code.k < length J = lt_of_not-le (λ h. not_both (ap (dependent code) (sym (take_all code.k J h)) ∙ d) (w (omega arith))) in
            let (e, i, u) = more_claim code a J P n more in
            let same : pick code J ≡ with_index c 0 code.k J = e ∙ ap (λ b. cond b (take code.k J) (with_index c 0 code.k J)) (dependent_usable code (take code.k J) d) in
            record {
              inside = more;
              is_choice = ap (choice code) (sym same) ∙ i;
              free = usable_true code _ (ap (usable code) (sym same) ∙ u);
            }

        abbrev i : ℕ
        i = last_index F code.k pts us

        abbrev J' : List ℕ
        J' = with_index c 0 i J

        abbrev us' : List ℕ
        us' = with_index c 0 i us

        used_last : Used i
        unfolding last_index
        used_last = used (last_zero F code.k pts us) refl

        abbrev pub f₀ : List ℕ
        f₀ = solved F code.k pts us

        module _ (e : length us ≡ length J) where
          P' : Places code J'
          P' = choice_places code J' used_last.is_choice

          points' : points_of code J' ≡ with_index c (point 0 0) i pts
          points' = map_with (λ p. point_at code (place p)) c i 0 (point 0 0) J used_last.inside

          message' : Listed (q code) code.k us'
          message' =
              record {
                symbols = all_with c i 0 (rw e used_last.inside) small;
                size = length_with c i 0 us (omega (arith, k_suc code a)) ∙ sym (k_suc code a);
              }

          -- the function that takes the symbols at the places that are used
          one_used : agreeing_functions code J' us' ≡ f₀ ∷ []
          unfolding solved
          one_used =
              one_function code a P' (choice_length code J' used_last.is_choice) used_last.free us' message'
              ∙ ap (λ ps. padded code.k (after F ps us' code.k).word ∷ []) points'
              ∙ ap (λ s. padded code.k s.word ∷ []) (after_with pts us (omega (arith, k_suc code a, length_points code J)) (omega (arith, k_suc code a)) i)

          -- what takes the symbols at all places is that function
          takes_used : {g : List ℕ} → TakesAt code J us g → TakesAt code J' us' g
          takes_used {g} t =
              record {
                coefficients = t.coefficients;
                takes =
                    ap (map (evaluate F g)) points' ∙ map_with (evaluate F g) c i (point 0 0) 0 pts (rw (length_points code J) used_last.inside)
                    ∙ ap (with_index c 0 i) t.takes;
              }

          is_used : {g : List ℕ} → In g (agreeing_functions code J us) → g ≡ f₀
          is_used {g} j = in_one (subst (λ l. In g l) one_used (in_agreeing code a P' us' (takes_used (agreeing_in code a P us j))))

          pub solved_function : Function code a f₀
          solved_function = (agreeing_in code a P' us' (subst (λ l. In f₀ l) (sym one_used) (here refl))).coefficients

          -- THEOREM: so no function takes them, or that one does
          pub solved_agreeing : agreeing_functions code J us ≡ cond (agrees (word code f₀) J us) (f₀ ∷ []) []
          unfolding agreeing_functions
          solved_agreeing = by (agrees (word code f₀) J us) refl
            where
              test : List ℕ → Bool
              test f = agrees (word code f) J us

              by : (b : Bool) → test f₀ ≡ b → agreeing_functions code J us ≡ cond b (f₀ ∷ []) []
              by true t = only f₀ (unique_agreeing code a J us) (in_filter test (in_functions code a solved_function) t) (λ g j. is_used j)
              by false t = empty (agreeing_functions code J us) (λ g j. not_both (filter_in test (functions code) j).1 (ap test (is_used j) ∙ t))
