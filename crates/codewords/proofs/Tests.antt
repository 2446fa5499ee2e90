-- What a test of a list says of its elements, one by one.
use mathlib.Core.Path.{◌≡◌, refl, sym, ◌∙◌, ap, ap₂, subst}
use mathlib.Core.Bool.{Bool, true, false, cond, ◌||◌, true≢false}
use mathlib.Core.Logic.{inl, inr, ◌⊎◌}
use mathlib.Core.List.Memᴰ.{cases_cons}
use mathlib.Core.List.Memᴰ.{head as here}
use mathlib.Core.List.Memᴰ.{tail as there}
use mathlib.Core.List.{List, [], ◌∷◌, map, Memᴰ as In}
use Rattle.basics.specs.Lists.{all, any, filter}
use Rattle.basics.proofs.Lists.{both_left, both_right, both_true}
use Rattle.elliptic.proofs.Points.{All, All.nil, All.cons}

-- a test that does not pass fails, and one that does not fail passes
pub fails : (b : Bool) → (b ≡ true → ⊥) → b ≡ false
fails true n = absurd (n refl)
fails false n = refl

pub passes : (b : Bool) → (b ≡ false → ⊥) → b ≡ true
passes true n = refl
passes false n = absurd (n refl)

pub not_both : {b : Bool} → b ≡ true → b ≡ false → ⊥
not_both t f = true≢false (sym t ∙ f)

module _ {A : Type 0} where
  pub in_all : {P : A → Type 0} {a : A} {l : List A} → In a l → All P l → P a
  in_all {P} (here e) (cons h hs) = subst P (sym e) h
  in_all (there i) (cons h hs) = in_all i hs

  pub all_in_lem : {P : A → Type 0} (l : List A) → ((a : A) → In a l → P a) → All P l
  all_in_lem [] f = nil
  all_in_lem (a ∷ l) f = cons (f a (here refl)) (all_in_lem l (λ b i. f b (there i)))

  pub all_true : (p : A → Bool) (l : List A) → all p l ≡ true → All (λ a. p a ≡ true) l
  all_true p [] e = nil
  all_true p (a ∷ l) e = cons (both_left (p a) (all p l) e) (all_true p l (both_right (p a) (all p l) e))

  pub true_all : {p : A → Bool} {l : List A} → All (λ a. p a ≡ true) l → all p l ≡ true
  true_all nil = refl
  true_all {p} (cons {a} {l} h hs) = both_true (p a) (all p l) h (true_all hs)

  pub any_true : (p : A → Bool) (l : List A) → any p l ≡ true → (a : A) × In a l × (p a ≡ true)
  any_true p [] e = absurd (true≢false (sym e))
  any_true p (a ∷ l) e = by (p a) refl (any_true p l) e
    where
      by : (b : Bool) → p a ≡ b → (any p l ≡ true → (c : A) × In c l × (p c ≡ true)) → (b || any p l) ≡ true → (c : A) × In c (a ∷ l) × (p c ≡ true)
      by true h r e = (a, here refl, h)
      by false h r e = let (c, i, g) = r e in (c, there i, g)

  pub true_any : (p : A → Bool) {a : A} {l : List A} → In a l → p a ≡ true → any p l ≡ true
  true_any p (here {xs = l} e) h = ap (λ b. b || any p l) (ap p (sym e) ∙ h)
  true_any p (there {x = b} i) h = ap (λ c. p b || c) (true_any p i h) ∙ or_true (p b)
    where
      or_true : (b : Bool) → (b || true) ≡ true
      or_true true = refl
      or_true false = refl

  pub any_false : (p : A → Bool) (l : List A) → ((a : A) → In a l → p a ≡ true → ⊥) → any p l ≡ false
  any_false p l n = fails (any p l) (λ e. let (a, i, h) = any_true p l e in n a i h)

  pub filter_in : (p : A → Bool) {a : A} (l : List A) → In a (filter p l) → In a l × (p a ≡ true)
  filter_in p [] i = elim i [ ]
  filter_in p {a} (b ∷ l) i = by (p b) refl (filter_in p l) i
    where
      first : p b ≡ true → (In a (filter p l) → In a l × (p a ≡ true)) → (a ≡ b) ⊎ In a (filter p l) → In a (b ∷ l) × (p a ≡ true)
      first h r (inl e) = (here e, ap p e ∙ h)
      first h r (inr i) = let (j, g) = r i in (there j, g)

      by : (c : Bool) → p b ≡ c → (In a (filter p l) → In a l × (p a ≡ true)) → In a (cond c (b ∷ filter p l) (filter p l)) → In a (b ∷ l) × (p a ≡ true)
      by true h r i = first h r (cases_cons i)
      by false h r i = let (j, g) = r i in (there j, g)

  pub in_filter : (p : A → Bool) {a : A} {l : List A} → In a l → p a ≡ true → In a (filter p l)
  in_filter p {a} (here {x = b} {xs = l} e) h = subst (λ c. In a (cond c (b ∷ filter p l) (filter p l))) (sym (ap p (sym e) ∙ h)) (here e)
  in_filter p {a} (there {x = b} {xs = l} i) h = by (p b) (in_filter p i h)
    where
      by : (c : Bool) → In a (filter p l) → In a (cond c (b ∷ filter p l) (filter p l))
      by true i = there i
      by false i = i

  -- two tests that say the same of the list
  pub filter_same : (p r : A → Bool) (l : List A) → ((a : A) → In a l → p a ≡ r a) → filter p l ≡ filter r l
  filter_same p r [] h = refl
  filter_same p r (a ∷ l) h = ap₂ (λ b m. cond b (a ∷ m) m) (h a (here refl)) (filter_same p r l (λ b i. h b (there i)))

pub filter_map : {A B : Type 0} (p : B → Bool) (f : A → B) (l : List A) → filter p (map f l) ≡ map f (filter (λ a. p (f a)) l)
filter_map p f [] = refl
filter_map p f (a ∷ l) = by (p (f a)) (filter_map p f l)
  where
    by : (c : Bool) → filter p (map f l) ≡ map f (filter (λ a. p (f a)) l)
        → cond c (f a ∷ filter p (map f l)) (filter p (map f l)) ≡ map f (cond c (a ∷ filter (λ a. p (f a)) l) (filter (λ a. p (f a)) l))
    by true e = ap (λ m. f a ∷ m) e
    by false e = e
