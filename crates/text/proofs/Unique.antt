-- What is read is what was written: no two texts are read as one sheet.
use Prim.{Unit}
use Prim.Native.Nat.{ℕ, zero, suc, ◌+◌, ◌-◌, ◌/◌, ◌%◌, ◌≤◌, ◌<◌}
use mathlib.Core.Bool.{Bool, true, false, cond, false≢true}
use mathlib.Core.Path.{◌≡◌, refl, sym, ◌∙◌, ap}
use mathlib.Core.List.{List, [], ◌∷◌, ◌++◌, append_assoc, append-nil}
use native.Mathlib.Omega.{arith}
use borrow.Author.Tests.{lt-ltb, le-ltb, ltb-true, leb-true, eqb-true, eqb-false}
use lib.Dec.{eqb, ltb, leb}
use lib.ListN.{length, drop}
use Rattle.basics.proofs.Lists.{both}
use Rattle.text.specs.Text.{comma, line_end, digits, decimal, following, joined, line_of}
use Rattle.text.specs.Valid.{Numbers}
use Rattle.text.proofs.Digits.{one_digit}
use Rattle.text.proofs.Inverse.{bound}
use Rattle.text.specs.Reading.{Read, bad, got, then, before, is_next, stripped, is_digit, pushed, more, number, numbers, line, exactly}

-- ---- a number: its digits are those of its value

-- more room for digits changes nothing where they fit
digits_more : (most n : ℕ) → n < bound (suc most) → digits (suc (suc most)) n ≡ digits (suc most) n
unfolding digits bound
digits_more zero n h = let l : n < 10 = omega arith in rw (lt-ltb n 10 l)
digits_more (suc most) n h = by (ltb n 10) refl (digits_more most (n / 10))
  where
    by : (b : Bool) → ltb n 10 ≡ b → (n / 10 < bound (suc most) → digits (suc (suc most)) (n / 10) ≡ digits (suc most) (n / 10)) → digits (suc (suc (suc most))) n ≡ digits (suc (suc most)) n
    by true q rec = rw q
    by false q rec = rw (q, rec (omega arith))

-- one digit more
push_digit : (v b : ℕ) → is_digit b ≡ true → 1 ≤ v → pushed v b < 65536 → decimal (pushed v b) ≡ decimal v ++ b ∷ []
unfolding digits bound
push_digit v b d h k =
    let t = both (leb 48 b) (leb b 57) d in
    let lo = leb-true 48 b t.0 in
    let hi = leb-true b 57 t.1 in
    let n = pushed v b in
    let big : 10 ≤ n = omega arith in
    let e₁ : n / 10 ≡ v = omega arith in
    let e₂ : 48 + n % 10 ≡ b = omega arith in
    rw (le-ltb n 10 big, e₁, e₂) (ap (λ (l : List ℕ). l ++ b ∷ []) (sym (digits_more 3 v (omega arith))))

-- s is the number w, and t behind it
pub record Number (s : List ℕ) (w : ℕ) (t : List ℕ) : Type 0 where
  pub text : s ≡ decimal w ++ t
  pub below : w < 65536

pub no : {A : Type 0} {a : A} {s : List ℕ} → bad ≡ got a s → ⊥
no e = let z : ◌≡◌ {A = ℕ} 0 1 = cc in omega arith

pub same_value : {A : Type 0} {a b : A} {s t : List ℕ} → got a s ≡ got b t → a ≡ b
same_value e = cc

pub same_rest : {A : Type 0} {a b : A} {s t : List ℕ} → got a s ≡ got b t → s ≡ t
same_rest e = cc

more_unique : (s : List ℕ) (v w : ℕ) (t : List ℕ) → v < 65536 → more v s ≡ got w t → Number (decimal v ++ s) w t
unfolding more
more_unique [] v w t h e = record { text = rw (same_value e, same_rest e); below = omega (arith, same_value e) }
more_unique (b ∷ s) v w t h e = by (is_digit b) refl (eqb v 0) refl (ltb (pushed v b) 65536) refl (more_unique s (pushed v b) w t) e
  where
    by : (d : Bool) → is_digit b ≡ d → (z : Bool) → eqb v 0 ≡ z → (l : Bool) → ltb (pushed v b) 65536 ≡ l
        → (pushed v b < 65536 → more (pushed v b) s ≡ got w t → Number (decimal (pushed v b) ++ s) w t)
        → cond d (cond z bad (cond l (more (pushed v b) s) bad)) (got v (b ∷ s)) ≡ got w t → Number (decimal v ++ b ∷ s) w t
    by false d z q l r rec e = record { text = rw (same_value e, same_rest e); below = omega (arith, same_value e) }
    by true d true q l r rec e = absurd (no e)
    by true d false q false r rec e = absurd (no e)
    by true d false q true r rec e =
        let k = ltb-true (pushed v b) 65536 r in
        let some : 1 ≤ v = omega (arith, eqb-false v 0 q) in
        let n = rec k e in
        record { text = sym (append_assoc (decimal v) (b ∷ []) s) ∙ rw (← push_digit v b d some k) n.text; below = n.below }

number_unique : (s : List ℕ) (w : ℕ) (t : List ℕ) → number s ≡ got w t → Number s w t
unfolding number
number_unique [] w t e = absurd (no e)
number_unique (b ∷ s) w t e = by (is_digit b) refl e
  where
    by : (d : Bool) → is_digit b ≡ d → cond d (more (b - 48) s) bad ≡ got w t → Number (b ∷ s) w t
    by false d e = absurd (no e)
    by true d e =
        let r = both (leb 48 b) (leb b 57) d in
        let lo = leb-true 48 b r.0 in
        let hi = leb-true b 57 r.1 in
        let small : b - 48 < 10 = omega arith in
        let back : 48 + (b - 48) ≡ b = omega arith in
        let n = more_unique s (b - 48) w t (omega arith) e in
        record { text = rw (one_digit (b - 48) small, back) at n.text; below = n.below }

-- ---- what was read part by part

pub data Parts {A B : Type 0} (r : Read A) (next : A → List ℕ → Read B) (b : B) (t : List ℕ) : Type 0 where
  parts : (a : A) (s : List ℕ) → r ≡ got a s → next a s ≡ got b t → Parts r next b t

pub both_parts : {A B : Type 0} (r : Read A) (next : A → List ℕ → Read B) (b : B) (t : List ℕ) → then r next ≡ got b t → Parts r next b t
unfolding then
both_parts bad next b t e = absurd (no e)
both_parts (got a s) next b t e = parts a s refl e

pub passed : {A : Type 0} (c : Bool) (r : Read A) {a : A} {t : List ℕ} → cond c r bad ≡ got a t → (c ≡ true) × (r ≡ got a t)
passed true r e = (refl, e)
passed false r e = absurd (no e)

next_byte : (b : ℕ) (s : List ℕ) → is_next b s ≡ true → s ≡ b ∷ drop 1 s
unfolding is_next
next_byte b [] e = absurd (false≢true e)
next_byte b (a ∷ s) e = rw (eqb-true a b e)

key_unique : (key s : List ℕ) {x : Unit {0}} {t : List ℕ} → stripped key s ≡ got x t → s ≡ key ++ t
unfolding stripped
key_unique [] s e = same_rest e
key_unique (b ∷ key) s e =
    let p = passed (is_next b s) (stripped key (drop 1 s)) e in
    next_byte b s p.0 ∙ ap (λ (l : List ℕ). b ∷ l) (key_unique key (drop 1 s) p.1)

-- ---- lists and lines

-- s is a list of at most so many numbers, and t behind it
record ListSays (most : ℕ) (s l t : List ℕ) : Type 0 where
  text : s ≡ joined l ++ t
  valid : Numbers most l

data Before (v : ℕ) (r : Read (List ℕ)) (l t : List ℕ) : Type 0 where
  rest : (m : List ℕ) → r ≡ got m t → l ≡ v ∷ m → Before v r l t

before_parts : (v : ℕ) (r : Read (List ℕ)) (l t : List ℕ) → before (v ∷ []) r ≡ got l t → Before v r l t
unfolding before
before_parts v bad l t e = absurd (no e)
before_parts v (got m s) l t e = rest m (rw (same_rest e)) (sym (same_value e))

joined_more : (v : ℕ) (m : List ℕ) → 1 ≤ length m → joined (v ∷ m) ≡ decimal v ++ comma ∷ joined m
unfolding joined following
joined_more v [] h = absurd (omega arith)
joined_more v (a ∷ m) h = refl

joined_one : (v : ℕ) → joined (v ∷ []) ≡ decimal v
unfolding joined following
joined_one v = append-nil (decimal v)

numbers_unique : (most : ℕ) (s l t : List ℕ) → numbers most s ≡ got l t → ListSays most s l t
unfolding numbers
numbers_unique zero s l t e = absurd (no e)
numbers_unique (suc most) s l t e = first (both_parts (number s) _ l t e) (λ u m q. numbers_unique most u m t q)
  where
    last : (v : ℕ) (u : List ℕ) → Number s v u → l ≡ v ∷ [] → t ≡ u → ListSays (suc most) s l t
    last v u n p q =
        rw (p, q) (record {
          text = rw (joined_one v) n.text;
          valid = record { some = omega arith; few = omega arith; are = rw (lt-ltb v 65536 n.below) };
        })

    next : (v : ℕ) (u m : List ℕ) → Number s v u → u ≡ comma ∷ drop 1 u → l ≡ v ∷ m → ListSays most (drop 1 u) m t → ListSays (suc most) s l t
    next v u m n c p r =
        rw p (record {
          text = n.text ∙ ap (λ (x : List ℕ). decimal v ++ x) (c ∙ ap (λ (x : List ℕ). comma ∷ x) r.text) ∙ sym (append_assoc (decimal v) (comma ∷ joined m) t) ∙ ap (λ (x : List ℕ). x ++ t) (sym (joined_more v m r.valid.some));
          valid = record { some = omega arith; few = let h = r.valid.few in omega arith; are = rw (lt-ltb v 65536 n.below) r.valid.are };
        })

    by : (v : ℕ) (u : List ℕ) (b : Bool) → is_next comma u ≡ b → Number s v u → ((u m : List ℕ) → numbers most u ≡ got m t → ListSays most u m t)
        → cond b (before (v ∷ []) (numbers most (drop 1 u))) (got (v ∷ []) u) ≡ got l t → ListSays (suc most) s l t
    by v u false c n rec e = last v u n (sym (same_value e)) (sym (same_rest e))
    by v u true c n rec e = elim (before_parts v (numbers most (drop 1 u)) l t e) [ rest m q p ↦ next v u m n (next_byte comma u c) p (rec (drop 1 u) m q) ]

    first : Parts (number s) (λ v u. cond (is_next comma u) (before (v ∷ []) (numbers most (drop 1 u))) (got (v ∷ []) u)) l t → ((u m : List ℕ) → numbers most u ≡ got m t → ListSays most u m t) → ListSays (suc most) s l t
    first (parts v u q e) rec = by v u (is_next comma u) refl (number_unique s v u q) rec e

-- s is a line of this key, and t behind it
pub record LineSays (key : List ℕ) (most : ℕ) (s l t : List ℕ) : Type 0 where
  pub text : s ≡ line_of key l ++ t
  pub valid : Numbers most l

pub line_unique : (key : List ℕ) (most : ℕ) (s l t : List ℕ) → line key most s ≡ got l t → LineSays key most s l t
unfolding line line_of
line_unique key most s l t e = first (both_parts (stripped key s) _ l t e)
  where
    third : (u m v : List ℕ) → s ≡ key ++ u → ListSays most u m v → (is_next line_end v ≡ true) × (got m (drop 1 v) ≡ got l t) → LineSays key most s l t
    third u m v k n (c, e) =
        rw (← same_value e, ← same_rest e) (record {
          text = k ∙ ap (λ (x : List ℕ). key ++ x) (n.text ∙ ap (λ (x : List ℕ). joined m ++ x) (next_byte line_end v c)
              ∙ sym (append_assoc (joined m) (line_end ∷ []) (drop 1 v))) ∙ sym (append_assoc key (joined m ++ line_end ∷ []) (drop 1 v));
          valid = n.valid;
        })

    second : (u : List ℕ) → s ≡ key ++ u → Parts (numbers most u) (λ m v. cond (is_next line_end v) (got m (drop 1 v)) bad) l t → LineSays key most s l t
    second u k (parts m v q e) = third u m v k (numbers_unique most u m v q) (passed (is_next line_end v) _ e)

    first : Parts (stripped key s) (λ _ u. then (numbers most u) (λ m v. cond (is_next line_end v) (got m (drop 1 v)) bad)) l t → LineSays key most s l t
    first (parts x u q e) = second u (key_unique key s q) (both_parts (numbers most u) _ l t e)

pub exactly_unique : (key : List ℕ) (count : ℕ) (s l t : List ℕ) → exactly key count s ≡ got l t → LineSays key count s l t × (length l ≡ count)
unfolding exactly
exactly_unique key count s l t e = first (both_parts (line key count s) _ l t e)
  where
    first : Parts (line key count s) (λ m u. cond (eqb (length m) count) (got m u) bad) l t → LineSays key count s l t × (length l ≡ count)
    first (parts m u q e) =
        let p = passed (eqb (length m) count) _ e in
        rw (← same_value p.1, ← same_rest p.1) (line_unique key count s m u q, eqb-true (length m) count p.0)
