-- The part of an array behind an index, swept and back in its place: what is before it is as it was.
use Prim.Native.Nat.{ℕ, suc, ◌+◌, ◌-◌, ◌<◌, ◌≤◌}
use mathlib.Core.Path.{◌≡◌, sym, ◌∙◌, ap, ap₂}
use mathlib.Core.List.{List, ◌++◌}
use native.Mathlib.Omega.{arith}
use borrow.Rule.Slice.PartMut.{mid_of, post_of, put_mid, same_len_mid, mid_len}
use lib.ListN.{length, get_or, take, get_or-append}
use lib.Seq.{length-take-le, get_or-take, get_or-drop, get_or-append-add}
use Rattle.field.specs.Sum.{◌⊕◌}
use Rattle.field.specs.Galois.{product}
use Rattle.values.specs.Values.{Swept, raised_at, gained_at}
use Rattle.locator.specs.Arrays.{head, From, lifted_at}

-- what is behind index d
abbrev pub part : ℕ → List ℕ → List ℕ
part d l = mid_of d (length l - d) l

-- the array with e there
abbrev pub put : ℕ → List ℕ → List ℕ → List ℕ
put d l e = put_mid d (length l - d) l e

pub part_length : (d : ℕ) (l : List ℕ) → length (part d l) ≡ length l - d
part_length d l = mid_len d (length l) l (omega arith)

part_at : (d : ℕ) (l : List ℕ) (k : ℕ) → d + k < length l → get_or (part d l) k 0 ≡ get_or l (d + k) 0
part_at d l k h = get_or-take (length l - d) _ k 0 (omega arith) ∙ get_or-drop d l k 0

-- the array with e there, at an index
pub put_at : (d : ℕ) (l e : List ℕ) (k : ℕ) → d ≤ length l → k < length e → get_or (put d l e) (d + k) 0 ≡ get_or e k 0
put_at d l e k h b =
    ap (λ n. get_or (put d l e) (n + k) 0) (sym (length-take-le d l h)) ∙ get_or-append-add (take d l) (e ++ post_of d (length l - d) l) k 0 ∙ get_or-append e _ 0 k b

-- the part by its rule is the whole by a rule
from_part : (d : ℕ) (l : List ℕ) {f : ℕ} {inner outer : ℕ → ℕ} {e : List ℕ} → f ≡ d → d ≤ length l → Swept inner 0 (part d l) e → ((k : ℕ) → d + k < length l → inner k ≡ outer (d + k))
    → From f outer l (put d l e)
from_part d l {f} {inner} {outer} {e} q h s rule =
    record {
      size = same_len_mid d (length l - d) l e s.size;
      before = λ j b. get_or-append (take d l) _ 0 j (omega (arith, length-take-le d l h)) ∙ get_or-take d l j 0 (omega arith);
      at = λ j a b. at j (j - d) (omega arith) b;
    }
  where
    at : (j k : ℕ) → j ≡ d + k → j < length l → get_or (put d l e) j 0 ≡ outer j
    at j k g b =
        rw g (put_at d l e k h (omega (arith, s.size, part_length d l)) ∙ s.at k (omega arith) (omega (arith, part_length d l)) ∙ rule k (omega arith))

module _ (m i : ℕ) where
  -- the array's part, and that of the coordinates
  pub raised_part : (α : ℕ) (xs p : List ℕ) {e : List ℕ} → i < length xs → length p ≡ head + length xs
      → Swept (raised_at m (part (i + 1) xs) α (part (head + (i + 1)) p)) 0 (part (head + (i + 1)) p) e → From (head + suc i) (lifted_at m xs α p) p (put (head + (i + 1)) p e)
  raised_part α xs p h g s =
      from_part (head + (i + 1)) p (omega arith) (omega arith) s
      (λ k b. let back : i + 1 + k ≡ head + (i + 1) + k - head = omega arith in
      ap₂ (λ x y. product m (x ⊕ α) y) (part_at (i + 1) xs k (omega arith) ∙ ap (λ n. get_or xs n 0) back) (part_at (head + (i + 1)) p k b))

  pub gained_part : (t : ℕ) (p a : List ℕ) {e : List ℕ} → head + (i + 1) ≤ length p → length a ≡ length p
      → Swept (gained_at m t (part (head + (i + 1)) p) (part (head + (i + 1)) a)) 0 (part (head + (i + 1)) a) e → From (head + suc i) (gained_at m t p a) a (put (head + (i + 1)) a e)
  gained_part t p a h g s =
      from_part (head + (i + 1)) a (omega arith) (omega arith) s
      (λ k b. ap₂ (λ x y. x ⊕ product m t y) (part_at (head + (i + 1)) a k b) (part_at (head + (i + 1)) p k (omega arith)))
