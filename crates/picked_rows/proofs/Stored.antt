-- The arrays that are put into the working space one after the other are there in the end, and the indices behind the factors leave the rows as they are.
use Prim.Native.Nat.{ℕ, ◌+◌, ◌*◌, ◌-◌, ◌≤◌}
use mathlib.Core.Path.{◌≡◌, sym, ◌∙◌, ap}
use mathlib.Core.List.{List, ◌++◌}
use native.Mathlib.Nat.{zero-mul}
use native.Mathlib.Omega.{arith}
use borrow.Rule.Slice.PartMut.{put_mid, drop_put}
use lib.ListN.{length, take, drop, length-append, length-drop}
use lib.Seq.{take_at, drop-drop, length-take-le}
use Rattle.basics.proofs.Lists.{part_length}
use Rattle.codewords.specs.Code.{Code, n}
use Rattle.generator.specs.Rows.{Behind}
use Rattle.matrix.specs.Given.{frees, part}
use Rattle.matrix.proofs.Joined.{row_fits, returned, part_other}
use Rattle.matrix.proofs.Marks.{written_drop, indexed_as, row_kept}
use Rattle.picked_rows.specs.Stored.{Factored, Ready, Spared, Put, PutFour, Stored}

-- ---- what is lent of the working space, and comes back

-- a part in front comes back as z
pub back_size : (size : ℕ) (work z : List ℕ) → size ≤ length work → length z ≡ size → length (z ++ drop size work) ≡ length work
back_size size work z fits e = omega (arith, length-append z (drop size work), length-drop size work)

-- a list in front is the first array
pub first_array : (size : ℕ) (z rest : List ℕ) → length z ≡ size → part size 0 (z ++ rest) ≡ z
first_array size z rest e = ap (λ y. take size (drop y (z ++ rest))) (zero-mul size) ∙ take_at z rest size e

module _ (size : ℕ) (work : List ℕ) (fits : size + size ≤ length work) where
  pub second_lent : length (take (size + size - size) (drop size work)) ≡ size
  second_lent = let one : size + size - size ≡ size = omega arith in ap (λ y. length (take y (drop size work))) one ∙ part_length work size size fits

  -- the second array is lent, and the first is as it was
  pub first_kept : (z : List ℕ) → length z ≡ size → part size 0 (put_mid size (size + size - size) work z) ≡ part size 0 work
  first_kept z e =
      let one : size ≡ 1 * size = omega arith in
      ap (λ y. part size 0 (put_mid y (y + size - y) work z)) one ∙ part_other size 1 work (omega arith) z e 0 (λ d. omega arith)

-- two drops, by where the second ends
pub drop_to : (a b : ℕ) (l : List ℕ) → a ≤ b → drop (b - a) (drop a l) ≡ drop b l
drop_to a b l h = let whole : a + (b - a) ≡ b = omega arith in drop-drop (b - a) a l ∙ ap (λ y. drop y l) whole

-- an array of the seven comes back as z
pub returned_spared : (size i : ℕ) (work z : List ℕ) → i ≤ 6 → i * size + size ≤ length work → length z ≡ size
    → Spared size work (returned size i work z)
returned_spared size i work z few fits e =
    let end = i * size + size in
    let inside = row_fits 7 size i (omega arith) in
    sym (drop_to end (7 * size) (returned size i work z) inside)
    ∙ ap (drop (7 * size - end)) (drop_put (i * size) end work z (omega arith) fits (omega arith)) ∙ drop_to end (7 * size) work inside

-- the second of them
pub second_spared : (size : ℕ) (work z : List ℕ) → size + size ≤ length work → length z ≡ size → Spared size work (put_mid size (size + size - size) work z)
second_spared size work z fits e =
    let one : size ≡ 1 * size = omega arith in
    ap (λ y. drop (7 * size) (put_mid y (y + size - y) work z)) one ∙ returned_spared size 1 work z (omega arith) (omega arith) e

-- the front of the working space comes back as z, and then arrays of s and of s' bytes are put, which are as many as there are points
pub front_spared : (size s s' : ℕ) (work z w w' : List ℕ) → s ≡ size → s' ≡ size → size ≤ length work → length z ≡ size
    → Spared s (z ++ drop size work) w → Spared s' w w' → Spared size work w'
front_spared size s s' work z w w' e e' fits long first then =
    rw e' at then ∙ rw e at first ∙ written_drop size (7 * size) work fits (omega arith) z (long ∙ sym (length-take-le size work fits))

-- two after another
pub then_spared : (size s : ℕ) (work w w' : List ℕ) → s ≡ size → Spared size work w → Spared s w w' → Spared size work w'
then_spared size s work w w' e first then = rw e at then ∙ first

-- the marks are lent as many as there are points
pub behind_as : (k : ℕ) (J marks points a b a' b' : List ℕ) → length marks ≡ length points → Behind k (frees J marks) a b a' b' → Behind k (frees J points) a b a' b'
behind_as k J marks points a b a' b' e x = rw e at x

-- ---- the arrays behind the first one

put_as : {size size' i : ℕ} {from work work' : List ℕ} → size' ≡ size → Put size' i from work work' → Put size i from work work'
put_as e p = rw e at p

pub put_four : (l u a b w w₁ w₂ w₃ w₄ : List ℕ) → length u ≡ length l → length a ≡ length l → length b ≡ length l
    → Put (length l) 1 l w w₁ → Put (length u) 2 u w₁ w₂ → Put (length a) 3 a w₂ w₃ → Put (length b) 4 b w₃ w₄ → PutFour (length l) l u a b w w₄
put_four l u a b w w₁ w₂ w₃ w₄ eu ea eb one two three four =
    let two = put_as eu two in
    let three = put_as ea three in
    let four = put_as eb four in
    record {
      points = four.others 0 (λ d. omega arith) ∙ three.others 0 (λ d. omega arith) ∙ two.others 0 (λ d. omega arith) ∙ one.others 0 (λ d. omega arith);
      lows = four.others 1 (λ d. omega arith) ∙ three.others 1 (λ d. omega arith) ∙ two.others 1 (λ d. omega arith) ∙ one.here;
      highs = four.others 2 (λ d. omega arith) ∙ three.others 2 (λ d. omega arith) ∙ two.here;
      firsts = four.others 3 (λ d. omega arith) ∙ three.here;
      seconds = four.here;
      spared = four.spared ∙ three.spared ∙ two.spared ∙ one.spared;
    }

-- ---- all five

module _ {code : Code} {J px l u a b a' b' : List ℕ} (f : Factored code J px l u a b) (i : Behind code.k (frees J a) a b a' b')
    (ea : length a' ≡ length a) (eb : length b' ≡ length b) where
  ready : Ready code J px l u a' b'
  ready =
      record {
        factored =
            record {
              points = f.points;
              lows = f.lows;
              highs = f.highs;
              firsts = ea ∙ f.firsts;
              seconds = eb ∙ f.seconds;
              rows = λ j h. row_kept code.field code.k J px l u a b a' b' i.firsts i.seconds j h ∙ f.rows j h;
            };
        indexed = indexed_as code.k J px a a' b' (f.firsts ∙ sym f.points) i.indexed;
      }

  -- px stands in front already
  pub stored : (rest : List ℕ) {work work' : List ℕ} → 7 * n code ≤ length work' → part (length a) 0 work ≡ part (length a) 0 (px ++ rest)
      → PutFour (length l) l u a' b' work work' → Stored code J work'
  stored rest {work} {work'} room kept put =
      record { room = room; ready = by (rw f.lows at put) (rw f.firsts at kept ∙ first_array (n code) px rest f.points) }
    where
      by : PutFour (n code) l u a' b' work work' → part (n code) 0 work ≡ px
          → Ready code J (part (n code) 0 work') (part (n code) 1 work') (part (n code) 2 work') (part (n code) 3 work') (part (n code) 4 work')
      by p first = rw (p.points ∙ first, p.lows, p.highs, p.firsts, p.seconds) ready
