-- What the rows leave of 1 while they are added, a row by the parts that its factors give and by what is left, and both of the arrays that the working
-- space holds one behind the other.
use Rattle.basics.specs.Outcome.{Done}
use Prim.Native.Nat.{ℕ, ◌+◌, ◌*◌, ◌-◌, ◌<◌, ◌≤◌}
use mathlib.Core.Path.{◌≡◌, refl, sym, ◌∙◌, ap}
use mathlib.Core.List.{List}
use native.Mathlib.Nat.{zero-mul}
use native.Mathlib.Numerals.{add-one}
use native.Mathlib.Omega.{arith}
use borrow.Author.Tests.{eq-eqb, ne_eqb}
use lib.ListN.{length, get_or, take, drop}
use Rattle.basics.specs.Lists.{table}
use Rattle.basics.proofs.Lists.{get_or_table}
use Rattle.field.specs.Sum.{◌⊕◌}
use Rattle.field.proofs.Sum.{⊕_assoc, ⊕_zero}
use Rattle.codewords.specs.Code.{Code, n, code_answer}
use Rattle.codewords.specs.Codewords.{index, row}
use Rattle.codewords.proofs.Accepted.{accepted_done}
use Rattle.values.specs.Values.{one}
use Rattle.generator.specs.Rows.{part_at, left_at, entry_at, Slots, Filled, Completed}
use Rattle.matrix.specs.Given.{frees, part}
use Rattle.solving.specs.Given.{Works}
use Rattle.solving.proofs.Arranged.{places_in_lem}
use Rattle.picked_rows.specs.Stored.{Ready, Stored, Summed, Put, Left, LeftIn, Writes}

-- ---- the loop that adds the rows

module _ (m k : ℕ) (px l u a b : List ℕ) where
  -- what the first i rows leave of 1 at the free points
  abbrev pub LeftBy : List ℕ → ℕ → Type 0
  LeftBy sums i = (s : ℕ) → k ≤ s → s < length px → get_or sums s 0 ≡ left_at m px l u a b i s

  pub left_none : {sums : List ℕ} {size : ℕ} → sums ≡ table one size → size ≡ length px → LeftBy sums 0
  left_none {size = size} e d s low more = ap (λ y. get_or y s 0) e ∙ get_or_table one size s 0 (omega arith) ∙ sym (⊕_zero 1)

  pub left_turn : {sums sums' filled : List ℕ} {i : ℕ} → LeftBy sums i → Filled m i k px l u a b sums sums' filled → LeftBy sums' (i + 1)
  left_turn {i = i} h f s low more =
      f.added.done s low more ∙ ap (λ y. y ⊕ part_at m px l u a b i s) (h s low more) ∙ ⊕_assoc 1 _ _ ∙ ap (λ y. left_at m px l u a b y s) (sym (add-one i))

  -- ---- the entry is the part where the coordinates differ, and else what is left

  pub row_written : {i place : ℕ} {sums spare spare' filled out : List ℕ} → Left m k px l u a b sums → Filled m i k px l u a b spare spare' filled
      → Completed i k place px a b sums filled out → Writes m k i place px l u a b out
  row_written {i} left f c free x =
      c.symbols free x (entry_at m px l u a b k i) (part_at m px l u a b i) (λ s low more e. left s low more ∙ rw (eq-eqb (get_or px s 0) (get_or px i 0) e))
      (λ s low more d. rw (ne_eqb (get_or px s 0) (get_or px i 0) d)) (f.symbols free x)

-- ---- the arrays of the working space

-- the first five
pub record Held (n : ℕ) (work px l u a b : List ℕ) : Type 0 where
  pub points : px ≡ part n 0 work
  pub lows : l ≡ part n 1 work
  pub highs : u ≡ part n 2 work
  pub firsts : a ≡ part n 3 work
  pub seconds : b ≡ part n 4 work

-- an array that is lent from one index to another
pub lent_array : (n i from to : ℕ) (work : List ℕ) → from ≡ i * n → to ≡ from + n → take (to - from) (drop from work) ≡ part n i work
lent_array n i from to work e d =
    let size : to - from ≡ n = omega arith in
    ap (λ y. take y (drop from work)) size ∙ ap (λ y. take n (drop y work)) e

module _ (n : ℕ) (work : List ℕ) where
  pub held : Held n work (take n work) (take (n + n - n) (drop n work)) (take (n + n + n - (n + n)) (drop (n + n) work))
      (take (n + n + n + n - (n + n + n)) (drop (n + n + n) work)) (take (n + n + n + n + n - (n + n + n + n)) (drop (n + n + n + n) work))
  held =
      record {
        points = ap (λ y. take n (drop y work)) (sym (zero-mul n));
        lows = lent_array n 1 n (n + n) work (omega arith) refl;
        highs = lent_array n 2 (n + n) (n + n + n) work (omega arith) refl;
        firsts = lent_array n 3 (n + n + n) (n + n + n + n) work (omega arith) refl;
        seconds = lent_array n 4 (n + n + n + n) (n + n + n + n + n) work (omega arith) refl;
      }

  pub held_sums : take (n + n + n + n + n + n - (n + n + n + n + n)) (drop (n + n + n + n + n) work) ≡ part n 5 work
  held_sums = lent_array n 5 (n + n + n + n + n) (n + n + n + n + n + n) work (omega arith) refl

module _ (code : Code) {work px l u a b : List ℕ} (h : Held (n code) work px l u a b) where
  pub held_ready : {J : List ℕ} → Stored code J work → Ready code J px l u a b
  held_ready s = rw (h.points, h.lows, h.highs, h.firsts, h.seconds) s.ready

  pub held_left : {sums array : List ℕ} → sums ≡ array → LeftIn code work array → Left code.field code.k px l u a b sums
  held_left e left = rw (e, h.points, h.lows, h.highs, h.firsts, h.seconds) left

  pub left_held : (sums : List ℕ) → Left code.field code.k px l u a b sums → LeftIn code work sums
  left_held sums left = rw (h.points, h.lows, h.highs, h.firsts, h.seconds) at left

module _ {code : Code} {J px l u a b : List ℕ} (r : Ready code J px l u a b) where
  pub ready_lows : length l ≡ length px
  ready_lows = r.factored.lows ∙ sym r.factored.points

  pub ready_highs : length u ≡ length px
  ready_highs = r.factored.highs ∙ sym r.factored.points

  pub ready_slots : code_answer code ≡ Done → {sums out : List ℕ} → length sums ≡ n code → length out ≡ n code → Slots code.k px a b sums out
  ready_slots done d e =
      let size = r.factored.points in
      record {
        points = omega (arith, size, (accepted_done code done).k_most);
        first_size = r.factored.firsts ∙ sym size;
        second_size = r.factored.seconds ∙ sym size;
        sum_size = d ∙ sym size;
        row_size = e ∙ sym size;
        inside = r.indexed.inside;
        most = omega (arith, size, (accepted_done code done).n_most);
      }

  -- the row that has been written is that of the matrix
  pub ready_row : {j place : ℕ} {out : List ℕ} → j < code.k → place ≡ get_or J j 0 → Writes code.field code.k j place px l u a b out
      → out ≡ row code J (index j)
  ready_row {j} h e w = rw e at (w (frees J px) r.indexed) ∙ r.factored.rows j h

pub place_of : {code : Code} {J : List ℕ} {j place : ℕ} → Works code J → j < code.k → place ≡ get_or J j 0 → (1 ≤ place) × (place ≤ n code)
place_of {j = j} w h e = rw e (places_in_lem w.placed j (omega (arith, w.full)))

-- the sums are put behind the other arrays, which stay
pub put_sums : (code : Code) {J sums work work' : List ℕ} {size : ℕ} → size ≡ n code → length work' ≡ length work → Stored code J work
    → LeftIn code work sums → Put size 5 sums work work' → Summed code J work'
put_sums code {work = work} {work'} e kept stored left p =
    let put = rw e at p in
    let same : Held (n code) work (part (n code) 0 work') (part (n code) 1 work') (part (n code) 2 work') (part (n code) 3 work') (part (n code) 4 work') =
    record {
      points = put.others 0 (λ d. omega arith);
      lows = put.others 1 (λ d. omega arith);
      highs = put.others 2 (λ d. omega arith);
      firsts = put.others 3 (λ d. omega arith);
      seconds = put.others 4 (λ d. omega arith);
    } in
    record { stored = record { room = omega (arith, stored.room); ready = held_ready code same stored }; left = held_left code same put.here left }
