-- Two places changed: the loops over amounts and over places go on with what is left of the tries.
use Prim.Native.Nat.{ℕ, suc, ◌+◌, ◌*◌, ◌-◌, ◌<◌, ◌≤◌, min}
use mathlib.Core.Path.{◌≡◌, sym, ◌∙◌, ap, subst}
use mathlib.Core.List.{List, ◌∷◌}
use native.Mathlib.Omega.{arith}
use native.Mathlib.Nat.{mul-le-mul}
use lib.ListN.{length, set, drop, drop_of_length-le}
use Rattle.basics.proofs.Lists.{get_or_table}
use Rattle.basics.proofs.Loops.{next}
use Rattle.field.specs.Galois.{galois, size}
use Rattle.elliptic.specs.Pair.{add_scaled}
use Rattle.codewords.specs.Code.{Code, q}
use Rattle.codewords.specs.Codewords.{index, row}
use Rattle.patterns.specs.Patterns.{each, down, amounts, none, pair, pairs}
use Rattle.patterns.proofs.Each.{length_amounts, length_each, length_down}
use Rattle.patterns.proofs.Patterns.{length_pair}
use Rattle.patterns.proofs.Weights.{other_zero, none_at}
use Rattle.tries.specs.Multiples.{best_multiple}
use Rattle.search.specs.declared.block.Found.{Found}
use Rattle.search.specs.Found.{improved}
use Rattle.search.specs.Search.{values, IsTry, Moved, RunsPair}
use Rattle.search.proofs.Running.{Going, going_start, going_turn, going_end}
use Rattle.search.proofs.Loops.{length_values}
use Rattle.search.proofs.Blocks.{runs_block}

-- ---- the loop over the amounts at the later place

-- what two rows are the rows of: two places of a code and a received word
pub record PairOf (m : ℕ) (trusts difference lateRow earlyRow : List ℕ) (late early : ℕ) (f : Found) (code : Code) (received J : List ℕ) : Type 0 where
  pub field : code.field ≡ m
  pub moved : Moved code received trusts J (none code.k) difference
  pub later : lateRow ≡ row code J (index late)
  pub earlier : earlyRow ≡ row code J (index early)
  pub late_lt : late < code.k
  pub early_lt : early < late
  pub is_try : IsTry code received trusts f

-- the amounts from d on are still to go, whatever the code
abbrev pub PairGoing : (m : ℕ) (trusts difference lateRow earlyRow : List ℕ) (late early : ℕ) (f₀ : Found) (m₀ : ℕ) (f : Found) (rest d : ℕ)
    → Type 0
PairGoing m trusts difference lateRow earlyRow late early f₀ m₀ f rest d =
    (code : Code) (received J : List ℕ) → PairOf m trusts difference lateRow earlyRow late early f₀ code received J
    → Going code received trusts (λ d. values (q code) (set (none code.k) late d) early) f₀ m₀ (pair (q code) code.k late early) f rest
    (drop (d - 1) (amounts (q code)))

amounts_next : (q d : ℕ) → 1 ≤ d → d < q → drop (d - 1) (amounts q) ≡ d ∷ drop (d + 1 - 1) (amounts q)
unfolding amounts
amounts_next q d least most =
    let same : d - 1 + 1 ≡ d + 1 - 1 = omega arith in
    let is : suc (d - 1) ≡ d = omega arith in
    next (amounts q) 0 (d - 1) (omega (arith, length_amounts q))
    ∙ ap (λ x. x ∷ drop (d - 1 + 1) (amounts q)) (get_or_table suc (q - 1) (d - 1) 0 (omega arith) ∙ is) ∙ ap (λ i. d ∷ drop i (amounts q)) same

module _ {m : ℕ} {trusts difference lateRow earlyRow : List ℕ} {late early : ℕ} {f₀ : Found} {m₀ : ℕ} where
  pub amounts_start : PairGoing m trusts difference lateRow earlyRow late early f₀ m₀ f₀ m₀ 1
  unfolding pair
  amounts_start code received J w = going_start (amounts (q code)) w.is_try

  pub amounts_turn : {f g : Found} {rest less : ℕ} (d : ℕ) → 1 ≤ d → d < size m → less ≡ rest - (size m - 1)
      → g ≡ improved f (best_multiple (galois m) trusts earlyRow (add_scaled (galois m) d lateRow difference) f.cost (min rest (size m - 1))) late d early
      → PairGoing m trusts difference lateRow earlyRow late early f₀ m₀ f rest d
      → PairGoing m trusts difference lateRow earlyRow late early f₀ m₀ g less (d + 1)
  amounts_turn {f} {g} {rest} {less} d least most el e go code received J p =
      let inside : d < q code = subst (λ m. d < size m) (sym p.field) most in
      let here = go code received J p in
      rw el
      (going_turn (length_values (q code) (set (none code.k) late d) early ∙ ap (λ m. size m - 1) p.field)
      (runs_block p.moved.given p.moved.is late early d p.later p.earlier p.late_lt (omega (arith, p.late_lt, p.early_lt)) inside
      (other_zero (none code.k) late early d (λ z. omega (arith, z, p.early_lt)) (none_at code.k early (omega (arith, p.late_lt, p.early_lt))))
      rest here.is_try (rw p.field e))
      (rw (amounts_next (q code) d least inside) at here))

  pub amounts_end : {f : Found} {rest : ℕ} (d : ℕ) → size m ≤ d
      → PairGoing m trusts difference lateRow earlyRow late early f₀ m₀ f rest d → RunsPair m trusts difference lateRow earlyRow late early f₀ m₀ f
  amounts_end {f} {rest} d most go code received J ef moved later earlier h g t =
      let here = go code received J (record { field = ef; moved = moved; later = later; earlier = earlier; late_lt = h; early_lt = g; is_try = t }) in
      let past : q code ≤ d = subst (λ m. size m ≤ d) (sym ef) most in
      let none_left : length (amounts (q code)) ≤ d - 1 = omega (arith, length_amounts (q code), past) in
      going_end
      (subst (λ l. Going code received trusts (λ d. values (q code) (set (none code.k) late d) early) f₀ m₀ (pair (q code) code.k late early) f rest l)
      (drop_of_length-le (amounts (q code)) none_left) here)

-- the pairs of a later place with all before it
abbrev pub earlier : ℕ → ℕ → ℕ → List (List ℕ)
earlier q k late = each (down late) (pair q k late)

pub pairs_start : {code : Code} {received trusts : List ℕ} {f : Found} {m : ℕ} (q k : ℕ) → IsTry code received trusts f
    → Going code received trusts (earlier q k) f m (pairs q k) f m (down k)
unfolding pairs
pairs_start q k t = going_start (down k) t

-- how many tries a turn takes, with the field's size s as it was computed
length_earlier : (q k late : ℕ) → length (earlier q k late) ≡ late * ((q - 1) * (q - 1))
length_earlier q k late = length_each (pair q k late) ((q - 1) * (q - 1)) (length_pair q k late) (down late) ∙ ap (λ n. n * ((q - 1) * (q - 1))) (length_down late)

module _ {less s : ℕ} (rest q k late : ℕ) (is : s ≡ q) where
  pub less_pair : (early : ℕ) → less ≡ rest - (s - 1) * (s - 1) → less ≡ rest - length (pair q k late early)
  less_pair early e = e ∙ ap (λ s. rest - (s - 1) * (s - 1)) is ∙ ap (λ m. rest - m) (sym (length_pair q k late early))

  pub less_earlier : less ≡ rest - late * ((s - 1) * (s - 1)) → less ≡ rest - length (earlier q k late)
  less_earlier e = e ∙ ap (λ s. rest - late * ((s - 1) * (s - 1))) is ∙ ap (λ m. rest - m) (sym (length_earlier q k late))

-- these numbers are small
pub square_few : (s : ℕ) → s ≤ 256 → (s - 1) * (s - 1) ≤ 65025
square_few s h = let few : s - 1 ≤ 255 = omega arith in mul-le-mul few few

pub product_few : (i s : ℕ) → i ≤ 288 → s ≤ 256 → i * ((s - 1) * (s - 1)) ≤ 18727200
product_few i s g h = mul-le-mul g (square_few s h)
