-- Demand 2: "A codeword is the list of values at the listed points of a function of weighted degree at most k. Coefficients go to that codeword, it
-- goes back to those coefficients, and a word that is no codeword is refused."
use Rattle.std.specs.Prelude.{ℕ, ◌+◌, ◌*◌, ◌-◌, ◌≤◌, ◌≡◌, true, false, ◌⊎◌, ◌↔◌, List, map, length, get_or}
use Rattle.basics.specs.declared.Refusal.TheVariants.{NoCodeword}
use Rattle.basics.specs.Outcome.{Answer, Done, Refused, Meets}
use Rattle.field.specs.Field.{pow}
use Rattle.elliptic.specs.declared.Point.{Point}
use Rattle.elliptic.specs.Curve.{in_field}
use Rattle.elliptic.specs.Functions.{weight, degree, monomial, value}
use Rattle.codewords.specs.Code.{Code, arithmetic, n, points}
use Rattle.codewords.specs.Codewords.{symbols, message, codeword}
use Rattle.blocks.specs.Outcomes.{plain_outcome}
use Rattle.coder.specs.Outcomes.{recover_outcome}
use Rattle.demands.specs.Call.{Call, Of, Fits}

module _ (code : Code) where
  -- the values of a function at the listed points
  abbrev pub values_of : List ℕ → List ℕ
  values_of f = map (value (arithmetic code) f) (points code)

  -- w is the list of values of a function of weighted degree at most k: f is its coefficients, however many
  abbrev pub AreValues : List ℕ → Type 0
  AreValues w = (f : List ℕ) × (symbols code f ≡ true) × (degree f ≤ code.k) × (w ≡ values_of f)

  -- the monomials at a point: X^a weighs 2a, X^a·Y weighs 2a + 3, these are all, and none weighs 1
  pub record Monomials (P : Point) : Type 0 where
    pub of_x : (a : ℕ) → (weight (2 * a - 1) ≡ 2 * a) × (monomial (arithmetic code) (2 * a - 1) P ≡ pow (arithmetic code).◌·◌ P.x a)
    pub of_y : (a : ℕ) → (weight (2 * a + 2) ≡ 2 * a + 3)
        × (monomial (arithmetic code) (2 * a + 2) P ≡ (arithmetic code).◌·◌ (pow (arithmetic code).◌·◌ P.x a) P.y)
    pub all : (i : ℕ) → ((a : ℕ) × (i ≡ 2 * a - 1)) ⊎ ((a : ℕ) × (i ≡ 2 * a + 2))
    pub none_1 : (i : ℕ) → weight i ≡ 1 → ⊥

  -- a call of Plain
  pub record Coded (f : List ℕ) (r : Answer) (new : List ℕ) : Type 0 where
    pub done : r ≡ Done
    pub values : new ≡ values_of f
    pub is_codeword : codeword code new ≡ true

  -- a call of Recover: 14 exactly if the word is no codeword, and otherwise the one list of k coefficients with these values
  pub record Decoded (w : List ℕ) (c : Call) : Type 0 where
    pub none_14 : (c.answer ≡ Refused NoCodeword) ↔ (codeword code w ≡ false)
    pub else_done : (c.answer ≡ Done) ↔ (codeword code w ≡ true)
    pub is_function : c.answer ≡ Done → message code c.out_after ≡ true
    pub values : c.answer ≡ Done → values_of c.out_after ≡ w
    pub only : (f : List ℕ) → message code f ≡ true → values_of f ≡ w → f ≡ c.out_after

  pub record Demand2 : Type 0 where
    -- "a codeword is the list of values at the listed points of a function of weighted degree at most k"
    pub codeword_exactly : (w : List ℕ) → (codeword code w ≡ true) ↔ AreValues w
    -- "the k coefficients of a function stand in order of weight: 0, 2, 3, 4, up to k": k are enough, have that degree, and leave none past them
    pub is_values : (w : List ℕ) → (codeword code w ≡ true) ↔ ((f : List ℕ) × (message code f ≡ true) × (values_of f ≡ w))
    pub degree_most : (f : List ℕ) → message code f ≡ true → degree f ≤ code.k
    pub degree_all : (f : List ℕ) → degree f ≤ code.k → (i : ℕ) → code.k ≤ i → get_or f i 0 ≡ 0
    pub monomials : (P : Point) → in_field (arithmetic code) P ≡ true → Monomials P
    -- "coefficients go to that codeword"
    pub plain : (f : List ℕ) (r : Answer) (old new : List ℕ) → Meets (plain_outcome code f (length old)) r old new → message code f ≡ true → length old ≡ n code
        → Coded f r new
    -- "a word that is no codeword is refused"
    pub recover : (w : List ℕ) (c : Call) → Of (recover_outcome code w) c → symbols code w ≡ true → length w ≡ n code → Fits code.k c → Decoded w c
    -- "it goes back to those coefficients": Recover of what Plain gave
    pub back : (f : List ℕ) (r : Answer) (old new : List ℕ) (c : Call) → Meets (plain_outcome code f (length old)) r old new → message code f ≡ true
        → length old ≡ n code → Of (recover_outcome code new) c → Fits code.k c → (c.answer ≡ Done) × (c.out_after ≡ f)
