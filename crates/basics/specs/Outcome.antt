-- What an operation answers, and what it leaves in the memory that it was lent.
use Prim.{Unit}
use Rattle.std.specs.Prelude.{ℕ, Bool, true, false, ◌≡◌, ℤ, pos, neg_ℤ}
use Rattle.std.specs.Prelude.{Result, Ok, Err}
use Rattle.basics.specs.declared.Refusal.{Refusal}
use Rattle.basics.specs.declared.Refusal.TheVariants.{FieldNumber, CurveCoefficient, Singular, PointCount, OffCurve, RepeatedPoint, Dimension}
use Rattle.basics.specs.declared.Refusal.TheVariants.{Length, Place, RepeatedPlace, Symbol, Dependent, TooFew, NoCodeword, Independent}
use Rattle.basics.specs.declared.Refusal.TheVariants.{Reading, NeverPacked, StampOrder, Hour, SheetShape, TooFar, NoRun, Budget}

-- the number of documents 01 and 02 for each refusal
abbrev pub number : Refusal → ℕ
number FieldNumber = 1
number CurveCoefficient = 2
number Singular = 3
number PointCount = 4
number OffCurve = 5
number RepeatedPoint = 6
number Dimension = 7
number Length = 8
number Place = 9
number RepeatedPlace = 10
number Symbol = 11
number Dependent = 12
number TooFew = 13
number NoCodeword = 14
number Independent = 15
number Reading = 16
number NeverPacked = 17
number StampOrder = 18
number Hour = 19
number SheetShape = 20
number TooFar = 21
number NoRun = 22
number Budget = 23

-- what an operation answers: it accepts, with a count where it has one, or it refuses
pub data Answer : Type 0 where
  Done : Answer
  Counted : ℕ → Answer
  Refused : Refusal → Answer

-- the answer of a function: of one that counts nothing, and of one that counts
abbrev pub answer_by : {A : Type 0} → (A → Answer) → Result A Refusal → Answer
answer_by f (Ok a) = f a
answer_by f (Err e) = Refused e

abbrev pub answer_of : Result (Unit {0}) Refusal → Answer
answer_of = answer_by (λ _. Done)

abbrev pub count_of : Result ℕ Refusal → Answer
count_of = answer_by Counted

-- what an answer counts
abbrev pub counts : Answer → ℕ
counts Done = 0
counts (Counted n) = n
counts (Refused e) = 0

-- an answer as one signed number
abbrev pub status : Answer → ℤ
status Done = pos 0
status (Counted n) = pos n
status (Refused e) = neg_ℤ (pos (number e))

-- M is what the lent memory holds: a list, or several. An operation refuses, or it leaves other contents there, and may count
pub data Outcome (M : Type 0) : Type 0 where
  refused : Refusal → Outcome M
  accepted : M → Outcome M
  counted : ℕ → M → Outcome M

module _ {M : Type 0} where
  -- the refusal, unless the test holds: tests that stand one in the other are sought in their order
  unfoldable pub check : Bool → Refusal → Outcome M → Outcome M
  check true e o = o
  check false e o = refused e

  -- the answer that goes with an outcome
  unfoldable pub answer : Outcome M → Answer
  answer (refused e) = Refused e
  answer (accepted m) = Done
  answer (counted n m) = Counted n

  -- what the lent memory holds at the end: a refusal changes nothing
  unfoldable pub left : M → Outcome M → M
  left old (refused e) = old
  left old (accepted m) = m
  left old (counted n m) = m

  -- the answer r, and the lent memory from old to new, are as the outcome says
  pub record Meets (o : Outcome M) (r : Answer) (old new : M) : Type 0 where
    pub answers : r ≡ answer o
    pub leaves : new ≡ left old o

  -- the same of a C export, which gives its answer as one signed number
  pub record Reports (o : Outcome M) (r : ℤ) (old new : M) : Type 0 where
    pub reports : r ≡ status (answer o)
    pub leaves : new ≡ left old o
