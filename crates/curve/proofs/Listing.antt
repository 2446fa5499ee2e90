-- Listing points one after the other in two buffers, as long as there is room.
use Prim.Native.Nat.{ℕ, ◌+◌, ◌<◌, ◌≤◌}
use mathlib.Core.Bool.{Bool, true, false}
use mathlib.Core.Path.{◌≡◌, sym, ap, ◌∙◌}
use mathlib.Core.List.{List, [], ◌∷◌, ◌++◌, append_assoc, append-nil, map, map-append}
use native.Mathlib.Numerals.{add-one}
use native.Mathlib.Omega.{arith}
use lib.ListN.{length, take, set, length-append, length-take, length-map}
use lib.Seq.{take_all, take-append-le}
use Rattle.basics.specs.Lists.{filter, table, written}
use Rattle.basics.specs.Outcome.{Counted, Meets}
use Rattle.basics.proofs.Lists.{filter_append}
use Rattle.basics.proofs.Loops.{written_more, filter_table_more, filter_table_less}
use Rattle.basics.proofs.Outcomes.{count_pair}
use Rattle.elliptic.specs.declared.Point.{Point}
use Rattle.elliptic.specs.Curve.{point, columns}
use Rattle.curve.specs.Points.{room, listing}
use Rattle.curve.specs.Listing.{Listed, Rooms, Appends}

-- one buffer, for the coordinate f; k is the room
module _ (f : Point → ℕ) (k : ℕ) (points : List Point) where
  one_more : (P : Point) (old out : List ℕ) (n : ℕ) → length old ≡ k → n < k → n ≡ length (take k points) → out ≡ written (map f (take k points)) old → set out n (f P) ≡ written (map f (take k (points ++ (P ∷ [])))) old
  one_more P old out n size h count e =
      let few : length points < k = omega (arith, length-take k points) in
      let all = take_all k points (omega arith) in
      let more = take_all k (points ++ (P ∷ [])) (rw (length-append points (P ∷ [])) (omega arith)) in
      let n-is : n ≡ length (map f points) = count ∙ ap length all ∙ sym (length-map points f) in
      rw (e, more, all, n-is, map-append f points (P ∷ [])) (written_more (map f points) old (f P) (rw (length-map points f, size) few))

module _ {points : List Point} {xs₀ ys₀ xs ys : List ℕ} {n : ℕ} (l : Listed points xs₀ ys₀ xs ys n) where
  pub listed_one : (P : Point) → Rooms xs₀ ys₀ → n < room → Listed (points ++ (P ∷ [])) xs₀ ys₀ (set xs n P.x) (set ys n P.y) (n + 1)
  listed_one P r h = record {
    in_xs = one_more (λ P. P.x) room points P xs₀ xs n r.0 h l.number l.in_xs;
    in_ys = one_more (λ P. P.y) room points P ys₀ ys n r.1 h l.number l.in_ys;
    number = one_longer points room n h l.number;
  }
    where
      one_longer : (points : List Point) (k n : ℕ) → n < k → n ≡ length (take k points) → n + 1 ≡ length (take k (points ++ (P ∷ [])))
      one_longer points k n h e = rw (length-take, length-append points (P ∷ [])) (omega (arith, length-take k points))

  -- there is no more room
  pub listed_full : (more : List Point) → room ≤ n → Listed (points ++ more) xs₀ ys₀ xs ys n
  listed_full more h =
      let e : take room (points ++ more) ≡ take room points = take-append-le room points more (full points room n h l.number) in
      record { in_xs = rw e l.in_xs; in_ys = rw e l.in_ys; number = rw e l.number }
    where
      full : (points : List Point) (k n : ℕ) → k ≤ n → n ≡ length (take k points) → k ≤ length points
      full points k n h e = omega (arith, length-take k points)

  pub listed_as : {more : List Point} → points ≡ more → Listed more xs₀ ys₀ xs ys n
  listed_as e = rw e at l

-- the operation's outcome: there was room for all points
pub listed_meets : {points : List Point} {xs₀ ys₀ xs ys : List ℕ} {n : ℕ} → length points ≤ room → Listed points xs₀ ys₀ xs ys n → Meets (listing points xs₀ ys₀) (Counted n) (xs₀, ys₀) (xs, ys)
listed_meets {points} {xs₀} {ys₀} h l =
    let all = take_all room points h in
    count_pair (l.number ∙ ap length all) (l.in_xs ∙ ap (λ p. written (map (λ P. P.x) p) xs₀) all) (l.in_ys ∙ ap (λ p. written (map (λ P. P.y) p) ys₀) all)

pub appends_none : (xs ys : List ℕ) (n : ℕ) → Appends [] xs ys n xs ys n
appends_none xs ys n = record { behind = λ points xs₀ ys₀ r l. listed_as l (sym (append-nil points)) }

pub appends_both : {a b : List Point} {xs ys xs' ys' xs'' ys'' : List ℕ} {n n' n'' : ℕ} → Appends a xs ys n xs' ys' n' → Appends b xs' ys' n' xs'' ys'' n'' → Appends (a ++ b) xs ys n xs'' ys'' n''
appends_both {a} {b} f g = record { behind = λ points xs₀ ys₀ r l. listed_as (g.behind (points ++ a) xs₀ ys₀ r (f.behind points xs₀ ys₀ r l)) (append_assoc points a b) }

-- one turn over f 0, f 1, ..: b is what the test said, and the point was appended or not
module _ (p : Point → Bool) (f : ℕ → Point) (i : ℕ) {b : Bool} {xs₀ ys₀ xs ys : List ℕ} {n₀ n : ℕ} (a : Appends (filter p (table f i)) xs₀ ys₀ n₀ xs ys n) (e : b ≡ p (f i)) where
  pub turn_yes : {xs' ys' : List ℕ} {n' : ℕ} → b ≡ true → Appends (f i ∷ []) xs ys n xs' ys' n' → Appends (filter p (table f (i + 1))) xs₀ ys₀ n₀ xs' ys' n'
  turn_yes t l = rw (filter_table_more p f i (sym e ∙ t)) (appends_both a l)

  pub turn_no : b ≡ false → Appends (filter p (table f (i + 1))) xs₀ ys₀ n₀ xs ys n
  turn_no t = rw (filter_table_less p f i (sym e ∙ t)) a

-- one turn over the columns
pub column_turn : (p : Point → Bool) (q x : ℕ) {xs₀ ys₀ xs ys xs' ys' : List ℕ} {n n' : ℕ} → Rooms xs₀ ys₀ → Listed (filter p (columns q x)) xs₀ ys₀ xs ys n → Appends (filter p (table (point x) q)) xs ys n xs' ys' n' → Listed (filter p (columns q (x + 1))) xs₀ ys₀ xs' ys' n'
column_turn p q x r l a = rw (add-one x, filter_append p (columns q x) (table (point x) q)) (a.behind _ _ _ r l)
