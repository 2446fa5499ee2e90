-- What is written behind what was written, part by part.
use Prim.Native.Nat.{ℕ, zero, suc, ◌+◌, ◌-◌, ◌*◌, ◌/◌, ◌%◌, ◌≤◌, ◌<◌}
use mathlib.Core.Bool.{Bool, true, false, cond}
use mathlib.Core.Path.{◌≡◌, refl, sym, ◌∙◌}
use mathlib.Core.List.{List, [], ◌∷◌, ◌++◌, append_assoc, append-nil}
use native.Mathlib.Omega.{arith}
use lib.Dec.{ltb}
use lib.ListN.{length, get_or, take, drop, set, length-append, length-set, length-drop, drop_of_length-le}
use lib.Seq.{take_all}
use Rattle.basics.proofs.Loops.{next, appended_one, appended_as}
use Rattle.text.specs.Text.{comma, digits, decimal, following, joined, line_of}
use Rattle.text.specs.Stages.{Appends}

pub put_one : (out : List ℕ) (n b : ℕ) → n < length out → Appends (b ∷ []) out n (set out n b) (n + 1)
put_one out n b h =
    record {
      behind = λ l old a. appended_one b (omega (arith, a.size)) a;
      count = refl;
      size = length-set out n b;
    }

pub put_none : (out : List ℕ) (n : ℕ) → Appends [] out n out n
put_none out n =
    record {
      behind = λ l old a. appended_as (sym (append-nil l)) a;
      count = omega arith;
      size = refl;
    }

-- there is room for the rest of a whole, and with it the whole is written from n₀ on
pub record Leads (rest out : List ℕ) (n : ℕ) (whole out₀ : List ℕ) (n₀ : ℕ) : Type 0 where
  pub room : n + length rest ≤ length out
  pub completes : (out' : List ℕ) (n' : ℕ) → Appends rest out n out' n' → Appends whole out₀ n₀ out' n'

pub leads_start : {whole out : List ℕ} {n : ℕ} → n + length whole ≤ length out → Leads whole out n whole out n
leads_start h = record { room = h; completes = λ out' n' a. a }

module _ (a rest : List ℕ) {out : List ℕ} {n : ℕ} {whole out₀ : List ℕ} {n₀ : ℕ} (w : Leads (a ++ rest) out n whole out₀ n₀) where
  pub leads_room : n + length a ≤ length out
  leads_room = omega (arith, w.room, length-append a rest)

  pub leads_on : {out' : List ℕ} {n' : ℕ} → Appends a out n out' n' → Leads rest out' n' whole out₀ n₀
  leads_on {out'} {n'} p =
      record {
        room = omega (arith, w.room, length-append a rest, p.count, p.size);
        completes = λ out'' n'' q. w.completes out'' n'' (record {
          behind = λ l old h. appended_as (append_assoc l a rest) (q.behind (l ++ a) old (p.behind l old h));
          count = omega (arith, p.count, q.count, length-append a rest);
          size = q.size ∙ p.size;
        });
      }

  -- the last part
  pub leads_last : {out' : List ℕ} {n' : ℕ} → rest ≡ [] → Appends a out n out' n' → Appends whole out₀ n₀ out' n'
  leads_last {out'} {n'} e p = (leads_on p).completes out' n' (rw e (put_none out' n'))

pub leads_end : {out : List ℕ} {n : ℕ} {whole out₀ : List ℕ} {n₀ : ℕ} → Leads [] out n whole out₀ n₀ → Appends whole out₀ n₀ out n
leads_end {out} {n} w = w.completes out n (put_none out n)

pub leads_as : {a b out : List ℕ} {n : ℕ} {whole out₀ : List ℕ} {n₀ : ℕ} → a ≡ b → Leads a out n whole out₀ n₀ → Leads b out n whole out₀ n₀
leads_as e w = rw e at w

-- ---- loops over what is to be written

pub leads_done : {out : List ℕ} {n : ℕ} {whole out₀ : List ℕ} {n₀ : ℕ} (l : List ℕ) (i : ℕ) → length l ≤ i → Leads (drop i l) out n whole out₀ n₀ → Appends whole out₀ n₀ out n
leads_done l i h w = leads_end (leads_as (drop_of_length-le l h) w)

pub joined_first : (l : List ℕ) → 0 < length l → joined l ≡ decimal (get_or l 0 0) ++ following (drop 1 l)
unfolding joined
joined_first [] h = absurd (omega arith)
joined_first (a ∷ l) h = refl

pub following_next : (l : List ℕ) (i : ℕ) → i < length l → following (drop i l) ≡ (comma ∷ []) ++ (decimal (get_or l i 0) ++ following (drop (i + 1) l))
unfolding following
following_next l i h = rw (next l 0 i h)

pub following_done : (l : List ℕ) (i : ℕ) → length l ≤ i → following (drop i l) ≡ []
unfolding following
following_done l i h = rw (drop_of_length-le l h)

-- all but the first, as a part that is lent
pub all_behind : (l : List ℕ) → take (length l - 1) (drop 1 l) ≡ drop 1 l
all_behind l = take_all (length l - 1) (drop 1 l) (rw length-drop (omega arith))

pub joined_none : (l : List ℕ) → length l ≡ 0 → joined l ≡ []
unfolding joined
joined_none [] h = refl
joined_none (a ∷ l) h = absurd (omega arith)

-- ---- how long a text is

digits_few : (most n : ℕ) → length (digits most n) ≤ most
unfolding digits
digits_few zero n = omega arith
digits_few (suc most) n = by (ltb n 10) (digits_few most (n / 10))
  where
    by : (b : Bool) → length (digits most (n / 10)) ≤ most → length (cond b ((48 + n) ∷ []) (digits most (n / 10) ++ (48 + n % 10) ∷ [])) ≤ suc most
    by true h = omega arith
    by false h = omega (arith, length-append (digits most (n / 10)) ((48 + n % 10) ∷ []))

following_few : (l : List ℕ) → length (following l) ≤ 6 * length l
unfolding following
following_few [] = omega arith
following_few (a ∷ l) = omega (arith, length-append (decimal a) (following l), digits_few 5 a, following_few l)

pub joined_few : (l : List ℕ) → length (joined l) ≤ 6 * length l
unfolding joined
joined_few [] = omega arith
joined_few (a ∷ l) = omega (arith, length-append (decimal a) (following l), digits_few 5 a, following_few l)

pub line_few : (key l : List ℕ) → length (line_of key l) ≤ length key + 6 * length l + 1
unfolding line_of
line_few key l = simp length-append (omega (arith, joined_few l))
