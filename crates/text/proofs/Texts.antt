-- What stands at a position of a text: bytes, keys and digits, each with what a loop over it needs for a turn and at its end.
use Prim.{Unit, tt}
use Prim.Native.Nat.{ℕ, ◌+◌, ◌-◌, ◌≤◌, ◌<◌}
use mathlib.Core.Bool.{true, false, false≢true}
use mathlib.Core.Path.{◌≡◌, sym, ◌∙◌}
use mathlib.Core.List.{List}
use native.Mathlib.Decide.{dec_lt}
use native.Mathlib.Omega.{arith}
use borrow.Author.Tests.{lt-ltb, le-ltb, eq-eqb, ne_eqb}
use lib.Dec.{eqb}
use lib.ListN.{length, get_or, drop, drop_of_length-le}
use lib.Seq.{drop-drop}
use Rattle.basics.proofs.Loops.{next}
use Rattle.text.specs.Reading.{Read, bad, got, is_next, stripped, is_digit, pushed, more, number}

-- ---- one byte

module _ (b : ℕ) (s : List ℕ) (at : ℕ) where
  pub next_in : at < length s → is_next b (drop at s) ≡ eqb (get_or s at 0) b
  unfolding is_next
  next_in h = rw (next s 0 at h)

  pub next_past : length s ≤ at → is_next b (drop at s) ≡ false
  unfolding is_next
  next_past h = rw (drop_of_length-le s h)

  pub next_there : is_next b (drop at s) ≡ true → at < length s
  next_there e =
      elim (dec_lt at (length s)) [
        | yes h ↦ h
        | no h ↦ absurd (false≢true (sym (next_past (omega arith)) ∙ e))
      ]

pub behind : (s : List ℕ) (at : ℕ) → drop 1 (drop at s) ≡ drop (at + 1) s
behind s at = drop-drop 1 at s

-- ---- a key: i of its bytes stand before at, so the others decide

module _ (key s : List ℕ) (i at : ℕ) {r : Read (Unit {0})} (rest : stripped (drop i key) (drop at s) ≡ r) where
  pub key_fails : i < length key → is_next (get_or key i 0) (drop at s) ≡ false → bad ≡ r
  unfolding stripped
  key_fails h e = rw (next key 0 i h, e) at rest

  pub key_turn : i < length key → is_next (get_or key i 0) (drop at s) ≡ true → stripped (drop (i + 1) key) (drop (at + 1) s) ≡ r
  unfolding stripped
  key_turn h e = rw (next key 0 i h, e, behind s at) at rest

  pub key_ends : length key ≤ i → got tt (drop at s) ≡ r
  unfolding stripped
  key_ends h = rw (drop_of_length-le key h) at rest

-- ---- digits: v is the value of those before at

module _ (s : List ℕ) (v at : ℕ) {r : Read ℕ} (rest : more v (drop at s) ≡ r) where
  pub digits_end : length s ≤ at → got v (drop at s) ≡ r
  unfolding more
  digits_end h = rw (drop_of_length-le s h) (rw (drop_of_length-le s h) at rest)

  module _ (h : at < length s) where
    pub digits_stop : is_digit (get_or s at 0) ≡ false → got v (drop at s) ≡ r
    unfolding more
    digits_stop d = rw (next s 0 at h) (rw (next s 0 at h, d) at rest)

    module _ (d : is_digit (get_or s at 0) ≡ true) where
      pub behind_zero : v ≡ 0 → bad ≡ r
      unfolding more
      behind_zero z = rw (next s 0 at h, d, eq-eqb v 0 z) at rest

      pub too_large : (v ≡ 0 → ⊥) → 65536 ≤ pushed v (get_or s at 0) → bad ≡ r
      unfolding more
      too_large z k = rw (next s 0 at h, d, ne_eqb v 0 z, le-ltb (pushed v (get_or s at 0)) 65536 k) at rest

      pub digit_turn : (v ≡ 0 → ⊥) → pushed v (get_or s at 0) < 65536 → more (pushed v (get_or s at 0)) (drop (at + 1) s) ≡ r
      unfolding more
      digit_turn z k = rw (next s 0 at h, d, ne_eqb v 0 z, lt-ltb (pushed v (get_or s at 0)) 65536 k) at rest

module _ (s : List ℕ) (at : ℕ) where
  pub no_number : length s ≤ at → bad ≡ number (drop at s)
  unfolding number
  no_number h = rw (drop_of_length-le s h)

  pub no_digit : at < length s → is_digit (get_or s at 0) ≡ false → bad ≡ number (drop at s)
  unfolding number
  no_digit h d = rw (next s 0 at h, d)

  pub first_digit : at < length s → is_digit (get_or s at 0) ≡ true → more (get_or s at 0 - 48) (drop (at + 1) s) ≡ number (drop at s)
  unfolding number
  first_digit h d = rw (next s 0 at h, d)
