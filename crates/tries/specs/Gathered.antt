-- One pass over the places for 128 multiples of a row: those from 0 on, or from 128 on. The slot of the multiple 0 is left open, since that is no try.
use Rattle.std.specs.Prelude.{ℕ, ◌+◌, ◌*◌, ◌<◌, ◌≤◌, ◌≡◌, List, length, get_or}
use Rattle.field.specs.Galois.{galois, product, size}
use Rattle.field.specs.Tables.{product_by_log}
use Rattle.elliptic.specs.Pair.{add_scaled}
use Rattle.patterns.specs.Slots.{saves, fixed, saved}

-- symbols of the field
abbrev pub Below : ℕ → List ℕ → Type 0
Below m l = (i : ℕ) → i < length l → get_or l i 0 < size m

-- the multiple of a slot, by the half
abbrev pub multiple_of : ℕ → ℕ → ℕ
multiple_of half j = half * 128 + j

-- a place adds what it saves to the slots
pub record Saved (m t r x half : ℕ) (old new : List ℕ) : Type 0 where
  pub size : length new ≡ length old
  pub more : (j : ℕ) → j < 128 → (multiple_of half j ≡ 0 → ⊥) → get_or new j 0 ≡ get_or old j 0 + saves (galois m) (multiple_of half j) t r x
  -- no slot gets more than the trust
  pub most : (j : ℕ) → j < 128 → get_or new j 0 ≤ get_or old j 0 + t

-- all places: what they cost for every multiple, and for each what is saved
pub record Gathered (m half : ℕ) (trusts row x : List ℕ) (cost : ℕ) (slots : List ℕ) : Type 0 where
  pub costs : cost ≡ fixed (galois m) trusts row x
  pub all : (j : ℕ) → j < 128 → (multiple_of half j ≡ 0 → ⊥) → get_or slots j 0 ≡ saved (galois m) (multiple_of half j) trusts row x

-- the same where the difference x is with the multiple of the row `late` whose factor has this logarithm
abbrev pub GatheredWith : (m half log : ℕ) (trusts row late difference : List ℕ) (cost : ℕ) (slots : List ℕ) → Type 0
GatheredWith m half log trusts row late difference cost slots = (d : ℕ) → ((b : ℕ) → product_by_log m log b ≡ product m d b)
    → Gathered m half trusts row (add_scaled (galois m) d late difference) cost slots

-- the slots have room for a trust more
abbrev pub Room : List ℕ → ℕ → Type 0
Room slots most = (j : ℕ) → j < 128 → get_or slots j 0 ≤ most

-- those from `from` to before `to` are no larger than what all places cost
abbrev pub Within : ℕ → List ℕ → ℕ → ℕ → Type 0
Within fixed slots from to = (j : ℕ) → from ≤ j → j < to → get_or slots j 0 ≤ fixed
