-- What the engine's arrays hold. Of each only the first coefficients are in use.
use Rattle.std.specs.Prelude.{ℕ, ◌+◌, ◌<◌, ◌≤◌, ◌≡◌, cond, List, [], ltb, length, take}
use Rattle.basics.specs.Lists.{Holds}
use Rattle.elliptic.specs.Pair.{State}
pub use Rattle.engine.specs.declared.pair.Sizes.{Sizes}
pub use Rattle.engine.specs.declared.pair.Lengths.{Lengths}

-- L and U are in a and b, or the other way round where they have turned
pub record Pair (a b : List ℕ) (n : Sizes) (s : State) : Type 0 where
  pub low : Holds (cond n.turned b a) n.low s.low
  pub high : Holds (cond n.turned a b) n.high s.high

-- and the interpolant is in f
pub record Filled (a b f : List ℕ) (n : Lengths) (s : State) : Type 0 where
  pub pair : Pair a b n.pair s
  pub word : Holds f n.word s.word

-- what the arrays hold, as a state: without the interpolant, and with it
abbrev pub pair_in : List ℕ → List ℕ → Sizes → State
pair_in a b n = record { low = take n.low (cond n.turned b a); high = take n.high (cond n.turned a b); word = [] }

abbrev pub state_in : List ℕ → List ℕ → List ℕ → Lengths → State
state_in a b f n =
    record {
      low = take n.pair.low (cond n.pair.turned b a);
      high = take n.pair.high (cond n.pair.turned a b);
      word = take n.word f;
    }

-- every array has room for the functions of 287 places
abbrev pub Long : List ℕ → List ℕ → Type 0
Long a b = (292 ≤ length a) × (292 ≤ length b)

-- and for what one more place makes of these
pub record Room (a b : List ℕ) (n : Sizes) : Type 0 where
  pub some_low : 0 < n.low
  pub some_high : 0 < n.high
  pub low_room : n.low + 2 ≤ 292
  pub high_room : n.high + 2 ≤ 292
  pub long_first : 292 ≤ length a
  pub long_second : 292 ≤ length b

pub record WordRoom (f : List ℕ) (n : Lengths) : Type 0 where
  pub word_room : n.word ≤ 292
  pub long_word : 292 ≤ length f

-- a state that has room
pub record Small (s : State) : Type 0 where
  pub some_low : 0 < length s.low
  pub some_high : 0 < length s.high
  pub low_room : length s.low + 2 ≤ 292
  pub high_room : length s.high + 2 ≤ 292
  pub word_room : length s.word ≤ 292

-- the shorter of two functions is L
pub record Ordered (first second : ℕ) (n : Sizes) : Type 0 where
  pub turned : n.turned ≡ ltb second first
  pub low : n.low ≡ cond (ltb second first) second first
  pub high : n.high ≡ cond (ltb second first) first second
