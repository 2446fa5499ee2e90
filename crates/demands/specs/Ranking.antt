-- A ranking of places, numbers along it, and choices from it: request S-6's terms in its order, and known cases of them.
use Rattle.std.specs.Prelude.{ℕ, suc, ◌-◌, ◌≡◌, Bool, true, false, cond, ◌&&◌, List, [], ◌∷◌, map, eqb, leb, ltb, get_or}
use Rattle.basics.specs.Lists.{all, any, filter, sum_over}

-- the place stands in the list
abbrev pub is_in : List ℕ → ℕ → Bool
is_in l p = any (eqb p) l

-- the rank of a place: 1 for the first of the ranking, and one past the last for a place that is not ranked
abbrev pub rank : List ℕ → ℕ → ℕ
rank [] p = 1
rank (r ∷ ranked) p = cond (eqb p r) 1 (suc (rank ranked p))

-- numbers "never rising along the ranking": none is larger than one before it
abbrev pub never_rising : List ℕ → Bool
never_rising [] = true
never_rising (v ∷ numbers) = all (λ w. leb w v) numbers && never_rising numbers

-- the number that a ranked place was given
abbrev pub number_of : List ℕ → List ℕ → ℕ → ℕ
number_of ranked numbers p = get_or numbers (rank ranked p - 1) 0

-- the "total" of a choice: the numbers of its places, added up
abbrev pub total : List ℕ → List ℕ → List ℕ → ℕ
total ranked numbers J = sum_over (number_of ranked numbers) J

-- a choice "written in rank order"
abbrev pub in_rank_order : List ℕ → List ℕ → List ℕ
in_rank_order ranked J = filter (is_in J) ranked

-- the ranks of places, as these stand
abbrev pub ranks : List ℕ → List ℕ → List ℕ
ranks ranked J = map (rank ranked) J

-- "lists are compared by rank from the front": the earlier of two has the lower rank where they first differ
abbrev pub earlier : List ℕ → List ℕ → Bool
earlier [] m = false
earlier (a ∷ l) [] = false
earlier (a ∷ l) (b ∷ m) = cond (eqb a b) (earlier l m) (ltb a b)

-- ---- known cases

-- of this ranking, with these numbers
abbrev pub ranking : List ℕ
ranking = 5 ∷ 2 ∷ 7 ∷ 1 ∷ 4 ∷ []

abbrev pub given : List ℕ
given = 255 ∷ 9 ∷ 9 ∷ 4 ∷ 0 ∷ []

pub record Cases : Type 0 where
  pub first_rank : rank ranking 5 ≡ 1
  pub last_rank : rank ranking 4 ≡ 5
  pub not_ranked : rank ranking 3 ≡ 6
  -- 9 after 9 does not rise, 5 after 4 does
  pub falling : never_rising given ≡ true
  pub rising : never_rising (255 ∷ 9 ∷ 4 ∷ 5 ∷ 0 ∷ []) ≡ false
  -- 4 + 255 + 9, in whatever order, and no other place's number
  pub total_3 : total ranking given (1 ∷ 5 ∷ 7 ∷ []) ≡ 268
  pub total_order : total ranking given (7 ∷ 1 ∷ 5 ∷ []) ≡ 268
  -- a choice as it stands, and written in rank order
  pub as_it_stands : ranks ranking (4 ∷ 5 ∷ 7 ∷ []) ≡ 5 ∷ 1 ∷ 3 ∷ []
  pub in_order : in_rank_order ranking (4 ∷ 5 ∷ 7 ∷ []) ≡ 5 ∷ 7 ∷ 4 ∷ []
  pub ranks_in_order : ranks ranking (in_rank_order ranking (4 ∷ 5 ∷ 7 ∷ [])) ≡ 1 ∷ 3 ∷ 5 ∷ []
  -- from the front and not from the back
  pub from_front : earlier (1 ∷ 2 ∷ 5 ∷ []) (1 ∷ 3 ∷ 4 ∷ []) ≡ true
  pub not_earlier : earlier (1 ∷ 3 ∷ 4 ∷ []) (1 ∷ 2 ∷ 5 ∷ []) ≡ false
  pub not_itself : earlier (1 ∷ 2 ∷ 5 ∷ []) (1 ∷ 2 ∷ 5 ∷ []) ≡ false
  -- by rank and not by place: 5, 7 before 2, 1
  pub by_rank : earlier (ranks ranking (5 ∷ 7 ∷ [])) (ranks ranking (2 ∷ 1 ∷ [])) ≡ true
