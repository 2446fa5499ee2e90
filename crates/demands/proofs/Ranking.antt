-- The known cases of a ranking, by computation.
use mathlib.Core.Path.{refl}
use Rattle.demands.specs.Ranking.{Cases}

pub cases : Cases
cases =
    record {
      first_rank = refl;
      last_rank = refl;
      not_ranked = refl;
      falling = refl;
      rising = refl;
      total_3 = refl;
      total_order = refl;
      as_it_stands = refl;
      in_order = refl;
      ranks_in_order = refl;
      from_front = refl;
      not_earlier = refl;
      not_itself = refl;
      by_rank = refl;
    }
