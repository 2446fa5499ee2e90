-- A code by its parts.
use Rattle.std.specs.Prelude.{ℕ, List}
use Rattle.elliptic.specs.declared.Curve.{Curve}
use Rattle.codewords.specs.Code.{Code}

abbrev pub code_with : ℕ → Curve → ℕ → List ℕ → List ℕ → Code
code_with field curve k xs ys = record { field = field; curve = curve; xs = xs; ys = ys; k = k }
