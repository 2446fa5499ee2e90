-- A curve by its coefficients in document 01's order, and a code by its parts.
use Rattle.std.specs.Prelude.{ℕ, List}
use Rattle.elliptic.specs.declared.Curve.{Curve}
use Rattle.codewords.specs.declared.Parameters.{Parameters}
use Rattle.codewords.specs.Code.{Code, code_of}

abbrev pub curve_of : ℕ → ℕ → ℕ → ℕ → ℕ → Curve
curve_of g1 g2 g3 g4 g6 = record { g1 = g1; g2 = g2; g3 = g3; g4 = g4; g6 = g6 }

abbrev pub parameters_of : ℕ → ℕ → ℕ → ℕ → ℕ → ℕ → ℕ → Parameters
parameters_of m g1 g2 g3 g4 g6 k = record { field = m; curve = curve_of g1 g2 g3 g4 g6; k = k }

-- the code of an export's arguments
abbrev pub code_from : ℕ → ℕ → ℕ → ℕ → ℕ → ℕ → ℕ → List ℕ → List ℕ → Code
code_from m g1 g2 g3 g4 g6 k xs ys = code_of (parameters_of m g1 g2 g3 g4 g6 k) xs ys
